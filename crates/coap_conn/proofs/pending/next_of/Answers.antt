use Rattle.std.proofs.Common.{sym, ap, ◌∙◌, min, rules, tests}
use Rattle.coap_conn.specs.Prelude.{reduce, future_moment, pending_value}
use Rattle.std.proofs.lemmas.Iterator.{YieldsList-from_slice}
use Rattle.std.proofs.lemmas.Iterator.Adapters.{option_map_id}
use Rattle.std.proofs.lemmas.Iterator.Consumers.{YieldsList-from_filter_map, min_from_yields_List}
use Rattle.coap_conn.proofs.PendingLemmas.{moments_of}
use Rattle.coap_conn.proofs.pending.next_of.Goals as goal

pub returns : goal.returns
returns c =
    sym (option_map_id c.min.result)
    ∙ min_from_yields_List _ c.min.result c.min.ensures.ran
    (YieldsList-from_filter_map _ (λ e. future_moment c.args.now (pending_value e))
    (YieldsList-from_slice c.args.pending.now cc) c.filter_map.ensures.closure (λ x r q k. search (rules, tests)))
    ∙ ap (reduce min) (moments_of (future_moment c.args.now) c.args.pending.now)
