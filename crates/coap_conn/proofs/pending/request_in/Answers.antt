use Rattle.std.proofs.Common.{◌<◌, length, sym, subst, ◌∙◌, rules, tests}
use Rattle.std.proofs.lemmas.Iterator.{YieldsList-from_slice}
use Rattle.std.proofs.lemmas.Iterator.Search.{position_from_yields_List}
use Rattle.coap_conn.specs.Prelude.{IfSome, is_request_for, pending_value}
use Rattle.coap_conn.proofs.PendingLemmas.{place_of, position_within}
use Rattle.coap_conn.proofs.pending.request_in.Goals as goal

pub returns-clause-first : goal.returns-clause-first
returns-clause-first c =
    position_from_yields_List (λ e. is_request_for c.args.token.now (pending_value e)) _ _ c.position.result
    c.position.ensures.ran (YieldsList-from_slice c.args.pending.now cc) (λ x b q k. search (rules, tests))
    ∙ place_of (is_request_for c.args.token.now) c.args.pending.now

pub returns-clause-within : goal.returns-clause-within
returns-clause-within c =
    subst (λ i. IfSome i (λ i. i < length c.args.pending.now)) (sym (returns-clause-first c))
    (position_within (is_request_for c.args.token.now) c.args.pending.now)
