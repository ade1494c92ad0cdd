use Rattle.std.proofs.Common.{map, not, ap, ◌∙◌, rules, tests}
use Rattle.std.proofs.lemmas.Fn.{filter_same}
use Rattle.coap_conn.specs.Prelude.{is_entry_of, outstanding_value}
use Rattle.coap_conn.proofs.OutstandingLemmas.{values_filtered}
use Rattle.coap_conn.proofs.outstanding.remove_entry_in.Goals as goal

pub returns-clause-others : goal.returns-clause-others
returns-clause-others c =
    ap (map outstanding_value)
    (filter_same _ (λ e. not (is_entry_of c.args.token.now (outstanding_value e))) _ (λ x b q k. search (rules, tests))
    _ _ c.retain.ensures.filtered)
    ∙ values_filtered (λ e. not (is_entry_of c.args.token.now e)) c.args.entries.now.items
