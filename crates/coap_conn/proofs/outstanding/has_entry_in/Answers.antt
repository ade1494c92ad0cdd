use Rattle.std.proofs.Common.{◌∙◌, rules, tests}
use Rattle.std.proofs.lemmas.Iterator.{YieldsList-from_slice}
use Rattle.std.proofs.lemmas.Iterator.Search.{any_from_yields_List}
use Rattle.coap_conn.specs.Prelude.{is_entry_of, outstanding_value}
use Rattle.coap_conn.proofs.OutstandingLemmas.{any_of}
use Rattle.coap_conn.proofs.outstanding.has_entry_in.Goals as goal

pub returns : goal.returns
returns c =
    any_from_yields_List (λ e. is_entry_of c.args.token.now (outstanding_value e)) _ _ _ c.any.ensures.ran
    (YieldsList-from_slice c.args.entries.now cc) (λ x b q k. search (rules, tests))
    ∙ any_of (is_entry_of c.args.token.now) c.args.entries.now
