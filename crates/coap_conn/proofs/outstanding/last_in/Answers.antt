use Rattle.std.proofs.Common.{refl, rules, tests}
use Rattle.coap_conn.specs.Prelude.{matches_response, outstanding_value}
use Rattle.std.proofs.lemmas.Iterator.{YieldsList-from_slice}
use Rattle.std.proofs.lemmas.Iterator.Search.{find_from_yields_List}
use Rattle.coap_conn.proofs.OutstandingLemmas.{found_of}
use Rattle.coap_conn.proofs.outstanding.last_in.Goals as goal

pub returns-in_err-entry : goal.returns-in_err-entry
returns-in_err-entry c =
    let found = find_from_yields_List (λ e. matches_response c.args.response.now.token (outstanding_value e)) _ _
    c.find.result c.find.ensures.ran
    (YieldsList-from_slice c.args.entries.now cc) (λ x b q k. search (rules, tests)) in
    rw (c.from_residual.ensures, ← found_of, ← found, c.in_err-entry.was) refl

pub returns : goal.returns
returns c =
    let found = find_from_yields_List (λ e. matches_response c.args.response.now.token (outstanding_value e)) _ _
    c.find.result c.find.ensures.ran
    (YieldsList-from_slice c.args.entries.now cc) (λ x b q k. search (rules, tests)) in
    rw (c.is_last.ensures, ← found_of, ← found, c.in_ok-entry.was) refl
