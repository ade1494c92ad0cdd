use Rattle.std.proofs.Common.{ℕ, map, Option, sym, ap, ◌∙◌, rules, tests}
use Rattle.std.proofs.lemmas.Iterator.{YieldsList-from_slice}
use Rattle.std.proofs.lemmas.Iterator.Search.{position_from_yields_List}
use Rattle.coap_conn.specs.Prelude.{is_answer_at, answer_index, pending_value}
use Rattle.coap_conn.proofs.PendingLemmas.{place_of}
use Rattle.coap_conn.proofs.pending.answer_in.Goals as goal

pub returns : goal.returns
returns c =
    position_from_yields_List (λ e. is_answer_at c.in_ok-least.least (pending_value e)) _ _ c.position.result
    c.position.ensures.ran (YieldsList-from_slice c.args.pending.now cc) (λ x b q k. search (rules, tests))
    ∙ place_of (is_answer_at c.in_ok-least.least) c.args.pending.now
    ∙ ap (λ (moment : Option ℕ). answer_index moment (map pending_value c.args.pending.now))
    (sym (c.in_ok-least.was) ∙ c.earliest_due.ensures)
