-- The events of a line, one after the other.
use Rattle.std.proofs.Common.{◌≡◌, ℕ, Bool, Result, Ok, OnOk, List, [], ◌∷◌, ◌++◌, Option, refl, append_assoc}
use Rattle.std.proofs.Common.{append-nil}
use Rattle.coap_script.specs.script.Script.{script_of}
use Rattle.coap_server_engine.specs.Prelude.{ScriptEventValue, event_ran}
use Rattle.program_explain.specs.Explanations.{Messages, messages_of, explained, AreExplained, ExplainsEvent}
use Rattle.program_explain.specs.Explanations.{ExplainsEvents}
use Rattle.program_explain.specs.Printed.{OutputLine, Prints}
use Rattle.program_explain.specs.Records.{PrintsEvents, lines_at_start, whole_line}
use Rattle.program_explain.specs.declared.explainer.Explainer.{Explainer}
use Rattle.program_explain.proofs.PrintedLemmas.{printed_then, printed_nothing, so_on}

module _ {O : Type 0} (written : O → Option (List ℕ)) where
  -- The events before those that are left were explained.
  abbrev pub ExplainsSome : Explainer O → List ℕ → List ScriptEventValue → Explainer O → List ScriptEventValue → Type 0
  ExplainsSome before script events now left =
      (done : List OutputLine) × Prints written before.printer now.printer done
      × ((others : List OutputLine) (last : Messages)
      → AreExplained now.server (messages_of now) script left others last
      → AreExplained before.server (messages_of before) script events (done ++ others) last)

  pub explains_none : (before : Explainer O) (script : List ℕ) (events : List ScriptEventValue)
      → ExplainsSome before script events before events
  explains_none before script events = ([], printed_nothing written before.printer, λ others last h. h)

  -- The next event was explained.
  pub explains_next : (before now next : Explainer O) (script : List ℕ) (events : List ScriptEventValue)
      (event : ScriptEventValue) (left : List ScriptEventValue)
      → ExplainsSome before script events now (event ∷ left) → next.server ≡ (event_ran now.server event).server
      → ExplainsEvent written now next script event
      → ExplainsSome before script events next left
  unfolding AreExplained
  explains_next before now next script events event left so ran e =
      let lines = (explained e.0 now.server (messages_of now) script event).lines in (
        so.0 ++ lines,
        printed_then written so.1 e.1.prints,
        λ others last h.
            rw (append_assoc so.0) (so.2 (lines ++ others) last (e.0, others, refl, rw (ran, e.1.messages) at h)),
      )

  -- All events were explained.
  pub explains_all : (before now : Explainer O) (script : List ℕ) (events : List ScriptEventValue)
      → ExplainsSome before script events now []
      → ExplainsEvents written before now script events []
  unfolding AreExplained
  explains_all before now script events so =
      (so.0, rw (append-nil so.0) at (so.2 [] (messages_of now) (refl, refl)), so.1)

  -- The events of a line of a record were explained, after lines that were printed before the events.
  pub explains_line : {T E : Type 0} (r : Result T E) (before mid after : Explainer O) (begun : Bool) (script : List ℕ)
      (events : List ScriptEventValue)
      → script_of (whole_line script) ≡ Ok events
      → Prints written before.printer mid.printer (lines_at_start begun before.server)
      → mid.server ≡ before.server → mid.connections ≡ before.connections
      → OnOk r (ExplainsEvents written mid after script events [])
      → OnOk r (PrintsEvents written begun script before after)
  explains_line r before mid after begun script events is prints server same =
      so_on r (λ e. (events, is, (e.0, rw (server, same) at e.1, printed_then written prints e.2)))
