-- A step appends to the queued messages, and each message fits the size limit at that time.
use Rattle.std.proofs.Common.{◌≡◌, List, [], ◌++◌, refl, sym, arith}
use Rattle.coap_client_engine.specs.Prelude.{Message, AllFit, History, limit_now, ClientStep, Handles, Faults, Requests}
use Rattle.coap_client_engine.specs.Prelude.{Cancels, Pings, Releases, Announces, Writes, step}
use Rattle.std.proofs.lemmas.Bool.Decides.{nat_tests}
use Rattle.std.proofs.lemmas.List.{append-nil}
use Rattle.coap_conn.proofs.AskingLaws.{none_where}
use Rattle.coap_conn.proofs.HistoryLaws.{reaction_fits, stopped_fits, requested_fits, cancelled_fits, released_fits}
use Rattle.coap_conn.proofs.AnnounceLaws.{announcement_fits}
use Rattle.coap_client_engine.proofs.ClientSteps.{Acts, stepped, step_so}

-- More messages are queued, and they fit.
abbrev GrowsFit : History → History → Type 0
GrowsFit h k = (more : List Message) × (k.queued ≡ h.queued ++ more) × AllFit (limit_now h) more

effect_fits : (h : History) (s : ClientStep) → Acts h s → GrowsFit h (stepped h s)
effect_fits h (Handles m) acts = (_, refl, reaction_fits h m)
effect_fits h (Faults fault) acts = (_, refl, stopped_fits h _)
effect_fits h (Requests m observe) acts = (_, refl, requested_fits h _ (none_where _ acts))
effect_fits h (Cancels token m) acts = (_, refl, cancelled_fits h token _ (none_where _ acts))
effect_fits h (Pings custody) acts = (_, refl, requested_fits h _ (none_where _ acts))
effect_fits h Releases acts = (_, refl, released_fits h (grind (arith, nat_tests)))
effect_fits h (Announces size) acts = (_, refl, announcement_fits h size acts.1)
effect_fits h (Writes n) acts = ([], sym (append-nil _), tt)
effect_fits h s acts = ([], refl, tt)

-- Each step only appends to the queued messages, and the added messages fit.
pub step_grows : (h : History) (s : ClientStep)
    → (more : List Message) × ((step h s).queued ≡ h.queued ++ more) × AllFit (limit_now h) more
step_grows h s = step_so h s (GrowsFit h) ([], sym (append-nil _), tt) (effect_fits h s)
