-- Nothing follows a stop.
use Rattle.std.proofs.Common.{◌≡◌, true, false, cond, Some, refl, arith}
use Rattle.coap_conn.specs.Prelude.{Message, Reason, Phase, stop_of, answers, is_open, ConnectionState, react, Call}
use Rattle.coap_conn.specs.Prelude.{needs_live, History, asking_now, after}
use Rattle.coap_conn.specs.declared.phase.Phase.TheVariants as phase
use Rattle.coap_conn.specs.Verdicts as verdict
use Rattle.coap_conn.specs.Calls as call
use Rattle.coap_conn.proofs.AskingLaws.{not_requested, not_cancelled}

pub stopped_over : (s : ConnectionState) (m : Message) (why : Reason) → stop_of s.phase ≡ Some why
    → (react s m).verdict ≡ verdict.Stopped why
unfolding react
stopped_over s m why over = rw over refl

not_open : (p : Phase) (why : Reason) → stop_of p ≡ Some why → is_open p ≡ false
not_open p why over = grind arith

pub stays_stopped : (h after : History) (why : Reason) → h.phase ≡ phase.Stopped why
    → cond (answers h.phase) after h ≡ h
stays_stopped h after why stopped = rw stopped refl

-- The same for every call that needs a connection that accepts messages.
pub call_over : (h : History) (c : Call) (why : Reason) → needs_live c ≡ true
    → stop_of h.phase ≡ Some why → after h c ≡ h
call_over h (call.Reply m) why needs over = absurd cc
call_over h c why needs over =
    grind (
      arith,
      not_open h.phase why over,
      not_requested (asking_now h),
      not_cancelled (asking_now h),
    )
