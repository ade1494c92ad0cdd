-- Defined by this project: the true details of a call that a monitor receives, by the server that it receives with it.
use Rattle.std.specs.Prelude.{◌≡◌, ◌++◌, ℕ, true, false, List, length, take, Some}
use Rattle.coap_model.specs.declared.answers.Handled.{Handled}
use Rattle.coap_model.specs.declared.answers.Handled.TheVariants as handled
use Rattle.coap_model.specs.declared.answers.TakeFault.TheVariants as fault
use Rattle.coap_server_engine.specs.declared.monitor.Call.{Call}
use Rattle.coap_server_engine.specs.declared.monitor.Call.TheVariants as call
use Rattle.coap_server_engine.specs.declared.monitor.DropReason.{DropReason}
use Rattle.coap_server_engine.specs.declared.monitor.DropReason.TheVariants as drop
use Rattle.coap_server_engine.specs.declared.server.ConnectionWork.{ConnectionWork}
use Rattle.coap_server_engine.specs.values.Flushes.{waiting_at}
use Rattle.coap_server_engine.specs.values.ServerAnswers.{IsNotTaken, handled_by}
use Rattle.coap_server_engine.specs.values.ServerDeadlines.{work_of}
use Rattle.coap_server_engine.specs.values.Servers.{ServerValue, count_taken, server_announced, server_ended}
use Rattle.coap_server_engine.specs.values.Servers.{server_given, server_put, server_released, server_removed}
use Rattle.coap_server_engine.specs.values.Servers.{server_taken, server_ticked}

-- A take accepted these bytes with this result, and `after` is the server then. If allocation failed in the take, it
-- processed no message.
pub data IsTakeResult (id : ℕ) (bytes : List ℕ) (result : Handled) (after : ServerValue) : Type 0 where
  WasTaken : (before : ServerValue) (piece : List ℕ) → after ≡ server_taken before id piece
      → bytes ≡ take (count_taken before id piece) piece → result ≡ handled_by before id piece
      → IsTakeResult id bytes result after
  WasRefused : (before : ServerValue) (piece : List ℕ) (count : ℕ)
      → IsNotTaken before id piece (fault.Memory count) after → bytes ≡ take count piece → result ≡ handled.Nothing
      → IsTakeResult id bytes result after

-- A connection with this work left may be removed for this reason. It has finished if nothing more will be written on
-- it. If more would be, it may have failed.
abbrev pub IsReasonFor : DropReason → ConnectionWork → Type 0
IsReasonFor drop.Finished work = work.finished ≡ true
IsReasonFor drop.Failed work = work.finished ≡ false
IsReasonFor drop.Silent work = Unit {0}
IsReasonFor drop.Requested work = Unit {0}

-- The details of a call are true for the server `v`. It is the server before a `Wrote` or a `Dropped`. It is the server
-- after any other call, so another server became `v` by this call.
abbrev pub IsTrueCall : Call → ServerValue → Type 0
IsTrueCall (call.Took id bytes result) v = IsTakeResult id bytes.now result v
IsTrueCall (call.Wrote id first second) v =
    first.now ++ second.now ≡ take (length (first.now ++ second.now)) (waiting_at id v)
IsTrueCall (call.Ticked now) v = (before : ServerValue) × (v ≡ server_ticked before now)
IsTrueCall (call.Stored path format bytes) v =
    (before : ServerValue) × (v ≡ server_put before path.now format bytes.now)
IsTrueCall (call.Removed path) v = (before : ServerValue) × (v ≡ server_removed before path.now)
IsTrueCall (call.Ended id) v = (before : ServerValue) × (v ≡ server_ended before id)
IsTrueCall (call.Released id) v = (before : ServerValue) × (v ≡ server_released before id)
IsTrueCall (call.Responded id bytes) v = (before : ServerValue) × (v ≡ server_given before id bytes.now)
IsTrueCall (call.Announced id size) v = (before : ServerValue) × (v ≡ server_announced before id size)
IsTrueCall (call.Dropped id why) v = (work : ConnectionWork) × (work_of v id ≡ Some work) × IsReasonFor why work
