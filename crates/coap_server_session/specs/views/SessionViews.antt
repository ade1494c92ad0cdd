-- The value that contracts see for `Session`, and its invariant.
use Rattle.std.specs.Prelude.{◌≡◌, ◌⊎◌, true, []}
use Rattle.coap_frame.specs.Framing.{IsFramer}
use Rattle.coap_conn.specs.Limits.{AreInRange}
use Rattle.coap_conn.specs.Phases.{is_open}
use Rattle.coap_server_session.specs.values.Sessions.{SessionValue, MarkedSession}
use Rattle.coap_server_session.specs.declared.session.Session.TheInside.{Inside}

abbrev pub session_value : Inside → SessionValue
session_value s = record { frame = s.framer.kept; link = s.link; observers = s.observers.entries }

abbrev pub marked_session : Inside → MarkedSession
marked_session s = record { session = session_value s; marks = s.observers.marks; split = s.framer.spent }

-- The invariant of `Session`. The framer accepts messages up to the size announced last, the observers have the
-- capacity of the limits, and only an open connection has observers.
pub record IsSession (s : Inside) : Type 0 where
  pub ranges : AreInRange s.link.limits
  pub greatest : s.framer.max ≡ s.link.own_max
  pub framer : IsFramer s.framer
  pub room : s.observers.room ≡ s.link.limits.observers
  pub open_only : (is_open s.link.phase ≡ true) ⊎ (s.observers.entries ≡ [])

abbrev pub is_session : Inside → Type 0
is_session s = IsSession s
