-- Defined by this project: the connections that a turn need not look at.
use Rattle.std.specs.Prelude.{◌≡◌, ◌≢◌, ℕ, List, nat_eq, slice_get, Option, Some, None, Bool, false, ◌&&◌, ◌||◌}
use Rattle.std.specs.List.{IsDistinct}
use Rattle.std.specs.Map.{keys_of}
use Rattle.coap_serve.specs.listener.Turns.{PeerStatus, peer_status}
use Rattle.coap_serve.specs.declared.door.awake.Awake.{Awake}
use Rattle.coap_serve.specs.declared.door.peer.Peer.{Peer}
use Rattle.coap_server_engine.specs.Prelude.{IsOutside}
use Rattle.coap_server_engine.specs.values.Servers.{LiesAt, ServerValue}
use Rattle.coap_server_engine.specs.values.ServerDeadlines.{work_of}

-- The connections of a server and their transport sides have the same numbers, in the same order.
pub record ArePaired {W : Type 0} (v : ServerValue) (es : List (ℕ × Peer W)) : Type 0 where
  pub keys : keys_of es ≡ keys_of v.sessions
  pub distinct : IsDistinct nat_eq (keys_of es)

-- The recorded readiness of a wire, or `false` if it records none.
abbrev pub known : Option Bool → Bool
known None = false
known (Some ready) = ready

-- Something can be done at once on the connection, as far as its wire records its readiness.
abbrev pub is_known_ready : PeerStatus → Bool
is_known_ready e = e.interest.visit || (e.interest.read && known e.readable) || (e.interest.write && known e.writable)

-- The connection may sleep: nothing can be done on it, and it has no deadline.
pub record MaySleep (e : PeerStatus) : Type 0 where
  pub calm : is_known_ready e ≡ false
  pub never : e.interest.due ≡ None

-- Each connection that sleeps may do so, by its present interest.
pub record AreAsleep {W : Type 0} (readable writable : W → Option Bool) (a : Awake) (v : ServerValue)
    (es : List (ℕ × Peer W)) : Type 0 where
  pub each : (i : ℕ) (e : ℕ × Peer W) → slice_get es i ≡ Some e → IsOutside a.set.words i
      → MaySleep (peer_status readable writable v e)

-- The connections beside the one with this number have the same work left, outside of a set with these words. No
-- connection was added, removed or moved.
pub record KeepsBeside (id : ℕ) (words : List ℕ) (v after : ServerValue) : Type 0 where
  pub keys : keys_of after.sessions ≡ keys_of v.sessions
  pub work : (i other : ℕ) → LiesAt other i v.sessions → other ≢ id → IsOutside words i → work_of after other ≡
      work_of v other

-- The awake connections became those of `b` when the server became `after`. Each connection that sleeps now did so
-- before,
-- and has the same work left. No connection was added, removed or moved.
pub record SleepOn (a b : Awake) (v after : ServerValue) : Type 0 where
  pub keys : keys_of after.sessions ≡ keys_of v.sessions
  pub each : (i id : ℕ) → LiesAt id i v.sessions → IsOutside b.set.words i → IsOutside a.set.words i
      × (work_of after id ≡ work_of v id)
