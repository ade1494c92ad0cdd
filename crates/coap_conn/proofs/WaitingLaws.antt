-- The number of bytes queued on a connection, and that of bytes kept of an unfinished frame.
use Rattle.std.proofs.Common.{◌≡◌, ℕ, ◌+◌, ◌<◌, ◌≤◌, Bool, true, false, cond, List, [], ◌∷◌, ◌++◌, length, drop, arith}
use Rattle.std.proofs.Common.{refl}
use Rattle.std.proofs.Math.Nat.{min-le_left}
use Rattle.std.proofs.lemmas.List.{length-append}
use Rattle.coap_conn.specs.Prelude.{Message, spelling, announced, AllFit, History, IsHistory, limit_now, link_of}
use Rattle.coap_conn.specs.Prelude.{bytes_of}
use Rattle.coap_conn.proofs.LinkLemmas.{waiting_more}

-- ---- queued bytes

-- The number of queued bytes.
abbrev pub wait : History → ℕ
wait h = length (link_of h).waiting

abbrev pub size : List Message → ℕ
size ms = length (bytes_of ms)

-- At most one message that fits the limit has at most `limit` bytes.
pub one_small : (limit : ℕ) (ms : List Message) → length ms ≤ 1 → AllFit limit ms → size ms ≤ limit
one_small limit [] one each = omega arith
one_small limit (m ∷ []) one each = omega (arith, each.0, length-append (spelling m) [])
one_small limit (m ∷ n ∷ ms) one each = absurd (omega (arith, one))

pub limit_within : (h : History) → limit_now h ≤ h.limits.max_sent
limit_within h = min-le_left h.limits.max_sent (announced h.handled)

pub queued_waits : (h : History) (ms : List Message) → IsHistory h
    → length (drop h.written (bytes_of (h.queued ++ ms))) ≡ wait h + size ms
queued_waits h ms is = rw (waiting_more h ms is, length-append) refl

-- ---- bytes of an unfinished frame

pub kept_small_by : (M : ℕ) (rest : List ℕ) (takes : Bool) → 1 ≤ M → (takes ≡ true → length rest < M)
    → length (cond takes rest []) < M
kept_small_by M rest true enough go = go refl
kept_small_by M rest false enough go = omega (arith, enough)
