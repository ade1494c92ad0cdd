-- Conclusions from the fact that a request or a cancellation is allowed, or is not.
use Rattle.std.proofs.Common.{◌≡◌, ℕ, ◌<◌, ◌≤◌, true, false, List, length, Option, Some, None, refl, arith}
use Rattle.coap_conn.specs.Prelude.{is_none, Message, spelling, is_open, RequestState, size_refusal, new_refusal}
use Rattle.coap_conn.specs.Prelude.{asking_refusal, cancel_refusal}
use Rattle.std.proofs.lemmas.Bool.{ltb-true, ltb-false}

-- A test for `None`.
pub none_where : {X : Type 0} (o : Option X) → is_none o ≡ true → o ≡ None
none_where None e = refl
none_where (Some x) e = absurd cc

-- ---- allowed

-- The message exceeds neither the largest message that may be sent nor the free bytes of the queue.
pub record IsRightSize (a : RequestState) (size : ℕ) : Type 0 where
  pub within : size ≤ a.limit
  pub room : size ≤ a.free

right_size : (a : RequestState) (size : ℕ) → size_refusal a size ≡ None → IsRightSize a size
right_size a size is = record { within = grind (arith, ltb-false); room = grind (arith, ltb-false) }

-- The connection is open, the list of outstanding entries is not full, and a token is left.
pub record HasNew (a : RequestState) : Type 0 where
  pub opened : is_open a.phase ≡ true
  pub few : length a.outstanding < a.most
  pub left : a.tokens < 18446744073709551615

pub has_new : (a : RequestState) → new_refusal a ≡ None → HasNew a
unfolding new_refusal
has_new a is = record { opened = grind arith; few = grind (arith, ltb-true); left = grind (arith, ltb-true) }

-- An allowed request has a new token and is small enough.
pub requested_new : (a : RequestState) (m : Message) → asking_refusal a m ≡ None → HasNew a
unfolding asking_refusal
requested_new a m e = has_new a (grind arith)

pub requested_size : (a : RequestState) (m : Message) → asking_refusal a m ≡ None → IsRightSize a (length (spelling m))
unfolding asking_refusal
requested_size a m e = right_size a (length (spelling m)) (grind arith)

-- The message of an allowed cancellation is small enough.
pub cancel_size : (a : RequestState) (token : List ℕ) (m : Message) → cancel_refusal a token m ≡ None
    → IsRightSize a (length (spelling m))
unfolding cancel_refusal
cancel_size a token m e = right_size a (length (spelling m)) (grind arith)

-- ---- not allowed

-- No request is allowed if the connection is not open.
pub not_requested : (a : RequestState) (m : Message) → is_open a.phase ≡ false → is_none (asking_refusal a m) ≡ false
unfolding asking_refusal new_refusal
not_requested a m closed = rw closed refl

pub not_cancelled : (a : RequestState) (token : List ℕ) (m : Message) → is_open a.phase ≡ false
    → is_none (cancel_refusal a token m) ≡ false
unfolding cancel_refusal
not_cancelled a token m closed = rw closed refl
