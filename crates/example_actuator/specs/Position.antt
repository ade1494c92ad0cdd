-- Defined by this example: the position of the valve after its exchanges with the server.
use Rattle.std.specs.Prelude.{◌≡◌, ◌⊎◌, ◌==◌, ℕ, Bool, false, List, [], ◌∷◌, ◌++◌, if◌then◌else◌}
use Rattle.std.specs.Prelude.{codes, nat_eq}
use lib.Pointwise.{pointwise}
use Rattle.coap_serve.specs.Codes.{changed}
use Rattle.coap_serve.specs.Prelude.{Exchange, Requested, Offered, Given, Gone, Message, Spells}

-- The position after a response with this code: `true` if the valve is open. A 2.04 says that the payload of the
-- request was set. After any other response, the position is as before.
abbrev pub position_after : Bool → Message → ℕ → Bool
position_after p m code = if code == changed then pointwise nat_eq m.payload (codes "open") else p

-- Holds if the bytes are a response to a request, with its token, and `q` is the position afterwards.
pub record IsAnswered (p : Bool) (m : Message) (bytes : List ℕ) (q : Bool) : Type 0 where
  pub response : Message
  pub spelled : Spells bytes response
  pub matched : response.token ≡ m.token
  pub position : q ≡ position_after p m response.code

-- Holds if `q` is the position after an exchange, and `p` the one before. A request without a response changes nothing.
abbrev pub IsNext : Bool → Exchange → Bool → Type 0
IsNext p (Requested id m limit bytes) q = ((bytes ≡ []) × (q ≡ p)) ⊎ IsAnswered p m bytes q
IsNext p (Offered id bytes) q = q ≡ p
IsNext p (Given id outcome) q = q ≡ p
IsNext p (Gone id) q = q ≡ p

-- Holds if this is the position after these exchanges. The valve is closed at first.
pub data IsPosition : List Exchange → Bool → Type 0 where
  IsClosedAtFirst : IsPosition [] false
  IsMovedOn : (es : List Exchange) (p : Bool) (e : Exchange) (q : Bool) → IsPosition es p → IsNext p e q →
      IsPosition (es ++ e ∷ []) q
