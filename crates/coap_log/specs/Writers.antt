-- Defined by this project: lines offered to a writer.
use Rattle.std.specs.Prelude.{ℕ, Bool, List, [], ◌∷◌, ◌++◌, Option, option_map, if◌then◌else◌}
use Rattle.std.specs.List.{flat_map, Contains}
use Rattle.coap_io.specs.Prelude.{AddsBytes, AddsCalls}

-- A line that was offered to a writer, and whether the writer accepted it.
pub record Offer : Type 0 where
  pub line : List ℕ
  pub accepted : Bool

-- A line, followed by a newline.
abbrev pub ended : List ℕ → List ℕ
ended line = line ++ 0x0a ∷ []

-- The bytes of a line that was accepted, or none.
abbrev pub bytes_of : Offer → List ℕ
bytes_of offer = if offer.accepted then ended offer.line else []

-- Holds if these lines were offered to a writer, and those that it accepted are added to its bytes, as far as it
-- records them. The first two records are of the lines offered, before and after, the others of the bytes.
abbrev pub AddsOffers : Option (List Offer) → Option (List Offer) → Option (List ℕ)
    → Option (List ℕ) → List Offer → Type 0
AddsOffers offered now_offered accepted now_accepted offers =
    AddsCalls offered now_offered offers × AddsBytes accepted now_accepted (flat_map bytes_of offers)

-- The bytes accepted by a writer to an outlet: those written to the outlet, followed by the rest of the last line. None
-- if the outlet records no bytes.
abbrev pub with_rest : Option (List ℕ) → List ℕ → Option (List ℕ)
with_rest written rest = option_map (λ bytes. bytes ++ rest) written

-- Holds if `case` implies that a write was refused: it had bytes, and returned 0. The arguments before it are the
-- results of all writes to an outlet, before and after a call, as far as they are recorded.
abbrev pub RefusedIf : Option (List ℕ) → Option (List ℕ) → Type 0 → Type 0
RefusedIf answers now_answers case =
    (counts : List ℕ) × AddsCalls answers now_answers counts × (case → Contains counts 0)
