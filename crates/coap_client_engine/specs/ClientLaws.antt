-- Defined by this project: definitions that the theorems over clients use.
use Rattle.std.specs.Prelude.{◌≡◌, ◌≢◌, ℕ, List, [], ◌∷◌, ◌++◌}
use Rattle.std.specs.List.{AllByRecursion}
use Rattle.coap_conn.specs.RequestState.{next_token}
use Rattle.coap_conn.specs.Limits.{LimitValues}
use Rattle.coap_client_engine.specs.ClientWorld.{ClientCall, Took, Sent, Cancelled, Pinged, Forgot, Released, Wrote}
use Rattle.coap_client_engine.specs.ClientWorld.{Announced, Ended, size_by, client_after}

-- Says that a call announces no other size.
abbrev pub KeepsSize : ClientCall → Type 0
KeepsSize c = (M : ℕ) → size_by c M ≡ M

-- The token that a call gives after the calls `earlier`, in a list of at most one token.
abbrev pub token_given : LimitValues → ℕ → List ClientCall → ClientCall → List (List ℕ)
token_given limits tokens earlier (Took bytes) = []
token_given limits tokens earlier (Sent method target extras) =
    next_token (client_after limits tokens earlier).tokens ∷ []
token_given limits tokens earlier (Cancelled token target extras) = []
token_given limits tokens earlier (Pinged custody) = next_token (client_after limits tokens earlier).tokens ∷ []
token_given limits tokens earlier (Forgot token) = []
token_given limits tokens earlier Released = []
token_given limits tokens earlier (Announced size) = []
token_given limits tokens earlier (Wrote n) = []
token_given limits tokens earlier Ended = []

-- The tokens that calls give after the calls `earlier`, in order.
abbrev pub later_tokens : LimitValues → ℕ → List ClientCall → List ClientCall → List (List ℕ)
later_tokens limits tokens earlier [] = []
later_tokens limits tokens earlier (c ∷ cs) =
    token_given limits tokens earlier c ++ later_tokens limits tokens (earlier ++ c ∷ []) cs

-- The tokens that a list of calls gives, in order.
abbrev pub tokens_given : LimitValues → ℕ → List ClientCall → List (List ℕ)
tokens_given limits tokens calls = later_tokens limits tokens [] calls

-- Says that no two tokens of a list are equal.
abbrev pub AreDifferent : List (List ℕ) → Type 0
AreDifferent [] = Unit {0}
AreDifferent (t ∷ ts) = AllByRecursion (λ other. t ≢ other) ts × AreDifferent ts
