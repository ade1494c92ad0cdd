-- RFC 7252 sections 5.8 and 12.1.1: the methods of requests, which are the codes 0.01 to 0.31.
use Rattle.std.specs.Prelude.{ℕ, Bool, true, false, not, ◌&&◌, List, [], ◌∷◌, ◌==◌}
use Rattle.std.specs.List.{list_any}
use Rattle.coap_wire.specs.Codes.{class_of, detail_of}

-- The code is a method.
abbrev pub is_method : ℕ → Bool
is_method code = class_of code == 0 && not (detail_of code == 0)

-- The list has this code.
abbrev pub has_method : List ℕ → ℕ → Bool
has_method methods code = list_any (λ m. m == code) methods

-- Each code is a method, and none occurs twice.
abbrev pub are_distinct_methods : List ℕ → Bool
are_distinct_methods [] = true
are_distinct_methods (m ∷ ms) = is_method m && not (has_method ms m) && are_distinct_methods ms

-- An entry can have these methods: at least one, and none twice.
unfoldable pub are_methods : List ℕ → Bool
are_methods [] = false
are_methods (m ∷ ms) = are_distinct_methods (m ∷ ms)
