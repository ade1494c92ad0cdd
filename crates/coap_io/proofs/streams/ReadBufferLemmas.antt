-- The bytes of a read buffer that are not accepted yet.
use Rattle.std.proofs.Common.{◌≡◌, ℕ, ◌+◌, ◌-◌, ◌≤◌, List, length, take, drop, drop-drop, arith}
use Rattle.std.proofs.lemmas.List.{drop-take, length-take}

-- A larger `from` drops the first bytes.
pub rest_advanced : (buffer : List ℕ) (from to count : ℕ) → count ≤ length (take (to - from) (drop from buffer))
    → take (to - (from + count)) (drop (from + count) buffer) ≡ drop count (take (to - from) (drop from buffer))
rest_advanced buffer from to count few =
    let split : to - from ≡ count + (to - (from + count)) = omega (arith, length-take (to - from) (drop from buffer)) in
    rw (split, drop-take, drop-drop)
