-- Bytes that a writer writes, one part after another.
use Rattle.std.proofs.Common.{ℕ, ◌+◌, ◌-◌, ◌≤◌, ◌<◌, ◌≡◌, List, [], ◌∷◌, ◌++◌, length, length-drop, length-append}
use Rattle.std.proofs.Common.{arith, take, drop, Option, sym, subst, ap, ◌∙◌}
use Rattle.std.specs.List.{Contains}
use Rattle.std.proofs.lemmas.List.Elements.{Contains-append_left, Contains-append_right, Contains-push}
use Rattle.std.proofs.Math.Seq.{take-add}
use Rattle.coap_io.specs.Prelude.{AddsBytes, AddsCalls}
use Rattle.coap_io.proofs.streams.DeviceLemmas.{bytes_then, calls_then}
use Rattle.coap_io.proofs.streams.WriteLemmas.{rest_of}
use Rattle.coap_log.specs.Writers.{RefusedIf}

-- More of the bytes were written.
pub pushed_more : (a b c : Option (List ℕ)) (bytes : List ℕ) (done count : ℕ) → AddsBytes a b (take done bytes)
    → AddsBytes b c (take count (take (length bytes - done) (drop done bytes)))
    → AddsBytes a c (take (done + count) bytes)
pushed_more a b c bytes done count before more =
    subst (AddsBytes a c)
    (ap (λ (s : List ℕ). take done bytes ++ take count s) (rest_of done bytes) ∙ sym (take-add done count bytes))
    (bytes_then a b c (take done bytes) (take count (take (length bytes - done) (drop done bytes))) before more)

pub pushed_some : (bytes : List ℕ) (done : ℕ) → done < length bytes
    → 1 ≤ length (take (length bytes - done) (drop done bytes))
pushed_some bytes done some =
    omega (arith, some, ap (λ (s : List ℕ). length s) (rest_of done bytes), length-drop done bytes)

pub pushed_within : (bytes : List ℕ) (done count : ℕ) → done ≤ length bytes
    → count ≤ length (take (length bytes - done) (drop done bytes)) → done + count ≤ length bytes
pushed_within bytes done count some more =
    omega (arith, ap (λ (s : List ℕ). length s) (rest_of done bytes), length-drop done bytes)

-- Results of writes, one call after another.
abbrev pub Adds : Option (List ℕ) → Option (List ℕ) → Type 0
Adds a b = (counts : List ℕ) × AddsCalls a b counts

pub adds_one : (a b c : Option (List ℕ)) (count : ℕ) → Adds a b → AddsCalls b c (count ∷ []) → Adds a c
adds_one a b c count first second = (first.0 ++ count ∷ [], calls_then a b c first.0 (count ∷ []) first.1 second)

-- The last write was refused.
pub refused_last : (a b c : Option (List ℕ)) (count : ℕ) (P : Type 0) → Adds a b → AddsCalls b c (count ∷ [])
    → count ≡ 0 → RefusedIf a c P
refused_last a b c count P first second none = (
  first.0 ++ count ∷ [],
  calls_then a b c first.0 (count ∷ []) first.1 second,
  λ p. subst (Contains (first.0 ++ count ∷ [])) none (Contains-push first.0 count),
)

-- A write of the first call was refused, or one of the second call.
pub refused_first : (a b c : Option (List ℕ)) (P Q R : Type 0) → RefusedIf a b P → RefusedIf b c Q → (R → P)
    → RefusedIf a c R
refused_first a b c P Q R first second so = (
  first.0 ++ second.0,
  calls_then a b c first.0 second.0 first.1 second.1,
  λ r. Contains-append_left first.0 second.0 0 (first.2 (so r)),
)

pub refused_second : (a b c : Option (List ℕ)) (P Q R : Type 0) → RefusedIf a b P → RefusedIf b c Q → (R → Q)
    → RefusedIf a c R
refused_second a b c P Q R first second so = (
  first.0 ++ second.0,
  calls_then a b c first.0 second.0 first.1 second.1,
  λ r. Contains-append_right first.0 second.0 0 (second.2 (so r)),
)

pub some_dropped : (count : ℕ) (bytes : List ℕ) → 1 ≤ length (drop count bytes) → count < length bytes
some_dropped count bytes some = omega (arith, length-drop count bytes, some)

pub some_ended : (line bytes : List ℕ) (count : ℕ) → bytes ≡ line ++ 0x0a ∷ [] → count ≡ 0 → count < length bytes
some_ended line bytes count is none = rw is (omega (arith, none, length-append line (0x0a ∷ [])))
