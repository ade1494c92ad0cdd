-- A framer whose maximum size is raised.
use Rattle.std.proofs.Common.{◌≡◌, ℕ, ◌-◌, ◌<◌, ◌≤◌, Bool, true, false, List, length, None, refl, sym, ◌∙◌, arith, inl}
use Rattle.std.proofs.Common.{is_none, if◌then◌else◌}
use Rattle.coap_frame.specs.Prelude.{declared_of, Unfinished, prefix_kind, size_bytes, Declared, Unknown, Size}
use Rattle.coap_frame.specs.Prelude.{BadToken, FramerValue, IsFramer, raise_refusal, with_size, raise_result, framer_of}
use Rattle.coap_frame.specs.Prelude.{kept_in, BufferContent}
use Rattle.coap_wire.proofs.StreamSteps.{begin_unknown, begin_bad_token, begin_short, size_has_bytes, declared_some}
use Rattle.coap_wire.proofs.StreamSteps.{unfinished_larger, unknown_not_size}
use Rattle.coap_frame.specs.declared.framer.BufferContent.TheVariants as content
use Rattle.coap_frame.proofs.FillLemmas.{size_unfinished}
use Rattle.std.proofs.lemmas.Bool.{ltb-false}

still_unfinished : (M N : ℕ) (s : List ℕ) (d : Declared) → prefix_kind M s ≡ Unfinished
    → (size_bytes s - 1 < length s → M ≤ N) → declared_of s ≡ d → prefix_kind N s ≡ Unfinished
still_unfinished M N s Unknown u larger e = begin_unknown N s e
still_unfinished M N s (Size n) u larger e =
    let known_size = size_unfinished M s n u e in
    let some = declared_some s (λ unknown. unknown_not_size n (sym unknown ∙ e)) in
    let more : M ≤ N = larger (omega (arith, size_has_bytes s n e, some)) in
    begin_short N s n e (omega (arith, known_size.0, more)) known_size.1
still_unfinished M N s BadToken u larger e = absurd (cc (begin_bad_token M s e))

-- An unfinished frame stays unfinished under another maximum. If its size is known, the other maximum must not be
-- lower.
pub unfinished_with : (M N : ℕ) (s : List ℕ) → prefix_kind M s ≡ Unfinished → (size_bytes s - 1 < length s → M ≤ N)
    → prefix_kind N s ≡ Unfinished
unfinished_with M N s u larger = still_unfinished M N s (declared_of s) u larger refl

-- A size that is not rejected is at least the current maximum, and at most 1,048,576 bytes.
pub raise_allowed : (max new : ℕ) → raise_refusal max new ≡ None → (max ≤ new) × (new ≤ 1048576)
raise_allowed max new e = (grind (arith, ltb-false), grind (arith, ltb-false))

pub allowed_by : (max new : ℕ) → is_none (raise_refusal max new) ≡ true → (max ≤ new) × (new ≤ 1048576)
allowed_by max new e = raise_allowed max new (grind arith)

-- A raised maximum keeps the invariant of a framer.
pub raised_is_framer : (v : FramerValue) (new : ℕ) → IsFramer v → v.max ≤ new → new ≤ 1048576
    → IsFramer (with_size v new)
raised_is_framer v new is larger small = record {
  low = omega (arith, is.low, larger);
  high = small;
  countable = is.countable;
  unfinished = unfinished_larger v.max new v.kept larger is.unfinished;
  whole = inl refl;
}

-- The same for a framer given by its buffer, in which only the kept bytes stay.
pub raised_holds : (max new copied : ℕ) (was now : BufferContent) (bytes left : List ℕ)
    → IsFramer (framer_of max was bytes copied) → max ≤ new → new ≤ 1048576
    → now ≡ content.Prefix → left ≡ kept_in was bytes → IsFramer (framer_of new now left copied)
raised_holds max new copied was now bytes left is larger small begins keeps =
    rw (begins, keeps) (raised_is_framer (framer_of max was bytes copied) new is larger small)

framer_where_allowed : (v : FramerValue) (new : ℕ) (allowed : Bool) → is_none (raise_refusal v.max new) ≡ allowed
    → IsFramer v → IsFramer (if allowed then with_size v new else v)
framer_where_allowed v new true e is = let fits = allowed_by v.max new e in raised_is_framer v new is fits.0 fits.1
framer_where_allowed v new false e is = is

pub raise_is_framer : (v : FramerValue) (new : ℕ) → IsFramer v → IsFramer (raise_result v new)
raise_is_framer v new is = framer_where_allowed v new (is_none (raise_refusal v.max new)) refl is

pub raise_copied : (v : FramerValue) (new : ℕ) → (raise_result v new).copied ≡ v.copied
raise_copied v new = grind arith
