-- The status of a chunk by itself, and the filling of a buffer with the bytes of a frame.
use Rattle.std.proofs.Common.{◌≡◌, ℕ, ◌+◌, ◌-◌, ◌<◌, ◌≤◌, List, [], ◌∷◌, ◌++◌, length, get_or, take, drop, refl, sym}
use Rattle.std.proofs.Common.{ap, ◌∙◌, append_assoc, arith, inl, inr}
use Rattle.std.proofs.lemmas.Bool.{cases_lt}
use Rattle.std.proofs.lemmas.List.{append-nil, take-append-drop, take_more, take_all, length-append, length-take}
use Rattle.std.proofs.lemmas.List.{length-drop}
use Rattle.coap_frame.specs.Prelude.{declared_of, Declared, Unknown, Size, BadToken, FrameFault, TokenLength, TooLarge}
use Rattle.coap_frame.specs.Prelude.{Unfinished, Whole, Faulty, prefix_kind, fault_bytes, size_bytes, IsTakenTo}
use Rattle.coap_frame.specs.Prelude.{IsFilled, FrameLayout, outline_of}
use Rattle.coap_wire.proofs.StreamSteps.{begin_unknown, begin_bad_token, begin_too_large, begin_short, begin_whole}
use Rattle.coap_wire.proofs.StreamSteps.{size_has_bytes, size_at_last, declared_more, faulty_more, fault_bytes_more}
use Rattle.coap_wire.proofs.StreamSteps.{fault_at_last, fault_has_bytes}
use Rattle.coap_wire.specs.declared.layout.Outline.TheVariants.{Known}
use Rattle.coap_wire.proofs.LayoutLaws.{outline_more, outline_front}
use Rattle.coap_frame.specs.declared.filling.FrameStatus.TheVariants as status
use Rattle.std.proofs.Math.Seq.{take-append-add}

-- An unfinished frame with a known size has fewer bytes than that, and the size is not too large.
pub size_unfinished : (M : ℕ) (s : List ℕ) (n : ℕ) → prefix_kind M s ≡ Unfinished → declared_of s ≡ Size n
    → (n ≤ M) × (length s < n)
size_unfinished M s n unfinished known_size =
    elim (cases_lt M n) [
      | inl large ↦ absurd (cc (begin_too_large M s n known_size large))
      | inr fits ↦ elim (cases_lt (length s) n) [
        | inl short ↦ (fits, short)
        | inr long ↦ absurd (cc (begin_whole M s n known_size fits long))
      ]
    ]

-- The first `taken` bytes of a chunk are appended to an unfinished frame.
module _ (M : ℕ) (old piece new : List ℕ) (taken : ℕ) (size : Declared) (unfinished : prefix_kind M old ≡ Unfinished)
    (h : IsTakenTo old piece new taken size) where
  -- The bytes of the chunk that are not taken.
  abbrev later : List ℕ
  later = drop taken piece

  pub all_bytes : old ++ piece ≡ new ++ later
  all_bytes = rw (h.bytes, append_assoc, take-append-drop) refl

  pub length_new : length new ≡ length old + taken
  length_new = omega (arith, ap length h.bytes, length-append old (take taken piece), length-take taken piece, h.within)

  none_taken : taken ≡ 0 → new ≡ old
  none_taken e = rw (h.bytes, e, append-nil) refl

  -- The new bytes end with the last byte taken.
  last_byte_taken : (before : ℕ) → taken ≡ before + 1 → new ≡ (old ++ take before piece) ++ get_or piece before 0 ∷ []
  last_byte_taken before e =
      let lt : before < length piece = let w = h.within in omega arith in
      rw (h.bytes, e, take_more piece before 0 lt, append_assoc) refl

  -- A declared size is above the number of bytes in the buffer.
  pub size_above_filled : (n : ℕ) → size ≡ Size n → length new < n
  size_above_filled n is =
      let now : declared_of new ≡ Size n = sym h.size_is ∙ is in
      elim h.first [
        | inl none ↦
            (let same = none_taken none in rw same (size_unfinished M old n unfinished (rw same at now)).1)
        | inr more ↦ (let e = last_byte_taken more.0 more.1 in
            let last = size_at_last (old ++ take more.0 piece) (get_or piece more.0 0) n more.2 (rw e at now) in
            let few = (size_has_bytes new n now).0 in
            omega (arith, ap length e, ap size_bytes e, last, few))
      ]

  fault_is_new : (fault : FrameFault) → prefix_kind M new ≡ Faulty fault → fault_bytes new ≡ new
  fault_is_new fault faulty =
      elim h.first [
        | inl none ↦ absurd (cc (none_taken none))
        | inr more ↦ (let e = last_byte_taken more.0 more.1 in
            let last = fault_at_last M (old ++ take more.0 piece) (get_or piece more.0 0) fault
            (begin_unknown M (old ++ take more.0 piece) more.2) (rw e at faulty) in
            ap fault_bytes e ∙ last ∙ sym e)
      ]

  fault_sound : (fault : FrameFault) → prefix_kind M new ≡ Faulty fault
      → IsFilled M old piece new taken (status.Fault fault)
  fault_sound fault faulty =
      let bytes : fault_bytes (old ++ piece) ≡ new =
      ap fault_bytes all_bytes ∙ fault_bytes_more M new later fault faulty ∙ fault_is_new fault faulty in
      record {
        within = h.within;
        has_status = (
          rw all_bytes (faulty_more M new later fault faulty),
          omega (arith, length_new, ap length bytes),
        );
      }

  pub filled_bad_token : size ≡ BadToken → IsFilled M old piece new taken (status.Fault TokenLength)
  filled_bad_token is = fault_sound TokenLength (begin_bad_token M new (sym h.size_is ∙ is))

  pub filled_too_large : (n : ℕ) → size ≡ Size n → M < n → IsFilled M old piece new taken (status.Fault TooLarge)
  filled_too_large n is large = fault_sound TooLarge (begin_too_large M new n (sym h.size_is ∙ is) large)

  pub filled_unknown : size ≡ Unknown → taken ≡ length piece → IsFilled M old piece new taken status.Unfinished
  filled_unknown is all =
      let bytes : new ≡ old ++ piece = rw (h.bytes, take_all taken piece (omega (arith, all))) refl in
      record {
        within = h.within;
        has_status = (rw (← bytes) (begin_unknown M new (sym h.size_is ∙ is)), all, bytes);
      }

  -- The size stays the same with the bytes that follow.
  size_of_all : (n : ℕ) → size ≡ Size n → declared_of (old ++ piece) ≡ Size n
  size_of_all n is = ap declared_of all_bytes ∙ declared_more new later n (sym h.size_is ∙ is)

  length_all : length (old ++ piece) ≡ length new + length later
  length_all = ap (λ (s : List ℕ). length s) all_bytes ∙ length-append new later

  pub filled_short : (n : ℕ) (after : List ℕ) → size ≡ Size n → n ≤ M → length later < n - length new
      → after ≡ new ++ later → IsFilled M old piece after (length piece) status.Unfinished
  filled_short n after is fits short e =
      record {
        within = omega arith;
        has_status = (
          begin_short M (old ++ piece) n (size_of_all n is) fits (omega (arith, length_all)),
          refl,
          e ∙ sym all_bytes,
        );
      }

  pub filled_whole : (n : ℕ) (layout : FrameLayout) (after : List ℕ) → size ≡ Size n → outline_of new ≡ Known n layout
      → n ≤ M → n - length new ≤ length later → after ≡ new ++ take (n - length new) later
      → IsFilled M old piece after (taken + (n - length new)) (status.Whole layout)
  filled_whole n layout after is laid fits long e =
      let more : length new < n = size_above_filled n is in
      let size_now : length new + (n - length new) ≡ n = omega arith in
      let enough : n ≤ length (old ++ piece) = omega (arith, length_all) in
      let frame : take n (old ++ piece) ≡ after =
      ap (take n) all_bytes ∙ ap (λ (k : ℕ). take k (new ++ later)) (sym size_now)
      ∙ take-append-add new later (n - length new) ∙ sym e in
      let rest = drop n (old ++ piece) in
      let left : length rest ≡ length (old ++ piece) - n = length-drop n (old ++ piece) in
      let size_is : n ≡ length after = omega (
        arith,
        ap (λ (s : List ℕ). length s) e,
        length-append new (take (n - length new) later),
        length-take (n - length new) later,
        long,
        size_now,
      ) in
      record {
        within = omega (arith, length_all, length_new, length-append old piece);
        has_status = (
          rest,
          begin_whole M (old ++ piece) n (size_of_all n is) fits enough ∙ ap (λ (f : List ℕ). Whole f rest) frame,
          omega (arith, length_all, length_new, length-append old piece),
          ap outline_of e ∙ outline_more new (take (n - length new) later) n layout laid
              ∙ ap (λ (k : ℕ). Known k layout) size_is,
        );
      }

-- ---- a chunk by itself

module _ (M : ℕ) (piece : List ℕ) where
  -- All of an unfinished chunk is taken.
  pub status_more : prefix_kind M piece ≡ Unfinished
      → IsFilled M [] piece (take (length piece) piece) (length piece) status.Unfinished
  status_more unfinished = record {
    within = omega arith;
    has_status = (unfinished, refl, take_all (length piece) piece (omega arith));
  }

  -- An error is known at the last byte that states the size.
  status_fault : (fault : FrameFault) → prefix_kind M piece ≡ Faulty fault
      → IsFilled M [] piece (take (size_bytes piece) piece) (size_bytes piece) (status.Fault fault)
  status_fault fault faulty =
      let there = fault_has_bytes M piece fault faulty in
      record {
        within = there;
        has_status = (faulty, omega (arith, length-take (size_bytes piece) piece, there));
      }

  pub status_bad_token : declared_of piece ≡ BadToken
      → IsFilled M [] piece (take (size_bytes piece) piece) (size_bytes piece) (status.Fault TokenLength)
  status_bad_token is = status_fault TokenLength (begin_bad_token M piece is)

  pub status_too_large : (n : ℕ) → declared_of piece ≡ Size n → M < n
      → IsFilled M [] piece (take (size_bytes piece) piece) (size_bytes piece) (status.Fault TooLarge)
  status_too_large n is large = status_fault TooLarge (begin_too_large M piece n is large)

  pub status_whole : (n : ℕ) (layout : FrameLayout) → declared_of piece ≡ Size n → outline_of piece ≡ Known n layout
      → n ≤ M → n ≤ length piece → IsFilled M [] piece (take n piece) n (status.Whole layout)
  status_whole n layout is laid fits long = record {
    within = long;
    has_status = (
      drop n piece,
      begin_whole M piece n is fits long,
      omega (arith, length-drop n piece, long),
      outline_front piece n layout laid long,
    );
  }
