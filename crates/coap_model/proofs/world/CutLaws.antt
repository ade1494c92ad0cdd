-- The split of the input does not matter: an input slice makes the same steps as its two parts in turn.
use Rattle.std.proofs.Common.{◌≡◌, ℕ, List, [], ◌∷◌, ◌++◌, Option, None, refl, append_assoc, arith}
use Rattle.std.proofs.lemmas.List.{append-nil, map-append}
use Rattle.std.proofs.Math.Seq.{drop-append_seam}
use Rattle.coap_model.specs.Prelude.{StreamFault, Stream, stream_after, continued, split_on, ConfigValues, AcceptedCall}
use Rattle.coap_model.specs.Prelude.{Took, stream_on, spelled_on, beyond, steps_by, later_steps, steps_of, world_after}
use Rattle.coap_model.proofs.world.StepLaws.{taken_then, later_steps_more, size_then, sizes_then, read_before}
use Rattle.coap_model.proofs.world.StepLaws.{stream_more, spelled_then}
use Rattle.coap_model.proofs.world.TookLaws.{nothing_beyond}

-- ---- only the stream matters

-- Two lists of events gave a connection the same stream, and the same sizes apply after them.
abbrev pub SpellAlike : ℕ → List AcceptedCall → List AcceptedCall → Type 0
SpellAlike M es fs = (id : ℕ) → spelled_on M id es ≡ spelled_on M id fs

alike_by : (M : ℕ) (es fs : List AcceptedCall) (e : AcceptedCall) → SpellAlike M es fs
    → SpellAlike M (es ++ e ∷ []) (fs ++ e ∷ [])
alike_by M es fs e alike id = grind (arith, spelled_then)

pub stream_alike : (M id : ℕ) (es fs : List AcceptedCall) → SpellAlike M es fs → stream_on M id es ≡ stream_on M id fs
stream_alike M id es fs alike = grind arith

by_alike : (M : ℕ) (es fs : List AcceptedCall) (e : AcceptedCall) → SpellAlike M es fs
    → steps_by M es e ≡ steps_by M fs e
unfolding steps_by
by_alike M es fs e alike = grind (arith, stream_alike, alike_by)

after_alike : (M : ℕ) (es fs gs : List AcceptedCall) → SpellAlike M es fs → later_steps M es gs ≡ later_steps M fs gs
unfolding later_steps
after_alike M es fs [] alike = refl
after_alike M es fs (g ∷ gs) alike =
    cc (by_alike M es fs g alike, after_alike M (es ++ g ∷ []) (fs ++ g ∷ []) gs (alike_by M es fs g alike))

-- ---- a stream continued in two parts

-- A stream continued by s and then by t.
parts : (id : ℕ) (before s t : Stream) (fault : Option StreamFault) → before.fault ≡ None → s.fault ≡ fault
    → beyond id before (continued (stream_after before.messages s) fault t)
    ≡ beyond id before (stream_after before.messages s)
    ++ beyond id (stream_after before.messages s) (continued (stream_after before.messages s) fault t)
parts id before s t fault none is =
    grind (arith, drop-append_seam, append_assoc, map-append, append-nil, nothing_beyond)

-- A stream continued by xs and then by ys.
beyond_parts : (M id : ℕ) (before : Stream) (fault : Option StreamFault) (xs ys : List ℕ) → before.fault ≡ fault
    → beyond id before (split_on M (split_on M before xs) ys)
    ≡ beyond id before (split_on M before xs) ++ beyond id (split_on M before xs) (split_on M (split_on M before xs) ys)
beyond_parts M id before fault xs ys none = grind (arith, parts, nothing_beyond)

-- ---- an input slice in two parts

pub spelled_twice : (M : ℕ) (es : List AcceptedCall) (other : ℕ) (xs ys : List ℕ)
    → SpellAlike M (es ++ Took other (xs ++ ys) ∷ []) ((es ++ Took other xs ∷ []) ++ Took other ys ∷ [])
spelled_twice M es other xs ys id =
    grind (arith, read_before, sizes_then, taken_then, size_then, append_assoc, append-nil)

-- The steps of a slice are those of its parts.
by_parts : (M : ℕ) (es : List AcceptedCall) (id : ℕ) (xs ys : List ℕ)
    → steps_by M es (Took id (xs ++ ys)) ≡ steps_by M es (Took id xs) ++ steps_by M (es ++ Took id xs ∷ []) (Took id ys)
unfolding steps_by
by_parts M es id xs ys =
    grind (arith, stream_alike, spelled_twice, stream_more, size_then, beyond_parts)

-- ---- the theorem

pub cut_steps : (M : ℕ) (es fs : List AcceptedCall) (id : ℕ) (xs ys : List ℕ)
    → steps_of M (es ++ Took id (xs ++ ys) ∷ fs) ≡ steps_of M (es ++ Took id xs ∷ Took id ys ∷ fs)
unfolding steps_of later_steps
cut_steps M es fs id xs ys =
    let half = es ++ Took id xs ∷ [] in
    grind (
      arith,
      later_steps_more M,
      by_parts M es id xs ys,
      after_alike M (es ++ Took id (xs ++ ys) ∷ []) (half ++ Took id ys ∷ []) fs (spelled_twice M es id xs ys),
      append_assoc (steps_by M es (Took id xs)) (steps_by M half (Took id ys))
          (later_steps M (half ++ Took id ys ∷ []) fs),
    )

pub cut_worlds : (c : ConfigValues) (es fs : List AcceptedCall) (id : ℕ) (xs ys : List ℕ)
    → world_after c (es ++ Took id (xs ++ ys) ∷ fs) ≡ world_after c (es ++ Took id xs ∷ Took id ys ∷ fs)
unfolding world_after
cut_worlds c es fs id xs ys = grind (arith, cut_steps)
