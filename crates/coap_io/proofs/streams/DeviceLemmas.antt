-- Records of devices, over calls one after another.
use Rattle.std.proofs.Common.{◌≡◌, ◌≢◌, ℕ, Bool, false, ◌||◌, List, [], ◌∷◌, ◌++◌, length, take, Option, Some, None, ap}
use Rattle.std.proofs.Common.{subst, ◌∙◌, append_assoc, arith}
use Rattle.std.proofs.KnownBytes.{Consumes-nil, Consumes-trans}
use Rattle.std.proofs.lemmas.List.{append-nil, take-take}
use Rattle.std.proofs.lemmas.List.Folds.{concat-append}
use Rattle.coap_io.specs.Prelude.{concat, Consumes, IsAtEnd, AddsBytes, DeviceTrace, FoundEnd, EndsAt, HasGiven}
use Rattle.coap_io.specs.Prelude.{is_failed_write, AddsCalls, IsWithin, bytes_passed, Got}
use Rattle.coap_io.specs.declared.wire.Got.TheVariants.{Bytes}

pub no_calls : {A : Type 0} (a : Option (List A)) → AddsCalls a a []
no_calls a = grind (arith, append-nil)

pub calls_then : {A : Type 0} (a b c : Option (List A)) (xs ys : List A) → AddsCalls a b xs → AddsCalls b c ys
    → AddsCalls a c (xs ++ ys)
calls_then a b c xs ys p q = grind (arith, append_assoc)

pub bytes_none : (a : Option (List ℕ)) → AddsBytes a a []
bytes_none a = no_calls a

pub bytes_then : (a b c : Option (List ℕ)) (xs ys : List ℕ) → AddsBytes a b xs → AddsBytes b c ys
    → AddsBytes a c (xs ++ ys)
bytes_then a b c xs ys p q = calls_then a b c xs ys p q

-- If the last of all chunks is empty, it is the last of `ys`, or the last of `xs` and `ys` has none.
end_found : (left : List ℕ) (c : Option (List ℕ)) (xs ys : List (List ℕ)) → (FoundEnd xs → left ≡ [])
    → Consumes (Some left) c (concat ys)
    → (FoundEnd ys → IsAtEnd c) → FoundEnd (xs ++ ys) → IsAtEnd c
end_found left c [] ys first rest second found = second found
end_found left c (p ∷ []) [] first rest second found = grind arith
end_found left c (p ∷ []) (q ∷ qs) first rest second found = second found
end_found left c (p ∷ r ∷ ps) ys first rest second found = end_found left c (r ∷ ps) ys first rest second found

end_then : (a b c : Option (List ℕ)) (xs ys : List (List ℕ)) → Consumes a b (concat xs) → (FoundEnd xs → EndsAt a b)
    → Consumes b c (concat ys) → (FoundEnd ys → EndsAt b c) → FoundEnd (xs ++ ys) → EndsAt a c
end_then None b c xs ys fewer first rest second found = tt
end_then (Some x) None c xs ys fewer first rest second found = absurd fewer
end_then (Some x) (Some y) c xs ys fewer first rest second found = end_found y c xs ys first rest second found

pub given_none : (a : DeviceTrace) → HasGiven a a []
given_none a = record { more = no_calls a.pieces; fewer = Consumes-nil a.remaining; end = λ e. absurd e }

pub given_then : (a b c : DeviceTrace) (xs ys : List (List ℕ)) → HasGiven a b xs
    → HasGiven b c ys → HasGiven a c (xs ++ ys)
given_then a b c xs ys p q = record {
  more = calls_then a.pieces b.pieces c.pieces xs ys p.more q.more;
  fewer = rw concat-append (Consumes-trans a.remaining b.remaining c.remaining (concat xs) (concat ys) p.fewer q.fewer);
  end = end_then a.remaining b.remaining c.remaining xs ys p.fewer p.end q.fewer q.end;
}

-- A write of a prefix of the queued bytes passes on a prefix of them.
pub part_written : (waiting part : List ℕ) (got : Got) (before after : Option (List ℕ))
    → part ≡ take (length part) waiting → IsWithin (length part) got
    → AddsBytes before after (bytes_passed part got) → AddsBytes before after (bytes_passed waiting got)
part_written waiting part (Bytes n) before after front within added =
    subst (AddsBytes before after)
    (ap (λ (xs : List ℕ). take n xs) front ∙ take-take n (length part) waiting within.1) added
part_written waiting part other before after front within added = added

-- A write of at least one byte has not failed.
pub not_failed_write : (n : ℕ) (bytes : List ℕ) (old new : Bool) → n ≢ 0 → old ≡ false
    → new ≡ (old || is_failed_write (Some n) bytes) → new ≡ false
not_failed_write n bytes old new some works is = grind arith
