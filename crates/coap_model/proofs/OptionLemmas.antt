-- Lemmas on optional values.
use Rattle.std.proofs.Common.{◌≡◌, ℕ, zero, suc, ◌<◌, Bool, true, false, List, [], ◌∷◌, length, Option, Some, None}
use Rattle.std.proofs.Common.{refl, arith, option_map, is_some, slice_get, if◌then◌else◌}

pub there_is : {A : Type 0} (o : Option A) → is_some o ≡ true → (x : A) × (o ≡ Some x)
there_is o e = grind arith

pub there_is_none : {A : Type 0} (o : Option A) → is_some o ≡ false → o ≡ None
there_is_none o e = grind arith

pub same_there : {A : Type 0} (x y : A) → Some x ≡ Some y → x ≡ y
same_there x y e = cc

-- An optional value that is kept only if a flag is true.
pub some_where : {A : Type 0} (so : Bool) (o : Option A) (x : A) → (if so then o else None) ≡ Some x → o ≡ Some x
some_where so o x some = grind arith

-- If the image of an optional value is absent, the value is absent.
pub none_made : {A B : Type 0} (f : A → B) (o : Option A) → option_map f o ≡ None → o ≡ None
none_made f o e = grind arith

pub one_made : {A B : Type 0} (f : A → B) (o : Option A) (y : B) → option_map f o ≡ Some y
    → (x : A) × (o ≡ Some x) × (f x ≡ y)
one_made f o y e = grind arith

-- A list has an element at each index below its length.
pub there_at : {A : Type 0} (xs : List A) (i : ℕ) → i < length xs → (x : A) × (slice_get xs i ≡ Some x)
there_at [] i within = absurd (omega arith)
there_at (x ∷ xs) zero within = (x, refl)
there_at (x ∷ xs) (suc i) within = there_at xs i (omega arith)
