-- The links that are read are those that the text writes.
use Rattle.std.proofs.Common.{◌≡◌, ℕ, zero, suc, ◌+◌, Bool, true, false, eqb, List, [], ◌∷◌, ◌++◌, take, drop, Option}
use Rattle.std.proofs.Common.{Some, None, Result, Ok, Err, IfOk, refl, sym, arith, append_assoc, length}
use Rattle.std.specs.List.{prefix_len, list_all}
use Rattle.std.proofs.lemmas.Bool.{cond_both, and_from, ne_eqb, eqb-true}
use Rattle.std.proofs.lemmas.List.{take-append-drop}
use Rattle.std.proofs.lemmas.Result.{IfOk-at_ok, IfOk-weaker}
use Rattle.directory_links.specs.Prelude.{AttributeValue, Attribute, Link, plus, run_of, is_name_char, is_token_char}
use Rattle.directory_links.specs.Prelude.{is_target_char, is_quoted_char, name_at, token_at, quoted_length, quoted_at}
use Rattle.directory_links.specs.Prelude.{given_at, extended_at, value_at, attribute_at, attributes_within}
use Rattle.directory_links.specs.Prelude.{attributes_at, after_target, target_at, link_at, next_link_at, links_after}
use Rattle.directory_links.specs.Prelude.{links_within, some_links, links_of, is_run, is_quoted_text, is_value}
use Rattle.directory_links.specs.Prelude.{is_attribute, is_link, value_text, attribute_text, attributes_text, link_text}
use Rattle.directory_links.specs.Prelude.{more_links_text, Writes}
use Rattle.directory_links.proofs.ReadingSteps.{IsRead, bind_holds, byte_holds}

one_add : (n : ℕ) → 1 + n ≡ suc n
one_add n = omega arith

-- ---- runs

all_prefix : (p : ℕ → Bool) (s : List ℕ) → list_all p (take (prefix_len p s) s) ≡ true
all_prefix p [] = refl
all_prefix p (b ∷ s) =
    cond_both (p b) (1 + prefix_len p s) 0 (λ n. list_all p (take n (b ∷ s)) ≡ true)
    (λ e. rw one_add (and_from (p b) _ e (all_prefix p s))) (λ e. refl)

run_read : (p : ℕ → Bool) (s : List ℕ) → IfOk (run_of (prefix_len p s) s) (IsRead (is_run p) (λ t. t) s)
run_read p [] = tt
run_read p (b ∷ s) =
    cond_both (p b) (1 + prefix_len p s) 0 (λ n. IfOk (run_of n (b ∷ s)) (IsRead (is_run p) (λ t. t) (b ∷ s)))
    (λ e. rw (one_add, ne_eqb (suc (prefix_len p s)) 0 (λ z. absurd (omega arith)))
    (and_from (p b) _ e (all_prefix p s), rw take-append-drop)) (λ e. tt)

-- ---- quoted strings

-- The first `n` bytes can be between the quotes, and a quote follows them.
abbrev IsQuoted : Bool → List ℕ → ℕ → Type 0
IsQuoted e s n = (is_quoted_text e (take n s) ≡ true) × (take n s ++ 34 ∷ drop (n + 1) s ≡ s)

-- One more byte.
quoted_more : (e f : Bool) (b : ℕ) (s : List ℕ)
    → ((q : List ℕ) → is_quoted_text f q ≡ true → is_quoted_text e (b ∷ q) ≡ true)
    → (r : Result ℕ ℕ) → IfOk r (IsQuoted f s) → IfOk (plus 1 r) (IsQuoted e (b ∷ s))
quoted_more e f b s step (Ok m) h =
    let after : suc m + 1 ≡ suc (m + 1) = omega arith in
    rw (one_add, after) (step (take m s) h.0, rw h.1)
quoted_more e f b s step (Err d) h = tt

quoted_read : (e : Bool) (s : List ℕ) → IfOk (quoted_length e s) (IsQuoted e s)
unfolding quoted_length is_quoted_text
quoted_read e [] = tt
quoted_read true (b ∷ s) =
    cond_both (is_quoted_char b) _ _ (λ (r : Result ℕ ℕ). IfOk r (IsQuoted true (b ∷ s)))
    (λ c. quoted_more true false b s (λ q h. rw c h) _ (quoted_read false s)) (λ c. tt)
quoted_read false (b ∷ s) =
    let Read : Result ℕ ℕ → Type 0 = λ r. IfOk r (IsQuoted false (b ∷ s)) in
    cond_both (is_quoted_char b) _ _ Read
    (λ c. cond_both (eqb b 34) _ _ Read (λ q. (refl, rw (eqb-true b 34 q)))
    (λ q. quoted_more false (eqb b 92) b s (λ t h. rw (c, q) h) _ (quoted_read (eqb b 92) s)))
    (λ c. tt)

-- ---- attributes

abbrev IsValueRead : List ℕ → AttributeValue × List ℕ → Type 0
IsValueRead s x = IsRead is_value value_text s x

quoted_value_read : (s : List ℕ) → IfOk (quoted_at s) (IsValueRead (61 ∷ 34 ∷ s))
unfolding quoted_at
quoted_value_read s =
    bind_holds (IsQuoted false s) _ (quoted_length false s) _ (quoted_read false s)
    (λ n h. (h.0, simp (append_assoc, h.1)))

given_read : (s : List ℕ) → IfOk (given_at s) (IsValueRead (61 ∷ s))
unfolding given_at token_at
given_read [] = tt
given_read (b ∷ s) =
    byte_holds (λ t. IsValueRead (61 ∷ t)) 34 b s _ _ (quoted_value_read s)
    (bind_holds _ _ (token_at (b ∷ s)) _ (run_read is_token_char (b ∷ s)) (λ t h. (h.0, rw h.1)))

extended_read : (s : List ℕ) → IfOk (extended_at s) (IsValueRead (42 ∷ s))
unfolding extended_at token_at
extended_read [] = tt
extended_read (b ∷ s) =
    byte_holds (λ t. IsValueRead (42 ∷ t)) 61 b s _ _
    (bind_holds _ _ (token_at s) _ (run_read is_token_char s) (λ t h. (h.0, rw h.1))) tt

value_read : (s : List ℕ) → IfOk (value_at s) (IsValueRead s)
unfolding value_at
value_read [] = (refl, refl)
value_read (b ∷ s) =
    byte_holds IsValueRead 42 b s _ _ (extended_read s)
    (byte_holds IsValueRead 61 b s _ _ (given_read s) (refl, refl))

pub attribute_read : (s : List ℕ) → IfOk (attribute_at s) (IsRead is_attribute attribute_text s)
unfolding attribute_at name_at
attribute_read s =
    bind_holds _ _ (name_at s) _ (run_read is_name_char s) (λ n h.
    bind_holds _ _ (value_at n.1) _ (value_read n.1) (λ v k.
    (and_from _ _ h.0 k.0, rw (append_assoc n.0 (value_text v.0) v.1, k.1, h.1))))

abbrev pub AreAttributesRead : List ℕ → List Attribute × List ℕ → Type 0
AreAttributesRead s x = IsRead (list_all is_attribute) attributes_text s x

within_read : (turns : ℕ) (s : List ℕ) → IfOk (attributes_within turns s) (AreAttributesRead s)
unfolding attributes_within attributes_text
within_read turns [] = (refl, refl)
within_read zero (b ∷ s) = (refl, refl)
within_read (suc turns) (b ∷ s) =
    byte_holds AreAttributesRead 59 b s _ _
    (bind_holds _ _ (attribute_at s) _ (attribute_read s) (λ a h.
    bind_holds _ _ (attributes_within turns a.1) _ (within_read turns a.1) (λ x k.
    (and_from _ _ h.0 k.0, rw (append_assoc (attribute_text a.0) (attributes_text x.0) x.1, k.1, h.1)))))
    (refl, refl)

pub all_attributes_read : (s : List ℕ) → IfOk (attributes_at s) (AreAttributesRead s)
unfolding attributes_at
all_attributes_read s = within_read (length s) s

-- ---- links

after_target_read : (s : List ℕ) → IfOk (after_target s) (λ t. 62 ∷ t ≡ s)
unfolding after_target
after_target_read [] = tt
after_target_read (b ∷ s) = byte_holds (λ u t. 62 ∷ t ≡ u) 62 b s _ _ refl tt

abbrev IsTargetRead : List ℕ → List ℕ × List ℕ → Type 0
IsTargetRead s x = (list_all is_target_char x.0 ≡ true) × (60 ∷ x.0 ++ 62 ∷ x.1 ≡ s)

target_read : (s : List ℕ) → IfOk (target_at s) (IsTargetRead s)
unfolding target_at
target_read [] = tt
target_read (b ∷ s) =
    let n = prefix_len is_target_char s in
    byte_holds IsTargetRead 60 b s _ _
    (bind_holds _ _ (after_target (drop n s)) _ (after_target_read (drop n s)) (λ t h.
    (all_prefix is_target_char s, rw (h, take-append-drop n s)))) tt

pub link_read : (s : List ℕ) → IfOk (link_at s) (IsRead is_link link_text s)
unfolding link_at
link_read s =
    bind_holds _ _ (target_at s) _ (target_read s) (λ t h.
    bind_holds _ _ (attributes_at t.1) _ (all_attributes_read t.1) (λ a k.
    (and_from _ _ h.0 k.0, rw (append_assoc (60 ∷ t.0) (62 ∷ attributes_text a.0) a.1, k.1, h.1))))

-- The text after a link.
abbrev pub IsNext : List ℕ → Option (List ℕ) → Type 0
IsNext s None = s ≡ []
IsNext s (Some t) = s ≡ 44 ∷ t

pub next_read : (s : List ℕ) → IfOk (next_link_at s) (IsNext s)
unfolding next_link_at
next_read [] = refl
next_read (b ∷ s) = byte_holds IsNext 44 b s _ _ refl tt

-- The text writes the links, each after a comma.
abbrev AreLinksRead : List ℕ → List Link → Type 0
AreLinksRead s ls = (list_all is_link ls ≡ true) × (more_links_text ls ≡ s)

links_after_read : (read : List ℕ → Result (List Link) ℕ) → ((t : List ℕ) → IfOk (read t) (AreLinksRead (44 ∷ t)))
    → (s : List ℕ) (next : Option (List ℕ)) → IsNext s next → IfOk (links_after read next) (AreLinksRead s)
unfolding more_links_text
links_after_read read h s None is = (refl, sym is)
links_after_read read h s (Some t) is = rw is (h t)

links_within_read : (turns : ℕ) (s : List ℕ) → IfOk (links_within turns s) (AreLinksRead (44 ∷ s))
unfolding links_within more_links_text
links_within_read zero s = tt
links_within_read (suc turns) s =
    bind_holds _ _ (link_at s) _ (link_read s) (λ l h.
    bind_holds _ _ (next_link_at l.1) _ (next_read l.1) (λ o is.
    bind_holds _ _ (links_after (λ t. links_within turns t) o) _
    (links_after_read _ (links_within_read turns) l.1 o is) (λ ls k.
    (and_from _ _ h.0 k.0, rw (k.1, h.1)))))

written : (s : List ℕ) (ls : List Link) → AreLinksRead (44 ∷ s) ls → Writes s ls
unfolding more_links_text
written s [] h = absurd (cc (h.1))
written s (l ∷ ls) h = record { each = h.0; text = cc (h.1) }

links_of_read : (s : List ℕ) → IfOk (links_of s) (Writes s)
unfolding links_of some_links
links_of_read [] = record { each = refl; text = refl }
links_of_read (b ∷ s) = IfOk-weaker _ _ _ (written (b ∷ s)) (links_within_read (length (b ∷ s) + 1) (b ∷ s))

-- The links that a text is read as are those that it writes.
pub links_sound : (s : List ℕ) (links : List Link) → links_of s ≡ Ok links → Writes s links
links_sound s links e = IfOk-at_ok (Writes s) e (links_of_read s)
