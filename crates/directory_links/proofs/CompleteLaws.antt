-- The links that a text writes are read.
use Rattle.std.proofs.Common.{◌≡◌, ℕ, suc, ◌+◌, Bool, true, false, List, [], ◌∷◌, ◌++◌, length, Ok, eqb, refl}
use Rattle.std.proofs.Common.{arith, append_assoc}
use Rattle.std.specs.List.{prefix_len, list_all}
use Rattle.std.proofs.lemmas.Bool.{ne_eqb, and_parts}
use Rattle.std.proofs.lemmas.List.{take_at, drop_at, length_push}
use Rattle.directory_links.specs.Prelude.{AttributeValue, NoValue, ExtendedValue, TokenValue, QuotedValue, Attribute}
use Rattle.directory_links.specs.Prelude.{Link, run_of, is_name_char, is_token_char, is_target_char, name_at}
use Rattle.directory_links.specs.Prelude.{token_at, quoted_length, quoted_at, given_at, extended_at, value_at}
use Rattle.directory_links.specs.Prelude.{attribute_at, attributes_within, attributes_at, after_target, target_at}
use Rattle.directory_links.specs.Prelude.{link_at, next_link_at, some_links, links_of, is_run, is_quoted_text, is_value}
use Rattle.directory_links.specs.Prelude.{is_attribute, is_link, value_text, attribute_text, attributes_text, link_text}
use Rattle.directory_links.specs.Prelude.{more_links_text, links_text, Writes}
use Rattle.directory_links.proofs.AttributeSteps.{attributes_is}
use Rattle.directory_links.proofs.LinkSteps.{links_is}

-- ---- runs

prefix_run : (p : ℕ → Bool) (t r : List ℕ) → list_all p t ≡ true → prefix_len p r ≡ 0 → prefix_len p (t ++ r) ≡ length t
prefix_run p [] r all stop = stop
prefix_run p (b ∷ t) r all stop =
    let parts = and_parts (p b) (list_all p t) all in
    let rest = prefix_run p t r parts.1 stop in
    rw parts.0 (omega arith)

run_complete : (p : ℕ → Bool) (t r : List ℕ) → is_run p t ≡ true → prefix_len p r ≡ 0
    → run_of (prefix_len p (t ++ r)) (t ++ r) ≡ Ok (t, r)
run_complete p [] r some stop = absurd cc
run_complete p (b ∷ t) r some stop =
    rw (
      prefix_run p (b ∷ t) r some stop,
      ne_eqb (suc (length t)) 0 (λ z. absurd (omega arith)),
      take_at (b ∷ t) r (suc (length t)) refl,
      drop_at (b ∷ t) r (suc (length t)) refl,
    ) refl

name_complete : (t r : List ℕ) → is_run is_name_char t ≡ true → prefix_len is_name_char r ≡ 0
    → name_at (t ++ r) ≡ Ok (t, r)
unfolding name_at
name_complete t r some stop = run_complete is_name_char t r some stop

token_complete : (t r : List ℕ) → is_run is_token_char t ≡ true → prefix_len is_token_char r ≡ 0
    → token_at (t ++ r) ≡ Ok (t, r)
unfolding token_at
token_complete t r some stop = run_complete is_token_char t r some stop

-- ---- quoted strings

quoted_complete : (e : Bool) (q r : List ℕ) → is_quoted_text e q ≡ true
    → quoted_length e ((q ++ 34 ∷ []) ++ r) ≡ Ok (length q)
unfolding is_quoted_text quoted_length
quoted_complete true [] r h = absurd cc
quoted_complete false [] r h = refl
quoted_complete e (b ∷ q) r h = grind (arith, quoted_complete false q r, quoted_complete (eqb b 92) q r)

quoted_value_complete : (q r : List ℕ) → is_quoted_text false q ≡ true
    → quoted_at ((q ++ 34 ∷ []) ++ r) ≡ Ok (QuotedValue q, r)
unfolding quoted_at
quoted_value_complete q r h =
    rw (
      quoted_complete false q r h,
      drop_at (q ++ 34 ∷ []) r (length q + 1) (length_push q 34),
      append_assoc q (34 ∷ []) r,
      take_at q (34 ∷ r) (length q) refl,
    ) refl

-- ---- attributes

-- A text that can follow an attribute.
data Follows : List ℕ → Type 0 where
  AtEnd : Follows []
  AtSemicolon : (s : List ℕ) → Follows (59 ∷ s)
  AtComma : (s : List ℕ) → Follows (44 ∷ s)

follow_stops : (p : ℕ → Bool) → p 59 ≡ false → p 44 ≡ false → (r : List ℕ) → Follows r → prefix_len p r ≡ 0
follow_stops p x y _ AtEnd = refl
follow_stops p x y _ (AtSemicolon s) = rw x refl
follow_stops p x y _ (AtComma s) = rw y refl

token_stops : (r : List ℕ) → Follows r → prefix_len is_token_char r ≡ 0
unfolding is_token_char
token_stops r f = follow_stops is_token_char refl refl r f

no_value : (r : List ℕ) → Follows r → value_at r ≡ Ok (NoValue, r)
unfolding value_at
no_value _ AtEnd = refl
no_value _ (AtSemicolon s) = refl
no_value _ (AtComma s) = refl

-- A token does not begin with a quote.
no_quote : (b : ℕ) → is_token_char b ≡ true → eqb b 34 ≡ false
unfolding is_token_char
no_quote b h = ne_eqb b 34 (λ e. absurd (cc (rw e at h)))

value_complete : (v : AttributeValue) (r : List ℕ) → is_value v ≡ true → Follows r
    → value_at (value_text v ++ r) ≡ Ok (v, r)
unfolding value_at extended_at given_at
value_complete NoValue r some f = no_value r f
value_complete (ExtendedValue t) r some f = rw (token_complete t r some (token_stops r f)) refl
value_complete (TokenValue []) r some f = absurd cc
value_complete (TokenValue (b ∷ t)) r some f =
    rw (
      no_quote b (and_parts (is_token_char b) (list_all is_token_char t) some).0,
      token_complete (b ∷ t) r some (token_stops r f),
    ) refl
value_complete (QuotedValue q) r some f = quoted_value_complete q r some

-- No name goes on after a name.
name_stops : (v : AttributeValue) (r : List ℕ) → Follows r → prefix_len is_name_char (value_text v ++ r) ≡ 0
unfolding is_name_char
name_stops NoValue r f = follow_stops is_name_char refl refl r f
name_stops (ExtendedValue t) r f = refl
name_stops (TokenValue t) r f = refl
name_stops (QuotedValue q) r f = refl

attribute_complete : (a : Attribute) (r : List ℕ) → is_attribute a ≡ true → Follows r
    → attribute_at (attribute_text a ++ r) ≡ Ok (a, r)
unfolding attribute_at
attribute_complete a r some f =
    let p = and_parts (is_run is_name_char a.name) (is_value a.value) some in
    rw (
      append_assoc a.name (value_text a.value) r,
      name_complete a.name (value_text a.value ++ r) p.0 (name_stops a.value r f),
      value_complete a.value r p.1 f,
    ) refl

-- A text that can follow a link.
pub data Ends : List ℕ → Type 0 where
  End : Ends []
  Comma : (s : List ℕ) → Ends (44 ∷ s)

more_follows : (as1 : List Attribute) (r : List ℕ) → Ends r → Follows (attributes_text as1 ++ r)
unfolding attributes_text
more_follows [] _ End = AtEnd
more_follows [] _ (Comma s) = AtComma s
more_follows (a ∷ more) r f = AtSemicolon _

no_more : (r : List ℕ) → Ends r → attributes_at r ≡ Ok ([], r)
unfolding attributes_at attributes_within
no_more _ End = refl
no_more _ (Comma s) = refl

pub attributes_complete : (as1 : List Attribute) (r : List ℕ) → list_all is_attribute as1 ≡ true → Ends r
    → attributes_at (attributes_text as1 ++ r) ≡ Ok (as1, r)
unfolding attributes_text
attributes_complete [] r all f = no_more r f
attributes_complete (a ∷ more) r all f =
    let p = and_parts (is_attribute a) (list_all is_attribute more) all in
    rw (
      attributes_is,
      append_assoc (attribute_text a) (attributes_text more) r,
      attribute_complete a (attributes_text more ++ r) p.0 (more_follows more r f),
      attributes_complete more r p.1 f,
    ) refl

-- ---- links

target_complete : (t r : List ℕ) → list_all is_target_char t ≡ true → target_at (60 ∷ t ++ 62 ∷ r) ≡ Ok (t, r)
unfolding target_at after_target is_target_char
target_complete t r all =
    rw (
      prefix_run is_target_char t (62 ∷ r) all refl,
      take_at t (62 ∷ r) (length t) refl,
      drop_at t (62 ∷ r) (length t) refl,
    ) refl

link_complete : (l : Link) (r : List ℕ) → is_link l ≡ true → Ends r → link_at (link_text l ++ r) ≡ Ok (l, r)
unfolding link_at
link_complete l r some f =
    let p = and_parts (list_all is_target_char l.target) (list_all is_attribute l.attributes) some in
    rw (
      append_assoc (60 ∷ l.target) (62 ∷ attributes_text l.attributes) r,
      target_complete l.target (attributes_text l.attributes ++ r) p.0,
      attributes_complete l.attributes r p.1 f,
    ) refl

some_complete : (l : Link) (ls : List Link) → is_link l ≡ true → list_all is_link ls ≡ true
    → some_links (link_text l ++ more_links_text ls) ≡ Ok (l ∷ ls)
unfolding more_links_text next_link_at
some_complete l [] some all = rw (links_is, link_complete l [] some End) refl
some_complete l (m ∷ ls) some all =
    let p = and_parts (is_link m) (list_all is_link ls) all in
    rw (links_is, link_complete l (more_links_text (m ∷ ls)) some (Comma _), some_complete m ls p.0 p.1) refl

all_complete : (ls : List Link) → list_all is_link ls ≡ true → links_of (links_text ls) ≡ Ok ls
unfolding links_of
all_complete [] all = refl
all_complete (l ∷ ls) all =
    let p = and_parts (is_link l) (list_all is_link ls) all in
    some_complete l ls p.0 p.1

-- The links that a text writes are those that it is read as.
pub links_complete : (s : List ℕ) (ls : List Link) → Writes s ls → links_of s ≡ Ok ls
links_complete s ls w = rw (← w.text) (all_complete ls w.each)
