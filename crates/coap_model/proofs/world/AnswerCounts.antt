-- For each token, as many responses are queued or pending as requests with it were handled. For each Pong with Custody
-- a Ping was handled, in the same order. The counts, and consequences of these statements.
use Rattle.std.proofs.Common.{Bool, IfSome, List, None, Option, Some, [], ap, append_assoc, arith, cond, false, filter}
use Rattle.std.proofs.Common.{inl, inr, map, refl, rules, subst, sym, true, ℕ, ◌++◌, ◌+◌, ◌∙◌, ◌∷◌, ◌≡◌, ◌≤◌}
use Rattle.std.proofs.lemmas.Bool.{cases_Bool}
use Rattle.std.proofs.lemmas.List.{append-nil}
use Rattle.std.proofs.lemmas.Option.{IfSome_then}
use lib.Pointwise.{bytes_decides}
use Rattle.coap_model.specs.Prelude.{AllByRecursion, Answer, CorrespondTo, HasResponse, HaveDistinctAnswers, Message}
use Rattle.coap_model.specs.Prelude.{PendingEntryValue, Pong, asks_pong, asks_with, awaits, is_asking, is_custody_pong}
use Rattle.coap_model.specs.Prelude.{responds, same_bytes}
use Rattle.coap_conn.proofs.ReactionLaws.{IsNoPong}
use Rattle.coap_model.proofs.world.CustodyLaws.{stand_append, stand_apart}

-- ---- counts

abbrev pub one : Bool → ℕ
one true = 1
one false = 0

abbrev pub count : {A : Type 0} → (A → Bool) → List A → ℕ
count p [] = 0
count p (x ∷ xs) = one (p x) + count p xs

pub count_more : {A : Type 0} (p : A → Bool) (xs ys : List A) → count p (xs ++ ys) ≡ count p xs + count p ys
count_more p [] ys = omega arith
count_more p (x ∷ xs) ys = omega (arith, count_more p xs ys)

-- A number for each token.
abbrev pub Tally : Type 0
Tally = List ℕ → ℕ

abbrev pub AtMost : Tally → Tally → Type 0
AtMost n k = (token : List ℕ) → n token ≤ k token

abbrev pub plus : Tally → Tally → Tally
plus n k token = n token + k token

-- Requests, responses and delayed responses with a token.
abbrev pub requests : List Message → Tally
requests ms token = count (asks_with token) ms

abbrev pub responses : List Message → Tally
responses ms token = count (responds token) ms

abbrev pub pending_count : List PendingEntryValue → Tally
pending_count es token = count (awaits token) es

-- ---- Pongs that were asked for

-- Messages that asked for the first Pongs in order asked for the second ones.
abbrev pub Covers : List PendingEntryValue → List PendingEntryValue → Type 0
Covers ps qs = (ms : List Message) → CorrespondTo None ms ps → CorrespondTo None ms qs

covers_more : (ps qs rs : List PendingEntryValue) → Covers ps qs → Covers (ps ++ rs) (qs ++ rs)
covers_more ps qs rs covers ms stand = grind (arith, stand_apart, stand_append)

covers_first : (ps qs : List PendingEntryValue) → Covers (ps ++ qs) ps
unfolding CorrespondTo
covers_first ps qs ms stand =
    let apart = stand_apart None ms ps qs stand in
    subst (CorrespondTo None ms) (append-nil ps) (grind (arith, stand_append))

-- ---- a Ping that was handled

-- A Ping that asks for this Pong was handled. For each token, at most n requests were handled before it. Other Pings
-- before it asked for these Pongs.
pub record FollowsPing (ms : List Message) (n : Tally) (pongs : List PendingEntryValue) (token : List ℕ) : Type 0 where
  pub earlier : List Message
  pub ping : Message
  pub later : List Message
  pub there : ms ≡ earlier ++ ping ∷ later
  pub asks : asks_pong ping token ≡ true
  pub own : CorrespondTo None earlier pongs
  pub few : AtMost (requests earlier) n

still_follows : (ms more ns : List Message) (n k : Tally) (ps qs : List PendingEntryValue) → ns ≡ ms ++ more
    → AtMost n k → Covers ps qs → (token : List ℕ) → FollowsPing ms n ps token → FollowsPing ns k qs token
still_follows ms more ns n k ps qs grown grows covers token is = record {
  earlier = is.earlier;
  ping = is.ping;
  later = is.later ++ more;
  there = grown ∙ ap (λ xs. xs ++ more) is.there ∙ append_assoc is.earlier (is.ping ∷ is.later) more;
  asks = is.asks;
  own = covers is.earlier is.own;
  few = λ t. omega (arith, is.few t, grows t);
}

-- ---- items in a row

-- Items in a row. `pong` is the token of an item that is a Pong with Custody. `counts` says which items are, or will
-- be, a response with a token.
pub record RowOf (A : Type 0) : Type 0 where
  pub pong : A → Option (List ℕ)
  pub counts : List ℕ → A → Bool

-- The queued messages.
abbrev pub queue : RowOf Message
queue = record { pong = λ q. cond (is_custody_pong q) (Some q.token) None; counts = responds }

-- The pending entries.
abbrev pub pong_token : PendingEntryValue → Option (List ℕ)
pong_token (Answer by token moment) = None
pong_token (Pong token) = Some token

abbrev pub pending : RowOf PendingEntryValue
pending = record { pong = pong_token; counts = awaits }

-- The entry of a Pong, if there is one.
abbrev pub pong_entry : Option (List ℕ) → List PendingEntryValue
pong_entry None = []
pong_entry (Some token) = Pong token ∷ []

one_asked : (ms : List Message) (n : Tally) (ps : List PendingEntryValue) (pong : Option (List ℕ))
    → IfSome pong (FollowsPing ms n ps) → CorrespondTo None ms ps → CorrespondTo None ms (ps ++ pong_entry pong)
unfolding CorrespondTo
one_asked ms n ps None is stand = subst (CorrespondTo None ms) (sym (append-nil ps)) stand
one_asked ms n ps (Some token) is stand = grind (arith, stand_append, is.earlier, is.own)

module _ {A : Type 0} (row : RowOf A) where
  abbrev tally_of : List A → Tally
  tally_of xs token = count (row.counts token) xs

  -- These Pongs, and those among the items.
  abbrev pub pongs_after : List PendingEntryValue → List A → List PendingEntryValue
  pongs_after ps [] = ps
  pongs_after ps (x ∷ xs) = pongs_after (ps ++ pong_entry (row.pong x)) xs

  pub pongs_more : (ps : List PendingEntryValue) (xs ys : List A)
      → pongs_after ps (xs ++ ys) ≡ pongs_after (pongs_after ps xs) ys
  pongs_more ps [] ys = refl
  pongs_more ps (x ∷ xs) ys = pongs_more (ps ++ pong_entry (row.pong x)) xs ys

  -- Each Pong with Custody follows the responses to the requests before its Ping, if n responses come before the first
  -- of these items. It follows the Pongs of earlier Pings, if these Pongs come before the first item.
  abbrev pub AllFollow : List Message → Tally → List PendingEntryValue → List A → Type 0
  AllFollow ms n ps [] = Unit {0}
  AllFollow ms n ps (x ∷ xs) =
      IfSome (row.pong x) (FollowsPing ms n ps)
      × AllFollow ms (plus n (tally_of (x ∷ []))) (ps ++ pong_entry (row.pong x)) xs

  pub follow_longer : (ms more ns : List Message) (n k : Tally) (ps qs : List PendingEntryValue) (xs : List A)
      → ns ≡ ms ++ more → AtMost n k → Covers ps qs → AllFollow ms n ps xs → AllFollow ns k qs xs
  follow_longer ms more ns n k ps qs [] grown grows covers is = tt
  follow_longer ms more ns n k ps qs (x ∷ xs) grown grows covers is = (
    IfSome_then (row.pong x) is.0 (still_follows ms more ns n k ps qs grown grows covers),
    follow_longer ms more ns (plus n (tally_of (x ∷ []))) (plus k (tally_of (x ∷ []))) (ps ++ pong_entry (row.pong x))
        (qs ++ pong_entry (row.pong x)) xs grown (λ t. omega (arith, grows t))
        (covers_more ps qs (pong_entry (row.pong x)) covers) is.1,
  )

  -- The same without a further message.
  pub follow_grows : (ms : List Message) (n k : Tally) (ps : List PendingEntryValue) (xs : List A) → AtMost n k
      → AllFollow ms n ps xs → AllFollow ms k ps xs
  follow_grows ms n k ps xs grows =
      follow_longer ms [] ms n k ps ps xs (sym (append-nil ms)) grows (λ ns stand. stand)

  -- The same for items after others.
  pub follow_then : (ms : List Message) (n k : Tally) (ps : List PendingEntryValue) (xs ys : List A)
      → AtMost k (plus n (tally_of xs)) → AllFollow ms n ps xs → AllFollow ms k (pongs_after ps xs) ys
      → AllFollow ms n ps (xs ++ ys)
  follow_then ms n k ps [] ys few is then = follow_grows ms k n ps ys (λ t. omega (arith, few t)) then
  follow_then ms n k ps (x ∷ xs) ys few is then = (
    is.0,
    follow_then ms (plus n (tally_of (x ∷ []))) k (ps ++ pong_entry (row.pong x)) xs ys (λ t. omega (arith, few t)) is.1
        then,
  )

  -- The same for one of the items.
  pub follow_at : (ms : List Message) (n k : Tally) (ps : List PendingEntryValue) (xs : List A) (y : A) (ys : List A)
      → AtMost (plus n (tally_of xs)) k → AllFollow ms n ps (xs ++ y ∷ ys)
      → IfSome (row.pong y) (FollowsPing ms k (pongs_after ps xs))
  follow_at ms n k ps [] y ys few is = (follow_grows ms n k ps (y ∷ []) (λ t. omega (arith, few t)) (is.0, tt)).0
  follow_at ms n k ps (x ∷ xs) y ys few is =
      follow_at ms (plus n (tally_of (x ∷ []))) k (ps ++ pong_entry (row.pong x)) xs y ys (λ t. omega (arith, few t))
      is.1

  -- The same without one item, which is now before the first.
  pub follow_without : (ms : List Message) (n k : Tally) (ps : List PendingEntryValue) (xs : List A) (y : A)
      (ys : List A) → AtMost (plus n (tally_of (y ∷ []))) k → AllFollow ms n ps (xs ++ y ∷ ys)
      → AllFollow ms k ps (xs ++ ys)
  follow_without ms n k ps [] y ys grows is =
      follow_longer ms [] ms (plus n (tally_of (y ∷ []))) k (ps ++ pong_entry (row.pong y)) ps ys (sym (append-nil ms))
      grows (covers_first ps (pong_entry (row.pong y))) is.1
  follow_without ms n k ps (x ∷ xs) y ys grows is = (
    (follow_grows ms n k ps (x ∷ []) (λ t. omega (arith, grows t)) (is.0, tt)).0,
    follow_without ms (plus n (tally_of (x ∷ []))) (plus k (tally_of (x ∷ []))) (ps ++ pong_entry (row.pong x)) xs y ys
        (λ t. omega (arith, grows t)) is.1,
  )

  -- So the messages asked for all these Pongs.
  pub all_asked : (ms : List Message) (n : Tally) (ps : List PendingEntryValue) (xs : List A) → AllFollow ms n ps xs
      → CorrespondTo None ms ps → CorrespondTo None ms (pongs_after ps xs)
  all_asked ms n ps [] is stand = stand
  all_asked ms n ps (x ∷ xs) is stand =
      all_asked ms (plus n (tally_of (x ∷ []))) (ps ++ pong_entry (row.pong x)) xs is.1
      (one_asked ms n ps (row.pong x) is.0 stand)

-- ---- Pongs among messages

-- The Pongs with Custody among queued messages.
abbrev pub pongs_in : List Message → List PendingEntryValue
pongs_in qs = pongs_after queue [] qs

pub pongs_are : (ps : List PendingEntryValue) (qs : List Message)
    → pongs_after queue ps qs ≡ ps ++ map (λ m. Pong m.token) (filter is_custody_pong qs)
pongs_are ps [] = sym (append-nil ps)
pongs_are ps (q ∷ qs) =
    elim (cases_Bool (is_custody_pong q)) [
      | inl is ↦ rw is (pongs_are (ps ++ Pong q.token ∷ []) qs ∙ append_assoc ps (Pong q.token ∷ []) _)
      | inr other ↦ rw (other, append-nil) (pongs_are ps qs)
    ]

-- Messages among which there is no such Pong.
pub pongs_none : (ps : List PendingEntryValue) (qs : List Message) → AllByRecursion IsNoPong qs
    → pongs_after queue ps qs ≡ ps
pongs_none ps [] others = refl
pongs_none ps (q ∷ qs) others = rw (others.0, append-nil) (pongs_none ps qs others.1)

pub pongs_other : (ms : List Message) (n : Tally) (ps : List PendingEntryValue) (qs : List Message)
    → AllByRecursion IsNoPong qs → AllFollow queue ms n ps qs
pongs_other ms n ps [] others = tt
pongs_other ms n ps (q ∷ qs) others =
    (rw others.0 tt, pongs_other ms (plus n (responses (q ∷ []))) (ps ++ pong_entry (queue.pong q)) qs others.1)

-- A message that is perhaps such a Pong.
pub pong_claim : (n : Message) (P : List ℕ → Type 0) → (is_custody_pong n ≡ true → P n.token)
    → IfSome (queue.pong n) P
pong_claim n P claim =
    elim (cases_Bool (is_custody_pong n)) [
      | inl is ↦ rw is (claim is)
      | inr other ↦ rw other tt
    ]

-- ---- distinct responses

-- The first response with a token, if there is one.
response_by : (token : List ℕ) (q : Message) (qs : List Message) (is : Bool) → responds token q ≡ is
    → 1 ≤ responses (q ∷ qs) token → (1 ≤ responses qs token → HasResponse token qs) → HasResponse token (q ∷ qs)
response_by token q qs true is some later =
    record { before = []; response = q; rest = qs; there = refl; responds_to = is }
response_by token q qs false is some later =
    let found = later (omega (arith, some, ap one is)) in
    record {
      before = q ∷ found.before;
      response = found.response;
      rest = found.rest;
      responds_to = found.responds_to;
      there = ap (λ (xs : List Message). q ∷ xs) found.there;
    }

response_found : (token : List ℕ) (qs : List Message) → 1 ≤ responses qs token → HasResponse token qs
response_found token [] some = absurd (omega (arith, some))
response_found token (q ∷ qs) some = response_by token q qs (responds token q) refl some (response_found token qs)

-- A response with one token has no other token.
one_token : (token other : List ℕ) (q : Message) → responds token q ≡ true
    → one (responds other q) ≡ one (same_bytes token other)
one_token token other q is = grind (arith, (bytes_decides q.token token).0)

-- Without that response, enough are left for the later requests.
own_rest : (m : Message) (ms qs : List Message) (place : HasResponse m.token qs) → is_asking m ≡ true
    → AtMost (requests (m ∷ ms)) (responses qs) → AtMost (requests ms) (responses (place.before ++ place.rest))
own_rest m ms qs place asks few t = grind (arith, few t, one_token m.token t, count_more (responds t))

own_first : (m : Message) (ms qs : List Message) → is_asking m ≡ true → AtMost (requests (m ∷ ms)) (responses qs)
    → HasResponse m.token qs
own_first m ms qs asks few = search (rules, response_found, bytes_decides)

pub own_answers : (ms qs : List Message) → AtMost (requests ms) (responses qs) → HaveDistinctAnswers ms qs
unfolding HaveDistinctAnswers
own_answers [] qs few = tt
own_answers (m ∷ ms) qs few =
    elim (cases_Bool (is_asking m)) [
      | inl asks ↦ let place = own_first m ms qs asks few in
          rw asks (place, own_answers ms (place.before ++ place.rest) (own_rest m ms qs place asks few))
      | inr other ↦ rw other (own_answers ms qs (λ t. omega (arith, few t)))
    ]
