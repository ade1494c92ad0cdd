-- The search for the first connection that is due and has unwritten output.
use Rattle.std.proofs.Common.{◌≡◌, ◌≢◌, ◌⊎◌, inl, inr, ℕ, ◌+◌, ◌<◌, ◌≤◌, List, [], ◌∷◌, length, Some, None}
use Rattle.std.proofs.Common.{refl, sym, ap, ◌∙◌, arith}
use Rattle.std.proofs.lemmas.Bool.{cases_eq, cases_lt}
use Rattle.coap_server_engine.specs.Prelude.{IsOutside, LiesAt, ServerValue, bit_of, waiting_at}
use Rattle.coap_server_polled.specs.declared.polled_server.PolledServer.{PolledServer}
use Rattle.coap_server_polled.specs.Reports.{IsDue, Reports, Yields}
use Rattle.coap_server_polled.proofs.ReportLemmas.{key_at}

-- The connection at an index, if there is one, has no unwritten output.
abbrev IsQuietAt : ℕ → ServerValue → Type 0
IsQuietAt i v = (id : ℕ) → LiesAt id i v.sessions → waiting_at id v ≡ []

-- The search of `x` has come to an index, and has left `y`. No connection before the index is due. Those that are no
-- longer due have no unwritten output.
pub record IsSearched (x : PolledServer) (at : ℕ) (y : PolledServer) : Type 0 where
  pub within : at ≤ length x.engine.sessions
  pub engine : y.engine ≡ x.engine
  pub passed : (i : ℕ) → i < at → IsOutside y.due.words i
  pub found : at < length x.engine.sessions → at < 256 → bit_of y.due.words at ≡ 1
  pub kept : (i : ℕ) → IsOutside x.due.words i → IsOutside y.due.words i
  pub left : (i : ℕ) → IsOutside y.due.words i → IsOutside x.due.words i ⊎ IsQuietAt i x.engine

-- An index is removed from the set `y`, which gives the set `z`.
pub record IsRemoved (at : ℕ) (y z : List ℕ) : Type 0 where
  pub small : at < 256
  pub clear : at < 256 → bit_of z at ≡ 0
  pub others : (i : ℕ) → i ≢ at → bit_of z i ≡ bit_of y i

removed_at : (at : ℕ) (y z : List ℕ) → IsRemoved at y z → IsOutside z at
removed_at at y z removed = record { within = removed.small; bit = removed.clear removed.small }

still_outside : (at : ℕ) (y z : List ℕ) → IsRemoved at y z → (i : ℕ) → IsOutside y i → IsOutside z i
still_outside at y z removed i outside = elim (cases_eq i at) [
  | inl same ↦ rw same (removed_at at y z removed)
  | inr apart ↦ record { within = outside.within; bit = removed.others i apart ∙ outside.bit }
]

outside_before : (at : ℕ) (y z : List ℕ) → IsRemoved at y z → (i : ℕ) → i ≢ at → IsOutside z i → IsOutside y i
outside_before at y z removed i apart outside =
    record { within = outside.within; bit = sym (removed.others i apart) ∙ outside.bit }

-- Connections at the same index are one.
one_at_index : (id other at : ℕ) (v : ServerValue) → LiesAt id at v.sessions → LiesAt other at v.sessions
    → (id ≡ other) × (waiting_at other v ≡ waiting_at id v)
one_at_index id other at v one two =
    (cc (key_at id at v.sessions one, key_at other at v.sessions two), rw (one.found, two.found))

module _ (x y : PolledServer) (at id count : ℕ) (z : PolledServer) (so : IsSearched x at y)
    (within : at < length x.engine.sessions) (removed : IsRemoved at y.due.words z.due.words)
    (engine : z.engine ≡ y.engine) (lies : LiesAt id at y.engine.sessions)
    (counted : count ≡ length (waiting_at id y.engine)) where
  lies_first : LiesAt id at x.engine.sessions
  lies_first = rw so.engine at lies

  count_first : count ≡ length (waiting_at id x.engine)
  count_first = rw so.engine at counted

  -- The connection at the index has no unwritten output.
  pub search_continues : count ≤ 0 → (next : ℕ) → next ≤ length x.engine.sessions
      → ((i : ℕ) → at + 1 ≤ i → i < next → IsOutside z.due.words i)
      → (next < length x.engine.sessions → next < 256 → bit_of z.due.words next ≡ 1) → IsSearched x next z
  search_continues none next below between found =
      let empty : waiting_at id x.engine ≡ [] =
      no_length (waiting_at id x.engine) (omega (arith, none, count_first)) in
      record {
        within = below;
        engine = engine ∙ so.engine;
        passed =
            λ i less.
            elim (cases_lt i at) [
              | inl before ↦ still_outside at y.due.words z.due.words removed i (so.passed i before)
              | inr after ↦ elim (cases_eq i at) [
                | inl same ↦ rw same (removed_at at y.due.words z.due.words removed)
                | inr apart ↦ between i (omega (arith, after, apart)) less
              ]
            ];
        found = found;
        kept = λ i outside. still_outside at y.due.words z.due.words removed i (so.kept i outside);
        left =
            λ i outside.
            elim (cases_eq i at) [
              | inl same ↦ inr (λ other there.
                  (one_at_index id other at x.engine lies_first
                  (rw same at there)).1 ∙ empty)
              | inr apart ↦ so.left i (outside_before at y.due.words z.due.words removed i apart outside)
            ];
      }
    where
      no_length : (xs : List ℕ) → length xs ≤ 0 → xs ≡ []
      no_length [] few = refl
      no_length (b ∷ xs) few = absurd (omega (arith, few))

  -- The connection at the index is due in `x`.
  due_there : IsDue id x
  due_there = record {
    at = at;
    lies = lies_first;
    inside = λ outside. omega (arith, (so.kept at outside).bit, so.found within removed.small);
  }

  pub search_yields : 0 < count → Yields id x z
  unfolding due_there
  search_yields some = record {
    output = λ none. omega (arith, some, count_first, ap length none);
    due = due_there;
    reported = record {
      at = at;
      lies = rw engine lies;
      outside = removed_at at y.due.words z.due.words removed;
    };
    first =
        λ other i there less due.
        elim (so.left i (so.passed i less)) [
          | inl outside ↦ absurd (due.inside (rw (← due.lies.index, there.index) outside))
          | inr quiet ↦ quiet other there
        ];
  }

  pub search_reports : Reports (Some id) (Some x) (Some z)
  unfolding Reports
  search_reports other reported =
      let whole = engine ∙ so.engine in
      let there = rw whole at reported.lies in
      elim (cases_eq reported.at at) [
        | inl same ↦ inl (ap Some (one_at_index id other at x.engine lies_first
            (rw same at there)).0)
        | inr apart ↦
            elim (so.left reported.at (outside_before at y.due.words z.due.words removed reported.at apart
            reported.outside)) [
              | inl outside ↦ inr (inr (
                record { at = reported.at; lies = there; outside = outside },
                ap (waiting_at other) whole,
              ))
              | inr quiet ↦ inr (inl (ap (waiting_at other) whole ∙ quiet other there))
            ]
      ]

pub all_reported : (x y : PolledServer) (at : ℕ) → IsSearched x at y → Reports None (Some x) (Some y)
unfolding Reports
all_reported x y at so other reported =
    let there = rw so.engine at reported.lies in
    elim (so.left reported.at reported.outside) [
      | inl outside ↦ inr (inr (
        record { at = reported.at; lies = there; outside = outside },
        ap (waiting_at other) so.engine,
      ))
      | inr quiet ↦ inr (inl (ap (waiting_at other) so.engine ∙ quiet other there))
    ]
