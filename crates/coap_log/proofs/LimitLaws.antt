-- The number of lines in a second, and at the end of a log.
use Rattle.std.proofs.Common.{◌≡◌, ℕ, ◌+◌, ◌-◌, ◌<◌, ◌≤◌, ◌^◌, ◌==◌, true, false, List, [], ◌∷◌, arith, refl, ◌⊎◌, inl}
use Rattle.std.proofs.Common.{inr, if◌then◌else◌}
use Rattle.std.specs.List.{list_all}
use Rattle.std.proofs.lemmas.Bool.{and_parts}
use Rattle.std.proofs.lemmas.Bool.Decides.{nat_tests}
use Rattle.coap_log.specs.Limits.{fresh, report, after_report, missed, admission, after_admission, last_report}
use Rattle.coap_log.specs.Limits.{after_end, LimitCall, Admit, Report, End, Miss, after_call, lines_of_call, lines_of}
use Rattle.coap_log.specs.Limits.{lines_in, IsAt, AreAt, GoesForward, is_before_end, lost_by_call, reported_by_call}
use Rattle.coap_log.specs.Limits.{lost, reported, after_calls}
use Rattle.coap_log.specs.declared.limit.LineLimit.{LineLimit}
use Rattle.coap_log.specs.declared.limit.Admission.TheVariants.{Line}

-- The limit before and after a call that writes `n` lines.
record Step (l : LineLimit) (n : ℕ) (after : LineLimit) : Type 0 where
  pub same : after.second ≡ l.second → after.written ≡ l.written + n
  pub later : l.second < after.second → after.written ≡ n
  pub earlier : after.second < l.second → after.written ≡ n
  pub most : 1 ≤ n → after.written ≤ 100

of_call : (l : LineLimit) (call : LimitCall) → Step l (lines_of_call l call) (after_call l call)
unfolding report after_report missed admission after_admission last_report after_end
of_call l (Admit second) = record {
  same = grind (arith, nat_tests);
  later = grind (arith, nat_tests);
  earlier = grind (arith, nat_tests);
  most = grind (arith, nat_tests);
}
of_call l (Report second) = record {
  same = grind (arith, nat_tests);
  later = grind (arith, nat_tests);
  earlier = grind (arith, nat_tests);
  most = grind (arith, nat_tests);
}
of_call l (End second) = record {
  same = grind (arith, nat_tests);
  later = grind (arith, nat_tests);
  earlier = grind (arith, nat_tests);
  most = grind (arith, nat_tests);
}
of_call l (Miss count) =
    record { same = λ e. omega arith; later = λ e. omega arith; earlier = λ e. omega arith; most = λ e. omega arith }

-- ---- while the clock shows one second

-- The lines are limited by the room of the second, if it is the present one.
record BoundAt (second n : ℕ) (l : LineLimit) : Type 0 where
  pub all : n ≤ 100
  pub during : l.second ≡ second → n ≤ 100 - l.written

-- The present second after a call is that of the call, or that of before if it has no time.
present_second : (second : ℕ) (l : LineLimit) (call : LimitCall) → IsAt second call
    → ((after_call l call).second ≡ second) ⊎ ((lines_of_call l call ≡ 0) × ((after_call l call).second ≡ l.second))
unfolding report after_report missed admission after_admission last_report after_end
present_second second l (Admit at) is = inl (grind (arith, nat_tests, is))
present_second second l (Report at) is = inl (grind (arith, nat_tests, is))
present_second second l (End at) is = inl (grind (arith, nat_tests, is))
present_second second l (Miss count) is = inr (refl, refl)

at_step : (second more n : ℕ) (l after : LineLimit) → Step l n after
    → (after.second ≡ second) ⊎ ((n ≡ 0) × (after.second ≡ l.second)) → BoundAt second more after
    → BoundAt second (n + more) l
at_step second more n l after step (inl is) bound = record {
  all = grind (arith, nat_tests, step.most, bound.all, bound.during, is);
  during = grind (arith, nat_tests, step.same, step.most, bound.all, bound.during, is);
}
at_step second more n l after step (inr (none, is)) bound = record {
  all = omega (arith, none, bound.all);
  during = grind (arith, nat_tests, step.same, bound.during, none, is);
}

bounded_at : (second : ℕ) (l : LineLimit) (calls : List LimitCall) → AreAt second calls
    → BoundAt second (lines_of l calls) l
unfolding lines_of
bounded_at second l [] at = record { all = omega arith; during = λ e. omega arith }
bounded_at second l (call ∷ calls) at =
    at_step second (lines_of (after_call l call) calls) (lines_of_call l call) l (after_call l call) (of_call l call)
    (present_second second l call at.0) (bounded_at second (after_call l call) calls at.1)

pub limited_at : (second : ℕ) (l : LineLimit) (calls : List LimitCall) → AreAt second calls → lines_of l calls ≤ 100
limited_at second l calls at = (bounded_at second l calls at).all

-- ---- while the clock does not go back

-- The lines of a second are limited by its room: all lines before it begins, the rest of them while it lasts, none
-- after it.
record Bound (second n : ℕ) (l : LineLimit) : Type 0 where
  pub before : n ≤ 100
  pub during : l.second ≡ second → n ≤ 100 - l.written
  pub after : second < l.second → n ≡ 0

of_step : (second more n : ℕ) (l after : LineLimit) → Step l n after → l.second ≤ after.second → Bound second more after
    → Bound second ((if after.second == second then n else 0) + more) l
of_step second more n l after step grows bound = record {
  before = grind (arith, nat_tests, step.same, step.later, step.most, bound.before, bound.during, bound.after);
  during = grind (arith, nat_tests, step.same, step.later, step.most, bound.before, bound.during, bound.after);
  after = grind (arith, nat_tests, step.same, step.later, step.most, bound.before, bound.during, bound.after);
}

bounded : (second : ℕ) (l : LineLimit) (calls : List LimitCall) → GoesForward l calls
    → Bound second (lines_in second l calls) l
unfolding lines_in GoesForward
bounded second l [] forward = record { before = omega arith; during = λ e. omega arith; after = λ e. omega arith }
bounded second l (call ∷ calls) forward =
    of_step second (lines_in second (after_call l call) calls) (lines_of_call l call) l (after_call l call)
    (of_call l call) forward.0 (bounded second (after_call l call) calls forward.1)

pub limited : (second : ℕ) (l : LineLimit) (calls : List LimitCall) → GoesForward l calls
    → lines_in second l calls ≤ 100
limited second l calls forward = (bounded second l calls forward).before

-- ---- the end of a log

-- The limit has kept the lines of the end.
record IsOpen (l : LineLimit) : Type 0 where
  pub ending : l.is_ending ≡ false
  pub written : l.written ≤ 98

stays_open : (l : LineLimit) (call : LimitCall) → is_before_end call ≡ true → IsOpen l → IsOpen (after_call l call)
unfolding report after_report missed admission after_admission
stays_open l (Admit second) is so =
    record { ending = grind (arith, nat_tests, so.ending); written = grind (arith, nat_tests, so.ending, so.written) }
stays_open l (Report second) is so =
    record { ending = grind (arith, nat_tests, so.ending); written = grind (arith, nat_tests, so.ending, so.written) }
stays_open l (End second) is so = absurd cc
stays_open l (Miss count) is so = record { ending = so.ending; written = so.written }

open_after : (l : LineLimit) (calls : List LimitCall) → list_all is_before_end calls ≡ true → IsOpen l
    → IsOpen (after_calls l calls)
unfolding after_calls
open_after l [] all so = so
open_after l (call ∷ calls) all so =
    let parts = and_parts (is_before_end call) (list_all is_before_end calls) all in
    open_after (after_call l call) calls parts.1 (stays_open l call parts.0 so)

ending : (l : LineLimit) (end now : ℕ) → IsOpen l
    → ((after_end l end).left_out ≡ 0) × (admission (after_end l end) now ≡ Line)
unfolding report after_report admission after_admission last_report after_end
ending l end now so = (grind (arith, nat_tests, so.written), grind (arith, nat_tests, so.written))

pub last_line : (calls : List LimitCall) (end now : ℕ) → list_all is_before_end calls ≡ true
    → ((after_end (after_calls fresh calls) end).left_out ≡ 0)
    × (admission (after_end (after_calls fresh calls) end) now ≡ Line)
last_line calls end now before =
    ending (after_calls fresh calls) end now
    (open_after fresh calls before (record { ending = refl; written = omega arith }))

-- ---- the lines left out

call_counts : (l : LineLimit) (call : LimitCall) → l.left_out + lost_by_call l call < 2 ^ 64
    → reported_by_call l call + (after_call l call).left_out ≡ l.left_out + lost_by_call l call
unfolding report after_report missed admission after_admission last_report after_end
call_counts l (Admit second) few = grind (arith, nat_tests)
call_counts l (Report second) few = grind (arith, nat_tests)
call_counts l (End second) few = grind (arith, nat_tests)
call_counts l (Miss count) few = grind (arith, nat_tests)

pub counted : (l : LineLimit) (calls : List LimitCall) → l.left_out + lost l calls < 2 ^ 64
    → reported l calls + (after_calls l calls).left_out ≡ l.left_out + lost l calls
unfolding lost reported after_calls
counted l [] few = omega arith
counted l (call ∷ calls) few =
    let first = call_counts l call (omega (arith, few)) in
    let others = counted (after_call l call) calls (omega (arith, few, first)) in
    omega (arith, first, others)
