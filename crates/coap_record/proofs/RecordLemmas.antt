-- The text of a record, call by call.
use Rattle.std.proofs.Common.{◌≡◌, ℕ, Bool, true, false, List, [], ◌∷◌, ◌++◌, Option, Some, None, Result, Ok, Err, refl}
use Rattle.std.proofs.Common.{All, sym, ap, ◌∙◌, not, append_assoc, append-nil, is_err, ◌||◌, OnOk, OnErr}
use Rattle.std.proofs.lemmas.List.Elements.{All-cons, All-head, All-nil, All-push, All-tail}
use Rattle.coap_record.specs.Prelude.{append_known, AcceptedCall, line_of, lines_of, HasLines, HasPart, IsRecordOf}
use Rattle.coap_record.specs.Prelude.{IsInRange, IsRecordable, WritesText, WritesUpTo, AddsBytes, WritesPart}
use Rattle.coap_record.specs.Prelude.{HasFirstLines}
use Rattle.coap_record.proofs.WriteLemmas.{buffer_goes_on}

-- The lines of calls and of one more call.
lines_and_one : (cs : List AcceptedCall) (c : AcceptedCall) → lines_of (cs ++ c ∷ []) ≡ lines_of cs ++ line_of c
unfolding lines_of
lines_and_one [] c = append-nil (line_of c)
lines_and_one (d ∷ ds) c = rw (lines_and_one ds c, append_assoc)

text_and_one : (header : List ℕ) (cs : List AcceptedCall) (c : AcceptedCall) (text : List ℕ)
    → text ≡ header ++ lines_of cs → header ++ lines_of (cs ++ c ∷ []) ≡ text ++ line_of c
text_and_one header cs c text is = rw (lines_and_one cs c, is, append_assoc)

-- ---- the text of a record

-- A record with the lines of all calls, which may have ended at its limit.
whole_or_full : (header text : List ℕ) (cs : List AcceptedCall) (full : Bool) → HasLines header text cs
    → IsRecordOf header false full (Some text) cs
whole_or_full header text cs false has = has
whole_or_full header text cs true has = record { front = cs; later = []; all = sym (append-nil cs); lines = has }

-- The text of each record is such a prefix.
first_part : (header text : List ℕ) (cs : List AcceptedCall) → HasFirstLines header text cs → HasPart header text cs
first_part header text cs is = record {
  front = is.front;
  later = is.later;
  all = is.all;
  missing = [];
  lines = rw append-nil (sym is.lines.0);
  ranges = is.lines.1;
}

pub any_part : (header text : List ℕ) (cs : List AcceptedCall) (failed full : Bool)
    → IsRecordOf header failed full (Some text) cs → HasPart header text cs
any_part header text cs false false is =
    first_part header text cs (record { front = cs; later = []; all = rw append-nil; lines = is })
any_part header text cs false true is = first_part header text cs is
any_part header text cs true full is = is

-- A record that has ended is one of any further calls.
ended_goes_on : (header : List ℕ) (failed full : Bool) (x : Option (List ℕ)) → (failed || full) ≡ true
    → (cs more : List AcceptedCall) → IsRecordOf header failed full x cs → IsRecordOf header failed full x (cs ++ more)
ended_goes_on header failed full None ended cs more is = absurd is
ended_goes_on header false false (Some text) ended cs more is = absurd cc
ended_goes_on header false true (Some text) ended cs more is = record {
  front = is.front;
  later = is.later ++ more;
  all = ap (λ ds. ds ++ more) is.all ∙ append_assoc is.front is.later more;
  lines = is.lines;
}
ended_goes_on header true full (Some text) ended cs more is = record {
  front = is.front;
  later = is.later ++ more;
  all = ap (λ ds. ds ++ more) is.all ∙ append_assoc is.front is.later more;
  missing = is.missing;
  lines = is.lines;
  ranges = is.ranges;
}

-- The values of recordable calls are in range.
pub are_in_range : (cs : List AcceptedCall) → All IsRecordable cs → All IsInRange cs
are_in_range [] are = All-nil IsInRange
are_in_range (c ∷ cs) are =
    All-cons IsInRange c cs (All-head IsRecordable c cs are).0 (are_in_range cs (All-tail IsRecordable c cs are))

-- ---- calls of a recorder

-- No byte was written yet.
pub record_begins : (failed full : Bool) (x : Option (List ℕ)) → x ≡ Some [] → IsRecordOf [] failed full x []
unfolding lines_of
record_begins false full x none = rw none (whole_or_full [] [] [] full (refl, All-nil IsRecordable))
record_begins true full x none = rw none (any_part [] [] [] false false (refl, All-nil IsRecordable))

-- The line of a call was written, or a part of it if the write failed.
pub record_goes_on : {T E : Type 0} (header : List ℕ) (cs : List AcceptedCall) (c : AcceptedCall)
    (failed full fails is_full : Bool) (x y : Option (List ℕ)) (r : Result T E)
    → (failed || full) ≡ false → IsRecordable c → WritesText x y (line_of c) r → fails ≡ is_err r
    → IsRecordOf header failed full x cs → IsRecordOf header fails is_full y (cs ++ c ∷ [])
record_goes_on header cs c true full fails is_full x y r works small wrote err is = absurd cc
record_goes_on header cs c false true fails is_full x y r works small wrote err is = absurd cc
record_goes_on header cs c false false fails is_full None y r works small wrote err is = absurd is
record_goes_on header cs c false false fails is_full (Some text) y (Ok v) works small wrote err is =
    rw (err, wrote) (whole_or_full header (text ++ line_of c) (cs ++ c ∷ []) is_full
    (sym (text_and_one header cs c text is.0), All-push IsRecordable cs c is.1 small))
record_goes_on header cs c false false fails is_full (Some text) y (Err e) works small wrote err is =
    rw (err, wrote.4) (record {
      front = cs ++ c ∷ [];
      later = [];
      all = rw append-nil;
      missing = wrote.1;
      lines = text_and_one header cs c text is.0 ∙ rw (wrote.3, append_assoc);
      ranges = All-push IsRecordable cs c is.1 small;
    })

-- The record had ended before a further call.
pub record_stays : (header : List ℕ) (cs : List AcceptedCall) (c : AcceptedCall) (failed full : Bool)
    (x : Option (List ℕ)) → (failed || full) ≡ true → IsRecordOf header failed full x cs
    → IsRecordOf header failed full x (cs ++ c ∷ [])
record_stays header cs c failed full x ended is = ended_goes_on header failed full x ended cs (c ∷ []) is

-- The recorder ignores further calls.
pub record_ignores : (failed full : Bool) (x : Option (List ℕ)) → not (failed || full) ≡ false
    → (more : List AcceptedCall) (header : List ℕ) (cs : List AcceptedCall) → IsRecordOf header failed full x cs
    → IsRecordOf header failed full x (cs ++ more)
record_ignores true full x over more header cs is = ended_goes_on header true full x refl cs more is
record_ignores false true x over more header cs is = ended_goes_on header false true x refl cs more is
record_ignores false false x over more header cs is = absurd cc

-- Bytes of the queue were passed on. A write may have failed.
pub record_flushed : (header : List ℕ) (cs : List AcceptedCall) (failed fails full : Bool)
    (x y : Option (List ℕ)) (queued left : List ℕ)
    → failed ≡ false → WritesUpTo queued left x y → IsRecordOf header failed full (append_known x queued) cs
    → IsRecordOf header fails full (append_known y left) cs
record_flushed header cs true fails full x y queued left works moved is = absurd cc
record_flushed header cs false fails full None y queued left works moved is = absurd is
record_flushed header cs false fails full (Some w) y queued left works moved is =
    let same = buffer_goes_on (Some w) y queued left [] left moved (rw append-nil) in
    rw (same, append-nil) (may_fail (w ++ queued) fails is)
  where
    may_fail : (text : List ℕ) (fails : Bool) → IsRecordOf header false full (Some text) cs
        → IsRecordOf header fails full (Some text) cs
    may_fail text false is = is
    may_fail text true is = any_part header text cs false full is

-- ---- the header

-- The first of no calls.
no_front : (front later : List AcceptedCall) → [] ≡ front ++ later → front ≡ []
no_front [] later all = refl
no_front (c ∷ cs) later all = absurd cc

-- A record without calls has its header alone.
header_alone : (header text : List ℕ) (full : Bool) → IsRecordOf header false full (Some text) [] → text ≡ header
unfolding lines_of
header_alone header text false is = is.0 ∙ append-nil header
header_alone header text true is =
    is.lines.0 ∙ ap (λ ds. header ++ lines_of ds) (no_front is.front is.later is.all) ∙ append-nil header

-- A prefix of a header alone.
header_part : (header text missing : List ℕ) → header ≡ text ++ missing → HasPart header text []
unfolding lines_of
header_part header text missing is = record {
  front = [];
  later = [];
  all = refl;
  missing = missing;
  lines = append-nil header ∙ is;
  ranges = All-nil IsRecordable;
}

-- A text was written after another one, or a part of it if the write failed.
pub header_written : {T E : Type 0} (header text : List ℕ) (failed full fails is_full : Bool)
    (x y : Option (List ℕ)) (r : Result T E)
    → failed ≡ false → OnOk r (AddsBytes x y text) → OnErr r (WritesPart x y text) → fails ≡ is_err r
    → IsRecordOf header failed full x [] → IsRecordOf (header ++ text) fails is_full y []
unfolding lines_of
header_written header text true full fails is_full x y r works all part err is = absurd cc
header_written header text false full fails is_full None y r works all part err is = absurd is
header_written header text false full fails is_full (Some w) y (Ok v) works all part err is =
    rw (err, all) (whole_or_full (header ++ text) (w ++ text) [] is_full
    (rw (header_alone header w full is, append-nil), All-nil IsRecordable))
header_written header text false full fails is_full (Some w) y (Err e) works all part err is =
    rw (err, part.4)
    (header_part (header ++ text) (w ++ part.0) part.1
    (rw (← header_alone header w full is, part.3, append_assoc)))

-- A write had failed before a further text.
pub header_stays : (header text : List ℕ) (failed full : Bool) (x : Option (List ℕ)) → failed ≡ true
    → IsRecordOf header failed full x [] → IsRecordOf (header ++ text) failed full x []
unfolding lines_of
header_stays header text false full x ended is = absurd cc
header_stays header text true full None ended is = absurd is
header_stays header text true full (Some w) ended is =
    let same = rw (no_front is.front is.later is.all, append-nil) at is.lines in
    header_part (header ++ text) w (is.missing ++ text) (ap (λ t. t ++ text) same ∙ append_assoc w is.missing text)
