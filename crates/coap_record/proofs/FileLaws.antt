-- A file with a prefix of the bytes of a record replays the first calls.
use Rattle.std.proofs.Common.{◌≡◌, ℕ, Bool, true, false, List, [], ◌∷◌, ◌++◌, Some, refl, ap, ◌∙◌, inl, inr}
use Rattle.std.proofs.Common.{append_assoc, arith, All}
use Rattle.std.specs.Prelude.{◌==◌, if◌then◌else◌}
use Rattle.std.proofs.lemmas.Bool.Decides.{nat_tests}
use Rattle.coap_record.specs.Records.{byte_before}
use Rattle.coap_record.specs.Prelude.{AcceptedCall, AnnouncesNoSize, AreWholeLines, IsRecordOf, ReplaysTo, SaysNoEvent}
use Rattle.coap_record.specs.Prelude.{ServerValue, Shows, append_known, newline, server_of, whole_lines_in, with_turns}
use Rattle.coap_record.specs.Prelude.{writes_of}
use Rattle.coap_record.proofs.ReplayLaws.{part_replays}

-- The last line of a text, unless it ends with a newline.
one_line : (b : ℕ) (bytes : List ℕ) (ends : Bool) → (b == newline) ≡ ends
    → (part : List ℕ) × (b ∷ bytes ≡ (if ends then newline ∷ [] else []) ++ part)
    × AreWholeLines (if ends then newline ∷ [] else [])
one_line b bytes true is = let same : b ≡ newline = grind (arith, nat_tests) in (bytes, cc, inr ([], refl))
one_line b bytes false is = (b ∷ bytes, refl, inl refl)

line_before : (b : ℕ) (bytes lines part : List ℕ) → bytes ≡ lines ++ part → AreWholeLines lines
    → (left : List ℕ) × (b ∷ bytes ≡ byte_before b lines ++ left) × AreWholeLines (byte_before b lines)
line_before b bytes [] part same whole = one_line b bytes (b == newline) refl
line_before b bytes (c ∷ lines) part same (inl none) = absurd cc
line_before b bytes (c ∷ lines) part same (inr ending) =
    (part, ap (λ t. b ∷ t) same, inr (b ∷ ending.0, ap (λ t. b ∷ t) ending.1))

-- A text has its whole lines first.
begins_with_lines : (text : List ℕ)
    → (part : List ℕ) × (text ≡ whole_lines_in text ++ part) × AreWholeLines (whole_lines_in text)
begins_with_lines [] = ([], refl, inl refl)
begins_with_lines (b ∷ bytes) =
    let others = begins_with_lines bytes in
    line_before b bytes (whole_lines_in bytes) others.0 others.1 others.2

-- The file has a header and a text, and is a prefix of the bytes that were passed on.
pub file_replays : (v : ServerValue) (header passed queued file lost text : List ℕ) (cs : List AcceptedCall)
    (failed full : Bool) (turns : ℕ) → SaysNoEvent header
    → IsRecordOf header failed full (append_known (Some passed) queued) cs
    → passed ≡ file ++ lost → file ≡ header ++ text → Shows v cs → All AnnouncesNoSize cs
    → (front later : List AcceptedCall) × (cs ≡ front ++ later)
    × ReplaysTo (with_turns turns v.config) (header ++ whole_lines_in text)
    (server_of (with_turns turns v.config) front) (writes_of v.config [] front)
file_replays v header passed queued file lost text cs failed full turns silent is kept begins shows none =
    let lines = whole_lines_in text in
    let found = begins_with_lines text in
    let part = found.0 ++ (lost ++ queued) in
    let all : passed ++ queued ≡ header ++ (lines ++ part) =
    rw (kept, begins) (ap (λ t. ((header ++ t) ++ lost) ++ queued) found.1 ∙ simp append_assoc) in
    part_replays v header (passed ++ queued) lines part cs failed full turns silent is all found.2 shows none
