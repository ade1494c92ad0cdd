-- A write of a prefix of the queued bytes.
use Rattle.std.proofs.Common.{ℕ, ◌≤◌, List, length, ap, le_trans, arith}
use Rattle.std.proofs.lemmas.List.{length-take}
use Rattle.coap_conn.specs.Prelude.{IsNextPart}

pub few_written : (waiting part : List ℕ) (count : ℕ) → IsNextPart waiting part
    → count ≤ length part → count ≤ length waiting
few_written waiting part count is few =
    le_trans few (omega (arith, ap length is.front, length-take (length part) waiting))
