-- Worked examples: calls and their lines.
use Rattle.std.proofs.Common.{[], ◌≡◌, ℕ, List, ◌∷◌, map, Some, None, refl, codes}
use Rattle.std.specs.Fmt.{digits}
use Rattle.coap_record.specs.Prelude.{encode_with, encoded_byte, path_bytes, AcceptedCall, path_word, took_line}
use Rattle.coap_record.specs.Prelude.{line_of, lines_of}
use Rattle.coap_model.specs.world.Events as call

-- Each call has the line next to it.
abbrev Have : List (AcceptedCall × List ℕ) → Type 0
Have rows = map (λ r. line_of r.0) rows ≡ map (λ r. r.1) rows

lines : Have (
    (call.Opened 7, codes "open\n")  -- the number of the connection is not written
    ∷ (call.Took 3 (0 ∷ 225 ∷ []), codes "in 3 00e1\n")  -- lower case
    ∷ (call.Took 3 [], [])  -- no bytes, no line
    ∷ (call.Wrote 3 1152, codes "drain 3 1152\n")
    ∷ (call.Wrote 3 0, codes "drain 3 0\n")  -- a script may drain nothing
    ∷ (call.Ticked 60, codes "tick 60\n")
    ∷ (
      call.Stored (codes "a b" ∷ codes "c" ∷ []) (Some 50) (123 ∷ []),
      codes "put /a%20b/c 50 7b\n",
    )  -- a space is escaped
    ∷ (
      call.Stored (codes "a/b%" ∷ []) None [],
      codes "put /a%2Fb%25 - -\n",
    )  -- a slash in a segment, no format, no bytes
    ∷ (call.Stored [] (Some 0) (0 ∷ []), codes "put / 0 00\n")  -- the root
    ∷ (call.Removed ([] ∷ [] ∷ []), codes "remove //\n")  -- two empty segments
    ∷ (call.Ended 1, codes "end 1\n")
    ∷ (call.Released 2, codes "release 2\n")
    ∷ (call.Dropped 3, codes "drop 3\n")
    ∷ (call.Announced 3 2048, codes "# announced 3 2048\n")  -- a comment: no event says it
    ∷ [])
unfolding line_of took_line path_word path_bytes encoded_byte encode_with digits
lines = refl

all : lines_of (call.Opened 1 ∷ call.Took 1 (0 ∷ 225 ∷ []) ∷ call.Wrote 1 5 ∷ []) ≡ codes "open\nin 1 00e1\ndrain 1 5\n"
unfolding lines_of line_of took_line encode_with digits
all = refl
