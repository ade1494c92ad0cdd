-- Pieces of text appended to a line, and the reason for arguments from the options that `clap` found.
use Rattle.std.proofs.Common.{◌≡◌, List, [], ◌∷◌, Option, None, refl, option_map}
use Rattle.coap_command_line.specs.Prelude.{Kinds, Row, Text, WordsFault, IsTurnedDown}
use Rattle.coap_command_line.specs.Reasons.{line_of, unless_rejected}
use Rattle.coap_command_line.specs.declared.arguments.WordsFault.TheVariants as faults
use Rattle.clap.specs.declared.error.Error.{Error}
use Rattle.coap_print.proofs.LineLaws.{appended_then, appended_nothing}

-- Two pieces, one after the other, are one piece.
pub ruleset pieces = (appended_then, appended_nothing)

-- The line for arguments that `clap` accepts.
pub reason_read : (kinds : Kinds) (rows found : List Row) (read : List Row → Option Text) → kinds ≡ [] → rows ≡ found
    → option_map line_of (read rows) ≡ option_map line_of (unless_rejected kinds (read found))
reason_read kinds rows found read none is = rw (none, is) refl

-- No line for arguments that `clap` rejects.
pub rejected : (kinds : Kinds) (reason : Option Text) (why : WordsFault) (error : Error) → why ≡ faults.Usage error
    → IsTurnedDown kinds why → None ≡ option_map line_of (unless_rejected kinds reason)
rejected [] reason why error is h = absurd (rw is at h)
rejected (kind ∷ kinds) reason why error is h = refl
