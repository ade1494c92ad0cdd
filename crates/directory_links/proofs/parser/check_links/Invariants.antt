use Rattle.std.proofs.Common.{◌≡◌, Ok, true, length}
use Rattle.directory_links.specs.Prelude.{◌>>=◌, some_links, links_of}
use Rattle.directory_links.proofs.parser.check_links.Given as goal

-- The bytes that are left are links if and only if the text is, or the error is the same.
abbrev pub invariant-loop-link : goal.invariant-loop-link
invariant-loop-link l = (some_links l.rest >>= λ ls. Ok true) ≡ (links_of l.text >>= λ ls. Ok true)

abbrev pub decreases-loop-link : goal.decreases-loop-link
decreases-loop-link l = length l.rest
