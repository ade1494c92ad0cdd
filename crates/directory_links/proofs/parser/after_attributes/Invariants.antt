use Rattle.std.proofs.Common.{◌≡◌, Ok, length}
use Rattle.directory_links.specs.Prelude.{◌>>=◌, attributes_at}
use Rattle.directory_links.proofs.parser.after_attributes.Given as goal

-- The bytes after the attributes that are left are those after all, or the error is the same.
abbrev pub invariant-loop-first : goal.invariant-loop-first
invariant-loop-first l = (attributes_at l.rest >>= λ x. Ok x.1) ≡ (attributes_at l.text >>= λ x. Ok x.1)

abbrev pub decreases-loop-first : goal.decreases-loop-first
decreases-loop-first l = length l.rest
