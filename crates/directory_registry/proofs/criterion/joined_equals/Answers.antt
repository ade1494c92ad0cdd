use Rattle.std.proofs.Common.{arith}
use Rattle.directory_registry.proofs.JoinedLemmas.{equal_parts}
use Rattle.directory_registry.proofs.criterion.joined_equals.Goals as goal

pub returns-then-eq : goal.returns-then-eq
returns-then-eq c =
    grind (
      arith,
      equal_parts c.args.first.now c.args.second.now c.args.other.now c.if-other-first.false,
      rw c.split_at.ensures.front at c.eq.ensures,
      rw c.split_at.ensures.back at c.eq-then-eq.ensures,
      c.if-eq.true,
    )

pub returns-else-eq : goal.returns-else-eq
returns-else-eq c =
    grind (
      arith,
      equal_parts c.args.first.now c.args.second.now c.args.other.now c.if-other-first.false,
      rw c.split_at.ensures.front at c.eq.ensures,
      c.if-eq.false,
    )
