use Rattle.std.proofs.Common.{arith}
use Rattle.directory_registry.proofs.JoinedLemmas.{begins_both}
use Rattle.directory_registry.proofs.criterion.joined_starts_with.Goals as goal

pub returns-then-eq : goal.returns-then-eq
returns-then-eq c =
    grind (
      arith,
      begins_both c.args.first.now c.args.second.now c.args.needle.now (omega (arith, c.if-needle-first.false)),
      rw c.split_at.ensures.front at c.eq.ensures,
      rw c.split_at.ensures.back at c.starts_with-then-eq.ensures.value,
      c.if-eq.true,
    )

pub returns-else-eq : goal.returns-else-eq
returns-else-eq c =
    grind (
      arith,
      begins_both c.args.first.now c.args.second.now c.args.needle.now (omega (arith, c.if-needle-first.false)),
      rw c.split_at.ensures.front at c.eq.ensures,
      c.if-eq.false,
    )
