use Rattle.std.proofs.Common.{◌≡◌, ℕ, ◌<◌, List, [], ◌++◌, length, take, Option, Some, None, ap, ◌∙◌, arith}
use Rattle.std.proofs.lemmas.List.{take_all, length-take}
use Rattle.std.specs.Prelude.{IfSome}
use Rattle.std.specs.Option.{option_map}
use Rattle.program_common.proofs.files.bytes_of.Goals as goal

-- Fewer bytes than the limit are all bytes.
below_limit : (known read : Option (List ℕ)) (limit : ℕ) (before bytes : List ℕ) → read ≡ known → before ≡ []
    → length bytes < limit → IfSome (option_map (take limit) read) (λ rest. bytes ≡ before ++ rest)
    → IfSome known (λ rest. bytes ≡ rest)
below_limit None read limit before bytes same none less is = tt
below_limit (Some rest) read limit before bytes same none less is =
    let all : bytes ≡ take limit rest = rw (same, none) at is in
    all ∙ take_all limit rest (omega (arith, less, ap length all, length-take limit rest))

pub returns-in-Ok-2-clause-all : goal.returns-in-Ok-2-clause-all
returns-in-Ok-2-clause-all g c =
    let less : length c.read_to_end.new.buf.items < c.take.result.limit =
    omega (arith, c.read_to_end.new.buf.small, c.saturating_add.ensures) in
    below_limit _ _ c.take.result.limit c.new-bytes.result.items _
    (ap (λ r. g.R.Read.remaining r.now) c.take.ensures.inner) c.new-bytes.ensures.items less c.in-Ok-2.ensures.bytes
