use Rattle.std.proofs.Common.{ℕ, ◌≡◌, ◌+◌, ◌*◌, ◌/◌, ◌%◌, ◌^◌, get_or, inl, inr, arith, rules, w64}
use Rattle.std.proofs.lemmas.Bool.{cases_lt}
use Rattle.std.specs.Int.{trailing_zeros}
use Rattle.coap_server_engine.proofs.values.IndexSetLemmas.{first_between, first_found, none_left}
use Rattle.coap_server_engine.proofs.index_set.IndexSet.next.Goals as goal

pub returns-then-left-ne0-clause-between : goal.returns-then-left-ne0-clause-between
returns-then-left-ne0-clause-between c i after before =
    first_between _ (c.args.from / 64) (c.args.from % 64) (omega arith) (omega arith) (search rules)
    (omega (arith, c.if-left-ne0.true)) i (omega arith) (omega (arith, c.min.ensures))

pub returns-then-left-ne0-clause-found : goal.returns-then-left-ne0-clause-found
returns-then-left-ne0-clause-found c inside small =
    let same : c.args.from / 64 * 64 + c.args.from % 64
    + trailing_zeros w64 (get_or c.args.self.now.words (c.args.from / 64) 0 / 2 ^ (c.args.from % 64))
    ≡ c.min.result = omega (arith, c.min.ensures) in
    rw same at (first_found c.args.self.now.words (c.args.from / 64) (c.args.from % 64) (omega arith) (omega arith)
    (search rules) (omega (arith, c.if-left-ne0.true)))

pub loop-word-init : goal.loop-word-init
loop-word-init c i after before =
    none_left _ _ _ (omega arith) (omega arith) c.if-left-ne0.false i (omega arith) (omega arith)

pub loop-word-preserved : goal.loop-word-preserved
loop-word-preserved c i after before = elim (cases_lt i _) [
  | inl lower ↦ c.loop-word.invariant i after lower
  | inr here ↦
      none_left _ _ 0 c.loop-word-test.true (omega arith)
      (omega (arith, c.if-bits-ne0.false)) i (omega arith) (omega arith)
]

-- A word without a shift.
unshifted : (word : ℕ) → word / 2 ^ 0 ≡ word
unshifted word = omega arith

pub returns-then-bits-ne0-clause-between : goal.returns-then-bits-ne0-clause-between
returns-then-bits-ne0-clause-between c i after before = elim (cases_lt i _) [
  | inl lower ↦ c.loop-word.invariant i after lower
  | inr here ↦
      rw unshifted at (first_between c.args.self.now.words c.loop-word.word 0 c.loop-word-test.true (omega arith)
      (search rules) (omega (arith, c.if-bits-ne0.true))) i (omega arith)
      (omega (arith, c.min-then-bits-ne0.ensures))
]

pub returns-then-bits-ne0-clause-found : goal.returns-then-bits-ne0-clause-found
returns-then-bits-ne0-clause-found c inside small =
    let same : c.loop-word.word * 64 + 0 + trailing_zeros w64 (get_or c.args.self.now.words c.loop-word.word 0)
    ≡ c.min-then-bits-ne0.result = omega (arith, c.min-then-bits-ne0.ensures) in
    rw (unshifted, same) at (first_found c.args.self.now.words c.loop-word.word 0 c.loop-word-test.true (omega arith)
    (search rules) (omega (arith, c.if-bits-ne0.true)))

pub returns-clause-between : goal.returns-clause-between
returns-clause-between c i after before =
    let all = c.loop-word-test.false in
    c.loop-word.invariant i after (omega (arith, c.min-2.ensures))
