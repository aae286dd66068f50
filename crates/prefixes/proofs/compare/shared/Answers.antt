use Rattle.std.proofs.Common.{⊎_elim, arith}
use Rattle.std.proofs.lemmas.Bool.{cases_lt}
use Rattle.prefixes.specs.Strings.{common}
use Rattle.prefixes.proofs.StringLaws.{common_grows, common_reads, common_left, common_right}
use Rattle.prefixes.proofs.compare.shared.Goals as goal

pub loop-at-preserved : goal.loop-at-preserved
loop-at-preserved c = common_grows c.args.p.now c.args.s.now c.loop-at.at c.loop-at.invariant (omega arith) (omega arith) (omega arith)

pub returns-else-p-at : goal.returns-else-p-at
returns-else-p-at c =
    ⊎_elim
    (λ lt. absurd (c.if-p-at.false (common_reads c.args.p.now c.args.s.now c.loop-at.at lt)))
    (λ ge. omega arith)
    (cases_lt c.loop-at.at (common c.args.p.now c.args.s.now))

pub returns-else-at-s : goal.returns-else-at-s
returns-else-at-s c = omega (arith, common_right c.args.p.now c.args.s.now)

pub returns-after-loop-at : goal.returns-after-loop-at
returns-after-loop-at c = omega (arith, common_left c.args.p.now c.args.s.now)
