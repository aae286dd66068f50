use Rattle.std.proofs.Common.{ltb, sym, ap, ◌∙◌, arith}
use Rattle.rows.proofs.Words.{all_ones, first_ones}
use Rattle.rows.proofs.word.leading_ones.Goals as goal

pub returns-then-count-eq64 : goal.returns-then-count-eq64
returns-then-count-eq64 c = λ i h. all_ones i h ∙ ap (ltb i) (sym c.if-count-eq64.true)

pub returns-else-count-eq64 : goal.returns-else-count-eq64
returns-else-count-eq64 c = λ i h. first_ones c.args.count i (omega arith) h
