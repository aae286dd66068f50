use Rattle.std.proofs.Common.{arith}
use Rattle.rows.proofs.Words.{back_by_one}
use Rattle.rows.proofs.word.back_by_one.Goals as goal

pub returns : goal.returns
returns c = λ i h. back_by_one c.args.word c.args.previous i (omega arith) h
