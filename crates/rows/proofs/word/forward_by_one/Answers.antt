use Rattle.std.proofs.Common.{arith}
use Rattle.rows.proofs.Words.{forward_by_one}
use Rattle.rows.proofs.word.forward_by_one.Goals as goal

pub returns : goal.returns
returns c = λ i h. forward_by_one c.args.word c.args.next i (omega arith) h
