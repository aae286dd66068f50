use Rattle.std.proofs.Common.{arith}
use Rattle.rows.proofs.Words.{taking_out}
use Rattle.rows.proofs.word.take_out.Goals as goal

pub returns : goal.returns
returns c = λ i h. taking_out c.args.word c.args.place c.args.next i (omega arith) c.requires h
