use Rattle.std.proofs.Common.{arith}
use Rattle.rows.proofs.Words.{putting_in}
use Rattle.rows.proofs.word.put_in.Goals as goal

pub returns : goal.returns
returns c = λ i h. putting_in c.args.word c.args.place c.args.value i (omega arith) c.requires h
