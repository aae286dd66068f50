use Rattle.std.proofs.Common.{arith}
use Rattle.reader.proofs.Bits.{word_bits}
use Rattle.reader.proofs.numbers.word.Goals as goal

pub returns : goal.returns
returns c = record { result = omega (arith, word_bits c.args.i c.args.bytes.now) }
