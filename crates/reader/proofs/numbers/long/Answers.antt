use Rattle.std.proofs.Common.{arith}
use Rattle.reader.proofs.Bits.{long_bits}
use Rattle.reader.proofs.numbers.long.Goals as goal

pub returns : goal.returns
returns c = record { result = omega (arith, long_bits c.args.i c.args.bytes.now) }
