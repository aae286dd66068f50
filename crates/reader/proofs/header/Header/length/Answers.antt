use Rattle.std.proofs.Common.{arith}
use Rattle.reader.proofs.Bits.{bits_low}
use Rattle.reader.proofs.header.Header.length.Goals as goal

pub returns-clause-result : goal.returns-clause-result
returns-clause-result c = omega (arith, bits_low 0 4 4 c.args.self.now.bytes.now)
