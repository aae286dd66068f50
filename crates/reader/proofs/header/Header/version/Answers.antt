use Rattle.std.proofs.Common.{arith}
use Rattle.reader.proofs.Bits.{bits_high}
use Rattle.reader.proofs.header.Header.version.Goals as goal

pub returns : goal.returns
returns c = record { result = omega (arith, bits_high 0 4 4 c.args.self.now.bytes.now) }
