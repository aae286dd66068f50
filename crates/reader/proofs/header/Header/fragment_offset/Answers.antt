use Rattle.std.proofs.Common.{arith}
use Rattle.reader.proofs.Bits.{bits_low}
use Rattle.reader.proofs.header.Header.fragment_offset.Goals as goal

pub returns : goal.returns
returns c = record { result = omega (arith, bits_low 48 3 13 c.args.self.now.bytes.now) }
