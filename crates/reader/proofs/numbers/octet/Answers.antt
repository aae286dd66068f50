use Rattle.std.proofs.Common.{sym, arith}
use Rattle.reader.proofs.Bits.{octet_bits}
use Rattle.reader.proofs.numbers.octet.Goals as goal

pub returns : goal.returns
returns c = record { result = sym (octet_bits c.args.i c.args.bytes.now (omega arith)) }
