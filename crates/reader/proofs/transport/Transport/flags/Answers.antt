use Rattle.std.proofs.Common.{arith}
use Rattle.std.proofs.lemmas.Bool.Decides.{nat_tests}
use Rattle.reader.proofs.Bits.{bits_low}
use Rattle.reader.proofs.transport.Transport.flags.Goals as goal

pub returns : goal.returns
returns c =
    let low = bits_low 104 2 6 c.args.self.now.payload.now in
    record { result = grind (arith, nat_tests) }
