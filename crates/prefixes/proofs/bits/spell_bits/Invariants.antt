use Rattle.std.proofs.Common.{◌≡◌, take}
use Rattle.prefixes.specs.Bits.{bits_of}
use Rattle.prefixes.specs.Spelled.{spelled}
use Rattle.prefixes.proofs.bits.spell_bits.Given as goal

abbrev pub invariant-loop-i : goal.invariant-loop-i
invariant-loop-i l = spelled l.symbols ≡ take l.i (bits_of l.width l.value)
