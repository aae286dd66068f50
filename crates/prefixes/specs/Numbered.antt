-- The number of 32 bits that a key is, if it is one.
use Rattle.std.specs.Prelude.{◌≡◌, ℕ, List, Some, None, Option}
use Rattle.prefixes.specs.Bits.{bits_of}

abbrev pub Numbered : List ℕ → Option ℕ → Type 0
Numbered s None = Unit {0}
Numbered s (Some n) = s ≡ bits_of 32 n
