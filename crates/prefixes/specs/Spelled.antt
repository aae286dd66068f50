-- What a string of symbols, as the program holds it, spells.
use Rattle.std.specs.Prelude.{ℕ, List, take}
use Rattle.prefixes.specs.declared.symbols.Symbols.{Symbols}

abbrev pub spelled : Symbols → List ℕ
spelled s = take s.len s.bytes
