-- When stretches answer for the strings of a set.
use Rattle.std.specs.Prelude.{ℕ, List}
use Rattle.prefixes.specs.Ranges.{Stretched}
use Rattle.prefixes.specs.declared.stretches.Stretches.{Stretches}

-- each stretch has the longest string of all its numbers
abbrev pub Divided : List (List ℕ) → Stretches → Type 0
Divided ss s = Stretched 32 ss s.starts s.answers s.count
