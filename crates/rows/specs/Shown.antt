use Rattle.std.specs.Prelude.{ℕ, Bool}
use Rattle.rows.specs.declared.row.Row.{Row}
use Rattle.rows.specs.Bits.{at}

-- what a row says at a place, counted from 0
abbrev pub shown : Row → ℕ → Bool
shown row i = at row.words i
