use Rattle.std.specs.Prelude.{◌≡◌, ℕ, Bool, false, cond, nat_lt}
use Rattle.rows.specs.declared.row.Row.{Row}
use Rattle.rows.specs.Bits.{put_in, taken_out}
use Rattle.rows.specs.Shown.{shown}

-- b is put into a row at p, and what stood at place 511 falls off
abbrev pub Put : ℕ → Bool → Row → Row → Type 0
Put p b old new = (i : ℕ) → shown new i ≡ cond (nat_lt i 512) (put_in (shown old) p b i) false

-- what stands at p is taken out of a row
abbrev pub Out : ℕ → Row → Row → Type 0
Out p old new = (i : ℕ) → shown new i ≡ taken_out (shown old) p i
