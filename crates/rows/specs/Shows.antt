-- Rows that show a test of each element of a list.
use Rattle.std.specs.Prelude.{◌≡◌, ℕ, ◌<◌, Bool, false, List, [], map, length, slice_index_or}
use Rattle.rows.specs.declared.row.Row.{Row}
use Rattle.rows.specs.Shown.{shown}

-- a one exactly where the test holds of the element, and zeros behind the last
abbrev pub Shows : {C : Type 0} → Row → (C → Bool) → List C → Type 0
Shows row test xs = (i : ℕ) → shown row i ≡ slice_index_or (map test xs) i false

-- each row of a table shows the test by its number
abbrev pub TableShows : {C : Type 0} → List Row → (C → ℕ → Bool) → List C → Type 0
TableShows rows test xs = (k : ℕ) → k < length rows → Shows (slice_index_or rows k (record { words = [] })) (λ c. test c k) xs
