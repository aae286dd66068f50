-- Ordered rows, and what it means that a key has, gets or loses its row.
use Rattle.std.specs.Prelude.{◌≡◌, ℕ, ◌<◌, true, false, ◌⊎◌, List, [], length, vec_items, MatchOption, Option, slice_index, slice_index_or}
use Rattle.std.specs.Borrow.{Bor}
use Rattle.std.specs.List.{insert, remove}
use Rattle.ports.specs.Keys.{has, Fits}
use Rattle.rows.specs.declared.row.Row.{Row}
use Rattle.ports.specs.declared.values.ordered.OrderedRows.{OrderedRows}

abbrev pub keys_of : OrderedRows → List ℕ
keys_of t = vec_items t.keys

abbrev pub rows_of : OrderedRows → List Row
rows_of t = vec_items t.rows

-- the row beside a key, or nothing where no key is this one
abbrev pub Found : ℕ → OrderedRows → Option (Bor Row) → Type 0
Found v s r =
    MatchOption r (has (keys_of s) v ≡ false)
    (λ row. (i : ℕ) × (i < length (keys_of s)) × (slice_index (keys_of s) i ≡ v) × (row.now ≡ slice_index_or (rows_of s) i (record { words = [] })))

-- a key has a row: it had one, or it has the new one at its place
abbrev pub Given : ℕ → Row → OrderedRows → OrderedRows → Type 0
Given v row s t =
    ((has (keys_of s) v ≡ true) × (keys_of t ≡ keys_of s) × (rows_of t ≡ rows_of s))
    ⊎ ((i : ℕ) × Fits (keys_of s) v i × (keys_of t ≡ insert (keys_of s) i v) × (rows_of t ≡ insert (rows_of s) i row))

-- a key has no row: it had none, or its row is taken out
abbrev pub Taken : ℕ → OrderedRows → OrderedRows → Type 0
Taken v s t =
    ((has (keys_of s) v ≡ false) × (keys_of t ≡ keys_of s) × (rows_of t ≡ rows_of s))
    ⊎ ((i : ℕ) × (i < length (keys_of s)) × (slice_index (keys_of s) i ≡ v) × (keys_of t ≡ remove (keys_of s) i) × (rows_of t ≡ remove (rows_of s) i))
