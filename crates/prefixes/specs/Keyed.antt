-- The strings of keyed rows, the row beside each, and when they are right for a list of fronts.
use Rattle.std.specs.Prelude.{ℕ, List, vec_items, Option}
use Rattle.rows.specs.declared.row.Row.{Row}
use Rattle.prefixes.specs.Fronts.{Fronts, Told, Stores, StoresWith}
use Rattle.prefixes.specs.Indexed.{kept}
use Rattle.prefixes.specs.declared.keyed.KeyedRows.{KeyedRows}

abbrev pub keys_of : KeyedRows → List (List ℕ)
keys_of t = kept t.set

abbrev pub rows_of : KeyedRows → List Row
rows_of t = vec_items t.rows

abbrev pub RowsTold : KeyedRows → Fronts → Type 0
RowsTold t fs = Told (keys_of t) (rows_of t) fs

abbrev pub Keys : KeyedRows → Fronts → Type 0
Keys t fs = Stores (keys_of t) fs

-- the keys with one front more than the list has
abbrev pub KeysWith : KeyedRows → Option (List ℕ) → Fronts → Type 0
KeysWith t f fs = StoresWith (keys_of t) f fs
