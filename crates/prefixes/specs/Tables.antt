-- When keyed rows are right for a list of conditions, by the front of each test.
use Rattle.std.specs.Prelude.{ℕ, List}
use Rattle.fields.specs.declared.condition.plain.Plain.{Plain}
use Rattle.prefixes.specs.Keyed.{RowsTold, Keys}
use Rattle.prefixes.specs.Listed.{fronts_of}
use Rattle.prefixes.specs.declared.keyed.KeyedRows.{KeyedRows}

-- each row shows the conditions that cover its string
abbrev pub TableTold : {T : Type 0} → (T → List ℕ) → List (Plain T) → KeyedRows → Type 0
TableTold front cs keyed = RowsTold keyed (fronts_of front cs)

-- the strings are the fronts of the conditions, and the empty one
abbrev pub TableStores : {T : Type 0} → (T → List ℕ) → List (Plain T) → KeyedRows → Type 0
TableStores front cs keyed = Keys keyed (fronts_of front cs)
