-- The table of a spread column.
use Rattle.std.specs.Prelude.{ℕ, Bool, List, Some, None, Option}
use Rattle.rows.specs.declared.row.Row.{Row}
use Rattle.rows.specs.Shows.{Shows, TableShows}

-- the row of each code shows which conditions hold on the code's value
abbrev pub CodesShow : {K V : Type 0} → (K → Option V → Bool) → (ℕ → V) → List Row → List K → Type 0
CodesShow admits decoded rows conditions = TableShows rows (λ c k. admits c (Some (decoded k))) conditions

-- the row of an absent field shows which conditions hold on it
abbrev pub AbsentShows : {K V : Type 0} → (K → Option V → Bool) → Row → List K → Type 0
AbsentShows admits absent conditions = Shows absent (λ c. admits c None) conditions
