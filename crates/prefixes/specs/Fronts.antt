-- Conditions by their fronts: none for "any", else the string that a value has to begin with. And the strings and rows that serve them.
use Rattle.std.specs.Prelude.{◌≡◌, ℕ, ◌<◌, Bool, true, false, ◌||◌, List, length, Some, None, Option}
use Rattle.fields.specs.Strings.{begins, same}
use Rattle.rows.specs.declared.row.Row.{Row}
use Rattle.rows.specs.Shows.{TableShows}
use Rattle.columns.specs.Somewhere.{some}
use Rattle.prefixes.specs.Stored.{at}

abbrev pub Fronts : Type 0
Fronts = List (Option (List ℕ))

-- the condition holds on every value that begins with s
abbrev pub covers : Option (List ℕ) → List ℕ → Bool
covers None s = true
covers (Some p) s = begins p s

-- the condition has this very front
abbrev pub names : Option (List ℕ) → List ℕ → Bool
names None s = false
names (Some p) s = same p s

-- whether some condition has this very front
abbrev pub named : Fronts → List ℕ → Bool
named fs s = some (λ f. names f s) fs

-- whether a string is stored
abbrev pub has : List (List ℕ) → List ℕ → Bool
has ss s = some (λ q. same q s) ss

-- each row shows the conditions that cover its string
abbrev pub Told : List (List ℕ) → List Row → Fronts → Type 0
Told ss rows fs = TableShows rows (λ f k. covers f (at ss k)) fs

-- but for the empty string, the fronts of the conditions are stored, and no others
abbrev pub Stores : List (List ℕ) → Fronts → Type 0
Stores ss fs = (s : List ℕ) → 0 < length s → has ss s ≡ named fs s

-- the same with one front more than the list has
abbrev pub StoresWith : List (List ℕ) → Option (List ℕ) → Fronts → Type 0
StoresWith ss f fs = (s : List ℕ) → 0 < length s → has ss s ≡ (names f s || named fs s)
