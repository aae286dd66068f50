-- The rows of the ports that conditions name.
use Rattle.std.specs.Prelude.{◌≡◌, true, false, ◌⊎◌, List}
use Rattle.rows.specs.declared.row.Row.{Row}
use Rattle.ports.specs.declared.values.ordered.OrderedRows.{OrderedRows}
use Rattle.fields.specs.declared.condition.plain.Plain.{Plain}
use Rattle.fields.specs.declared.condition.plain.Plain.TheVariants.{Any, Is}
use Rattle.fields.specs.declared.values.port.Port.{Port}
use Rattle.ports.specs.Ordered.{Given, Taken}
use Rattle.ports.specs.Ports.{named}

-- the port that a condition names has a row
abbrev pub Readied : Plain Port → Row → OrderedRows → OrderedRows → Type 0
Readied Any row s t = t ≡ s
Readied (Is p) row s t = Given p.number row s t

-- the port that a condition named has a row only where one of the list names it
abbrev pub Cleaned : Plain Port → List (Plain Port) → OrderedRows → OrderedRows → Type 0
Cleaned Any cs s t = t ≡ s
Cleaned (Is p) cs s t = ((named cs p.number ≡ true) × (t ≡ s)) ⊎ ((named cs p.number ≡ false) × Taken p.number s t)
