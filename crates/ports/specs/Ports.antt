-- Conditions on ports, by the port's number.
use Rattle.std.specs.Prelude.{ℕ, Bool, false, List, Some, None, ◌==◌}
use Rattle.fields.specs.Conditions.{plain_admits}
use Rattle.fields.specs.Passing.{port_passes}
use Rattle.fields.specs.declared.condition.plain.Plain.{Plain}
use Rattle.fields.specs.declared.condition.plain.Plain.TheVariants.{Any, Is}
use Rattle.fields.specs.declared.values.port.Port.{Port}
use Rattle.columns.specs.Somewhere.{some}

-- whether a condition holds on a port
abbrev pub port_holds : Plain Port → ℕ → Bool
port_holds c v = plain_admits port_passes c (Some (record { number = v }))

-- whether it holds on an absent port, and so on each port that no condition names
abbrev pub on_any : Plain Port → Bool
on_any c = plain_admits port_passes c None

-- whether it is a condition on this very port
abbrev pub names : Plain Port → ℕ → Bool
names Any v = false
names (Is p) v = p.number == v

-- whether some condition is
abbrev pub named : List (Plain Port) → ℕ → Bool
named cs v = some (λ c. names c v) cs
