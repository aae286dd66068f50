-- The fronts of a list of conditions.
use Rattle.std.specs.Prelude.{ℕ, List, map, Some, None, Option}
use Rattle.fields.specs.declared.condition.plain.Plain.{Plain}
use Rattle.fields.specs.declared.condition.plain.Plain.TheVariants.{Any, Is}
use Rattle.prefixes.specs.Fronts.{Fronts}

abbrev pub front_of : {T : Type 0} → (T → List ℕ) → Plain T → Option (List ℕ)
front_of front Any = None
front_of front (Is t) = Some (front t)

abbrev pub fronts_of : {T : Type 0} → (T → List ℕ) → List (Plain T) → Fronts
fronts_of front cs = map (front_of front) cs
