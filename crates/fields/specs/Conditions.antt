-- When a condition holds, whatever its field.
use Rattle.std.specs.Prelude.{Bool, true, false, cond, not, ◌&&◌, is_some, Some, None, Option}
use Rattle.fields.specs.Senses.{inverts}
use Rattle.fields.specs.declared.condition.plain.Plain.{Plain}
use Rattle.fields.specs.declared.condition.plain.Plain.TheVariants.{Any, Is}
use Rattle.fields.specs.declared.condition.sided.Sense.TheVariants as sense
use Rattle.fields.specs.declared.condition.sided.Sided.{Sided}

-- "any" always holds; a test holds on the values that pass it, and never on an absent field
abbrev pub plain_admits : {T V : Type 0} → (T → V → Bool) → Plain T → Option V → Bool
plain_admits passes Any v = true
plain_admits passes (Is t) None = false
plain_admits passes (Is t) (Some v) = passes t v

abbrev pub plain_any : {T : Type 0} → Plain T → Bool
plain_any Any = true
plain_any (Is t) = false

-- on a present field the inverted condition holds exactly where the plain one does not, and on an absent one never
abbrev pub sided_admits : {K V : Type 0} → (K → Option V → Bool) → Sided K → Option V → Bool
sided_admits admits c v = cond (inverts c.sense) (is_some v && not (admits c.condition v)) (admits c.condition v)

abbrev pub sided_any : {K : Type 0} → (K → Bool) → Sided K → Bool
sided_any any c = not (inverts c.sense) && any c.condition

abbrev pub plain_side : {K : Type 0} → K → Sided K
plain_side k = record { condition = k; sense = sense.Plain }

-- "any" has no inversion
abbrev pub inverted_side : {K : Type 0} → (K → Bool) → K → Option (Sided K)
inverted_side any k = cond (any k) None (Some (record { condition = k; sense = sense.Inverted }))
