-- Whether a condition is plain or inverted, as a test.
use Rattle.std.specs.Prelude.{Bool, true, false}
use Rattle.fields.specs.declared.condition.sided.Sense.{Sense}
use Rattle.fields.specs.declared.condition.sided.Sense.TheVariants as sense

abbrev pub inverts : Sense → Bool
inverts sense.Plain = false
inverts sense.Inverted = true

-- the sense that inverts where the test says so
abbrev pub sense_of : Bool → Sense
sense_of false = sense.Plain
sense_of true = sense.Inverted
