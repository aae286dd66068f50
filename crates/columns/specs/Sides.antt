-- A list of conditions, each with its side.
use Rattle.std.specs.Prelude.{ℕ, suc, Bool, cond, not, ◌&&◌, List, [], ◌∷◌}
use Rattle.rows.specs.Bits.{differs}
use Rattle.fields.specs.Senses.{sense_of}
use Rattle.fields.specs.declared.condition.sided.Sided.{Sided}

-- the conditions, each inverted where the function of its place (from 0) says so
abbrev pub sided : {K : Type 0} → List K → (ℕ → Bool) → List (Sided K)
sided [] inverted = []
sided (c ∷ cs) inverted = record { condition = c; sense = sense_of (inverted 0) } ∷ sided cs (λ i. inverted (suc i))

-- what becomes of a plain condition's bit: on a present field it is flipped where the condition is inverted, and cleared behind the list;
-- on an absent one it is cleared where the condition is inverted
abbrev pub turned : Bool → Bool → Bool → Bool → Bool
turned plain inverted present listed = cond present (differs plain inverted && listed) (plain && not inverted)
