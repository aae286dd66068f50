-- The labels as numbers.
use Rattle.std.specs.Prelude.{ℕ}
use Rattle.fields.specs.declared.values.label.Label.{Label}
use Rattle.fields.specs.declared.values.label.Label.TheVariants.{New, Established, Invalid}

-- a set of labels is the sum of their values
abbrev pub label_value : Label → ℕ
label_value New = 1
label_value Established = 2
label_value Invalid = 4
