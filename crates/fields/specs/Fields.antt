-- The fields by their numbers.
use Rattle.std.specs.Prelude.{ℕ}
use Rattle.fields.specs.declared.field.Field.{Field}
use Rattle.fields.specs.declared.field.Field.TheVariants as field

abbrev pub field_number : Field → ℕ
field_number field.Source = 1
field_number field.Destination = 2
field_number field.Protocol = 3
field_number field.SourcePort = 4
field_number field.DestinationPort = 5
field_number field.Flags = 6
field_number field.Label = 7
field_number field.Interface = 8
