-- Patterns of interface names.
use Rattle.std.specs.Prelude.{ℕ, Bool, List}
use Rattle.fields.specs.Names.{text_bytes, name_bytes}
use Rattle.fields.specs.Strings.{begins, same}
use Rattle.fields.specs.declared.values.name.InterfaceName.{InterfaceName}
use Rattle.fields.specs.declared.patterns.name.NameBeginning.{NameBeginning}
use Rattle.fields.specs.declared.patterns.name.NamePattern.{NamePattern}
use Rattle.fields.specs.declared.patterns.name.NamePattern.TheVariants.{Whole, Beginning}

abbrev pub beginning_bytes : NameBeginning → List ℕ
beginning_bytes b = text_bytes b.text

-- a whole name passes the name itself, a beginning every name that begins so
abbrev pub name_passes : NamePattern → InterfaceName → Bool
name_passes (Whole n) v = same (name_bytes n) (name_bytes v)
name_passes (Beginning b) v = begins (beginning_bytes b) (name_bytes v)
