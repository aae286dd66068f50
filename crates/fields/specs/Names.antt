-- Interface names by their bytes.
use Rattle.std.specs.Prelude.{◌≡◌, ℕ, List, take, Some, None, Ok, Err, Result}
use Rattle.fields.specs.NameBytes.{name_fault}
use Rattle.fields.specs.declared.refusal.Refusal.{Refusal}
use Rattle.fields.specs.declared.refusal.Reason.TheVariants as reason
use Rattle.fields.specs.declared.refusal.Part.TheVariants as part
use Rattle.fields.specs.declared.values.name.NameText.{NameText}
use Rattle.fields.specs.declared.values.name.InterfaceName.{InterfaceName}

abbrev pub text_bytes : NameText → List ℕ
text_bytes t = take t.length t.bytes

abbrev pub name_bytes : InterfaceName → List ℕ
name_bytes n = text_bytes n.text

-- a name is made of all bytes that have no fault, and no others
abbrev pub MadeName : List ℕ → Result InterfaceName Refusal → Type 0
MadeName bs (Ok n) = (name_fault bs ≡ None) × (name_bytes n ≡ bs)
MadeName bs (Err e) = (name_fault bs ≡ Some e.place) × (e.reason ≡ reason.InterfaceName) × (e.part ≡ part.Reader)
