-- What the making calls answer.
use Rattle.std.specs.Prelude.{◌≡◌, ℕ, ◌<◌, List, Some, None, Ok, Err, Option, Result, bit_and}
use Rattle.fields.specs.Fields.{field_number}
use Rattle.fields.specs.NameBytes.{text_fault, name_fault}
use Rattle.fields.specs.Names.{name_bytes}
use Rattle.fields.specs.NamePatterns.{beginning_bytes}
use Rattle.fields.specs.declared.condition.plain.Plain.{Plain}
use Rattle.fields.specs.declared.condition.plain.Plain.TheVariants.{Is}
use Rattle.fields.specs.declared.condition.sided.Sided.{Sided}
use Rattle.fields.specs.declared.condition.sided.Sense.{Sense}
use Rattle.fields.specs.declared.field.Field.{Field}
use Rattle.fields.specs.declared.field.Field.TheVariants as field
use Rattle.fields.specs.declared.making.End.{End}
use Rattle.fields.specs.declared.making.End.TheVariants as end
use Rattle.fields.specs.declared.refusal.Refusal.{Refusal}
use Rattle.fields.specs.declared.refusal.Reason.TheVariants as reason
use Rattle.fields.specs.declared.refusal.Part.TheVariants as part
use Rattle.fields.specs.declared.patterns.flags.FlagsPattern.{FlagsPattern}
use Rattle.fields.specs.declared.patterns.label.LabelSet.{LabelSet}
use Rattle.fields.specs.declared.patterns.name.NamePattern.{NamePattern}
use Rattle.fields.specs.declared.patterns.name.NamePattern.TheVariants.{Whole, Beginning}
use Rattle.fields.specs.declared.patterns.protocol.ProtocolNumber.{ProtocolNumber}

-- the field of an end's address
abbrev pub end_field : End → Field
end_field end.Source = field.Source
end_field end.Destination = field.Destination

-- the condition that states a test, plain or inverted
abbrev pub stated : {T : Type 0} → T → Sense → Sided (Plain T)
stated t s = record { condition = Is t; sense = s }

-- refusal 11 at a field
abbrev pub unlawful : Field → Refusal
unlawful f = record { reason = reason.Condition; part = part.Columns; place = field_number f }

abbrev pub answer : {T : Type 0} → Option T → Sense → Field → Result (Sided (Plain T)) Refusal
answer None s f = Err (unlawful f)
answer (Some t) s f = Ok (stated t s)

-- the answer is that of the test that Made describes, or of there being none
abbrev pub MadeFrom : {T : Type 0} → (Option T → Type 0) → Sense → Field → Result (Sided (Plain T)) Refusal → Type 0
MadeFrom {T} Made s f r = (test : Option T) × Made test × (r ≡ answer test s f)

-- every number but 0
abbrev pub MadeProtocol : ℕ → Option ProtocolNumber → Type 0
MadeProtocol number None = number ≡ 0
MadeProtocol number (Some p) = p.number ≡ number

-- a mask below 64, and wanted bits inside it
abbrev pub MadeFlags : ℕ → ℕ → Option FlagsPattern → Type 0
MadeFlags mask wanted None = (mask < 64) × (bit_and wanted mask ≡ wanted) → ⊥
MadeFlags mask wanted (Some p) = (p.mask ≡ mask) × (p.wanted ≡ wanted)

-- 1 to 7
abbrev pub MadeLabels : ℕ → Option LabelSet → Type 0
MadeLabels members None = (0 < members) × (members < 8) → ⊥
MadeLabels members (Some s) = s.members ≡ members

-- 1 to 15 name bytes
abbrev pub MadeWhole : List ℕ → Option NamePattern → Type 0
MadeWhole bs None = name_fault bs ≡ None → ⊥
MadeWhole bs (Some (Whole n)) = name_bytes n ≡ bs
MadeWhole bs (Some (Beginning b)) = ⊥

-- 0 to 14 name bytes
abbrev pub MadeBeginning : List ℕ → Option NamePattern → Type 0
MadeBeginning bs None = text_fault 0 14 bs ≡ None → ⊥
MadeBeginning bs (Some (Whole n)) = ⊥
MadeBeginning bs (Some (Beginning b)) = beginning_bytes b ≡ bs
