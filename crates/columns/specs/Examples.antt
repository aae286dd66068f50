-- Worked examples of conditions and rows, as one table over the definitions.
use Rattle.std.specs.Prelude.{◌≡◌, ℕ, zero, suc, ◌+◌, ◌*◌, ◌^◌, Bool, true, false, cond, List, [], ◌∷◌, map, Some, None, codes}
use Rattle.fields.specs.Addresses.{within}
use Rattle.fields.specs.Admitting.{port_admits}
use Rattle.fields.specs.Conditions.{plain_admits}
use Rattle.fields.specs.NamePatterns.{beginning_bytes, name_passes}
use Rattle.fields.specs.Names.{name_bytes}
use Rattle.fields.specs.declared.condition.plain.Plain.{Plain}
use Rattle.fields.specs.declared.condition.plain.Plain.TheVariants.{Is}
use Rattle.fields.specs.declared.condition.sided.Sense.TheVariants as sense
use Rattle.fields.specs.declared.condition.sided.Sided.{Sided}
use Rattle.fields.specs.declared.patterns.address.AddressPrefix.{AddressPrefix}
use Rattle.fields.specs.declared.patterns.name.NameBeginning.{NameBeginning}
use Rattle.fields.specs.declared.patterns.name.NamePattern.TheVariants.{Beginning}
use Rattle.fields.specs.declared.values.address.Address.{Address}
use Rattle.fields.specs.declared.values.name.InterfaceName.{InterfaceName}
use Rattle.fields.specs.declared.values.port.Port.{Port}

-- the address that is written a.b.c.d
abbrev pub dotted : ℕ → ℕ → ℕ → ℕ → Address
dotted a b c d = record { bits = ((a * 256 + b) * 256 + c) * 256 + d }

-- the word that begins with these bits, the first of the weight 2 ^ (n - 1)
abbrev pub word_of : ℕ → List Bool → ℕ
word_of zero bits = 0
word_of (suc n) [] = 0
word_of (suc n) (b ∷ bits) = cond b (2 ^ n) 0 + word_of n bits

-- what the examples speak of: two nested prefixes, the beginning `eth`, and three names
pub record Cast : Type 0 where
  pub wide : AddressPrefix
  pub wide_bits : wide.bits ≡ (dotted 10 0 0 0).bits
  pub wide_length : wide.length ≡ 8
  pub narrow : AddressPrefix
  pub narrow_bits : narrow.bits ≡ (dotted 10 1 0 0).bits
  pub narrow_length : narrow.length ≡ 16
  pub eth : NameBeginning
  pub eth_bytes : beginning_bytes eth ≡ codes "eth"
  pub short : InterfaceName
  pub short_bytes : name_bytes short ≡ codes "et"
  pub exact : InterfaceName
  pub exact_bytes : name_bytes exact ≡ codes "eth"
  pub longer : InterfaceName
  pub longer_bytes : name_bytes longer ≡ codes "eth0"

-- what the prefixes 10.0.0.0/8 and 10.1.0.0/16 read at an address, as the first word of a row
abbrev pub nested : Cast → Address → ℕ
nested e a = word_of 64 (map (λ c. plain_admits within c (Some a)) (Is e.wide ∷ Is e.narrow ∷ []))

-- the inverted port 443
abbrev pub not_443 : Sided (Plain Port)
not_443 = record { condition = Is (record { number = 443 }); sense = sense.Inverted }

abbrev pub port_number : ℕ → Port
port_number n = record { number = n }

-- the beginning `eth` at a name
abbrev pub begins_eth : Cast → InterfaceName → Bool
begins_eth e n = plain_admits name_passes (Is (Beginning e.eth)) (Some n)

-- the table: each line a reading, and what it gives
pub record Worked (e : Cast) : Type 0 where
  pub inside_both : nested e (dotted 10 1 2 3) ≡ 0xC000_0000_0000_0000
  pub inside_one : nested e (dotted 10 2 0 0) ≡ 0x8000_0000_0000_0000
  pub other_port : port_admits not_443 (Some (port_number 80)) ≡ true
  pub same_port : port_admits not_443 (Some (port_number 443)) ≡ false
  pub no_port : port_admits not_443 None ≡ false
  pub exact_name : begins_eth e e.exact ≡ true
  pub longer_name : begins_eth e e.longer ≡ true
  pub shorter_name : begins_eth e e.short ≡ false

abbrev pub AllWorked : Type 0
AllWorked = (e : Cast) → Worked e
