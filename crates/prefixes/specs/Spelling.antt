-- How addresses and interface names are spelled, and which strings their tests ask for.
use Rattle.std.specs.Prelude.{ℕ, ◌^◌, cond, List, [], ◌∷◌, ◌++◌, take, nat_lt}
use Rattle.fields.specs.NamePatterns.{beginning_bytes}
use Rattle.fields.specs.Names.{name_bytes}
use Rattle.fields.specs.declared.patterns.address.AddressPrefix.{AddressPrefix}
use Rattle.fields.specs.declared.patterns.name.NamePattern.{NamePattern}
use Rattle.fields.specs.declared.patterns.name.NamePattern.TheVariants.{Whole, Beginning}
use Rattle.fields.specs.declared.values.address.Address.{Address}
use Rattle.fields.specs.declared.values.name.InterfaceName.{InterfaceName}
use Rattle.prefixes.specs.Bits.{bits_of}

-- an address spells its 32 bits
abbrev pub address_spelling : Address → List ℕ
address_spelling a = bits_of 32 a.bits

-- and a prefix the first of them. No address begins with the symbol 2, so the law of fronts holds for numbers of more bits too, though no program has one.
abbrev pub address_front : AddressPrefix → List ℕ
address_front p = cond (nat_lt p.bits (2 ^ 32)) (take p.length (bits_of 32 p.bits)) (2 ∷ [])

-- a name spells its bytes and an end mark, which no name has among its bytes
abbrev pub name_spelling : InterfaceName → List ℕ
name_spelling n = name_bytes n ++ 0 ∷ []

-- so a whole name is told from one that it begins
abbrev pub name_front : NamePattern → List ℕ
name_front (Whole n) = name_bytes n ++ 0 ∷ []
name_front (Beginning b) = beginning_bytes b
