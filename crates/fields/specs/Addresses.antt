-- Address prefixes.
use Rattle.std.specs.Prelude.{◌≡◌, ℕ, ◌-◌, ◌/◌, ◌%◌, ◌^◌, ◌≤◌, Bool, Some, None, Option, ◌==◌}
use Rattle.fields.specs.declared.values.address.Address.{Address}
use Rattle.fields.specs.declared.patterns.address.AddressPrefix.{AddressPrefix}

-- the number that the first n of 32 bits spell
abbrev pub first_bits : ℕ → ℕ → ℕ
first_bits n bits = bits / 2 ^ (32 - n)

-- the first bits of the address are those of the prefix
abbrev pub within : AddressPrefix → Address → Bool
within p a = first_bits p.length a.bits == first_bits p.length p.bits

-- at most 32 bits, and none of those behind them is one
abbrev pub LawfulPrefix : ℕ → ℕ → Type 0
LawfulPrefix bits length = (length ≤ 32) × (bits % 2 ^ (32 - length) ≡ 0)

-- every lawful prefix is made, and no other
abbrev pub MadePrefix : ℕ → ℕ → Option AddressPrefix → Type 0
MadePrefix bits length None = LawfulPrefix bits length → ⊥
MadePrefix bits length (Some p) = (p.bits ≡ bits) × (p.length ≡ length)
