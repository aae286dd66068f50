-- Which strings of bytes are interface names.
use Rattle.std.specs.Prelude.{ℕ, ◌+◌, Bool, cond, not, ◌&&◌, ◌||◌, List, [], ◌∷◌, length, Some, None, Option, ◌==◌, nat_le, nat_lt}

-- a printable byte other than `+` and `/`
abbrev pub name_byte : ℕ → Bool
name_byte b = (nat_le 33 b && nat_le b 126) && not (b == 43 || b == 47)

-- the index of the first byte that a name cannot have, where the list starts at an index
abbrev pub first_bad : List ℕ → ℕ → Option ℕ
first_bad [] i = None
first_bad (b ∷ bs) i = cond (name_byte b) (first_bad bs (i + 1)) (Some i)

-- why these bytes are no text of low to high name bytes: 0 for the length, else the index of the first bad byte
abbrev pub text_fault : ℕ → ℕ → List ℕ → Option ℕ
text_fault low high bs = cond (nat_lt (length bs) low || nat_lt high (length bs)) (Some 0) (first_bad bs 0)

-- why these bytes are no interface name
abbrev pub name_fault : List ℕ → Option ℕ
name_fault bs = text_fault 1 15 bs
