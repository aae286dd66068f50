-- The numbers whose bits a string begins: from its low, as many as its size.
use Rattle.std.specs.Prelude.{◌≡◌, ℕ, zero, suc, ◌+◌, ◌^◌, ◌<◌, ◌≤◌, true, List, [], ◌∷◌, length, slice_index}
use Rattle.prefixes.specs.Bits.{bits_of}
use Rattle.fields.specs.Strings.{begins}
use Rattle.prefixes.specs.Stored.{at, Covers}

-- the least number of w bits that is not before the string in the order of the alphabet, or 2 ^ w
abbrev pub low : ℕ → List ℕ → ℕ
low w [] = 0
low zero (x ∷ p) = 1
low (suc w) (zero ∷ p) = low w p
low (suc w) (suc zero ∷ p) = 2 ^ w + low w p
low (suc w) (suc (suc x) ∷ p) = 2 ^ suc w

-- how many numbers of w bits the string begins
abbrev pub size : ℕ → List ℕ → ℕ
size w [] = 2 ^ w
size zero (x ∷ p) = 0
size (suc w) (zero ∷ p) = size w p
size (suc w) (suc zero ∷ p) = size w p
size (suc w) (suc (suc x) ∷ p) = 0

-- the first number behind those that the string begins
abbrev pub past : ℕ → List ℕ → ℕ
past w p = low w p + size w p

-- the longest stored string that begins the key, as a product
abbrev pub Best : List (List ℕ) → List ℕ → ℕ → Type 0
Best ss key r = (r < length ss) × (begins (at ss r) key ≡ true) × Covers ss key (length ss) r

-- each of the first n stretches has one answer, up to the start of the next
abbrev pub Stretched : ℕ → List (List ℕ) → List ℕ → List ℕ → ℕ → Type 0
Stretched w ss starts answers n = (t : ℕ) → t < n → (k : ℕ) → slice_index starts t ≤ k → k < slice_index starts (t + 1) → Best ss (bits_of w k) (slice_index answers t)

-- from the end of the last stretch on all starts are alike
abbrev pub Padded : List ℕ → ℕ → Type 0
Padded starts n = (t : ℕ) → n ≤ t → t < length starts → slice_index starts t ≡ slice_index starts n
