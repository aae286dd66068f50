-- Laws of the bits of a number.
use Rattle.std.proofs.Common.{◌≡◌, ℕ, zero, suc, ◌-◌, ◌/◌, ◌%◌, ◌^◌, ◌<◌, length, get_or, refl, ap, ◌∙◌, arith}
use Rattle.prefixes.specs.Bits.{bits_of}

pub length_bits : (n v : ℕ) → length (bits_of n v) ≡ n
length_bits zero v = refl
length_bits (suc n) v = ap suc (length_bits n v)

pub get_or_bits : (n v i : ℕ) → i < n → get_or (bits_of n v) i 0 ≡ (v / (2 ^ (n - 1 - i))) % 2
get_or_bits zero v i h = absurd (omega arith)
get_or_bits (suc n) v zero h = ap (λ (k : ℕ). (v / (2 ^ k)) % 2) (let e : n ≡ suc n - 1 - 0 = omega arith in e)
get_or_bits (suc n) v (suc i) h = get_or_bits n v i (omega arith) ∙ ap (λ (k : ℕ). (v / (2 ^ k)) % 2) (let e : n - 1 - i ≡ suc n - 1 - suc i = omega arith in e)
