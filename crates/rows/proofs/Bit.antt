-- The laws of one binary digit of a number.
use Rattle.std.proofs.Common.{◌≡◌, ℕ, suc, ◌+◌, ◌-◌, ◌*◌, ◌/◌, ◌%◌, ◌^◌, ◌<◌, ◌≤◌, Bool, true, false, cond, not, ◌&&◌, ◌||◌, eqb, ltb, ◌⊎◌, sym, ap, ◌∙◌, subst, inl, inr, ⊎_elim, mod-lt, mul_assoc, add-mul, one-add, arith, lit<, pow_pos, pow_mono, pow-add, shr-shr, shr_lt}
use lib.Bits.{bit_and, bit_or, bit_xor, differ, and_step, or_step, and_shr, or_shr, xor_step, xor_shr, shifted_even}
use lib.Pow.{shl-shr, field, mod-mod-pow, high, split}
use native.Mathlib.Nat.{zero-div, div-eq_of_lt, div-eq_of_lt-le}
use Rattle.std.proofs.lemmas.Bool.Decides.{nat_tests}
use Rattle.std.proofs.lemmas.Bool.{cases_lt, cases_eq, cond-true, cond-false, lt-ltb, le-ltb}
use Rattle.rows.specs.Bits.{bit, differs}

abbrev odd : ℕ → Bool
odd n = eqb (n % 2) 1

odd_and : (a b : ℕ) → odd (bit_and a b) ≡ (odd a && odd b)
odd_and a b = let h = and_step a b in grind (arith, nat_tests)

odd_or : (a b : ℕ) → odd (bit_or a b) ≡ (odd a || odd b)
odd_or a b = let h = or_step a b in grind (arith, nat_tests)

pub bit_of_and : (a b j : ℕ) → bit (bit_and a b) j ≡ (bit a j && bit b j)
unfolding bit
bit_of_and a b j = ap odd (and_shr a b j) ∙ odd_and (a / 2 ^ j) (b / 2 ^ j)

pub bit_of_or : (a b j : ℕ) → bit (bit_or a b) j ≡ (bit a j || bit b j)
unfolding bit
bit_of_or a b j = ap odd (or_shr a b j) ∙ odd_or (a / 2 ^ j) (b / 2 ^ j)

odd_xor : (a b : ℕ) → odd (bit_xor a b) ≡ differs (odd a) (odd b)
odd_xor a b = let h = xor_step a b in go (a % 2) (b % 2) (bit_xor a b % 2) (omega arith) (omega arith) (omega (arith, h))
  where
    go : (x y z : ℕ) → x < 2 → y < 2 → z ≡ differ x y % 2 → eqb z 1 ≡ differs (eqb x 1) (eqb y 1)
    go x y z h k e = ⊎_elim
        (λ u. ⊎_elim (λ v. let w : z ≡ 0 = e ∙ ap (λ s. s % 2) (ap (λ s. differ s y) u ∙ ap (differ 0) v) in cc)
        (λ v. let w : z ≡ 1 = e ∙ ap (λ s. s % 2) (ap (λ s. differ s y) u ∙ ap (differ 0) v) in cc) (two y k))
        (λ u. ⊎_elim (λ v. let w : z ≡ 1 = e ∙ ap (λ s. s % 2) (ap (λ s. differ s y) u ∙ ap (differ 1) v) in cc)
        (λ v. let w : z ≡ 0 = e ∙ ap (λ s. s % 2) (ap (λ s. differ s y) u ∙ ap (differ 1) v) in cc) (two y k))
        (two x h)
      where
        two : (n : ℕ) → n < 2 → (n ≡ 0) ⊎ (n ≡ 1)
        two n l = ⊎_elim inl (λ q. inr (omega arith)) (cases_eq n 0)

pub bit_of_xor : (a b j : ℕ) → bit (bit_xor a b) j ≡ differs (bit a j) (bit b j)
unfolding bit
bit_of_xor a b j = ap odd (xor_shr a b j) ∙ odd_xor (a / 2 ^ j) (b / 2 ^ j)

pub bit_of_shr : (a k j : ℕ) → bit (a / 2 ^ k) j ≡ bit a (k + j)
unfolding bit
bit_of_shr a k j = ap odd (shr-shr a k j)

pub bit_of_zero : (j : ℕ) → bit 0 j ≡ false
unfolding bit
bit_of_zero j = let h : 0 / 2 ^ j ≡ 0 = zero-div (2 ^ j) in grind (arith, nat_tests)

-- a digit past the number's width
pub bit_past : (n k j : ℕ) → n < 2 ^ k → k ≤ j → bit n j ≡ false
unfolding bit
bit_past n k j h l = let z : n / 2 ^ j ≡ 0 = div-eq_of_lt (omega (arith, pow_mono l)) in grind (arith, nat_tests)

-- the digits below k are those of the remainder
bit_low : (n d j : ℕ) → bit (n % 2 ^ (d + 1 + j)) j ≡ bit n j
unfolding bit
bit_low n d j = ap odd (field n (d + 1) j) ∙ ap (λ x. eqb x 1) (mod-mod-pow (n / 2 ^ j) d 1)

pub bit_mod : (n k j : ℕ) → j < k → bit (n % 2 ^ k) j ≡ bit n j
bit_mod n k j h =
    let e : k ≡ (k - (j + 1)) + 1 + j = omega arith in
    ap (λ x. bit (n % 2 ^ x) j) e ∙ bit_low n (k - (j + 1)) j

-- a product with 2 ^ k moves each digit up by k
pub bit_up : (a k j : ℕ) → bit (a * 2 ^ k) (k + j) ≡ bit a j
bit_up a k j = sym (bit_of_shr (a * 2 ^ k) k j) ∙ ap (λ x. bit x j) (shl-shr a k)

bit_below : (a d j : ℕ) → bit (a * 2 ^ (suc d + j)) j ≡ false
unfolding bit
bit_below a d j =
    let e : a * 2 ^ (suc d + j) ≡ a * 2 ^ suc d * 2 ^ j = ap (λ x. a * x) (pow-add 2 (suc d) j) ∙ sym (mul_assoc a (2 ^ suc d) (2 ^ j)) in
    ap (λ x. odd (x / 2 ^ j)) e ∙ ap odd (shl-shr (a * 2 ^ suc d) j) ∙ ap (λ x. eqb x 1) (shifted_even a d)

-- `a << k` at 64 bits
pub bit_of_shl : (a k j : ℕ) → j < 64 → bit (a * 2 ^ k % 2 ^ 64) j ≡ cond (ltb j k) false (bit a (j - k))
bit_of_shl a k j h = bit_mod (a * 2 ^ k) 64 j h ∙ go (cases_lt j k)
  where
    go : (j < k) ⊎ (k ≤ j) → bit (a * 2 ^ k) j ≡ cond (ltb j k) false (bit a (j - k))
    go (inl l) =
        let e : k ≡ suc (k - (j + 1)) + j = omega arith in
        ap (λ x. bit (a * 2 ^ x) j) e ∙ bit_below a (k - (j + 1)) j ∙ sym (cond-true (ltb j k) false (bit a (j - k)) (lt-ltb j k l))
    go (inr l) =
        let e : j ≡ k + (j - k) = omega arith in
        ap (λ x. bit (a * 2 ^ k) x) e ∙ bit_up a k (j - k) ∙ sym (cond-false (ltb j k) false (bit a (j - k)) (le-ltb j k l))

-- `!n` at 64 bits
odd_not : (q m : ℕ) → q < m * 2 → odd (m * 2 - 1 - q) ≡ not (odd q)
odd_not q m h = grind (arith, nat_tests)

-- with n = q * P + r and P * M * 2 = 2 ^ 64, `!n` is (M * 2 - 1 - q) * P + (P - 1 - r)
not_div : (q r P Q W : ℕ) → 0 < P → r < P → q < Q → W ≡ Q * P → W - 1 - (q * P + r) ≡ (Q - 1 - q) * P + (P - 1 - r)
not_div q r P Q W p h l e =
    let a : (Q - 1 - q + (q + 1)) * P ≡ Q * P = ap (λ x. x * P) (omega arith) in
    let b = add-mul (Q - 1 - q) (q + 1) P in
    let c = add-mul q 1 P in
    omega arith

pub bit_not : (n j : ℕ) → n < 2 ^ 64 → j < 64 → bit (2 ^ 64 - 1 - n) j ≡ not (bit n j)
unfolding bit
bit_not n j h l =
    let d : ℕ = 64 - (j + 1) in
    let w : 64 ≡ (d + 1) + j = omega arith in
    let e : 2 ^ 64 ≡ 2 ^ (d + 1) * 2 ^ j = ap (λ x. 2 ^ x) w ∙ pow-add 2 (d + 1) j in
    let m : 2 ^ (d + 1) ≡ 2 ^ d * 2 = pow-add 2 d 1 in
    let q : n / 2 ^ j < 2 ^ (d + 1) = shr_lt (d + 1) j (subst (λ (x : ℕ). n < 2 ^ x) w h) in
    let r : n % 2 ^ j < 2 ^ j = mod-lt n (pow_pos j) in
    let s : (2 ^ j - 1 - n % 2 ^ j) < 2 ^ j = omega arith in
    let t = not_div (n / 2 ^ j) (n % 2 ^ j) (2 ^ j) (2 ^ (d + 1)) (2 ^ 64) (pow_pos j) r q e in
    let u : (2 ^ 64 - 1 - n) / 2 ^ j ≡ 2 ^ (d + 1) - 1 - n / 2 ^ j =
    ap (λ x. (2 ^ 64 - 1 - x) / 2 ^ j) (sym (split n j)) ∙ ap (λ x. x / 2 ^ j) t ∙ high (2 ^ (d + 1) - 1 - n / 2 ^ j) j s in
    ap odd u ∙ ap (λ x. odd (x - 1 - n / 2 ^ j)) m ∙ odd_not (n / 2 ^ j) (2 ^ d) (omega arith)

-- all 64 digits are set
pub bit_max : (j : ℕ) → bit (2 ^ 64 - 1) j ≡ ltb j 64
bit_max j = go (cases_lt j 64)
  where
    go : (j < 64) ⊎ (64 ≤ j) → bit (2 ^ 64 - 1) j ≡ ltb j 64
    go (inl l) = bit_not 0 j (lit< tt) l ∙ ap not (bit_of_zero j) ∙ sym (lt-ltb j 64 l)
    go (inr l) = bit_past (2 ^ 64 - 1) 64 j (lit< tt) l ∙ sym (le-ltb j 64 l)

-- the digit at the number's highest place
pub bit_top : (n j : ℕ) → 2 ^ j ≤ n → n < 2 ^ suc j → bit n j ≡ true
unfolding bit
bit_top n j l h =
    let d : n / 2 ^ j ≡ 1 = div-eq_of_lt-le (2 ^ j) (omega arith) (omega (arith, pow-add 2 1 j, ap (λ x. 2 ^ x) (one-add j))) in
    ap odd d
