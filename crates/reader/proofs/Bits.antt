-- Runs of bits: how two stand side by side, and what the bits of a byte spell.
use Rattle.std.proofs.Common.{◌≡◌, ℕ, zero, suc, ◌+◌, ◌-◌, ◌*◌, ◌/◌, ◌%◌, ◌^◌, ◌<◌, List, get_or, drop, ap, ◌∙◌, add-zero, add_assoc, add-suc, mod-lt, mul_assoc, add-mul, pow-suc, arith, lit<}
use Rattle.std.specs.Simd.{first_chunks}
use Rattle.std.proofs.lemmas.List.{get_or-take, get_or-drop}
use lib.Pow.{high, low}
use Rattle.reader.specs.Drawings.{bit, bits}

pub bits_lt : (k n : ℕ) (bs : List ℕ) → bits k n bs < 2 ^ n
unfolding bits
bits_lt k zero bs = omega arith
bits_lt k (suc n) bs =
    let h = bits_lt k n bs in
    let b : bit (k + n) bs < 2 = mod-lt _ (omega arith) in
    rw pow-suc (omega arith)

regroup : (a p b d : ℕ) → (a * p + b) * 2 + d ≡ a * (p * 2) + (b * 2 + d)
regroup a p b d = rw (add-mul, mul_assoc, add_assoc)

-- m bits and then n bits
pub bits_join : (k m n : ℕ) (bs : List ℕ) → bits k (m + n) bs ≡ bits k m bs * 2 ^ n + bits (k + m) n bs
unfolding bits
bits_join k m zero bs = rw (add-zero m) (omega arith)
bits_join k m (suc n) bs =
    let h = bits_join k m n bs in
    let g = regroup (bits k m bs) (2 ^ n) (bits (k + m) n bs) (bit (k + m + n) bs) in
    let a = add_assoc k m n in
    rw (add-suc m n, pow-suc 2 n) (cc)

-- the first m of them, and the last n
pub bits_high : (k m n : ℕ) (bs : List ℕ) → bits k (m + n) bs / 2 ^ n ≡ bits k m bs
bits_high k m n bs = ap (λ x. x / 2 ^ n) (bits_join k m n bs) ∙ high (bits k m bs) n (bits_lt (k + m) n bs)

pub bits_low : (k m n : ℕ) (bs : List ℕ) → bits k (m + n) bs % 2 ^ n ≡ bits (k + m) n bs
bits_low k m n bs = ap (λ x. x % 2 ^ n) (bits_join k m n bs) ∙ low (bits k m bs) n (bits_lt (k + m) n bs)

-- the bit w of byte i, and all eight of them
bit_in : (i w : ℕ) (bs : List ℕ) → w < 8 → bit (8 * i + w) bs ≡ get_or bs i 0 / 2 ^ (7 - w) % 2
bit_in i w bs l =
    let q : (8 * i + w) / 8 ≡ i = omega arith in
    let r : (8 * i + w) % 8 ≡ w = omega arith in
    rw (q, r)

pub octet_bits : (i : ℕ) (bs : List ℕ) → get_or bs i 0 < 256 → bits (8 * i) 8 bs ≡ get_or bs i 0
unfolding bits
octet_bits i bs l =
    let b = λ (w : ℕ) (h : w < 8). bit_in i w bs h in
    omega (arith, b 0 (lit< tt), b 1 (lit< tt), b 2 (lit< tt), b 3 (lit< tt), b 4 (lit< tt), b 5 (lit< tt), b 6 (lit< tt), b 7 (lit< tt))

-- two bytes, and four
pub word_bits : (i : ℕ) (bs : List ℕ) → bits (8 * i) 16 bs ≡ bits (8 * i) 8 bs * 256 + bits (8 * (i + 1)) 8 bs
word_bits i bs =
    let e : 8 * i + 8 ≡ 8 * (i + 1) = omega arith in
    let j = bits_join (8 * i) 8 8 bs in
    let n = ap (λ k. bits k 8 bs) e in
    omega arith

pub long_bits : (i : ℕ) (bs : List ℕ)
    → bits (8 * i) 32 bs ≡ bits (8 * i) 8 bs * 16777216 + bits (8 * (i + 1)) 8 bs * 65536 + bits (8 * (i + 2)) 8 bs * 256 + bits (8 * (i + 3)) 8 bs
long_bits i bs =
    let e : 8 * i + 16 ≡ 8 * (i + 2) = omega arith in
    let j = bits_join (8 * i) 16 16 bs in
    let n = ap (λ k. bits k 16 bs) e in
    let high = word_bits i bs in
    let low = word_bits (i + 2) bs in
    let f : i + 2 + 1 ≡ i + 3 = omega arith in
    let m = ap (λ k. bits (8 * k) 8 bs) f in
    omega arith

-- the bytes of the pair i of the first k
pair_at : (i j k : ℕ) (bs : List ℕ) (d : List ℕ) → i < k → j < 2 → get_or (get_or (first_chunks 2 k bs) i d) j 0 ≡ get_or bs (2 * i + j) 0
pair_at i j zero bs d l h = absurd (omega arith)
pair_at zero j (suc k) bs d l h = get_or-take 2 bs j 0 h ∙ ap (λ n. get_or bs n 0) (let e : j ≡ 2 * 0 + j = omega arith in e)
pair_at (suc i) j (suc k) bs d l h =
    pair_at i j k (drop 2 bs) d (omega arith) h ∙ get_or-drop 2 bs (2 * i + j) 0
    ∙ ap (λ n. get_or bs n 0) (let e : 2 + (2 * i + j) ≡ 2 * suc i + j = omega arith in e)

pub pair_bits : (pairs : List (List ℕ)) (i k : ℕ) (bs d : List ℕ) (w : ℕ) → pairs ≡ first_chunks 2 k bs → i < k → ((n : ℕ) → get_or bs n 0 < 256)
    → w ≡ get_or (get_or pairs i d) 0 0 * 256 + get_or (get_or pairs i d) 1 0 → w ≡ bits (8 * (2 * i)) 16 bs
pair_bits pairs i k bs d w cut l fits is =
    let v = word_bits (2 * i) bs in
    let h = octet_bits (2 * i) bs (fits (2 * i)) in
    let o = octet_bits (2 * i + 1) bs (fits (2 * i + 1)) in
    let a = pair_at i 0 k bs d l (omega arith) in
    let b = pair_at i 1 k bs d l (omega arith) in
    let z = add-zero (2 * i) in
    cc
