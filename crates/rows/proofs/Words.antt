-- What the functions on one word leave at each place.
use Rattle.std.proofs.Common.{◌≡◌, ℕ, ◌+◌, ◌-◌, ◌*◌, ◌/◌, ◌%◌, ◌^◌, ◌<◌, ◌≤◌, Bool, true, false, cond, not, eqb, ltb, sym, ap, ◌∙◌, arith, lit<, lit≤}
use lib.Bits.{bit_and, bit_or}
use lib.Pow.{shr_le}
use mir.Val.{bool_byte}
use Rattle.std.proofs.lemmas.Bool.Decides.{nat_tests}
use Rattle.std.proofs.lemmas.Bool.{lt-ltb}
use Rattle.rows.specs.Bits.{bit, top, put_in, joined_out, after_last, before_first}
use Rattle.rows.proofs.Bit.{bit_of_and, bit_of_or, bit_not, bit_of_shr, bit_of_shl, bit_max, bit_past, bit_of_zero, bit_top}

pub back_by_one : (word previous i : ℕ) → word < 2 ^ 64 → i < 64
    → top (bit_or (word / 2 ^ 1) (previous * 2 ^ 63 % 2 ^ 64)) i ≡ after_last (top previous) (top word) i
back_by_one word previous i w h =
    let a = bit_of_or (word / 2 ^ 1) (previous * 2 ^ 63 % 2 ^ 64) (63 - i) in
    let b = bit_of_shr word 1 (63 - i) in
    let c = bit_of_shl previous 63 (63 - i) (omega arith) in
    let d = bit_past word 64 64 w (omega arith) in
    grind (arith, nat_tests)

pub forward_by_one : (word next i : ℕ) → next < 2 ^ 64 → i < 64
    → top (bit_or (word * 2 ^ 1 % 2 ^ 64) (next / 2 ^ 63)) i ≡ before_first (top word) (top next) i
forward_by_one word next i w h =
    let a = bit_of_or (word * 2 ^ 1 % 2 ^ 64) (next / 2 ^ 63) (63 - i) in
    let b = bit_of_shl word 1 (63 - i) (omega arith) in
    let c = bit_of_shr next 63 (63 - i) in
    let d : (64 ≤ 63 + (63 - i)) → bit next (63 + (63 - i)) ≡ false = λ l. bit_past next 64 (63 + (63 - i)) w l in
    grind (arith, nat_tests)

-- the places of a word from p on
abbrev behind : ℕ → ℕ
behind p = (2 ^ 64 - 1) / 2 ^ p

bit_behind : (p j : ℕ) → bit (behind p) j ≡ ltb (p + j) 64
bit_behind p j = bit_of_shr (2 ^ 64 - 1) p j ∙ bit_max (p + j)

bit_before : (p j : ℕ) → j < 64 → bit (2 ^ 64 - 1 - behind p) j ≡ not (ltb (p + j) 64)
bit_before p j h = bit_not (behind p) j (omega (arith, shr_le (2 ^ 64 - 1) p)) h ∙ ap not (bit_behind p j)

-- a flag at place p
bit_flag : (b : Bool) (p j : ℕ) → p < 64 → j < 64 → bit (bool_byte b * 2 ^ (63 - p) % 2 ^ 64) j ≡ cond (eqb (p + j) 63) b false
bit_flag true p j h l =
    let a = bit_of_shl 1 (63 - p) j l in
    let b : (1 ≤ j - (63 - p)) → bit 1 (j - (63 - p)) ≡ false = λ k. bit_past 1 1 (j - (63 - p)) (lit< tt) k in
    let c : bit 1 0 ≡ true = bit_top 1 0 (lit≤ tt) (lit< tt) in
    grind (arith, nat_tests)
bit_flag false p j h l =
    let a = bit_of_shl 0 (63 - p) j l in
    let b = bit_of_zero (j - (63 - p)) in
    grind (arith, nat_tests)

pub putting_in : (word p : ℕ) (b : Bool) (i : ℕ) → word < 2 ^ 64 → p < 64 → i < 64
    → top (bit_or (bit_or (bit_and word (2 ^ 64 - 1 - behind p)) (bool_byte b * 2 ^ (63 - p) % 2 ^ 64)) (bit_and word (behind p) / 2 ^ 1)) i
    ≡ put_in (top word) p b i
putting_in word p b i w h l =
    let j : ℕ = 63 - i in
    let k : j < 64 = omega arith in
    let e₁ = bit_of_or (bit_or (bit_and word (2 ^ 64 - 1 - behind p)) (bool_byte b * 2 ^ (63 - p) % 2 ^ 64)) (bit_and word (behind p) / 2 ^ 1) j in
    let e₂ = bit_of_or (bit_and word (2 ^ 64 - 1 - behind p)) (bool_byte b * 2 ^ (63 - p) % 2 ^ 64) j in
    let e₃ = bit_of_and word (2 ^ 64 - 1 - behind p) j in
    let e₄ = bit_before p j k in
    let e₅ = bit_flag b p j h k in
    let e₆ = bit_of_shr (bit_and word (behind p)) 1 j in
    let e₇ = bit_of_and word (behind p) (1 + j) in
    let e₈ = bit_behind p (1 + j) in
    grind (arith, nat_tests)

pub taking_out : (word p next i : ℕ) → next < 2 ^ 64 → p < 64 → i < 64
    → top (bit_or (bit_or (bit_and word (2 ^ 64 - 1 - behind p)) (bit_and (word * 2 ^ 1 % 2 ^ 64) (behind p))) (next / 2 ^ 63)) i
    ≡ joined_out (top word) (top next) p i
taking_out word p next i w h l =
    let j : ℕ = 63 - i in
    let k : j < 64 = omega arith in
    let e₁ = bit_of_or (bit_or (bit_and word (2 ^ 64 - 1 - behind p)) (bit_and (word * 2 ^ 1 % 2 ^ 64) (behind p))) (next / 2 ^ 63) j in
    let e₂ = bit_of_or (bit_and word (2 ^ 64 - 1 - behind p)) (bit_and (word * 2 ^ 1 % 2 ^ 64) (behind p)) j in
    let e₃ = bit_of_and word (2 ^ 64 - 1 - behind p) j in
    let e₄ = bit_before p j k in
    let e₅ = bit_of_and (word * 2 ^ 1 % 2 ^ 64) (behind p) j in
    let e₆ = bit_of_shl word 1 j k in
    let e₇ = bit_behind p j in
    let e₈ = bit_of_shr next 63 j in
    let e₉ : (64 ≤ 63 + j) → bit next (63 + j) ≡ false = λ m. bit_past next 64 (63 + j) w m in
    grind (arith, nat_tests)

pub all_ones : (i : ℕ) → i < 64 → top (2 ^ 64 - 1) i ≡ ltb i 64
all_ones i h = bit_max (63 - i) ∙ lt-ltb (63 - i) 64 (omega arith) ∙ sym (lt-ltb i 64 h)

pub first_ones : (n i : ℕ) → n < 64 → i < 64 → top (2 ^ 64 - 1 - behind n) i ≡ ltb i n
first_ones n i h l = let a = bit_before n (63 - i) (omega arith) in grind (arith, nat_tests)

pub not_word : (w i : ℕ) → w < 2 ^ 64 → i < 64 → top (2 ^ 64 - 1 - w) i ≡ not (top w i)
not_word w i h l = bit_not w (63 - i) h (omega arith)
