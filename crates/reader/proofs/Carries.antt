-- Carries that are added back at the end give the sum that has each added back at once.
use Rattle.std.proofs.Common.{◌≡◌, ℕ, ◌+◌, ◌*◌, ◌^◌, ◌<◌, List, add-one, arith}
use Rattle.reader.specs.Drawings.{bits}
use Rattle.reader.specs.Sums.{carried, ones_add, first_words_sum}

-- a word more
pub one_more : (bs : List ℕ) (i s w t : ℕ) → s < 2 ^ 30 → w < 65536 → carried (carried s) ≡ first_words_sum i bs → w ≡ bits (8 * (2 * i)) 16 bs
    → t ≡ s + w → carried (carried t) ≡ first_words_sum (i + 1) bs
one_more bs i s w t hs hw was new sum =
    let e : 8 * (2 * i) ≡ 16 * i = omega arith in
    let m : carried (carried (s + w)) ≡ ones_add (carried (carried s)) w = omega arith in
    rw add-one (cc)
