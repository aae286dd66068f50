-- The ones' complement sum of 16-bit words, as RFC 1071 has it.
use Rattle.std.specs.Prelude.{ℕ, zero, suc, ◌+◌, ◌*◌, ◌/◌, ◌%◌, List, length}
use Rattle.reader.specs.Drawings.{bits}

-- a sum of words as 16 bits, the carry above them added back in
abbrev pub carried : ℕ → ℕ
carried sum = sum % 65536 + sum / 65536

abbrev pub ones_add : ℕ → ℕ → ℕ
ones_add a b = carried (a + b)

-- the sum of the first n words
abbrev pub first_words_sum : ℕ → List ℕ → ℕ
first_words_sum zero bs = 0
first_words_sum (suc n) bs = ones_add (first_words_sum n bs) (bits (16 * n) 16 bs)

-- the sum of all words
abbrev pub words_sum : List ℕ → ℕ
words_sum bs = first_words_sum (length bs / 2) bs
