-- How a drawing of a header is read: bits in the order in which they are sent, in rows of 32.
use Rattle.std.specs.Prelude.{ℕ, zero, suc, ◌+◌, ◌-◌, ◌*◌, ◌/◌, ◌%◌, ◌^◌, List, slice_index}

-- bit k of the bytes; the first bit of a byte is its most significant one
abbrev pub bit : ℕ → List ℕ → ℕ
bit k bs = slice_index bs (k / 8) / 2 ^ (7 - k % 8) % 2

-- the number that the bits spell from bit k on, as many as its width
unfoldable pub bits : ℕ → ℕ → List ℕ → ℕ
bits k zero bs = 0
bits k (suc width) bs = bits k width bs * 2 + bit (k + width) bs

-- the number in a box of the drawing, by its row, the column where it begins, and its width
abbrev pub box : ℕ → ℕ → ℕ → List ℕ → ℕ
box row column width bs = bits (32 * row + column) width bs
