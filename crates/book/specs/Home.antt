-- Where the walk for a flow begins: any function of the flow will do.
use Rattle.std.specs.Prelude.{ℕ, ◌+◌, ◌*◌, ◌/◌, ◌%◌, ◌^◌, bit_xor}
use Rattle.book.specs.declared.flow.Flow.{Flow}
use Rattle.book.specs.declared.hash.Keys.{Keys}
use Rattle.book.specs.Values.{protocol_value}

-- a product of 64 bits
abbrev pub times : ℕ → ℕ → ℕ
times a b = (a * b) % 2 ^ 64

-- a sum of 64 bits
abbrev pub plus : ℕ → ℕ → ℕ
plus a b = (a + b) % 2 ^ 64

abbrev pub product_sum : Keys → Flow → ℕ
product_sum k f =
    plus (plus (plus (times k.opener f.opener.address.bits) (times k.other f.other.address.bits))
    (times k.ports (f.opener.port * 65536 + f.other.port))) (times k.protocol (protocol_value f.protocol))

abbrev pub spread : ℕ → ℕ
spread n = times (bit_xor n (n / 2 ^ 32)) 0x9e3779b97f4a7c15 / 2 ^ 52

unfoldable pub home : Keys → Flow → ℕ
home k f = spread (product_sum k f)
