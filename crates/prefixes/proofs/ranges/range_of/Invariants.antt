use Rattle.std.proofs.Common.{◌≡◌, ◌+◌, ◌^◌, ◌≤◌, drop}
use Rattle.prefixes.specs.Ranges.{low, size}
use Rattle.prefixes.proofs.ranges.range_of.Given as goal

abbrev pub invariant-loop-symbol : goal.invariant-loop-symbol
invariant-loop-symbol l =
    (l.size ≡ 2 ^ l.width)
    × (l.low + l.size ≤ 4294967296)
    × (l.low + low l.width (drop l.symbol-index l.string) ≡ low 32 l.string)
    × (size l.width (drop l.symbol-index l.string) ≡ size 32 l.string)
