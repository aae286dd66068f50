use Rattle.std.proofs.Common.{◌≡◌, ℕ, ◌-◌, ◌<◌, ◌≤◌, length, get_or}
use Rattle.prefixes.specs.Held.{held}
use Rattle.prefixes.specs.Stored.{at}
use Rattle.prefixes.specs.Ranges.{low, Stretched}
use Rattle.prefixes.proofs.stretches.methods.divide.Given as goal

abbrev pub invariant-loop-start : goal.invariant-loop-start
invariant-loop-start l =
    ((length l.starts ≡ 1025) × (length l.answers ≡ 1025))
    × ((l.count < length l.starts) × (l.last < length (held l.set)))
    × (l.start ≡ get_or l.starts l.count 0)
    × (get_or l.starts 0 0 ≡ 0)
    × (low 32 (at (held l.set) l.last) ≤ l.start)
    × (l.count ≡ 0 → l.start ≡ 0)
    × ((l.start ≤ 4294967296) × ((t : ℕ) → l.count < t → t < length l.starts → get_or l.starts t 0 ≡ 4294967296))
    × Stretched 32 (held l.set) l.starts l.answers l.count

abbrev pub decreases-loop-start : goal.decreases-loop-start
decreases-loop-start l = length l.starts - l.count
