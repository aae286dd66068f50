use Rattle.std.proofs.Common.{◌-◌, ◌<◌, ◌≤◌, length}
use Rattle.prefixes.specs.Held.{held}
use Rattle.prefixes.specs.Stored.{at}
use Rattle.prefixes.specs.Ranges.{low}
use Rattle.prefixes.proofs.set.PrefixSet.advance.Given as goal

abbrev pub invariant-loop-last : goal.invariant-loop-last
invariant-loop-last l = (l.last < length (held l.self)) × (low 32 (at (held l.self) l.last) ≤ l.key)

abbrev pub decreases-loop-last : goal.decreases-loop-last
decreases-loop-last l = length (held l.self) - l.last
