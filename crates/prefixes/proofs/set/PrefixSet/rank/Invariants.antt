use Rattle.std.proofs.Common.{◌≡◌, ℕ, ◌-◌, ◌<◌, ◌≤◌, true, false, length}
use Rattle.prefixes.specs.Strings.{ordered, common}
use Rattle.prefixes.specs.Stored.{at}
use Rattle.prefixes.specs.Spelled.{spelled}
use Rattle.prefixes.specs.Held.{held}
use Rattle.prefixes.proofs.set.PrefixSet.rank.Given as goal

abbrev pub invariant-loop-low : goal.invariant-loop-low
invariant-loop-low l =
    ((0 < l.low) × (l.low ≤ l.high) × (l.high ≤ length (held l.self)))
    × ((i : ℕ) → i < l.low → ordered (at (held l.self) i) (spelled l.key) ≡ true)
    × ((i : ℕ) → l.high ≤ i → i < length (held l.self) → ordered (at (held l.self) i) (spelled l.key) ≡ false)
    × (l.below ≤ common (at (held l.self) (l.low - 1)) (spelled l.key))
    × ((l.high < length (held l.self) → l.above ≤ common (at (held l.self) l.high) (spelled l.key)) × (length (held l.self) ≤ l.high → l.above ≡ 0))

abbrev pub decreases-loop-low : goal.decreases-loop-low
decreases-loop-low l = l.high - l.low
