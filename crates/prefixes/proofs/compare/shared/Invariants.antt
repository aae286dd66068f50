use Rattle.std.proofs.Common.{◌-◌, ◌≤◌, length}
use Rattle.prefixes.specs.Strings.{common}
use Rattle.prefixes.proofs.compare.shared.Given as goal

abbrev pub invariant-loop-at : goal.invariant-loop-at
invariant-loop-at l = l.at ≤ common l.p l.s

abbrev pub decreases-loop-at : goal.decreases-loop-at
decreases-loop-at l = length l.p - l.at
