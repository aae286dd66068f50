use Rattle.std.proofs.Common.{◌+◌, ◌≤◌}
use Rattle.prefixes.specs.Stored.{Covers}
use Rattle.prefixes.specs.StoredStrings.{strings}
use Rattle.prefixes.proofs.links.ascend.Given as goal

abbrev pub invariant-loop-at : goal.invariant-loop-at
invariant-loop-at g l = (l.at ≤ l.from) × Covers (strings l.stored) (g.K.Key.spelling l.key) (l.from + 1) l.at

abbrev pub decreases-loop-at : goal.decreases-loop-at
decreases-loop-at g l = l.at
