use Rattle.std.proofs.Common.{◌+◌, ◌≤◌}
use Rattle.rows.specs.Bits.{at}
use Rattle.rows.proofs.Rows.{Downward}
use Rattle.rows.proofs.row.Row.insert.Given as goal

abbrev pub invariant-loop-k : goal.invariant-loop-k
invariant-loop-k l = (l.first + 1 ≤ l.k) × Downward (at l.initial.self.words) l.self.words l.k
