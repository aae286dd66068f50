use Rattle.std.proofs.Common.{◌+◌, ◌*◌}
use Rattle.rows.specs.Bits.{at, taken_out}
use Rattle.rows.proofs.Rows.{Upward}
use Rattle.rows.proofs.row.Row.remove.Given as goal

abbrev pub invariant-loop-k : goal.invariant-loop-k
invariant-loop-k l =
    Upward (taken_out (at l.initial.self.words) (64 * (l.first + 1))) (at l.initial.self.words) l.self.words l.k
