use Rattle.std.proofs.Common.{ℕ, ◌<◌}
use Rattle.book.specs.Index.{spot, slot_at, Other}
use Rattle.book.proofs.index.Index.seek.Given as goal

abbrev pub invariant-loop-j : goal.invariant-loop-j
invariant-loop-j l = (k : ℕ) → k < l.j → Other l.entries l.flow (slot_at l.self.slots (spot l.home k))
