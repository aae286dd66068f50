use Rattle.book.specs.Index.{Taken}
use Rattle.book.proofs.index.Index.free_slot.Given as goal

abbrev pub invariant-loop-j : goal.invariant-loop-j
invariant-loop-j l = Taken l.self.slots l.home l.j
