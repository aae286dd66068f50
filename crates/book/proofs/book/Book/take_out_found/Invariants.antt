use Rattle.std.proofs.Common.{length, vec_items}
use Rattle.book.specs.Live.{Same}
use Rattle.book.specs.Sweeps.{Told}
use Rattle.book.proofs.book.Book.take_out_found.Given as goal

abbrev pub invariant-loop-j : goal.invariant-loop-j
invariant-loop-j l = record {
  same : Same l.clock (vec_items l.self.entries) (vec_items l.initial.self.entries);
  told : Told l.clock (vec_items l.self.entries) (length (vec_items l.self.entries)) l.j l.found.numbers l.found.earliest;
}
