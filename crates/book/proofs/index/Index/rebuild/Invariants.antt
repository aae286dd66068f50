use Rattle.std.proofs.Common.{◌≡◌, ◌+◌}
use Rattle.book.specs.Index.{Reached}
use Rattle.book.proofs.index.Index.rebuild.Given as goal

abbrev pub invariant-loop-n : goal.invariant-loop-n
invariant-loop-n l = record {
  left : l.self.free + l.n ≡ 4096;
  reached : Reached l.self.keys l.self.slots l.entries l.n;
  keys : l.self.keys ≡ l.initial.self.keys;
}
