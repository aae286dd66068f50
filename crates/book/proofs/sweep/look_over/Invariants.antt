use Rattle.std.proofs.Common.{◌≡◌, ◌≤◌, length}
use Rattle.book.specs.Sweeps.{Told}
use Rattle.book.proofs.sweep.look_over.Given as goal

abbrev pub invariant-loop-number : goal.invariant-loop-number
invariant-loop-number l = record {
  few : l.dead ≤ l.number;
  long : length l.numbers ≡ 96;
  told : l.dead ≤ 96 → Told l.clock l.entries l.number l.dead l.numbers l.earliest;
}
