use Rattle.std.proofs.Common.{◌≡◌, length, arith}
use Rattle.book.specs.Index.{frees}
use Rattle.book.proofs.Walk.{all_taken}
use Rattle.book.proofs.index.Index.free_slot.Goals as goal

pub unreachable-requires : goal.unreachable-requires
unreachable-requires c =
    let ss = c.args.self.now.slots in
    let long : length ss ≡ 4096 = omega arith in
    let none : frees ss ≡ 0 = all_taken ss c.home-home.result long c.home-home.ensures.below (λ k l. c.loop-j.invariant k (omega arith)) in
    omega arith
