use Rattle.std.proofs.Common.{◌≡◌, ◌+◌, ◌∙◌, arith}
use Rattle.book.proofs.Walk.{reached_linked}
use Rattle.book.proofs.index.Index.rebuild.Goals as goal

pub loop-n-preserved : goal.loop-n-preserved
loop-n-preserved c = record {
  left = omega (arith, c.loop-n.invariant.left, c.link.ensures.free);
  keys = c.link.ensures.keys ∙ c.loop-n.invariant.keys;
  reached = rw c.link.ensures.keys (reached_linked c.loop-n.self.keys c.loop-n.self.slots _ c.args.entries.now c.loop-n.n (c.loop-n.n + 1) _ c.link.ensures.later c.loop-n-test.true
      (λ k d l ne. c.loop-n.invariant.reached k d (let t : (k ≡ c.loop-n.n → ⊥) = ne in omega arith)));
}
