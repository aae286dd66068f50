use Rattle.std.proofs.Common.{◌≡◌, ◌+◌, ◌/◌, set, refl, subst, arith, length-set}
use Rattle.rows.specs.Bits.{at}
use Rattle.rows.proofs.Rows.{Downward, back_again, put_more, put_all, none_put}
use Rattle.rows.proofs.row.Row.insert.Goals as goal

pub loop-k-preserved : goal.loop-k-preserved
loop-k-preserved c = (
  omega arith,
  back_again (at c.args.self.now.words) c.loop-k.self.words c.loop-k.k c.back_by_one.result (omega arith)
      (omega arith) (omega arith) c.loop-k.invariant.1 c.back_by_one.ensures,
)

pub returns-then-place-ge-PLACES : goal.returns-then-place-ge-PLACES
returns-then-place-ge-PLACES c = none_put c.args.self.now.words c.args.place c.args.value (omega arith) (omega arith)

pub returns : goal.returns
returns c =
    let e : c.loop-k.k ≡ c.args.place / 64 + 1 = omega (arith, c.loop-k.invariant.0) in
    put_all (at c.args.self.now.words) (set c.loop-k.self.words (c.args.place / 64) c.put_in.result) c.args.place
    c.args.value (omega (arith, length-set c.loop-k.self.words (c.args.place / 64) c.put_in.result))
    (put_more (at c.args.self.now.words) c.loop-k.self.words c.args.place (c.args.place / 64) c.put_in.result
    c.args.value (omega arith) (omega arith) refl
    (subst (Downward (at c.args.self.now.words) c.loop-k.self.words) e c.loop-k.invariant.1) c.put_in.ensures)
