use Rattle.std.proofs.Common.{false, cond, ltb, [], get_or, ap, ◌∙◌, arith}
use Rattle.rows.specs.Bits.{put_in}
use Rattle.rows.specs.Shown.{shown}
use Rattle.ports.specs.Keys.{port_at}
use Rattle.rows.specs.Tables.{Put}
use Rattle.columns.proofs.Tables.{each_more}
use Rattle.ports.proofs.values.ordered.methods.put_each.Goals as goal

pub loop-k-preserved : goal.loop-k-preserved
loop-k-preserved g c =
    each_more (λ k. Put c.args.place (g.C.Condition.admits c.args.condition.now (port_at c.args.keys.now k))) c.args.rows.now
    c.loop-k.rows c.loop-k.k c.insert.new.self (record { words = [] }) (omega arith) c.loop-k.invariant
    (λ i. c.insert.ensures i
    ∙ ap (λ b. cond (ltb i 512) (put_in (shown (get_or c.loop-k.rows c.loop-k.k (record { words = [] }))) c.args.place b i) false)
    c.holds_on-holds.ensures.result)
