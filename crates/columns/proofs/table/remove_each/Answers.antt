use Rattle.std.proofs.Common.{[], arith}
use Rattle.rows.specs.Tables.{Out}
use Rattle.columns.proofs.Tables.{each_none, each_more}
use Rattle.columns.proofs.table.remove_each.Goals as goal

pub loop-row-init : goal.loop-row-init
loop-row-init c = each_none (λ k. Out c.args.place) c.args.rows.now

pub loop-row-preserved : goal.loop-row-preserved
loop-row-preserved c =
    each_more (λ k. Out c.args.place) c.args.rows.now c.loop-row.row-items c.loop-row.row-index c.remove.new.self
    (record { words = [] }) (omega arith) c.loop-row.invariant c.remove.ensures

pub returns : goal.returns
returns c = record { later = λ k d h. c.loop-row.invariant.0 k d (omega arith) }
