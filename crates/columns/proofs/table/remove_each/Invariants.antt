use Rattle.rows.specs.Tables.{Out}
use Rattle.columns.proofs.Tables.{Each}
use Rattle.columns.proofs.table.remove_each.Given as goal

abbrev pub invariant-loop-row : goal.invariant-loop-row
invariant-loop-row l = Each (λ k. Out l.place) l.initial.row-items l.row-items l.row-index
