use Rattle.rows.specs.Tables.{Put}
use Rattle.std.proofs.Common.{Some}
use Rattle.columns.proofs.Tables.{Each}
use Rattle.codes.proofs.spread.column.insert_each.Given as goal

abbrev pub invariant-loop-code : goal.invariant-loop-code
invariant-loop-code g l = Each (λ k. Put l.place (g.K.Condition.admits l.condition (Some (g.K.Value.Coded.decoded k)))) l.initial.rows l.rows l.code
