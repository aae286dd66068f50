use Rattle.ports.specs.Keys.{port_at}
use Rattle.rows.specs.Tables.{Put}
use Rattle.columns.proofs.Tables.{Each}
use Rattle.ports.proofs.values.ordered.methods.put_each.Given as goal

abbrev pub invariant-loop-k : goal.invariant-loop-k
invariant-loop-k g l = Each (λ k. Put l.place (g.C.Condition.admits l.condition (port_at l.keys k))) l.initial.rows l.rows l.k
