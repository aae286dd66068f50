use Rattle.rows.specs.Shown.{shown}
use Rattle.columns.proofs.Turned.{read_turned}
use Rattle.columns.proofs.inverting.InvertingColumn.read.Goals as goal

pub returns : goal.returns
returns g c = record {
  row = read_turned g.C.Condition.Condition.admits c.args.value (g.C.Column.listed c.args.self.now.below) c.len.result
      c.is_some-present.result (shown c.args.self.now.inverted) (shown c.read.new.row) (shown c.turn.new.row)
      c.is_some-present.ensures c.len.ensures.result c.len.ensures.bound c.read.ensures.row c.turn.ensures.row;
}
