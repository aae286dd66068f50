use Rattle.std.proofs.Common.{sym, ◌∙◌}
use Rattle.rows.specs.Shown.{shown}
use Rattle.columns.proofs.Turned.{length_sided}
use Rattle.columns.proofs.inverting.InvertingColumn.len.Goals as goal

pub returns : goal.returns
returns g c = record {
  result = c.len.ensures.result ∙ sym (length_sided (g.C.Column.listed c.args.self.now.below) (shown c.args.self.now.inverted));
  bound = c.len.ensures.bound;
}
