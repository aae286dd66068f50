use Rattle.std.proofs.Common.{Err, sym, ap, ◌∙◌}
use Rattle.std.proofs.lemmas.Result.{err_from_is_err_and}
use Rattle.rows.specs.Shown.{shown}
use Rattle.columns.specs.Edits.{remove_answer}
use Rattle.columns.proofs.Turned.{length_sided, remove_turned, remove_refused}
use Rattle.columns.proofs.inverting.InvertingColumn.remove.Goals as goal

pub returns : goal.returns
returns g c = record {
  result = c.in_ok-remove.ensures.result
      ∙ ap (remove_answer c.args.position) (sym (length_sided (g.C.Column.listed c.args.self.now.below) (shown c.args.self.now.inverted)));
  later = remove_turned c.args.position (g.C.Column.listed c.args.self.now.below)
      (g.C.Column.listed c.remove.new.self) (shown c.args.self.now.inverted) (shown c.remove-2.new.self)
      c.in_ok-remove.ensures.result c.in_ok-remove.ensures.later c.remove-2.ensures;
}

pub returns-in_err-remove : goal.returns-in_err-remove
returns-in_err-remove g c =
    let exit = err_from_is_err_and c.from_residual.result c.from_residual.ensures.1 in
    record {
      result = exit.1 ∙ ap Err exit.2 ∙ c.in_err-remove.ensures.result
          ∙ ap (remove_answer c.args.position) (sym (length_sided (g.C.Column.listed c.args.self.now.below) (shown c.args.self.now.inverted)));
      later = remove_refused c.args.position (g.C.Column.listed c.args.self.now.below)
          (g.C.Column.listed c.remove.new.self) (shown c.args.self.now.inverted) c.in_err-remove.field-0.0
          c.in_err-remove.ensures.result c.in_err-remove.ensures.later;
    }
