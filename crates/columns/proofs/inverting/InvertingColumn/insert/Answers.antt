use Rattle.std.proofs.Common.{Err, ◌-◌, false, cond, ltb, sym, ap, ◌∙◌}
use Rattle.std.proofs.lemmas.Result.{err_from_is_err_and}
use Rattle.rows.specs.Bits.{put_in}
use Rattle.rows.specs.Shown.{shown}
use Rattle.columns.specs.Edits.{insert_answer, insert_after}
use Rattle.columns.proofs.Turned.{length_sided, insert_turned, insert_refused}
use Rattle.columns.proofs.inverting.InvertingColumn.insert.Goals as goal

pub returns : goal.returns
returns g c =
    let xs = g.C.Column.listed c.args.self.now.below in
    let was = shown c.args.self.now.inverted in
    let p = c.args.position in record {
      result = c.in_ok-insert.ensures.result ∙ ap (insert_answer p) (sym (length_sided xs was));
      later = insert_turned p c.args.condition.condition c.args.condition.sense xs (g.C.Column.listed c.insert.new.self) was
          (shown c.insert-2.new.self) c.in_ok-insert.ensures.result
          (c.in_ok-insert.ensures.later ∙ ap (λ k. insert_after p k xs) c.condition.ensures.result)
          (λ i. c.insert-2.ensures i ∙ ap (λ b. cond (ltb i 512) (put_in was (p - 1) b i) false) c.is_inverted.ensures.result);
    }

pub returns-in_err-insert : goal.returns-in_err-insert
returns-in_err-insert g c =
    let exit = err_from_is_err_and c.from_residual.result c.from_residual.ensures.1 in
    let xs = g.C.Column.listed c.args.self.now.below in
    let was = shown c.args.self.now.inverted in
    let p = c.args.position in record {
      result = exit.1 ∙ ap Err exit.2 ∙ c.in_err-insert.ensures.result ∙ ap (insert_answer p) (sym (length_sided xs was));
      later = insert_refused p c.args.condition.condition c.args.condition.sense xs (g.C.Column.listed c.insert.new.self) was
          c.in_err-insert.field-0.0 c.in_err-insert.ensures.result
          (c.in_err-insert.ensures.later ∙ ap (λ k. insert_after p k xs) c.condition.ensures.result);
    }
