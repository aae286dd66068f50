use Rattle.std.proofs.Common.{vec_items, sym, ap, ◌∙◌}
use Rattle.book.specs.Passages.{label_for}
use Rattle.book.proofs.Models.{fit_alike}
use Rattle.book.proofs.book.Book.label.Goals as goal

pub returns : goal.returns
returns c = record {
  result = λ m same.
      let es = vec_items c.args.self.now.entries in
      let p = c.args.passage.now in
      c.find_label.ensures.result ∙ ap (label_for p.kind) (sym (fit_alike p c.args.clock es m same c.args.self.now.apart));
}
