use Rattle.std.proofs.Common.{vec_items, sym, ap, ◌∙◌}
use Rattle.std.specs.Bool.{then_some}
use Rattle.book.proofs.Places.{found_held, found_none}
use Rattle.book.proofs.book.Book.find.Goals as goal

pub returns : goal.returns
returns c =
    let x = c.index.result.now in
    let there = found_held (vec_items c.args.self.now.entries) c.args.flow c.in_ok-i.i c.args.clock c.args.self.now.apart c.in_ok-i.ensures.result x c.index.ensures in
    record { result = c.then_some.ensures ∙ ap (λ b. then_some b x) c.is_live.ensures.result ∙ sym there }

pub returns-in_err-i : goal.returns-in_err-i
returns-in_err-i c = record {
  result = c.from_residual.ensures ∙ sym (found_none (vec_items c.args.self.now.entries) c.args.flow 0 c.args.clock c.in_err-i.ensures.result);
}
