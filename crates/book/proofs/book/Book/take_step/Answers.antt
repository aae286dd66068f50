use Rattle.std.proofs.Common.{vec_items, sym, subst}
use Rattle.book.specs.declared.answer.Answer.{Answer}
use Rattle.book.specs.Passages.{Settles, fit_of}
use Rattle.book.proofs.Settling.{settles}
use Rattle.book.proofs.book.Book.take_step.Goals as goal

pub returns-in-Some-advance : goal.returns-in-Some-advance
returns-in-Some-advance c =
    let es = vec_items c.args.self.now.entries in
    let fs = vec_items c.advance.new.self.entries in
    let p = c.args.passage.now in
    let t = c.args.clock in
    let Q : Answer → Type 0 = λ r. Settles p t es fs r (fit_of t p es) in
    record {
      result = subst Q (sym c.from.ensures)
          (settles t p es fs c.in-Some.fit _ c.in-Some.ensures.result c.in-Some-advance.ensures.result);
    }
