use Rattle.std.proofs.Common.{vec_items}
use Rattle.book.specs.Passages.{entries_at}
use Rattle.book.proofs.Models.{any_order, later}
use Rattle.book.proofs.book.Book.step.Goals as goal

pub returns : goal.returns
returns c =
    let es = vec_items c.args.self.now.entries in
    let fs = vec_items c.take_step.new.self.entries in
    let p = c.args.passage.now in
    let t = c.args.clock in
    let apart = c.args.self.now.apart in
    record {
      result = λ m same. (any_order p t es m same fs c.take_step.result apart c.take_step.ensures.result).0;
      later = λ m same u l. later t u fs (entries_at p t m) l (any_order p t es m same fs c.take_step.result apart c.take_step.ensures.result).1;
    }
