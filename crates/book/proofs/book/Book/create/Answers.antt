use Rattle.std.proofs.Common.{vec_items, ◌∙◌}
use Rattle.book.specs.Live.{without}
use Rattle.book.proofs.Edits.{same_without, same_cons}
use Rattle.book.proofs.book.Book.create.Goals as goal

pub returns : goal.returns
returns c =
    let made = c.in_ok-make_room.ensures.result in
    let t = c.args.clock in
    let x = c.args.entry in
    let es = vec_items c.args.self.now.entries in
    let fs = vec_items c.make_room.new.self.entries in
    record {
      result = record {
        fewer = made.fewer;
        same = λ p. c.put.ensures.later t p ∙ same_cons t x (without x.flow fs) (without x.flow es) (same_without t x.flow fs es made.same) p;
      };
    }
