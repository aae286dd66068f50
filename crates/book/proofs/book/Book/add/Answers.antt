use Rattle.std.proofs.Common.{◌≡◌, List, [], ◌∷◌, ◌++◌, length, vec_items, sym, ◌∙◌, subst, arith}
use Rattle.std.proofs.lemmas.Bool.{cond-true}
use Rattle.book.specs.declared.entry.Entry.{Entry}
use Rattle.book.specs.Index.{Reached}
use Rattle.book.specs.Places.{Apart}
use Rattle.book.specs.Live.{NoneBefore}
use Rattle.book.proofs.Orders.{apart_pushed, none_before_pushed}
use Rattle.book.proofs.book.Book.add.Goals as goal

pub invariant_of-self : goal.invariant_of-self
invariant_of-self c =
    let now = c.args.self.now in
    let es = vec_items now.entries in
    let fs = vec_items c.push.new.self in
    let more = c.push.ensures in
    let good = more.succeeds (omega (arith, c.requires.room, now.room)) in
    let len = more.len ∙ cond-true _ _ _ good in
    let is : fs ≡ es ++ c.args.entry ∷ [] = more.items ∙ cond-true _ _ _ good in
    let A : List Entry → Type 0 = λ xs. Apart xs in
    let N : List Entry → Type 0 = λ xs. NoneBefore c.min-self.result xs in
    let P : List Entry → Type 0 = λ xs. Reached c.note.new.self.keys c.note.new.self.slots xs (length xs) in
    let all = subst P c.as_slice.ensures.value c.note.ensures.reached in
    record {
      room = omega (arith, more.capacity, now.room);
      few = omega (arith, len, c.requires.room);
      reached = (λ k d l. all k d (omega (arith, l)));
      apart = subst A (sym is) (apart_pushed es c.args.entry now.apart c.requires.new);
      waiting = subst N (sym is) (none_before_pushed now.earliest c.min-self.result es c.args.entry now.waiting (omega (arith, c.min-self.ensures)) (omega (arith, c.min-self.ensures)));
    }
