use Rattle.std.proofs.Common.{ℕ, List, ◌∷◌, vec_items, vec_len, sym, subst, arith}
use Rattle.book.specs.declared.entry.Entry.{Entry}
use Rattle.book.specs.Live.{Same, without}
use Rattle.book.proofs.Edits.{same_set, same_pushed}
use Rattle.book.proofs.Orders.{apart_set, reached_set, none_before_set}
use Rattle.book.proofs.book.Book.put.Goals as goal

pub invariant_of-self : goal.invariant_of-self
invariant_of-self c =
    let now = c.args.self.now in
    let es = vec_items now.entries in
    let i = c.in-Some.i in
    let x = c.args.entry in
    let held = c.in-Some.ensures.result in
    record {
      room = now.room;
      few = now.few;
      reached = reached_set es i x held now.index.keys now.index.slots (vec_len now.entries) now.reached;
      apart = apart_set es i x held now.apart;
      waiting = none_before_set now.earliest c.min-self.result es x now.waiting (omega (arith, c.min-self.ensures)) (omega (arith, c.min-self.ensures)) i;
    }

pub returns-in-Some : goal.returns-in-Some
returns-in-Some c =
    let es = vec_items c.args.self.now.entries in
    record { later = λ t. same_set t es c.args.entry.flow c.in-Some.i c.args.entry c.args.self.now.apart c.in-Some.ensures.result }

pub returns-in-None : goal.returns-in-None
returns-in-None c =
    let es = vec_items c.args.self.now.entries in
    let P : List Entry → Type 0 = λ xs. (t : ℕ) → Same t xs (c.args.entry ∷ without c.args.entry.flow es) in
    record { later = subst P (sym c.add.ensures.later) (λ t. same_pushed t es c.args.entry.flow 0 c.args.entry c.in-None.ensures.result) }
