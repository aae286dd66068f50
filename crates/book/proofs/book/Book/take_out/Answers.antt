use Rattle.std.proofs.Common.{◌≡◌, ℕ, ◌+◌, ◌-◌, ◌<◌, List, length, get_or, vec_items, vec_len, sym, ap, subst, arith}
use Rattle.book.specs.declared.entry.Entry.{Entry}
use Rattle.book.specs.Index.{Reached}
use Rattle.book.specs.Live.{NoneBefore}
use Rattle.book.proofs.Walk.{reached_at}
use Rattle.book.proofs.Orders.{apart_swapped, none_before_swapped}
use Rattle.book.proofs.book.Book.take_out.Goals as goal

pub invariant_of-self : goal.invariant_of-self
invariant_of-self c =
    let now = c.args.self.now in
    let left = c.swap_remove-entry.ensures in
    let es = vec_items now.entries in
    let fs = vec_items c.swap_remove-entry.new.self in
    let len : length fs + 1 ≡ length es = omega (arith, left.len) in
    let moved : (d : Entry) → c.args.number + 1 < length es → get_or fs c.args.number d ≡ get_or es (length es - 1) d = (λ d w.
    let n : vec_len now.entries ≡ length es = omega (arith, now.entries.ok.0) in
    let G : ℕ → Type 0 = λ m. get_or fs c.args.number d ≡ get_or es (m - 1) d in
    subst G n (left.by_index.0 d (omega arith))) in
    let kept : (k : ℕ) (d : Entry) → (k ≡ c.args.number → ⊥) → k + 1 < length es → get_or fs k d ≡ get_or es k d = (λ k d n w. left.by_index.1 k d n (omega arith)) in
    let gaps = apart_swapped es fs c.args.number now.apart len moved kept in
    let N : List Entry → Type 0 = λ xs. NoneBefore now.earliest xs in
    let waiting = subst N (sym left.items) (none_before_swapped now.earliest es c.args.number c.swap_remove-entry.result (omega arith) now.waiting) in
    let P : List Entry → Type 0 = λ xs. Reached c.note.new.self.keys c.note.new.self.slots xs (length xs) in
    let all = subst P c.as_slice.ensures.value c.note.ensures.reached in
    record {
      room = omega (arith, left.capacity, now.room);
      few = omega (arith, left.len, now.few);
      reached = (λ k d l. all k d (omega (arith, l)));
      apart = gaps;
      waiting = waiting;
    }

pub invariant_of-self-else-number-len : goal.invariant_of-self-else-number-len
invariant_of-self-else-number-len c =
    let now = c.args.self.now in
    let left = c.swap_remove-entry.ensures in
    let es = vec_items now.entries in
    let fs = vec_items c.swap_remove-entry.new.self in
    let len : length fs + 1 ≡ length es = omega (arith, left.len) in
    let moved : (d : Entry) → c.args.number + 1 < length es → get_or fs c.args.number d ≡ get_or es (length es - 1) d = (λ d w.
    let n : vec_len now.entries ≡ length es = omega (arith, now.entries.ok.0) in
    let G : ℕ → Type 0 = λ m. get_or fs c.args.number d ≡ get_or es (m - 1) d in
    subst G n (left.by_index.0 d (omega arith))) in
    let kept : (k : ℕ) (d : Entry) → (k ≡ c.args.number → ⊥) → k + 1 < length es → get_or fs k d ≡ get_or es k d = (λ k d n w. left.by_index.1 k d n (omega arith)) in
    let gaps = apart_swapped es fs c.args.number now.apart len moved kept in
    let N : List Entry → Type 0 = λ xs. NoneBefore now.earliest xs in
    let waiting = subst N (sym left.items) (none_before_swapped now.earliest es c.args.number c.swap_remove-entry.result (omega arith) now.waiting) in
    let all : Reached now.index.keys now.index.slots fs (vec_len c.swap_remove-entry.new.self) = (λ k d l.
    let w : k + 1 < vec_len now.entries = omega (arith, left.len) in
    let ne : (k ≡ c.args.number → ⊥) = (λ z. omega (arith, left.len, c.if-number-len.false, c.len.ensures)) in
    reached_at now.index.keys now.index.slots es fs k d (ap (λ (e : Entry). e.flow) (left.by_index.1 k d ne w)) (now.reached k d (omega arith))) in
    record {
      room = omega (arith, left.capacity, now.room);
      few = omega (arith, left.len, now.few);
      reached = all;
      apart = gaps;
      waiting = waiting;
    }
