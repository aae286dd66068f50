use Rattle.std.proofs.Common.{◌≡◌, ◌≢◌, List, length, vec_items, filter, sym, subst, arith, rules}
use Rattle.std.proofs.lemmas.Fn.{filter_same}
use Rattle.std.proofs.lemmas.List.Elements.{filter_passes}
use Rattle.std.proofs.lemmas.List.Kept.{AllPairs-filter}
use Rattle.book.specs.declared.entry.Entry.{Entry}
use Rattle.book.specs.Index.{Reached}
use Rattle.book.specs.Places.{Apart}
use Rattle.book.specs.Live.{live, Same, AllLive, NoneBefore}
use Rattle.book.proofs.Models.{same_live}
use Rattle.book.proofs.book.Book.keep_live.Goals as goal

pub invariant_of-self : goal.invariant_of-self
invariant_of-self c =
    let now = c.args.self.now in
    let t = c.args.clock in
    let es = vec_items now.entries in
    let fs = vec_items c.retain.new.self in
    let is : fs ≡ filter (live t) es = filter_same _ (live t) _ (λ x b f k. search rules) es fs c.retain.ensures.filtered in
    let A : List Entry → Type 0 = λ xs. Apart xs in
    let N : List Entry → Type 0 = λ xs. NoneBefore c.first_deadline-self.result xs in
    let P : List Entry → Type 0 = λ xs. Reached c.rebuild.new.self.keys c.rebuild.new.self.slots xs (length xs) in
    let all = subst P c.as_slice-2.ensures.value c.rebuild.ensures.reached in
    record {
      room = omega (arith, c.retain.ensures.capacity, now.room);
      few = omega (arith, c.retain.ensures.bound, now.few);
      reached = (λ k d l. all k d (omega (arith, l)));
      apart = subst A (sym is) (AllPairs-filter (λ x y. x.flow ≢ y.flow) (live t) es now.apart);
      waiting = subst N c.as_slice.ensures.value c.first_deadline-self.ensures.result;
    }

pub returns : goal.returns
returns c =
    let t = c.args.clock in
    let es = vec_items c.args.self.now.entries in
    let fs = vec_items c.retain.new.self in
    let is : fs ≡ filter (live t) es = filter_same _ (live t) _ (λ x b f k. search rules) es fs c.retain.ensures.filtered in
    let S : List Entry → Type 0 = λ xs. Same t xs es in
    let L : List Entry → Type 0 = λ xs. AllLive t xs in
    record { later = subst S (sym is) (λ p. sym (same_live t es p)); live = subst L (sym is) (filter_passes (live t) es) }
