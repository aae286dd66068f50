use Rattle.std.proofs.Common.{◌≡◌, ℕ, ◌+◌, ◌-◌, ◌<◌, List, length, slice_index, vec_items, ◌∙◌, subst, sym, arith, le-ltb}
use Rattle.std.specs.List.{swap_remove}
use Rattle.book.specs.declared.entry.Entry.{Entry}
use Rattle.book.specs.Live.{Same}
use Rattle.book.specs.Sweeps.{Told}
use Rattle.book.proofs.Edits.{same_dead}
use Rattle.book.proofs.Sweeping.{told_less}
use Rattle.book.proofs.book.Book.take_out_found.Goals as goal

pub loop-j-preserved : goal.loop-j-preserved
loop-j-preserved c =
    let t = c.args.clock in
    let n = c.loop-j.j - 1 in
    let ns = c.args.found.now.numbers in
    let m = c.args.found.now.earliest in
    let es = vec_items c.loop-j.self.entries in
    let fs = vec_items c.take_out.new.self.entries in
    let r = c.take_out.result in
    let inv = c.loop-j.invariant in
    let is : fs ≡ swap_remove es (slice_index ns n) r = c.take_out.ensures.later in
    let one : c.loop-j.j ≡ n + 1 = omega arith in
    let told : Told t es (length es) (n + 1) ns m = subst (λ (j : ℕ). Told t es (length es) j ns m) one inv.told in
    let w : slice_index ns n < length es = told.inside n (omega arith) in
    let shorter : length fs + 1 ≡ length es = omega (arith, c.take_out.ensures.len, c.take_out.new.self.entries.ok.0, c.loop-j.self.entries.ok.0) in
    let S : List Entry → Type 0 = λ xs. Same t xs es in
    record {
      same = λ p. subst S (sym is) (same_dead t es (slice_index ns n) r w (le-ltb _ _ (told.dead n r (omega arith)))) p ∙ inv.same p;
      told = told_less t es fs n ns m r told is shorter;
    }
