use Rattle.std.proofs.Common.{ℕ, ◌+◌, ◌*◌, ◌/◌, ◌%◌, ◌≤◌, Bool, List, length, get_or, set, sym, refl, ap, ◌∙◌, arith, length-set}
use Rattle.rows.specs.Bits.{at, top, taken_out, before_first, joined_out}
use Rattle.rows.proofs.Rows.{at_past, forward_more, first_out, out_all, upward_all, none_out, out_past}
use Rattle.rows.proofs.row.Row.remove.Goals as goal

pub returns-then-place-ge-PLACES : goal.returns-then-place-ge-PLACES
returns-then-place-ge-PLACES c = none_out c.args.self.now.words c.args.place (omega arith)

pub loop-k-preserved : goal.loop-k-preserved
loop-k-preserved c =
    let ws : List ℕ = set c.args.self.now.words (c.args.place / 64) c.take_out.result in
    forward_more (at ws) (64 * (c.args.place / 64 + 1)) c.loop-k.self.words c.loop-k.k c.forward_by_one.result
    (omega arith) (omega arith) c.loop-k.invariant
    (λ r h. c.forward_by_one.ensures r h
    ∙ ap (λ x. before_first (top (get_or c.loop-k.self.words c.loop-k.k 0)) (top x) r) c.word_after-in-loop-k.ensures)

pub returns : goal.returns
returns c = λ i.
    let f : ℕ → Bool = at c.args.self.now.words in
    let ws : List ℕ = set c.args.self.now.words (c.args.place / 64) c.take_out.result in
    let p : ℕ = 64 * (c.args.place / 64 + 1) in
    let len : (i : ℕ) → 64 * c.loop-k.k ≤ i → length ws ≤ i / 64 =
    λ i l. omega (arith, length-set c.args.self.now.words (c.args.place / 64) c.take_out.result) in
    upward_all (taken_out (at ws) p) (at ws) c.loop-k.self.words c.loop-k.k i
    (λ l. at_past ws i (len i l) ∙ sym (out_past ws p i (len i l))) c.loop-k.invariant
    ∙ out_all f (at ws) c.args.place (c.args.place / 64 + 1) i (omega arith)
    (first_out f c.args.place c.args.self.now.words (c.args.place / 64) c.take_out.result (omega arith) refl (λ n. refl)
    (λ r h. c.take_out.ensures r h
    ∙ ap (λ x. joined_out (top (get_or c.args.self.now.words (c.args.place / 64) 0)) (top x) (c.args.place % 64) r)
    c.word_after.ensures))
