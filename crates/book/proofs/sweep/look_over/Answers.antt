use Rattle.std.proofs.Common.{◌≡◌, ◌≤◌, get_or, sym, ap, ◌∙◌, arith, length-set}
use Rattle.std.proofs.lemmas.Bool.{ltb-true, ltb-false}
use Rattle.std.proofs.lemmas.List.{get_or_default}
use Rattle.book.specs.declared.entry.Entry.{Entry}
use Rattle.book.specs.Live.{live}
use Rattle.book.proofs.Sweeping.{told_live, told_dead}
use Rattle.book.proofs.sweep.look_over.Goals.{then-is_live, else-is_live, then-dead-lt-FEW, else-dead-lt-FEW}
use Rattle.book.proofs.sweep.look_over.Goals as goal

pub loop-number-preserved : goal.loop-number-preserved
loop-number-preserved c =
    let t = c.args.clock in
    let es = c.args.entries.now in
    let n = c.loop-number.number in
    let f = c.loop-number in
    let inv = c.loop-number.invariant in
    let here : (d : Entry) → get_or es n _ ≡ get_or es n d = λ d. get_or_default es n _ d c.loop-number-test.true in
    let told : (d : Entry) → live t (get_or es n d) ≡ c.is_live.result = λ d. ap (live t) (sym (here d)) ∙ sym c.is_live.ensures.result in
    elim (c.if-is_live.branch) [
      | then-is_live w ↦ rw w.dead-is (rw w.numbers-is (rw w.earliest-is (record {
        few = omega (arith, inv.few);
        long = inv.long;
        told = λ h. told_live t es n f.dead f.numbers f.earliest (inv.told h) w.min-earliest.result (omega (arith, w.min-earliest.ensures))
            (λ d. (ltb-true _ _ (told d ∙ w.if-is_live.true), omega (arith, w.min-earliest.ensures, ap (λ (e : Entry). e.deadline) (here d))));
      })))
      | else-is_live w ↦
          let dies : (d : Entry) → (get_or es n d).deadline ≤ t = λ d. ltb-false _ _ (told d ∙ w.if-is_live.false) in
          elim (w.if-dead-lt-FEW.branch) [
            | then-dead-lt-FEW v ↦ rw w.dead-is (rw w.earliest-is (rw w.numbers-is (rw v.numbers-is (record {
              few = omega (arith, inv.few);
              long = length-set f.numbers f.dead n ∙ inv.long;
              told = λ h. told_dead t es n f.dead f.numbers f.earliest (inv.told (omega (arith, h))) (omega (arith, inv.long, v.if-dead-lt-FEW.true)) dies;
            }))))
            | else-dead-lt-FEW v ↦ rw w.dead-is (rw w.earliest-is (rw w.numbers-is (rw v.numbers-is (record {
              few = omega (arith, inv.few);
              long = inv.long;
              told = λ h. absurd (omega (arith, h, v.if-dead-lt-FEW.false));
            }))))
          ]
    ]
