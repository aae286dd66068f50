use Rattle.std.proofs.Common.{◌≡◌, true, false, length, drop, take, replicate, ◌++◌, ap, ◌∙◌, tests, rules, arith}
use Rattle.std.proofs.Math.Seq.{take-append_seam}
use Rattle.std.proofs.lemmas.Iterator.{IsFirst-from_position, YieldsList-from_slice}
use Rattle.fields.specs.NameBytes.{name_byte}
use Rattle.fields.proofs.NamesRead.{first_bad_at, none_bad, within_fault}
use Rattle.fields.proofs.values.name.NameText.read.Goals as goal

pub returns-in-Some : goal.returns-in-Some
returns-in-Some c =
    let bad = IsFirst-from_position _ _ _ (λ b. name_byte b ≡ false) (λ b. name_byte b ≡ true) c.in-Some.ensures.ran
    (YieldsList-from_slice c.args.bytes.now cc) (λ x q k. search (rules, tests)) (λ x q k. search (rules, tests)) in
    record {
      result = within_fault c.args.low c.args.high c.args.bytes.now (omega arith) (omega arith)
          ∙ first_bad_at c.args.bytes.now 0 c.in-Some.place c.in-Some.place (omega arith) bad.0 (λ j h. bad.2 j 0 (omega arith) h) (bad.1 0);
    }

pub returns : goal.returns
returns c =
    let found = IsFirst-from_position _ _ c.position.result (λ b. name_byte b ≡ false) (λ b. name_byte b ≡ true) c.position.ensures.ran
    (YieldsList-from_slice c.args.bytes.now cc) (λ x q k. search (rules, tests)) (λ x q k. search (rules, tests)) in
    let good = rw c.in_default.is at found in
    record {
      result = (
        within_fault c.args.low c.args.high c.args.bytes.now (omega arith) (omega arith)
            ∙ none_bad c.args.bytes.now 0 (λ j h. good j 0 (omega arith) h),
        ap (λ xs. take (length c.args.bytes.now) (xs ++ drop (length c.args.bytes.now) (replicate 15 0))) c.copy_from_slice.ensures.after
            ∙ take-append_seam c.args.bytes.now (drop (length c.args.bytes.now) (replicate 15 0)),
      );
    }
