use Rattle.std.proofs.Common.{eqb, length, take, sym, ap, ◌∙◌}
use Rattle.std.specs.Cmp.Lexicographic.{pointwise}
use Rattle.fields.specs.NamePatterns.{beginning_bytes, name_passes}
use Rattle.fields.specs.Names.{name_bytes}
use Rattle.fields.proofs.Begun.{equal_same, front_begins}
use Rattle.fields.proofs.patterns.name.methods.NamePatternTest.passes_on.Goals as goal

pub returns-in-Whole : goal.returns-in-Whole
returns-in-Whole c =
    let e = equal_same (name_bytes c.in-Whole.name) (name_bytes c.args.value) in
    record { result = cc }

pub returns-in-Beginning : goal.returns-in-Beginning
returns-in-Beginning c =
    let front = beginning_bytes c.in-Beginning.beginning in
    let whole = name_bytes c.args.value in
    record {
      result = c.starts_with.ensures.value
          ∙ ap (λ w. pointwise eqb c.as_slice-in-Beginning-2.result.now (take (length c.as_slice-in-Beginning-2.result.now) w)) c.as_slice-in-Beginning.ensures.result
          ∙ ap (λ f. pointwise eqb f (take (length f) whole)) c.as_slice-in-Beginning-2.ensures.result
          ∙ front_begins front whole ∙ ap (λ p. name_passes p c.args.value) (sym c.in-Beginning.is);
    }
