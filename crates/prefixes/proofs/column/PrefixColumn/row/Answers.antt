use Rattle.std.proofs.Common.{ℕ, List, vec_items, sym, subst}
use Rattle.rows.specs.Shows.{Shows}
use Rattle.prefixes.specs.Fronts.{covers}
use Rattle.prefixes.specs.Listed.{fronts_of}
use Rattle.prefixes.proofs.ListedLaws.{shows_admits}
use Rattle.prefixes.proofs.column.PrefixColumn.row.Goals as goal

pub returns-in-Some-number : goal.returns-in-Some-number
returns-in-Some-number g c =
    let cs = vec_items c.args.self.now.conditions in
    let fs = fronts_of g.T.Prefix.front cs in
    let v = c.in-Some.present in
    let row = c.row_of_number.result in
    shows_admits g.T.Test.passes g.T.Prefix.front v (g.T.Prefix.spelling v) (λ t. g.met.T.Prefix.meets t v c.number.ensures.sound) c.args.value
    c.in-Some.is cs row
    (subst (λ (s : List ℕ). Shows row (λ f. covers f s) fs) (sym c.in-Some-number.ensures.result) (c.row_of_number.ensures fs c.args.self.now.told c.args.self.now.stored))

pub returns-in-None-number : goal.returns-in-None-number
returns-in-None-number g c =
    let cs = vec_items c.args.self.now.conditions in
    let fs = fronts_of g.T.Prefix.front cs in
    let v = c.in-Some.present in
    let row = c.row.result in
    shows_admits g.T.Test.passes g.T.Prefix.front v (g.T.Prefix.spelling v) (λ t. g.met.T.Prefix.meets t v c.number.ensures.sound) c.args.value
    c.in-Some.is cs row
    (subst (λ (s : List ℕ). Shows row (λ f. covers f s) fs) c.spell.ensures.result (c.row.ensures fs c.args.self.now.told c.args.self.now.stored))
