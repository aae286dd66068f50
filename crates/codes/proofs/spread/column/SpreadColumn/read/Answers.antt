use Rattle.std.proofs.Common.{◌≡◌, ℕ, false, List, [], map, get_or, Some, vec_items, vec_len, sym, ap, ◌∙◌, arith}
use Rattle.std.proofs.lemmas.List.{get_or_read_under}
use Rattle.rows.specs.declared.row.Row.{Row}
use Rattle.rows.specs.Shown.{shown}
use Rattle.codes.proofs.spread.column.SpreadColumn.read.Goals as goal

pub returns-in-Some : goal.returns-in-Some
returns-in-Some g c = record {
  row = λ i.
      let s = c.args.self.now in
      let rows : List Row = vec_items s.rows in
      let k : ℕ = c.to_code.result in
      let found : c.index.result.now ≡ get_or rows k (record { words = [] }) =
      get_or_read_under rows k (vec_len s.rows) c.index.result.now (record { words = [] }) c.index.ensures
      (omega (arith, c.to_code.ensures.below, s.codes)) (omega (arith, s.rows.ok.0)) in
      let back : g.K.Value.Coded.decoded k ≡ c.in-Some.present =
      ap g.K.Value.Coded.decoded c.to_code.ensures.result ∙ g.met.K.Value.Coded.back c.in-Some.present in
      ap (λ r. shown r i) found ∙ s.told k (omega (arith, c.to_code.ensures.below, s.codes, s.rows.ok.0)) i
      ∙ ap (λ o. get_or (map (λ x. g.K.Condition.admits x o) (vec_items s.conditions)) i false) (ap Some back ∙ sym c.in-Some.is);
}
