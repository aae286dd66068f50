use Rattle.std.proofs.Common.{◌≡◌, ℕ, ◌-◌, ◌<◌, List, length, get_or, Some, None, vec_items, sym, ap, ◌∙◌, subst, arith}
use Rattle.std.specs.List.{remove}
use Rattle.std.proofs.lemmas.List.{with_items_is}
use Rattle.rows.specs.declared.row.Row.{Row}
use Rattle.rows.specs.Shows.{Shows, TableShows}
use Rattle.rows.specs.Tables.{Out}
use Rattle.rows.proofs.Listed.{shows_removed, table_removed}
use Rattle.columns.proofs.Accepted.{remove_ok}
use Rattle.codes.proofs.spread.column.SpreadColumn.remove.Goals as goal

pub invariant_of-self : goal.invariant_of-self
invariant_of-self g c =
    let s = c.args.self.now in
    let xs : List g.row.K.Denot = vec_items s.conditions in
    let ys : List g.row.K.Denot = vec_items c.remove-2.new.self in
    let rows : List Row = vec_items s.rows in
    let new : List Row = c.remove_each.new.rows in
    let p : ℕ = c.args.position - 1 in
    let admits = g.K.Condition.admits in
    let decoded = g.K.Value.Coded.decoded in
    let accepted = remove_ok c.args.position c.len.result c.in_ok-remove_check.ensures.result in
    let within : p < length xs = omega (arith, accepted.0, accepted.1, c.len.ensures, s.conditions.ok.0) in
    let listed : ys ≡ remove xs p = c.remove-2.ensures.items in
    let kept : length new ≡ length rows = c.remove_each.auto.rows ∙ ap length c.deref_mut.ensures.value in record {
      few = omega (arith, c.remove-2.ensures.len);
      room = omega (arith, c.remove-2.ensures.capacity);
      codes = s.codes;
      told = subst (λ (rs : List Row). TableShows rs (λ k j. admits k (Some (decoded j))) ys) (sym (with_items_is s.rows new (omega arith)))
          (subst (TableShows new (λ k j. admits k (Some (decoded j)))) (sym listed)
          (table_removed (λ k j. admits k (Some (decoded j))) xs p rows new within kept s.told
          (subst (λ (rs : List Row). (k : ℕ) (d : Row) → k < length rs → Out p (get_or rs k d) (get_or new k d))
          c.deref_mut.ensures.value c.remove_each.ensures.later)));
      untold = subst (Shows c.remove.new.self (λ k. admits k None)) (sym listed)
          (shows_removed (λ k. admits k None) xs p s.absent c.remove.new.self within s.untold c.remove.ensures);
    }
