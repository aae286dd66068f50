use Rattle.std.proofs.Common.{◌≡◌, ℕ, ◌-◌, ◌<◌, ◌≤◌, Bool, true, List, length, get_or, is_ok, Some, None, vec_items, sym, ap, ◌∙◌, subst, arith}
use Rattle.std.specs.List.{insert}
use Rattle.std.proofs.lemmas.Bool.{cond-true}
use Rattle.std.proofs.lemmas.List.{with_items_is}
use Rattle.rows.specs.declared.row.Row.{Row}
use Rattle.rows.specs.Shows.{Shows, TableShows}
use Rattle.rows.specs.Tables.{Put}
use Rattle.rows.proofs.Listed.{shows_inserted, table_inserted}
use Rattle.columns.proofs.Accepted.{insert_ok}
use Rattle.codes.proofs.spread.column.SpreadColumn.insert.Goals as goal

pub invariant_of-self : goal.invariant_of-self
invariant_of-self g c =
    let s = c.args.self.now in
    let xs : List g.row.K.Denot = vec_items s.conditions in
    let ys : List g.row.K.Denot = vec_items c.insert-2.new.self in
    let rows : List Row = vec_items s.rows in
    let new : List Row = c.insert_each.new.rows in
    let x = c.args.condition in
    let p : ℕ = c.args.position - 1 in
    let admits = g.K.Condition.admits in
    let decoded = g.K.Value.Coded.decoded in
    let accepted = insert_ok c.args.position c.len.result c.in_ok-insert_check.ensures.result in
    let few : length xs < 512 = omega (arith, accepted.2, c.len.ensures, s.conditions.ok.0) in
    let within : p ≤ length xs = omega (arith, accepted.0, accepted.1, c.len.ensures, s.conditions.ok.0) in
    let ok : is_ok c.insert-2.result ≡ true = c.insert-2.ensures.succeeds (omega arith) in
    let listed : ys ≡ insert xs p x = c.insert-2.ensures.items ∙ cond-true (is_ok c.insert-2.result) _ _ ok in
    let long = c.insert-2.ensures.len ∙ cond-true (is_ok c.insert-2.result) _ _ ok in
    let kept : length new ≡ length rows = c.insert_each.auto.rows ∙ ap length c.deref_mut.ensures.value in record {
      few = omega arith;
      room = omega (arith, c.insert-2.ensures.capacity);
      codes = s.codes;
      told = subst (λ (rs : List Row). TableShows rs (λ k j. admits k (Some (decoded j))) ys) (sym (with_items_is s.rows new (omega arith)))
          (subst (TableShows new (λ k j. admits k (Some (decoded j)))) (sym listed)
          (table_inserted (λ k j. admits k (Some (decoded j))) xs p x rows new within few kept s.told
          (subst (λ (rs : List Row). (k : ℕ) (d : Row) → k < length rs → Put p (admits x (Some (decoded k))) (get_or rs k d) (get_or new k d))
          c.deref_mut.ensures.value c.insert_each.ensures)));
      untold = subst (Shows c.insert.new.self (λ k. admits k None)) (sym listed)
          (shows_inserted (λ k. admits k None) xs p x s.absent c.insert.new.self within few s.untold
          (subst (λ (b : Bool). Put p b s.absent c.insert.new.self) c.holds_on.ensures.result c.insert.ensures));
    }
