use Rattle.std.proofs.Common.{ℕ, ◌<◌, List, length, get_or, sym, refl, ap, ◌∙◌, subst, arith}
use Rattle.std.specs.List.{remove}
use Rattle.std.proofs.lemmas.List.{with_items_is}
use Rattle.rows.specs.declared.row.Row.{Row}
use Rattle.rows.specs.Tables.{Out}
use Rattle.rows.proofs.Listed.{table_removed}
use Rattle.prefixes.specs.Fronts.{covers, Told}
use Rattle.prefixes.specs.Keyed.{keys_of, rows_of}
use Rattle.prefixes.specs.Stored.{at}
use Rattle.prefixes.proofs.keyed.KeyedRows.remove.Goals as goal

pub returns : goal.returns
returns c =
    let s = c.args.self.now in
    let new = c.remove_each.new.rows in
    let p = c.args.place in
    let n = c.remove_each.auto.rows ∙ ap length c.deref_mut.ensures.value in
    record {
      told = λ fs within told. subst (λ (rs : List Row). Told (keys_of s) rs (remove fs p)) (sym (with_items_is s.rows new (omega (arith, s.rows.ok.0))))
          (table_removed (λ x k. covers x (at (keys_of s) k)) fs p (rows_of s) new within n told
          (subst (λ (rs : List Row). (k : ℕ) (d : Row) → k < length rs → Out p (get_or rs k d) (get_or new k d)) c.deref_mut.ensures.value c.remove_each.ensures.later));
      keys = refl;
    }
