use Rattle.std.proofs.Common.{ℕ, ◌<◌, List, length, get_or, sym, refl, ap, ◌∙◌, subst, arith}
use Rattle.std.specs.List.{insert}
use Rattle.std.specs.Option.{option_map}
use Rattle.std.proofs.lemmas.List.{with_items_is}
use Rattle.rows.specs.declared.row.Row.{Row}
use Rattle.rows.specs.Tables.{Put}
use Rattle.rows.proofs.Listed.{table_inserted}
use Rattle.prefixes.specs.Fronts.{covers, Told}
use Rattle.prefixes.specs.Keyed.{keys_of, rows_of}
use Rattle.prefixes.specs.Spelled.{spelled}
use Rattle.prefixes.specs.Stored.{at}
use Rattle.prefixes.specs.StoredStrings.{strings}
use Rattle.prefixes.proofs.keyed.KeyedRows.insert.Goals as goal

pub returns : goal.returns
returns c =
    let s = c.args.self.now in
    let new = c.insert_each.new.rows in
    let p = c.args.place in
    let f = option_map spelled c.args.front.now in
    let n = c.insert_each.auto.rows ∙ ap length c.deref_mut.ensures.value in
    let put : (k : ℕ) (d : Row) → k < length (rows_of s) → Put p (covers f (at (keys_of s) k)) (get_or (rows_of s) k d) (get_or new k d) =
    subst (λ (ss : List (List ℕ)). (k : ℕ) (d : Row) → k < length (rows_of s) → Put p (covers f (at ss k)) (get_or (rows_of s) k d) (get_or new k d)) c.as_slice.ensures
    (subst (λ (rs : List Row). (k : ℕ) (d : Row) → k < length rs → Put p (covers f (at (strings c.as_slice.result.now) k)) (get_or rs k d) (get_or new k d))
    c.deref_mut.ensures.value c.insert_each.ensures) in
    record {
      told = λ fs within few told. subst (λ (rs : List Row). Told (keys_of s) rs (insert fs p f)) (sym (with_items_is s.rows new (omega (arith, s.rows.ok.0))))
          (table_inserted (λ x k. covers x (at (keys_of s) k)) fs p f (rows_of s) new within few n told put);
      keys = refl;
    }
