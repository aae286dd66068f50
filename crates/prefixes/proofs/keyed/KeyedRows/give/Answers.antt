use Rattle.std.proofs.Common.{◌≡◌, ℕ, true, ◌||◌, List, is_ok, sym, ap, ◌∙◌, arith}
use Rattle.std.specs.Option.{option_map}
use Rattle.std.proofs.lemmas.Bool.{cond-true}
use Rattle.prefixes.specs.Fronts.{names, has}
use Rattle.prefixes.specs.Keyed.{keys_of, rows_of}
use Rattle.prefixes.specs.Spelled.{spelled}
use Rattle.prefixes.proofs.FrontLaws.{told_given, has_inserted, has_already}
use Rattle.prefixes.proofs.keyed.KeyedRows.give.Goals as goal

pub returns-in-Err : goal.returns-in-Err
returns-in-Err c =
    let s = c.args.self.now in
    let m = c.in-Err.at in
    let ok : is_ok c.insert.result ≡ true = c.insert.ensures.succeeds (omega (arith, s.rows.ok.0, s.room, s.level)) in
    let items = c.insert.ensures.items ∙ cond-true (is_ok c.insert.result) _ _ ok in
    let p = spelled c.in-Some.prefix in
    record {
      told = told_given (keys_of s) _ (rows_of s) _ m p c.longest.result c.index-row.result.now s.level
          c.in-Err.ensures.0 c.longest.ensures c.index-row.ensures c.put.ensures items;
      stored = λ q. ap (λ (ks : List (List ℕ)). has ks q) c.put.ensures ∙ has_inserted (keys_of s) m p q
          ∙ ap (λ f. names f q || has (keys_of s) q) (sym (ap (option_map spelled) c.in-Some.is));
    }

pub returns-in_default-locate : goal.returns-in_default-locate
returns-in_default-locate c =
    let s = c.args.self.now in
    let p = spelled c.in-Some.prefix in
    record {
      told = λ fs told stores. told;
      stored = λ q. has_already (keys_of s) p c.in_default-locate.field-0 c.in_default-locate.ensures.0 c.in_default-locate.ensures.1 q
          ∙ ap (λ f. names f q || has (keys_of s) q) (sym (ap (option_map spelled) c.in-Some.is));
    }
