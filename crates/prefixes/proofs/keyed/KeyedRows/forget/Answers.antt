use Rattle.std.proofs.Common.{◌≡◌, ℕ, ◌<◌, List, length, Some, Option, sym, ap, ◌∙◌, subst, arith}
use Rattle.std.specs.Option.{option_map}
use Rattle.prefixes.specs.Fronts.{Fronts, named, Stores, StoresWith}
use Rattle.prefixes.specs.Keyed.{keys_of, rows_of}
use Rattle.prefixes.specs.Spelled.{spelled}
use Rattle.prefixes.specs.Stored.{at}
use Rattle.prefixes.proofs.FrontLaws.{told_taken, stores_removed, stores_kept, stores_vacant, stores_empty}
use Rattle.prefixes.proofs.keyed.KeyedRows.forget.Goals as goal
use Rattle.prefixes.proofs.keyed.KeyedRows.forget.Goals.{else-at-gt0-via-then-at-gt0+else-not-serves, else-at-gt0-via-else-at-gt0}

-- a front by another name
renamed : (ss : List (List ℕ)) (f g : Option (List ℕ)) (fs : Fronts) → f ≡ g → StoresWith ss f fs → StoresWith ss g fs
renamed ss f g fs e stores = subst (λ (x : Option (List ℕ)). StoresWith ss x fs) e stores

pub returns-then-not-serves : goal.returns-then-not-serves
returns-then-not-serves c =
    let s = c.args.self.now in
    let j = c.in-Ok.at in
    let h : j < length (keys_of s) = c.in-Ok.ensures.0 in
    let e : option_map spelled c.args.front.now ≡ Some (at (keys_of s) j) = ap (option_map spelled) c.in-Some.is ∙ ap Some (sym c.in-Ok.ensures.1) in
    record {
      told = told_taken (keys_of s) _ (rows_of s) _ j s.level h c.take_out.ensures c.remove.ensures.items;
      stored = λ fs told stores.
          let with_it = renamed (keys_of s) _ (Some (at (keys_of s) j)) fs e stores in
          subst (λ (ks : List (List ℕ)). Stores ks fs) (sym c.take_out.ensures)
          (stores_removed (keys_of s) j fs s.set.set.ascending h (sym (c.serves.ensures fs told with_it) ∙ c.if-not-serves.true) with_it);
    }

pub returns-else-at-gt0 : goal.returns-else-at-gt0
returns-else-at-gt0 c =
    let s = c.args.self.now in
    let j = c.in-Ok.at in
    let p = spelled c.in-Some.prefix in
    let here : at (keys_of s) j ≡ p = c.in-Ok.ensures.1 in
    let e : option_map spelled c.args.front.now ≡ Some p = ap (option_map spelled) c.in-Some.is in
    record {
      told = λ fs told. told;
      stored = λ fs told stores. elim c.else-at-gt0.branch [
        | else-at-gt0-via-then-at-gt0+else-not-serves w ↦ stores_kept (keys_of s) p fs
            (sym (w.serves.ensures fs told (renamed (keys_of s) _ (Some (at (keys_of s) j)) fs (e ∙ ap Some (sym here)) stores) ∙ ap (named fs) here) ∙ w.if-not-serves.false)
            (renamed (keys_of s) _ (Some p) fs e stores)
        | else-at-gt0-via-else-at-gt0 w ↦ stores_empty (keys_of s) p fs
            (let z : j ≡ 0 = omega (arith, w.if-at-gt0.false) in
            ap length (sym here) ∙ ap (λ (k : ℕ). length (at (keys_of s) k)) z ∙ s.set.set.ascending.1)
            (renamed (keys_of s) _ (Some p) fs e stores)
      ];
    }

pub returns-in_default-locate : goal.returns-in_default-locate
returns-in_default-locate c =
    let s = c.args.self.now in
    let p = spelled c.in-Some.prefix in
    record {
      told = λ fs told. told;
      stored = λ fs told stores. stores_vacant (keys_of s) p c.in_default-locate.field-0 fs c.in_default-locate.ensures.1
          (renamed (keys_of s) _ (Some p) fs (ap (option_map spelled) c.in-Some.is) stores);
    }
