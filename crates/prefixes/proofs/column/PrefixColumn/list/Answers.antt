use Rattle.std.proofs.Common.{◌≡◌, ℕ, ◌<◌, ◌≤◌, Bool, true, ◌||◌, List, length, is_ok, vec_items, sym, ap, ◌∙◌, subst, arith}
use Rattle.std.specs.List.{insert}
use Rattle.std.specs.Option.{option_map}
use Rattle.std.proofs.lemmas.List.{length-map}
use Rattle.std.proofs.lemmas.Bool.{cond-true}
use Rattle.fields.specs.Conditions.{plain_any}
use Rattle.rows.specs.Shows.{Shows}
use Rattle.rows.specs.Tables.{Put}
use Rattle.rows.proofs.Listed.{shows_inserted}
use Rattle.columns.proofs.Some.{some_inserted}
use Rattle.prefixes.specs.Fronts.{names, has, Told, Stores}
use Rattle.prefixes.specs.Keyed.{keys_of, rows_of}
use Rattle.prefixes.specs.Listed.{front_of, fronts_of}
use Rattle.prefixes.specs.Spelled.{spelled}
use Rattle.prefixes.proofs.EditLaws.{map_inserted}
use Rattle.prefixes.proofs.FrontLaws.{lean}
use Rattle.prefixes.proofs.column.PrefixColumn.list.Goals as goal

pub give-requires : goal.give-requires
give-requires g c =
    let s = c.args.self.now in
    let cs = vec_items s.conditions in
    let front = g.T.Prefix.front in
    let few = lean (keys_of s.keyed) (fronts_of front cs) s.keyed.set.set.ascending c.args.self.now.stored in
    omega (arith, length-map cs (front_of front), c.requires.few)

pub invariant_of-self : goal.invariant_of-self
invariant_of-self g c =
    let s = c.args.self.now in
    let p = c.args.place in
    let x = c.args.condition in
    let front = g.T.Prefix.front in
    let cs = vec_items s.conditions in
    let fs = fronts_of front cs in
    let f = option_map spelled c.front_of-front.result in
    let t = c.insert.new.self in
    let row = c.insert-2.new.self in
    let n = length-map cs (front_of front) in
    let within : p ≤ length fs = omega (arith, c.requires.within) in
    let few : length fs < 512 = omega (arith, c.requires.few) in
    let ok : is_ok c.insert-3.result ≡ true = c.insert-3.ensures.succeeds (omega (arith, s.conditions.ok.0, s.room, c.requires.few)) in
    let items = c.insert-3.ensures.items ∙ cond-true (is_ok c.insert-3.result) _ _ ok in
    let long = c.insert-3.ensures.len ∙ cond-true (is_ok c.insert-3.result) _ _ ok in
    let listed : insert fs p f ≡ fronts_of front (vec_items c.insert-3.new.self) =
    ap (insert fs p) c.front_of-front.ensures ∙ sym (map_inserted (front_of front) cs p x) ∙ ap (fronts_of front) (sym items) in
    record {
      few = omega (arith, long, s.conditions.ok.0, c.requires.few);
      room = omega (arith, c.insert-3.ensures.capacity, s.room);
      bare = subst (Shows row plain_any) (sym items)
          (shows_inserted plain_any cs p x s.absent row c.requires.within c.requires.few s.bare
          (subst (λ (b : Bool). Put p b s.absent row) c.is_any.ensures.result c.insert-2.ensures));
      told = subst (Told (keys_of t) (rows_of t)) listed
          (c.insert.ensures.told fs within few (c.give.ensures.told fs s.told s.stored));
      stored = subst (Stores (keys_of t)) listed
          (λ q pos. ap (λ (ks : List (List ℕ)). has ks q) c.insert.ensures.keys ∙ c.give.ensures.stored q
          ∙ ap (λ b. names f q || b) (s.stored q pos) ∙ sym (some_inserted (λ y. names y q) fs p f));
    }
