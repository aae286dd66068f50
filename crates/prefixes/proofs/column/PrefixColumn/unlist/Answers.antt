use Rattle.std.proofs.Common.{◌≡◌, ℕ, ◌<◌, ◌||◌, List, length, get_or, None, vec_items, sym, ap, ◌∙◌, subst, arith}
use Rattle.std.specs.List.{remove}
use Rattle.std.specs.Option.{option_map}
use Rattle.std.proofs.lemmas.List.{length-map, get_or-map}
use Rattle.fields.specs.Conditions.{plain_any}
use Rattle.rows.specs.Shows.{Shows}
use Rattle.rows.proofs.Listed.{shows_removed}
use Rattle.columns.proofs.Some.{some_removed}
use Rattle.prefixes.specs.Fronts.{names, named, has, Told, Stores, StoresWith}
use Rattle.prefixes.specs.Keyed.{keys_of, rows_of}
use Rattle.prefixes.specs.Listed.{front_of, fronts_of}
use Rattle.prefixes.specs.Spelled.{spelled}
use Rattle.prefixes.proofs.EditLaws.{map_removed}
use Rattle.prefixes.proofs.column.PrefixColumn.unlist.Goals as goal

pub invariant_of-self : goal.invariant_of-self
invariant_of-self g c =
    let s = c.args.self.now in
    let p = c.args.place in
    let front = g.T.Prefix.front in
    let cs = vec_items s.conditions in
    let fs = fronts_of front cs in
    let f = option_map spelled c.front_of-front.result in
    let t = c.remove.new.self in
    let u = c.forget.new.self in
    let row = c.remove-2.new.self in
    let n = length-map cs (front_of front) in
    let within : p < length fs = omega (arith, c.requires) in
    let items = c.remove-3.ensures.items in
    let listed : remove fs p ≡ fronts_of front (vec_items c.remove-3.new.self) =
    sym (map_removed (front_of front) cs p) ∙ ap (fronts_of front) (sym items) in
    let here : get_or fs p None ≡ f = get_or-map (front_of front) cs p c.index.result.now None c.requires
    ∙ ap (front_of front) (sym c.index.ensures) ∙ sym c.front_of-front.ensures in
    let told : Told (keys_of t) (rows_of t) (remove fs p) = c.remove.ensures.told fs within s.told in
    let stores : StoresWith (keys_of t) f (remove fs p) = λ q pos.
    ap (λ (ks : List (List ℕ)). has ks q) c.remove.ensures.keys ∙ s.stored q pos ∙ some_removed (λ y. names y q) fs p None within
    ∙ ap (λ y. names y q || named (remove fs p) q) here in
    record {
      few = omega (arith, c.remove-3.ensures.len, s.few);
      room = omega (arith, c.remove-3.ensures.capacity, s.room);
      bare = subst (Shows row plain_any) (sym items)
          (shows_removed plain_any cs p s.absent row c.requires s.bare c.remove-2.ensures);
      told = subst (Told (keys_of u) (rows_of u)) listed (c.forget.ensures.told (remove fs p) told);
      stored = subst (Stores (keys_of u)) listed (c.forget.ensures.stored (remove fs p) told stores);
    }
