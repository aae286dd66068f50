use Rattle.std.proofs.Common.{◌≡◌, ℕ, List, length, vec_items, sym, ap, ◌∙◌, subst, arith}
use Rattle.std.specs.List.{insert}
use Rattle.std.proofs.lemmas.List.{with_items_is}
use Rattle.std.proofs.lemmas.Bool.{cond-true}
use Rattle.prefixes.specs.Spelled.{spelled}
use Rattle.prefixes.specs.Held.{held}
use Rattle.prefixes.specs.Stored.{Ascending, LinkedTo}
use Rattle.prefixes.specs.StoredStrings.{strings, links}
use Rattle.prefixes.specs.declared.stored.Stored.{Stored}
use Rattle.prefixes.proofs.EditLaws.{ascending_inserted, strings_inserted}
use Rattle.prefixes.proofs.StoredLaws.{length_strings}
use Rattle.prefixes.proofs.set.PrefixSet.put.Goals as goal

pub relink-requires : goal.relink-requires
relink-requires c =
    let s = c.args.self.now in
    let xs = vec_items s.stored in
    let ok = c.insert.ensures.succeeds (omega (arith, s.stored.ok.0, s.room, length_strings xs)) in
    let strs : strings (vec_items c.insert.new.self) ≡ insert (held s) c.args.at (spelled c.args.prefix) =
    strings_inserted xs _ c.args.at c.new.result _ (c.insert.ensures.items ∙ cond-true _ _ _ ok) c.new.ensures in
    subst (λ (ts : List (List ℕ)). Ascending ts) (sym (ap strings c.deref_mut.ensures.value ∙ strs))
    (ascending_inserted (held s) (spelled c.args.prefix) c.args.at c.requires.within s.ascending c.requires.fits)

pub invariant_of-self : goal.invariant_of-self
invariant_of-self c =
    let s = c.args.self.now in
    let xs = vec_items s.stored in
    let ok = c.insert.ensures.succeeds (omega (arith, s.stored.ok.0, s.room, length_strings xs)) in
    let strs : strings (vec_items c.insert.new.self) ≡ insert (held s) c.args.at (spelled c.args.prefix) =
    strings_inserted xs _ c.args.at c.new.result _ (c.insert.ensures.items ∙ cond-true _ _ _ ok) c.new.ensures in
    let whole = with_items_is c.insert.new.self c.relink.new.stored (omega (arith, c.relink.auto.stored, c.deref_mut.ensures.len)) in
    record {
      ascending = subst (λ (ts : List (List ℕ)). Ascending ts) (sym (ap strings whole ∙ c.relink.ensures.strings ∙ ap strings c.deref_mut.ensures.value ∙ strs))
          (ascending_inserted (held s) (spelled c.args.prefix) c.args.at c.requires.within s.ascending c.requires.fits);
      linked = subst (λ (ys : List Stored). LinkedTo (strings ys) (links ys) (length ys)) (sym whole) c.relink.ensures.linked;
      room = omega (arith, c.insert.ensures.capacity, s.room);
    }

pub returns : goal.returns
returns c =
    let s = c.args.self.now in
    let xs = vec_items s.stored in
    let ok = c.insert.ensures.succeeds (omega (arith, s.stored.ok.0, s.room, length_strings xs)) in
    let strs : strings (vec_items c.insert.new.self) ≡ insert (held s) c.args.at (spelled c.args.prefix) =
    strings_inserted xs _ c.args.at c.new.result _ (c.insert.ensures.items ∙ cond-true _ _ _ ok) c.new.ensures in
    let whole = with_items_is c.insert.new.self c.relink.new.stored (omega (arith, c.relink.auto.stored, c.deref_mut.ensures.len)) in
    ap strings whole ∙ c.relink.ensures.strings ∙ ap strings c.deref_mut.ensures.value ∙ strs
