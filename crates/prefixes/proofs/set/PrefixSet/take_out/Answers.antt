use Rattle.std.proofs.Common.{◌≡◌, ℕ, List, length, vec_items, sym, ap, ◌∙◌, subst, arith}
use Rattle.std.specs.List.{remove}
use Rattle.std.proofs.lemmas.List.{with_items_is}
use Rattle.prefixes.specs.Held.{held}
use Rattle.prefixes.specs.Stored.{Ascending, LinkedTo}
use Rattle.prefixes.specs.StoredStrings.{strings, links}
use Rattle.prefixes.specs.declared.stored.Stored.{Stored}
use Rattle.prefixes.proofs.EditLaws.{ascending_removed, strings_removed}
use Rattle.prefixes.proofs.set.PrefixSet.take_out.Goals as goal

pub relink-requires : goal.relink-requires
relink-requires c =
    let s = c.args.self.now in
    let xs = vec_items s.stored in
    let strs : strings (vec_items c.remove.new.self) ≡ remove (held s) c.args.at = strings_removed xs _ c.args.at c.remove.ensures.items in
    subst (λ (ts : List (List ℕ)). Ascending ts) (sym (ap strings c.deref_mut.ensures.value ∙ strs))
    (ascending_removed (held s) c.args.at c.requires.above c.requires.within s.ascending)

pub invariant_of-self : goal.invariant_of-self
invariant_of-self c =
    let s = c.args.self.now in
    let xs = vec_items s.stored in
    let strs : strings (vec_items c.remove.new.self) ≡ remove (held s) c.args.at = strings_removed xs _ c.args.at c.remove.ensures.items in
    let whole = with_items_is c.remove.new.self c.relink.new.stored (omega (arith, c.relink.auto.stored, c.deref_mut.ensures.len)) in
    record {
      ascending = subst (λ (ts : List (List ℕ)). Ascending ts) (sym (ap strings whole ∙ c.relink.ensures.strings ∙ ap strings c.deref_mut.ensures.value ∙ strs))
          (ascending_removed (held s) c.args.at c.requires.above c.requires.within s.ascending);
      linked = subst (λ (ys : List Stored). LinkedTo (strings ys) (links ys) (length ys)) (sym whole) c.relink.ensures.linked;
      room = omega (arith, c.remove.ensures.capacity, s.room);
    }

pub returns : goal.returns
returns c =
    let s = c.args.self.now in
    let xs = vec_items s.stored in
    let strs : strings (vec_items c.remove.new.self) ≡ remove (held s) c.args.at = strings_removed xs _ c.args.at c.remove.ensures.items in
    let whole = with_items_is c.remove.new.self c.relink.new.stored (omega (arith, c.relink.auto.stored, c.deref_mut.ensures.len)) in
    ap strings whole ∙ c.relink.ensures.strings ∙ ap strings c.deref_mut.ensures.value ∙ strs
