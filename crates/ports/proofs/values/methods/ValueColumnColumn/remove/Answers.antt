use Rattle.std.proofs.Common.{◌≡◌, ℕ, ◌-◌, ◌<◌, ◌||◌, List, length, get_or, vec_items, sym, ap, ◌∙◌, subst, arith}
use Rattle.std.specs.List.{remove}
use Rattle.ports.specs.declared.values.ordered.OrderedRows.{OrderedRows}
use Rattle.fields.specs.declared.condition.plain.Plain.{Plain}
use Rattle.fields.specs.declared.values.port.Port.{Port}
use Rattle.rows.specs.Shows.{Shows}
use Rattle.ports.specs.Keys.{has}
use Rattle.ports.specs.Ordered.{keys_of, rows_of}
use Rattle.ports.specs.Owned.{Cleaned}
use Rattle.ports.specs.Ports.{port_holds, on_any, names, named}
use Rattle.rows.proofs.Listed.{shows_removed, table_removed}
use Rattle.columns.proofs.Accepted.{remove_ok}
use Rattle.ports.proofs.Naming.{Told, clean_has, clean_told}
use Rattle.columns.proofs.Some.{some_removed}
use Rattle.ports.proofs.values.methods.ValueColumnColumn.remove.Goals as goal

pub invariant_of-self-2 : goal.invariant_of-self-2
invariant_of-self-2 c =
    let s = c.args.self.now in
    let x : Plain Port = c.remove-removed.result in
    let cs : List (Plain Port) = vec_items s.conditions in
    let ds : List (Plain Port) = vec_items c.remove-removed.new.self in
    let t : OrderedRows = c.remove_each.new.self in
    let u : OrderedRows = c.clean_up.new.table in
    let p : ℕ = c.args.position - 1 in
    let accepted = remove_ok c.args.position c.len.result c.in_ok-remove_check.ensures.result in
    let within : p < length cs = omega (arith, accepted.0, accepted.1, c.len.ensures, s.conditions.ok.0) in
    let listed : ds ≡ remove cs p = c.remove-removed.ensures.items in
    let clean : Cleaned x ds c.remove_each.new.self u = subst (λ (ys : List (Plain Port)). Cleaned x ys t u) c.deref.ensures.value c.clean_up.ensures in
    let told : Told (keys_of t) (rows_of t) ds =
    subst (λ (ks : List ℕ). Told ks (rows_of t) ds) (sym c.remove_each.ensures.keys)
    (subst (Told (keys_of s.table) (rows_of t)) (sym listed)
    (table_removed (λ y k. port_holds y (get_or (keys_of s.table) k 0)) cs p (rows_of s.table) (rows_of t) within
    c.remove_each.ensures.count s.told c.remove_each.ensures.rows)) in
    let stored : (v : ℕ) → has (keys_of t) v ≡ (names x v || named ds v) = λ v.
    ap (λ ks. has ks v) c.remove_each.ensures.keys ∙ s.stored v ∙ some_removed (λ y. names y v) cs p x within
    ∙ ap (λ y. names y v || named (remove cs p) v) (sym c.remove-removed.ensures.value) ∙ sym (ap (λ ys. names x v || named ys v) listed) in record {
      few = omega (arith, c.remove-removed.ensures.len);
      room = omega (arith, c.remove-removed.ensures.capacity);
      stored = clean_has x ds t u clean stored;
      told = clean_told x ds ds t u clean told;
      untold = subst (Shows c.remove.new.self on_any) (sym listed)
          (shows_removed on_any cs p s.others c.remove.new.self within s.untold c.remove.ensures);
    }
