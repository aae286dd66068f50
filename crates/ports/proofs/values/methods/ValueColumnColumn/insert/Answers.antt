use Rattle.std.proofs.Common.{◌≡◌, ℕ, ◌-◌, ◌<◌, ◌≤◌, Bool, true, ◌||◌, List, length, get_or, is_ok, vec_items, sym, ap, ◌∙◌, subst, arith}
use Rattle.std.specs.List.{insert}
use Rattle.std.proofs.lemmas.Bool.{cond-true}
use Rattle.ports.specs.declared.values.ordered.OrderedRows.{OrderedRows}
use Rattle.fields.specs.declared.condition.plain.Plain.{Plain}
use Rattle.fields.specs.declared.values.port.Port.{Port}
use Rattle.rows.specs.Shows.{Shows}
use Rattle.ports.specs.Keys.{has}
use Rattle.ports.specs.Ordered.{keys_of, rows_of}
use Rattle.ports.specs.Ports.{port_holds, on_any, names, named}
use Rattle.rows.specs.Tables.{Put}
use Rattle.rows.proofs.Listed.{shows_inserted, table_inserted}
use Rattle.columns.proofs.Accepted.{insert_ok}
use Rattle.ports.proofs.Naming.{Told, few_keys, ready_has, ready_told}
use Rattle.columns.proofs.Some.{some_inserted}
use Rattle.ports.proofs.values.methods.ValueColumnColumn.insert.Goals as goal

pub make_ready-requires : goal.make_ready-requires
make_ready-requires c =
    let s = c.args.self.now in
    let accepted = insert_ok c.args.position c.len.result c.in_ok-insert_check.ensures.result in
    let rows = few_keys (keys_of s.table) (vec_items s.conditions) s.table.climbs s.stored in
    omega (arith, accepted.2, c.len.ensures)

pub invariant_of-self : goal.invariant_of-self
invariant_of-self c =
    let s = c.args.self.now in
    let x : Plain Port = c.args.condition in
    let cs : List (Plain Port) = vec_items s.conditions in
    let ds : List (Plain Port) = vec_items c.insert-2.new.self in
    let t : OrderedRows = c.make_ready.new.table in
    let u : OrderedRows = c.insert_each.new.self in
    let p : ℕ = c.args.position - 1 in
    let accepted = insert_ok c.args.position c.len.result c.in_ok-insert_check.ensures.result in
    let few : length cs < 512 = omega (arith, accepted.2, c.len.ensures, s.conditions.ok.0) in
    let within : p ≤ length cs = omega (arith, accepted.0, accepted.1, c.len.ensures, s.conditions.ok.0) in
    let ok : is_ok c.insert-2.result ≡ true = c.insert-2.ensures.succeeds (omega arith) in
    let listed : ds ≡ insert cs p x = c.insert-2.ensures.items ∙ cond-true (is_ok c.insert-2.result) _ _ ok in
    let long = c.insert-2.ensures.len ∙ cond-true (is_ok c.insert-2.result) _ _ ok in
    let told : Told (keys_of t) (rows_of t) cs = ready_told x s.others s.table t cs c.make_ready.ensures s.stored s.untold s.told in record {
      few = omega arith;
      room = omega (arith, c.insert-2.ensures.capacity);
      stored = (λ v.
          ap (λ ks. has ks v) c.insert_each.ensures.keys ∙ ready_has x s.others s.table t c.make_ready.ensures v
          ∙ ap (λ b. names x v || b) (s.stored v) ∙ sym (some_inserted (λ y. names y v) cs p x) ∙ sym (ap (λ ys. named ys v) listed));
      told = subst (λ (ks : List ℕ). Told ks (rows_of u) ds) (sym c.insert_each.ensures.keys)
          (subst (Told (keys_of t) (rows_of u)) (sym listed)
          (table_inserted (λ y k. port_holds y (get_or (keys_of t) k 0)) cs p x (rows_of t) (rows_of u) within few
          c.insert_each.ensures.count told c.insert_each.ensures.rows));
      untold = subst (Shows c.insert.new.self on_any) (sym listed)
          (shows_inserted on_any cs p x s.others c.insert.new.self within few s.untold
          (subst (λ (b : Bool). Put p b s.others c.insert.new.self) c.holds_on.ensures.result c.insert.ensures));
    }
