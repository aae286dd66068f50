use Rattle.std.proofs.Common.{false, map, get_or, vec_items, sym, ap, ◌∙◌}
use Rattle.rows.specs.Shown.{shown}
use Rattle.fields.specs.Conditions.{plain_admits}
use Rattle.fields.specs.Passing.{port_passes}
use Rattle.ports.proofs.Naming.{found_or}
use Rattle.ports.proofs.values.methods.ValueColumnColumn.read.Goals as goal

pub returns-in-Some : goal.returns-in-Some
returns-in-Some c = record {
  row = λ i.
      let s = c.args.self.now in
      ap (λ r. shown r.now i) c.unwrap_or.ensures
      ∙ found_or c.in-Some.port.number s.table (vec_items s.conditions) c.get.result _ c.get.ensures s.stored s.told s.untold i
      ∙ sym (ap (λ o. get_or (map (λ x. plain_admits port_passes x o) (vec_items s.conditions)) i false) c.in-Some.is);
}
