use Rattle.ports.specs.Ordered.{keys_of}
use Rattle.ports.proofs.Climbing.{has_vacant}
use Rattle.ports.proofs.values.ordered.OrderedRows.get.Goals as goal

pub returns-in-Err : goal.returns-in-Err
returns-in-Err c = has_vacant (keys_of c.args.self.now) c.args.key c.in-Err.field-0 c.in-Err.ensures
