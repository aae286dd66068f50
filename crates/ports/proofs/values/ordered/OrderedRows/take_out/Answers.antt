use Rattle.std.proofs.Common.{refl, inl}
use Rattle.ports.specs.Ordered.{keys_of}
use Rattle.ports.proofs.Climbing.{has_vacant}
use Rattle.ports.proofs.values.ordered.OrderedRows.take_out.Goals as goal

pub returns-in_default : goal.returns-in_default
returns-in_default c = inl (has_vacant (keys_of c.args.self.now) c.args.key c.in_default.field-0 c.in_default.ensures, refl, refl)
