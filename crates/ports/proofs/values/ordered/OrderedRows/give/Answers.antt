use Rattle.std.proofs.Common.{refl, inl}
use Rattle.ports.specs.Ordered.{keys_of}
use Rattle.ports.proofs.Climbing.{has_found}
use Rattle.ports.proofs.values.ordered.OrderedRows.give.Goals as goal

pub returns-in_default : goal.returns-in_default
returns-in_default c =
    let found = c.in_default.ensures in
    inl (has_found (keys_of c.args.self.now) c.args.key c.in_default.field-0 found.0 found.1, refl, refl)
