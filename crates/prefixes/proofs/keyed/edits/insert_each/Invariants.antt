use Rattle.std.specs.Option.{option_map}
use Rattle.rows.specs.Tables.{Put}
use Rattle.prefixes.specs.Fronts.{covers}
use Rattle.prefixes.specs.Spelled.{spelled}
use Rattle.prefixes.specs.Stored.{at}
use Rattle.prefixes.specs.StoredStrings.{strings}
use Rattle.columns.proofs.Tables.{Each}
use Rattle.prefixes.proofs.keyed.edits.insert_each.Given as goal

abbrev pub invariant-loop-i : goal.invariant-loop-i
invariant-loop-i l = Each (λ k. Put l.place (covers (option_map spelled l.front) (at (strings l.stored) k))) l.initial.rows l.rows l.i
