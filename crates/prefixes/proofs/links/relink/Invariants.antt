use Rattle.std.proofs.Common.{◌≡◌}
use Rattle.prefixes.specs.Stored.{LinkedTo}
use Rattle.prefixes.specs.StoredStrings.{strings, links}
use Rattle.prefixes.proofs.links.relink.Given as goal

abbrev pub invariant-loop-i : goal.invariant-loop-i
invariant-loop-i l = (strings l.stored ≡ strings l.initial.stored) × LinkedTo (strings l.initial.stored) (links l.stored) l.i
