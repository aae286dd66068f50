-- The strings that an indexed set holds, in order.
use Rattle.std.specs.Prelude.{ℕ, List}
use Rattle.prefixes.specs.Held.{held}
use Rattle.prefixes.specs.declared.indexed.IndexedSet.{IndexedSet}

abbrev pub kept : IndexedSet → List (List ℕ)
kept s = held s.set
