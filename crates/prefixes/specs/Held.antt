-- The strings that a set holds, in order.
use Rattle.std.specs.Prelude.{ℕ, List, vec_items}
use Rattle.prefixes.specs.StoredStrings.{strings}
use Rattle.prefixes.specs.declared.set.PrefixSet.{PrefixSet}

abbrev pub held : PrefixSet → List (List ℕ)
held s = strings (vec_items s.stored)
