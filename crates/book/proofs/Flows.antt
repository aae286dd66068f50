-- Flows that are the same, and flows that are not.
use Rattle.std.proofs.Common.{◌≡◌, true, false, arith}
use Rattle.std.proofs.lemmas.Bool.Decides.{nat_tests}
use Rattle.book.specs.declared.flow.Flow.{Flow}
use Rattle.book.specs.Live.{same_flow}

pub same_from : (f g : Flow) → f ≡ g → same_flow f g ≡ true
same_from f g e = grind (arith, nat_tests)

pub same_equal : (f g : Flow) → same_flow f g ≡ true → f ≡ g
same_equal f g h = grind (arith, nat_tests)

pub apart_flows : (f g : Flow) → (f ≡ g → ⊥) → same_flow f g ≡ false
apart_flows f g n = grind (arith, nat_tests, same_equal)
