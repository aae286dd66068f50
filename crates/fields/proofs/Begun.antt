-- The library's comparisons of slices, as the comparisons of strings.
use Rattle.std.proofs.Common.{◌≡◌, ℕ, eqb, List, [], ◌∷◌, length, take, refl, arith}
use Rattle.std.specs.Cmp.Lexicographic.{pointwise}
use Rattle.std.proofs.lemmas.Bool.Decides.{nat_tests}
use Rattle.fields.specs.Strings.{begins, same}

pub equal_same : (p s : List ℕ) → pointwise eqb p s ≡ same p s
equal_same [] [] = refl
equal_same [] (y ∷ s) = grind (arith, nat_tests)
equal_same (x ∷ p) [] = grind (arith, nat_tests)
equal_same (x ∷ p) (y ∷ s) = let e = equal_same p s in grind (arith, nat_tests)

pub front_begins : (p s : List ℕ) → pointwise eqb p (take (length p) s) ≡ begins p s
front_begins [] s = refl
front_begins (x ∷ p) [] = refl
front_begins (x ∷ p) (y ∷ s) = let e = front_begins p s in grind (arith, nat_tests)
