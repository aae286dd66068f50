-- The order of strings of symbols, and how far two agree.
use Rattle.std.specs.Prelude.{ℕ, suc, Bool, true, false, cond, List, [], ◌∷◌, ◌==◌, nat_lt}

-- p comes before s in the order of the alphabet, or is s
abbrev pub ordered : List ℕ → List ℕ → Bool
ordered [] s = true
ordered (x ∷ p) [] = false
ordered (x ∷ p) (y ∷ s) = cond (x == y) (ordered p s) (nat_lt x y)

-- how many leading symbols the two share
abbrev pub common : List ℕ → List ℕ → ℕ
common [] s = 0
common (x ∷ p) [] = 0
common (x ∷ p) (y ∷ s) = cond (x == y) (suc (common p s)) 0
