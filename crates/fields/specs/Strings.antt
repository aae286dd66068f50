-- Strings of symbols: which begins which, and which are the same.
use Rattle.std.specs.Prelude.{ℕ, Bool, true, false, cond, ◌&&◌, List, [], ◌∷◌, length, ◌==◌}

-- p is the front of s
abbrev pub begins : List ℕ → List ℕ → Bool
begins [] s = true
begins (x ∷ p) [] = false
begins (x ∷ p) (y ∷ s) = cond (x == y) (begins p s) false

-- the two are one string
abbrev pub same : List ℕ → List ℕ → Bool
same p s = length p == length s && begins p s
