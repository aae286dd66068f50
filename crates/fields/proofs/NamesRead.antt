-- The first byte that a name cannot have.
use Rattle.std.proofs.Common.{◌≡◌, ℕ, zero, suc, ◌+◌, ◌<◌, ◌≤◌, true, false, cond, List, [], ◌∷◌, length, get_or, Some, None, refl, ap, ◌∙◌, arith}
use Rattle.std.proofs.lemmas.Bool.Decides.{nat_tests}
use Rattle.fields.specs.NameBytes.{name_byte, first_bad, text_fault}

pub first_bad_at : (bs : List ℕ) (i k p : ℕ) → p ≡ i + k → k < length bs → ((j : ℕ) → j < k → name_byte (get_or bs j 0) ≡ true)
    → name_byte (get_or bs k 0) ≡ false → first_bad bs i ≡ Some p
first_bad_at [] i k p e h good bad = absurd (omega arith)
first_bad_at (b ∷ bs) i zero p e h good bad = ap (λ c. cond c (first_bad bs (i + 1)) (Some i)) bad ∙ ap Some (omega arith)
first_bad_at (b ∷ bs) i (suc k) p e h good bad =
    ap (λ c. cond c (first_bad bs (i + 1)) (Some i)) (good 0 (omega arith))
    ∙ first_bad_at bs (i + 1) k p (omega arith) (omega arith) (λ j l. good (suc j) (omega arith)) bad

pub none_bad : (bs : List ℕ) (i : ℕ) → ((j : ℕ) → j < length bs → name_byte (get_or bs j 0) ≡ true) → first_bad bs i ≡ None
none_bad [] i good = refl
none_bad (b ∷ bs) i good =
    ap (λ c. cond c (first_bad bs (i + 1)) (Some i)) (good 0 (omega arith))
    ∙ none_bad bs (i + 1) (λ j l. good (suc j) (omega arith))

-- the length is right, so only a byte can be wrong
pub within_fault : (low high : ℕ) (bs : List ℕ) → low ≤ length bs → length bs ≤ high → text_fault low high bs ≡ first_bad bs 0
within_fault low high bs l h = grind (arith, nat_tests)
