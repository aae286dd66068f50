-- Keys in strict order, and the rows beside them, after one more and one less.
use Rattle.std.proofs.Common.{◌≡◌, ℕ, ◌+◌, ◌-◌, ◌<◌, ◌≤◌, Bool, true, false, eqb, List, length, get_or, sym, refl, ap, ◌∙◌, subst, ⊎_elim, arith}
use Rattle.std.specs.List.{insert, remove}
use Rattle.std.specs.List.Sorted.{IsStrictlyIncreasing}
use Rattle.std.proofs.lemmas.Bool.{cases_eq, cases_lt, cases_order, eq-eqb, ne_eqb}
use Rattle.std.proofs.lemmas.List.Kept.{AllPairs-from_increasing}
use Rattle.std.proofs.lemmas.List.Edits.{length-insert, get_or-insert_below, get_or-insert_at, get_or-insert_above, length-remove, get_or-remove_below, get_or-remove_above}
use Rattle.columns.specs.Somewhere.{some}
use Rattle.ports.specs.Keys.{has, Fits}
use Rattle.columns.proofs.Pigeons.{pigeons}
use Rattle.columns.proofs.Some.{some_at, some_none, some_where}

pub rising : (ks : List ℕ) → IsStrictlyIncreasing ks → (i j : ℕ) → i ≤ j → j < length ks → get_or ks i 0 ≤ get_or ks j 0
rising ks up i j l h = ⊎_elim
    (λ e. let q = ap (λ n. get_or ks n 0) e in omega arith)
    (λ n. omega (arith, AllPairs-from_increasing ks up i j 0 (omega arith) h))
    (cases_eq i j)

-- where an element of a list with one more comes from
above : {X : Type 0} (xs : List X) (i : ℕ) (x d : X) (k : ℕ) → i < k → i ≤ length xs → get_or (insert xs i x) k d ≡ get_or xs (k - 1) d
above xs i x d k l h =
    ap (λ n. get_or (insert xs i x) n d) (let e : k ≡ (k - 1) + 1 = omega arith in e) ∙ get_or-insert_above xs i x d (k - 1) (omega arith) h

pub has_found : (ks : List ℕ) (v i : ℕ) → i < length ks → get_or ks i 0 ≡ v → has ks v ≡ true
has_found ks v i h e = some_at (λ k. eqb k v) ks i 0 h (eq-eqb (get_or ks i 0) v e)

pub has_vacant : (ks : List ℕ) (v i : ℕ) → Fits ks v i → has ks v ≡ false
has_vacant ks v i (h, before, behind) = some_none (λ k. eqb k v) ks 0
    (λ k l. ne_eqb (get_or ks k 0) v (λ e. ⊎_elim (λ lt. omega (arith, before k lt)) (λ ge. omega (arith, behind k ge l)) (cases_lt k i)))

-- a key that is taken out does not stand elsewhere
pub has_no_more : (ks : List ℕ) (v i : ℕ) → IsStrictlyIncreasing ks → i < length ks → get_or ks i 0 ≡ v → has (remove ks i) v ≡ false
has_no_more ks v i up h e =
    let n = length-remove ks i h in
    some_none (λ k. eqb k v) (remove ks i) 0
    (λ k l. ne_eqb (get_or (remove ks i) k 0) v (λ q. ⊎_elim
    (λ lt. omega (arith, get_or-remove_below ks i 0 k lt h, AllPairs-from_increasing ks up k i 0 lt h))
    (λ ge. omega (arith, get_or-remove_above ks i 0 k ge h, AllPairs-from_increasing ks up i (k + 1) 0 (omega arith) (omega arith)))
    (cases_lt k i)))

-- keys that differ and are each named by an element of a list, no element naming two, are at most as many as the elements
pub lean : {C : Type 0} (names : C → ℕ → Bool) (d : C) (cs : List C) (ks : List ℕ)
    → ((c : C) (u v : ℕ) → names c u ≡ true → names c v ≡ true → u ≡ v) → IsStrictlyIncreasing ks
    → ((v : ℕ) → has ks v ≡ some (λ c. names c v) cs) → length ks ≤ length cs
lean names d cs ks one up named =
    pigeons (length ks) (length cs) (λ j i. names (get_or cs i d) (get_or ks j 0) ≡ true)
    (λ j h. some_where (λ c. names c (get_or ks j 0)) cs d (sym (named (get_or ks j 0)) ∙ has_found ks (get_or ks j 0) j h refl))
    (λ j k i l h a b. omega (arith, one (get_or cs i d) (get_or ks j 0) (get_or ks k 0) a b, AllPairs-from_increasing ks up j k 0 l h))

-- what holds of each key and the row beside it holds after one more of both
pub beside_inserted : {R : Type 0} (P : ℕ → R → Type 0) (ks : List ℕ) (rs : List R) (i v : ℕ) (r d : R) → length rs ≡ length ks → i ≤ length ks
    → P v r → ((k : ℕ) → k < length rs → P (get_or ks k 0) (get_or rs k d))
    → (k : ℕ) → k < length (insert rs i r) → P (get_or (insert ks i v) k 0) (get_or (insert rs i r) k d)
beside_inserted {R} P ks rs i v r d level h new old k l =
    let n = length-insert rs i r (omega arith) in
    ⊎_elim
    (λ e. both (ap (λ m. get_or (insert ks i v) m 0) e ∙ get_or-insert_at ks i v 0 h)
    (ap (λ m. get_or (insert rs i r) m d) e ∙ get_or-insert_at rs i r d (omega arith)) new)
    (⊎_elim
    (λ less. both (get_or-insert_below ks i v 0 k less h) (get_or-insert_below rs i r d k less (omega arith)) (old k (omega arith)))
    (λ more. both (above ks i v 0 k more h) (above rs i r d k more (omega arith)) (old (k - 1) (omega arith))))
    (cases_order k i)
  where
    both : {u w : ℕ} {x y : R} → u ≡ w → x ≡ y → P w y → P u x
    both {u} {w} {x} {y} a b p = subst (λ (n : ℕ). P n x) (sym a) (subst (P w) (sym b) p)

pub beside_removed : {R : Type 0} (P : ℕ → R → Type 0) (ks : List ℕ) (rs : List R) (i : ℕ) (d : R) → length rs ≡ length ks → i < length ks
    → ((k : ℕ) → k < length rs → P (get_or ks k 0) (get_or rs k d))
    → (k : ℕ) → k < length (remove rs i) → P (get_or (remove ks i) k 0) (get_or (remove rs i) k d)
beside_removed {R} P ks rs i d level h old k l =
    let n = length-remove rs i (omega arith) in
    ⊎_elim
    (λ less. both (get_or-remove_below ks i 0 k less h) (get_or-remove_below rs i d k less (omega arith)) (old k (omega arith)))
    (λ ge. both (get_or-remove_above ks i 0 k ge h) (get_or-remove_above rs i d k ge (omega arith)) (old (k + 1) (omega arith)))
    (cases_lt k i)
  where
    both : {u w : ℕ} {x y : R} → u ≡ w → x ≡ y → P w y → P u x
    both {u} {w} {x} {y} a b p = subst (λ (n : ℕ). P n x) (sym a) (subst (P w) (sym b) p)
