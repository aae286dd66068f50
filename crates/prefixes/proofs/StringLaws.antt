-- Laws of the front, the order and the common part of two strings.
use Rattle.std.proofs.Common.{◌≡◌, ℕ, zero, suc, ◌+◌, ◌<◌, ◌≤◌, Bool, true, false, cond, eqb, ltb, ◌⊎◌, List, [], ◌∷◌, length, get_or, sym, refl, ap, ◌∙◌, inl, inr, ⊎_elim, arith}
use Rattle.std.proofs.lemmas.Bool.{eqb-true, eqb-false, eq-eqb, ne_eqb, ltb-true, lt-ltb, cases_eq, both_ways, cond-true, cond-false, cond_both, cases_Bool, ltb-false}
use Rattle.fields.specs.Strings.{begins}
use Rattle.prefixes.specs.Strings.{ordered, common}

-- a test with a false else: true only where both are
pub both_parts : (b c : Bool) → cond b c false ≡ true → (b ≡ true) × (c ≡ true)
both_parts true c e = (refl, e)
both_parts false c e = absurd (both_ways false refl e)

-- a test with another else
pub either_part : (b c d : Bool) → cond b c d ≡ true → ((b ≡ true) × (c ≡ true)) ⊎ ((b ≡ false) × (d ≡ true))
either_part true c d e = inl (refl, e)
either_part false c d e = inr (refl, e)

pub begins_refl : (s : List ℕ) → begins s s ≡ true
begins_refl [] = refl
begins_refl (x ∷ s) = cond-true (eqb x x) (begins s s) false (eq-eqb x x refl) ∙ begins_refl s

pub begins_trans : (p q s : List ℕ) → begins p q ≡ true → begins q s ≡ true → begins p s ≡ true
begins_trans [] q s h k = refl
begins_trans (x ∷ p) [] s h k = absurd (both_ways false refl h)
begins_trans (x ∷ p) (y ∷ q) [] h k = absurd (both_ways false refl k)
begins_trans (x ∷ p) (y ∷ q) (z ∷ s) h k =
    let a = both_parts (eqb x y) (begins p q) h in
    let b = both_parts (eqb y z) (begins q s) k in
    cond-true (eqb x z) (begins p s) false (eq-eqb x z (eqb-true x y a.0 ∙ eqb-true y z b.0))
    ∙ begins_trans p q s a.1 b.1

pub begins_ordered : (p s : List ℕ) → begins p s ≡ true → ordered p s ≡ true
begins_ordered [] s h = refl
begins_ordered (x ∷ p) [] h = absurd (both_ways false refl h)
begins_ordered (x ∷ p) (y ∷ s) h =
    let a = both_parts (eqb x y) (begins p s) h in
    cond-true (eqb x y) (ordered p s) (ltb x y) a.0 ∙ begins_ordered p s a.1

pub ordered_trans : (p q s : List ℕ) → ordered p q ≡ true → ordered q s ≡ true → ordered p s ≡ true
ordered_trans [] q s h k = refl
ordered_trans (x ∷ p) [] s h k = absurd (both_ways false refl h)
ordered_trans (x ∷ p) (y ∷ q) [] h k = absurd (both_ways false refl k)
ordered_trans (x ∷ p) (y ∷ q) (z ∷ s) h k =
    ⊎_elim
    (λ a. ⊎_elim
    (λ b. cond-true (eqb x z) (ordered p s) (ltb x z) (eq-eqb x z (eqb-true x y a.0 ∙ eqb-true y z b.0)) ∙ ordered_trans p q s a.1 b.1)
    (λ b. less (eqb-true x y a.0) (ltb-true y z b.1))
    (either_part (eqb y z) (ordered q s) (ltb y z) k))
    (λ a. ⊎_elim
    (λ b. more (ltb-true x y a.1) (eqb-true y z b.0))
    (λ b. both (ltb-true x y a.1) (ltb-true y z b.1))
    (either_part (eqb y z) (ordered q s) (ltb y z) k))
    (either_part (eqb x y) (ordered p q) (ltb x y) h)
  where
    smaller : x < z → ordered (x ∷ p) (z ∷ s) ≡ true
    smaller l = cond-false (eqb x z) (ordered p s) (ltb x z) (ne_eqb x z (λ e. omega arith)) ∙ lt-ltb x z l

    less : x ≡ y → y < z → ordered (x ∷ p) (z ∷ s) ≡ true
    less e l = smaller (omega arith)

    more : x < y → y ≡ z → ordered (x ∷ p) (z ∷ s) ≡ true
    more l e = smaller (omega arith)

    both : x < y → y < z → ordered (x ∷ p) (z ∷ s) ≡ true
    both l m = smaller (omega arith)

-- what lies between a string and one that it begins, it begins too
pub between : (p q s : List ℕ) → begins p s ≡ true → ordered p q ≡ true → ordered q s ≡ true → begins p q ≡ true
between [] q s h a b = refl
between (x ∷ p) [] s h a b = absurd (both_ways false refl a)
between (x ∷ p) (y ∷ q) [] h a b = absurd (both_ways false refl h)
between (x ∷ p) (y ∷ q) (z ∷ s) h a b =
    let f = both_parts (eqb x z) (begins p s) h in
    ⊎_elim
    (λ u. ⊎_elim
    (λ v. cond-true (eqb x y) (begins p q) false u.0 ∙ between p q s f.1 u.1 v.1)
    (λ v. let e = eqb-true x z f.0 in let g = eqb-true x y u.0 in let l = ltb-true y z v.1 in absurd (omega arith))
    (either_part (eqb y z) (ordered q s) (ltb y z) b))
    (λ u. ⊎_elim
    (λ v. let e = eqb-true x z f.0 in let g = ltb-true x y u.1 in let l = eqb-true y z v.0 in absurd (omega arith))
    (λ v. let e = eqb-true x z f.0 in let g = ltb-true x y u.1 in let l = ltb-true y z v.1 in absurd (omega arith))
    (either_part (eqb y z) (ordered q s) (ltb y z) b))
    (either_part (eqb x y) (ordered p q) (ltb x y) a)

pub common_left : (p s : List ℕ) → common p s ≤ length p
common_left [] s = omega arith
common_left (x ∷ p) [] = omega arith
common_left (x ∷ p) (y ∷ s) = cond_both (eqb x y) (suc (common p s)) 0 (λ n. n ≤ suc (length p)) (λ e. omega (arith, common_left p s)) (λ e. omega arith)

pub common_right : (p s : List ℕ) → common p s ≤ length s
common_right [] s = omega arith
common_right (x ∷ p) [] = omega arith
common_right (x ∷ p) (y ∷ s) = cond_both (eqb x y) (suc (common p s)) 0 (λ n. n ≤ suc (length s)) (λ e. omega (arith, common_right p s)) (λ e. omega arith)

-- a shared symbol more means that the first ones agree
common_cons : (x y : ℕ) (p s : List ℕ) (m : ℕ) → suc m ≤ common (x ∷ p) (y ∷ s) → (eqb x y ≡ true) × (m ≤ common p s)
common_cons x y p s m h =
    ⊎_elim
    (λ e. let h' : suc m ≤ suc (common p s) = rw e at h in (e, omega arith))
    (λ e. let h' : suc m ≤ 0 = rw e at h in absurd (omega arith))
    (cases_Bool (eqb x y))

-- a string begins another where they share all of it
pub begins_common : (p s : List ℕ) → eqb (common p s) (length p) ≡ begins p s
begins_common [] s = refl
begins_common (x ∷ p) [] = ne_eqb 0 (suc (length p)) (λ e. omega arith)
begins_common (x ∷ p) (y ∷ s) =
    ⊎_elim
    (λ e. rw e (same_suc (common p s) (length p) ∙ begins_common p s))
    (λ e. rw e (ne_eqb 0 (suc (length p)) (λ z. omega arith)))
    (cases_Bool (eqb x y))
  where
    same_suc : (m n : ℕ) → eqb (suc m) (suc n) ≡ eqb m n
    same_suc m n = ⊎_elim (λ e. eq-eqb (suc m) (suc n) (ap suc e) ∙ sym (eq-eqb m n e)) (λ ne. ne_eqb (suc m) (suc n) (λ e. ne (omega arith)) ∙ sym (ne_eqb m n ne)) (cases_eq m n)

-- the order is decided at the first symbol that differs
pub ordered_all : (p s : List ℕ) → length p ≤ common p s → ordered p s ≡ true
ordered_all p s h = begins_ordered p s (sym (begins_common p s) ∙ eq-eqb (common p s) (length p) (omega (arith, common_left p s)))

pub ordered_short : (p s : List ℕ) → common p s < length p → length s ≤ common p s → ordered p s ≡ false
ordered_short [] s h k = absurd (omega arith)
ordered_short (x ∷ p) [] h k = refl
ordered_short (x ∷ p) (y ∷ s) h k =
    ⊎_elim
    (λ e. let h' : suc (common p s) < suc (length p) = rw e at h in let k' : suc (length s) ≤ suc (common p s) = rw e at k in rw e (ordered_short p s (omega arith) (omega arith)))
    (λ e. let k' : suc (length s) ≤ 0 = rw e at k in absurd (omega arith))
    (cases_Bool (eqb x y))

pub ordered_at : (p s : List ℕ) → common p s < length p → common p s < length s → ltb (get_or p (common p s) 0) (get_or s (common p s) 0) ≡ ordered p s
ordered_at [] s h k = absurd (omega arith)
ordered_at (x ∷ p) [] h k = absurd (omega arith)
ordered_at (x ∷ p) (y ∷ s) h k =
    ⊎_elim
    (λ e. let h' : suc (common p s) < suc (length p) = rw e at h in let k' : suc (common p s) < suc (length s) = rw e at k in rw e (ordered_at p s (omega arith) (omega arith)))
    (λ e. rw e refl)
    (cases_Bool (eqb x y))

pub ordered_total : (p s : List ℕ) → ordered s p ≡ false → ordered p s ≡ true
ordered_total [] s h = refl
ordered_total (x ∷ p) [] h = absurd (both_ways true (h) refl)
ordered_total (x ∷ p) (y ∷ s) h =
    ⊎_elim
    (λ e. let f : eqb y x ≡ true = eq-eqb y x (sym (eqb-true x y e)) in let h' : ordered s p ≡ false = rw f at h in rw e (ordered_total p s h'))
    (λ e. let ne = eqb-false x y e in let f : eqb y x ≡ false = ne_eqb y x (λ q. ne (sym q)) in let h' : ltb y x ≡ false = rw f at h in rw e (lt-ltb x y (omega (arith, ltb-false y x h'))))
    (cases_Bool (eqb x y))

-- the shared symbols agree
pub common_reads : (p s : List ℕ) (i : ℕ) → i < common p s → get_or p i 0 ≡ get_or s i 0
common_reads [] s i h = absurd (omega arith)
common_reads (x ∷ p) [] i h = absurd (omega arith)
common_reads (x ∷ p) (y ∷ s) zero h = eqb-true x y (common_cons x y p s 0 h).0
common_reads (x ∷ p) (y ∷ s) (suc i) h = common_reads p s i (common_cons x y p s (suc i) h).1

-- one symbol more that agrees
pub common_grows : (p s : List ℕ) (i : ℕ) → i ≤ common p s → i < length p → i < length s → get_or p i 0 ≡ get_or s i 0 → i + 1 ≤ common p s
common_grows [] s i h a b e = absurd (omega arith)
common_grows (x ∷ p) [] i h a b e = absurd (omega arith)
common_grows (x ∷ p) (y ∷ s) zero h a b e = rw (eq-eqb x y e) (omega arith)
common_grows (x ∷ p) (y ∷ s) (suc i) h a b e =
    let k = common_cons x y p s i h in
    let r = common_grows p s i k.1 (omega arith) (omega arith) e in
    rw k.0 (omega arith)

-- what lies between two strings that share a front with a third shares it too
pub common_between : (p q r s : List ℕ) (m : ℕ) → ordered p q ≡ true → ordered q r ≡ true → m ≤ common p s → m ≤ common r s → m ≤ common q s
common_between p q r s zero a b h k = omega arith
common_between [] q r s (suc m) a b h k = absurd (omega arith)
common_between (x ∷ p) q r [] (suc m) a b h k = absurd (omega arith)
common_between (x ∷ p) q [] (y ∷ s) (suc m) a b h k = absurd (omega arith)
common_between (x ∷ p) [] (z ∷ r) (y ∷ s) (suc m) a b h k = absurd (both_ways false refl a)
common_between (x ∷ p) (w ∷ q) (z ∷ r) (y ∷ s) (suc m) a b h k =
    let f = common_cons x y p s m h in
    let g = common_cons z y r s m k in
    let e = eqb-true x y f.0 in
    let d = eqb-true z y g.0 in
    ⊎_elim
    (λ u. ⊎_elim
    (λ v. let i = common_between p q r s m u.1 v.1 f.1 g.1 in let l = eqb-true x w u.0 in rw (eq-eqb w y (sym l ∙ e)) (omega arith))
    (λ v. let l = eqb-true x w u.0 in let n = ltb-true w z v.1 in absurd (omega arith))
    (either_part (eqb w z) (ordered q r) (ltb w z) b))
    (λ u. ⊎_elim
    (λ v. let l = ltb-true x w u.1 in let n = eqb-true w z v.0 in absurd (omega arith))
    (λ v. let l = ltb-true x w u.1 in let n = ltb-true w z v.1 in absurd (omega arith))
    (either_part (eqb w z) (ordered q r) (ltb w z) b))
    (either_part (eqb x w) (ordered p q) (ltb x w) a)

pub ordered_antisym : (p q : List ℕ) → ordered p q ≡ true → ordered q p ≡ true → p ≡ q
ordered_antisym [] [] h k = refl
ordered_antisym [] (y ∷ q) h k = absurd (both_ways false refl k)
ordered_antisym (x ∷ p) [] h k = absurd (both_ways false refl h)
ordered_antisym (x ∷ p) (y ∷ q) h k =
    ⊎_elim
    (λ a. ⊎_elim
    (λ b. let e = eqb-true x y a.0 in let t = ordered_antisym p q a.1 b.1 in cc)
    (λ b. let e = eqb-true x y a.0 in let l = ltb-true y x b.1 in absurd (omega arith))
    (either_part (eqb y x) (ordered q p) (ltb y x) k))
    (λ a. ⊎_elim
    (λ b. let l = ltb-true x y a.1 in let e = eqb-true y x b.0 in absurd (omega arith))
    (λ b. let l = ltb-true x y a.1 in let m = ltb-true y x b.1 in absurd (omega arith))
    (either_part (eqb y x) (ordered q p) (ltb y x) k))
    (either_part (eqb x y) (ordered p q) (ltb x y) h)

pub begins_same : (p s : List ℕ) → begins p s ≡ true → length p ≡ length s → p ≡ s
begins_same [] [] h e = refl
begins_same [] (y ∷ s) h e = absurd (omega arith)
begins_same (x ∷ p) [] h e = absurd (both_ways false refl h)
begins_same (x ∷ p) (y ∷ s) h e =
    let a = both_parts (eqb x y) (begins p s) h in
    let q = eqb-true x y a.0 in
    let t = begins_same p s a.1 (omega arith) in
    cc
