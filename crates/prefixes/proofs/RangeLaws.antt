-- Laws of the numbers whose bits a string begins.
use Rattle.std.proofs.Common.{◌≡◌, ℕ, zero, suc, ◌+◌, ◌-◌, ◌*◌, ◌/◌, ◌%◌, ◌^◌, ◌<◌, ◌≤◌, true, false, eqb, ltb, ◌⊎◌, List, [], ◌∷◌, length, get_or, drop, sym, refl, ap, ◌∙◌, inl, inr, ⊎_elim, mod-lt, arith, drop-cons}
use Rattle.std.proofs.lemmas.Bool.{eqb-true, eq-eqb, ltb-true, both_ways, cases_eq}
use Rattle.std.proofs.lemmas.Nat.{pow_pos, mod-pow-add}
use Rattle.fields.specs.Strings.{begins}
use Rattle.prefixes.specs.Strings.{ordered}
use Rattle.prefixes.specs.Bits.{bits_of}
use Rattle.prefixes.specs.Ranges.{low, size, past}
use Rattle.prefixes.proofs.StringLaws.{both_parts, either_part}

-- the last w bits and the one before them
top : (w k : ℕ) → k % 2 ^ suc w ≡ (k / 2 ^ w) % 2 * 2 ^ w + k % 2 ^ w
top w k = ap (λ (n : ℕ). k % 2 ^ n) (let e : suc w ≡ 1 + w = omega arith in e) ∙ mod-pow-add k 1 w

top_0 : (w k : ℕ) → (k / 2 ^ w) % 2 ≡ 0 → k % 2 ^ suc w ≡ k % 2 ^ w
top_0 w k e = top w k ∙ (ap (λ (b : ℕ). b * 2 ^ w + k % 2 ^ w) e ∙ (omega arith))

top_1 : (w k : ℕ) → (k / 2 ^ w) % 2 ≡ 1 → k % 2 ^ suc w ≡ 2 ^ w + k % 2 ^ w
top_1 w k e = top w k ∙ (ap (λ (b : ℕ). b * 2 ^ w + k % 2 ^ w) e ∙ (omega arith))

-- a bit is 0 or 1
bit : (w k : ℕ) → ((k / 2 ^ w) % 2 ≡ 0) ⊎ ((k / 2 ^ w) % 2 ≡ 1)
bit w k = ⊎_elim (λ e. inl e) (λ ne. inr (omega arith)) (cases_eq ((k / 2 ^ w) % 2) 0)

pub low_bound : (w : ℕ) (p : List ℕ) → low w p + size w p ≤ 2 ^ w
low_bound w [] = omega arith
low_bound zero (x ∷ p) = omega arith
low_bound (suc w) (zero ∷ p) = omega (arith, low_bound w p)
low_bound (suc w) (suc zero ∷ p) = omega (arith, low_bound w p)
low_bound (suc w) (suc (suc x) ∷ p) = omega arith

double : (w : ℕ) → 2 ^ suc w ≡ 2 ^ w + 2 ^ w
double w = omega arith

-- a string that begins the bits of a number has it in its range
pub begins_within : (w : ℕ) (p : List ℕ) (k : ℕ) → begins p (bits_of w k) ≡ true → (low w p ≤ k % 2 ^ w) × (k % 2 ^ w < past w p)
begins_within w [] k h = let m = mod-lt k (pow_pos w) in (omega arith, omega arith)
begins_within zero (x ∷ p) k h = absurd (both_ways false refl h)
begins_within (suc w) (zero ∷ p) k h =
    let a = both_parts (eqb 0 ((k / 2 ^ w) % 2)) (begins p (bits_of w k)) h in
    let e = top_0 w k (sym (eqb-true 0 ((k / 2 ^ w) % 2) a.0)) in
    let i = begins_within w p k a.1 in
    (omega arith, omega arith)
begins_within (suc w) (suc zero ∷ p) k h =
    let a = both_parts (eqb 1 ((k / 2 ^ w) % 2)) (begins p (bits_of w k)) h in
    let e = top_1 w k (sym (eqb-true 1 ((k / 2 ^ w) % 2) a.0)) in
    let i = begins_within w p k a.1 in
    (omega arith, omega arith)
begins_within (suc w) (suc (suc x) ∷ p) k h =
    let a = both_parts (eqb (suc (suc x)) ((k / 2 ^ w) % 2)) (begins p (bits_of w k)) h in
    let e = eqb-true (suc (suc x)) ((k / 2 ^ w) % 2) a.0 in
    absurd (omega arith)

-- a string that has a number in its range begins its bits
pub within_begins : (w : ℕ) (p : List ℕ) (k : ℕ) → low w p ≤ k % 2 ^ w → k % 2 ^ w < past w p → begins p (bits_of w k) ≡ true
within_begins w [] k l h = refl
within_begins zero (x ∷ p) k l h = absurd (omega arith)
within_begins (suc w) (zero ∷ p) k l h =
    ⊎_elim
    (λ z. let e = top_0 w k z in rw (eq-eqb 0 ((k / 2 ^ w) % 2) (sym z)) (within_begins w p k (omega arith) (omega arith)))
    (λ o. let e = top_1 w k o in let b = low_bound w p in absurd (omega arith))
    (bit w k)
within_begins (suc w) (suc zero ∷ p) k l h =
    ⊎_elim
    (λ z. let e = top_0 w k z in let m = mod-lt k (pow_pos w) in absurd (omega arith))
    (λ o. let e = top_1 w k o in rw (eq-eqb 1 ((k / 2 ^ w) % 2) (sym o)) (within_begins w p k (omega arith) (omega arith)))
    (bit w k)
within_begins (suc w) (suc (suc x) ∷ p) k l h = absurd (omega arith)

-- a string whose low is not above a number is not behind its bits
pub low_ordered : (w : ℕ) (p : List ℕ) (k : ℕ) → low w p ≤ k % 2 ^ w → ordered p (bits_of w k) ≡ true
low_ordered w [] k l = refl
low_ordered zero (x ∷ p) k l = absurd (omega (arith, mod-lt k (pow_pos 0)))
low_ordered (suc w) (zero ∷ p) k l =
    ⊎_elim
    (λ z. let e = top_0 w k z in rw (eq-eqb 0 ((k / 2 ^ w) % 2) (sym z)) (low_ordered w p k (omega arith)))
    (λ o. rw o refl)
    (bit w k)
low_ordered (suc w) (suc zero ∷ p) k l =
    ⊎_elim
    (λ z. let e = top_0 w k z in let m = mod-lt k (pow_pos w) in absurd (omega arith))
    (λ o. let e = top_1 w k o in rw (eq-eqb 1 ((k / 2 ^ w) % 2) (sym o)) (low_ordered w p k (omega arith)))
    (bit w k)
low_ordered (suc w) (suc (suc x) ∷ p) k l = absurd (omega (arith, mod-lt k (pow_pos (suc w))))

-- lows stand in the order of their strings
pub low_mono : (w : ℕ) (p q : List ℕ) → ordered p q ≡ true → low w p ≤ low w q
low_mono w [] q h = omega arith
low_mono w (x ∷ p) [] h = absurd (both_ways false refl h)
low_mono zero (x ∷ p) (y ∷ q) h = omega arith
low_mono (suc w) (x ∷ p) (y ∷ q) h =
    ⊎_elim
    (λ a. same x y (eqb-true x y a.0) (low_mono w p q a.1))
    (λ a. less x y (ltb-true x y a.1))
    (either_part (eqb x y) (ordered p q) (ltb x y) h)
  where
    same : (x y : ℕ) → x ≡ y → low w p ≤ low w q → low (suc w) (x ∷ p) ≤ low (suc w) (y ∷ q)
    same zero zero e i = i
    same zero (suc y) e i = absurd (omega arith)
    same (suc x) zero e i = absurd (omega arith)
    same (suc zero) (suc zero) e i = omega arith
    same (suc zero) (suc (suc y)) e i = absurd (omega arith)
    same (suc (suc x)) (suc zero) e i = absurd (omega arith)
    same (suc (suc x)) (suc (suc y)) e i = omega arith

    less : (x y : ℕ) → x < y → low (suc w) (x ∷ p) ≤ low (suc w) (y ∷ q)
    less zero zero l = absurd (omega arith)
    less zero (suc zero) l = omega (arith, low_bound w p)
    less zero (suc (suc y)) l = let g : low w p ≤ 2 ^ suc w = omega (arith, low_bound w p, double w) in g
    less (suc x) zero l = absurd (omega arith)
    less (suc zero) (suc zero) l = absurd (omega arith)
    less (suc zero) (suc (suc y)) l = let g : 2 ^ w + low w p ≤ 2 ^ suc w = omega (arith, low_bound w p, double w) in g
    less (suc (suc x)) (suc zero) l = absurd (omega arith)
    less (suc (suc x)) (suc (suc y)) l = omega arith

-- one symbol of a string read, and what is left of it
next : (s : List ℕ) (i : ℕ) → i < length s → drop i s ≡ get_or s i 0 ∷ drop (i + 1) s
next s i h = drop-cons s i 0 h ∙ ap (λ (n : ℕ). get_or s i 0 ∷ drop n s) (let e : suc i ≡ i + 1 = omega arith in e)

pub read_0 : (s : List ℕ) (i w : ℕ) → i < length s → 0 < w → get_or s i 0 ≡ 0 → (low w (drop i s) ≡ low (w - 1) (drop (i + 1) s)) × (size w (drop i s) ≡ size (w - 1) (drop (i + 1) s))
read_0 s i w h p z = parts w p (next s i h ∙ ap (λ (x : ℕ). x ∷ drop (i + 1) s) z)
  where
    parts : (w : ℕ) → 0 < w → drop i s ≡ 0 ∷ drop (i + 1) s → (low w (drop i s) ≡ low (w - 1) (drop (i + 1) s)) × (size w (drop i s) ≡ size (w - 1) (drop (i + 1) s))
    parts zero p e = absurd (omega arith)
    parts (suc w) p e =
        let d : w ≡ suc w - 1 = omega arith in (
          ap (low (suc w)) e ∙ ap (λ (n : ℕ). low n (drop (i + 1) s)) d,
          ap (size (suc w)) e ∙ ap (λ (n : ℕ). size n (drop (i + 1) s)) d,
        )

pub read_1 : (s : List ℕ) (i w : ℕ) → i < length s → 0 < w → get_or s i 0 ≡ 1 → (low w (drop i s) ≡ 2 ^ (w - 1) + low (w - 1) (drop (i + 1) s)) × (size w (drop i s) ≡ size (w - 1) (drop (i + 1) s))
read_1 s i w h p o = parts w p (next s i h ∙ ap (λ (x : ℕ). x ∷ drop (i + 1) s) o)
  where
    parts : (w : ℕ) → 0 < w → drop i s ≡ 1 ∷ drop (i + 1) s → (low w (drop i s) ≡ 2 ^ (w - 1) + low (w - 1) (drop (i + 1) s)) × (size w (drop i s) ≡ size (w - 1) (drop (i + 1) s))
    parts zero p e = absurd (omega arith)
    parts (suc w) p e =
        let d : w ≡ suc w - 1 = omega arith in (
          ap (low (suc w)) e ∙ ap (λ (n : ℕ). 2 ^ n + low n (drop (i + 1) s)) d,
          ap (size (suc w)) e ∙ ap (λ (n : ℕ). size n (drop (i + 1) s)) d,
        )

pub half : (w : ℕ) → 0 < w → 2 ^ w / 2 ≡ 2 ^ (w - 1)
half zero p = absurd (omega arith)
half (suc w) p = let d = double w in let e : suc w - 1 ≡ w = omega arith in (let q : 2 ^ suc w / 2 ≡ 2 ^ w = omega arith in q) ∙ ap (λ (n : ℕ). 2 ^ n) (sym e)
