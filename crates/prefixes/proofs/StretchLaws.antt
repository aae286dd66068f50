-- Laws of stretches of numbers with one answer.
use Rattle.std.proofs.Common.{◌≡◌, ℕ, ◌+◌, ◌%◌, ◌^◌, ◌<◌, ◌≤◌, true, ◌&&◌, leb, ltb, List, length, get_or, set, sym, ap, ◌∙◌, subst, ⊎_elim, arith}
use Rattle.std.proofs.lemmas.Bool.{both_ways, cases_eq, cases_lt, cases_Bool, and_from, and_parts, le-leb, lt-ltb, leb-true, ltb-true}
use Rattle.std.proofs.lemmas.List.{get_or-set_same, get_or-set_other}
use Rattle.fields.specs.Strings.{begins}
use Rattle.prefixes.specs.Stored.{at, Ascending, Covers}
use Rattle.prefixes.specs.Bits.{bits_of}
use Rattle.prefixes.specs.Ranges.{low, past, Best, Stretched}
use Rattle.prefixes.proofs.StringLaws.{ordered_total}
use Rattle.prefixes.proofs.StoredLaws.{covers_last}
use Rattle.prefixes.proofs.RangeLaws.{begins_within, within_begins, low_ordered, low_mono, low_bound}

begun : (p : List ℕ) (k : ℕ) → k < 2 ^ 32 → low 32 p ≤ k → k < past 32 p → begins p (bits_of 32 k) ≡ true
begun p k h l m = let e : k % 2 ^ 32 ≡ k = omega arith in within_begins 32 p k (omega arith) (omega arith)

-- a string begins the bits of the numbers in its range
pub begins_range : (p : List ℕ) (k : ℕ) → k < 2 ^ 32 → (leb (low 32 p) k && ltb k (past 32 p)) ≡ begins p (bits_of 32 k)
begins_range p k h =
    ⊎_elim
    (λ t. let w = begins_within 32 p k t in
    let m : k % 2 ^ 32 ≡ k = omega arith in
    and_from (leb (low 32 p) k) (ltb k (past 32 p)) (le-leb (low 32 p) k (omega arith)) (lt-ltb k (past 32 p) (omega arith)) ∙ sym t)
    (λ f. ⊎_elim
    (λ t. let w = and_parts (leb (low 32 p) k) (ltb k (past 32 p)) t in
    absurd (both_ways (begins p (bits_of 32 k)) f (begun p k h (leb-true (low 32 p) k w.0) (ltb-true k (past 32 p) w.1))))
    (λ g. g ∙ sym f)
    (cases_Bool (leb (low 32 p) k && ltb k (past 32 p))))
    (cases_Bool (begins p (bits_of 32 k)))

-- the lows of the strings before one are not above its own
pub low_before : (ss : List (List ℕ)) (i j : ℕ) → Ascending ss → i ≤ j → j < length ss → low 32 (at ss i) ≤ low 32 (at ss j)
low_before ss i j a l h =
    ⊎_elim
    (λ e. subst (λ (n : ℕ). low 32 (at ss i) ≤ low 32 (at ss n)) e (omega arith))
    (λ ne. low_mono 32 (at ss i) (at ss j) (ordered_total (at ss i) (at ss j) (a.2 i j (omega arith) h)))
    (cases_eq i j)

-- the last string whose low is not above a number covers those up to it
pub covers_low : (ss : List (List ℕ)) (m k : ℕ) → Ascending ss → m < length ss → k < 2 ^ 32 → low 32 (at ss m) ≤ k → Covers ss (bits_of 32 k) (m + 1) m
covers_low ss m k a h small l =
    let e : k % 2 ^ 32 ≡ k = omega arith in
    covers_last ss (bits_of 32 k) m a h (low_ordered 32 (at ss m) k (omega arith))

-- the answer at the start of a stretch is right up to its end
pub stretch : (ss : List (List ℕ)) (s next last a : ℕ) → Ascending ss → last < length ss → a ≤ last → s < 2 ^ 32 → low 32 (at ss last) ≤ s → (last + 1 < length ss → next ≤ low 32 (at ss (last + 1))) → next ≤ past 32 (at ss a) → Covers ss (bits_of 32 s) (last + 1) a → (k : ℕ) → s ≤ k → k < next → Best ss (bits_of 32 k) a
stretch ss s next last a asc h al small ls high np cov k sk kn =
    let top = low_bound 32 (at ss a) in
    let la = low_before ss a last asc al h in
    let k32 : k < 2 ^ 32 = omega arith in (
      omega arith,
      begun (at ss a) k k32 (omega arith) (omega arith),
      λ j l b. covered k32 j l b (begins_within 32 (at ss j) k b),
    )
  where
    covered : k < 2 ^ 32 → (j : ℕ) → j < length ss → begins (at ss j) (bits_of 32 k) ≡ true → (low 32 (at ss j) ≤ k % 2 ^ 32) × (k % 2 ^ 32 < past 32 (at ss j)) → (j ≤ a) × (begins (at ss j) (at ss a) ≡ true)
    covered k32 j l b w =
        let e : k % 2 ^ 32 ≡ k = omega arith in
        ⊎_elim
        (λ lt. let lj = low_before ss j last asc (omega arith) h in cov j lt (begun (at ss j) s small (omega arith) (omega arith)))
        (λ ge. let lj = low_before ss (last + 1) j asc ge l in let hi = high (omega arith) in absurd (omega arith))
        (cases_lt j (last + 1))

-- one stretch more
pub stretched_more : (ss : List (List ℕ)) (starts answers : List ℕ) (n next a : ℕ) → n + 1 < length starts → n < length answers → Stretched 32 ss starts answers n → ((k : ℕ) → get_or starts n 0 ≤ k → k < next → Best ss (bits_of 32 k) a) → Stretched 32 ss (set starts (n + 1) next) (set answers n a) (n + 1)
stretched_more ss starts answers n next a h m old new t l k sk kn =
    ⊎_elim
    (λ e. here e)
    (λ ne. there ne)
    (cases_eq t n)
  where
    here : t ≡ n → Best ss (bits_of 32 k) (get_or (set answers n a) t 0)
    here e =
        let x : get_or (set answers n a) t 0 ≡ a = ap (λ (i : ℕ). get_or (set answers n a) i 0) e ∙ get_or-set_same answers n a 0 m in
        let y : get_or (set starts (n + 1) next) t 0 ≡ get_or starts n 0 = get_or-set_other starts (n + 1) t next 0 (λ q. omega arith) ∙ ap (λ (i : ℕ). get_or starts i 0) e in
        let z : get_or (set starts (n + 1) next) (t + 1) 0 ≡ next = ap (λ (i : ℕ). get_or (set starts (n + 1) next) (i + 1) 0) e ∙ get_or-set_same starts (n + 1) next 0 h in
        subst (λ (r : ℕ). Best ss (bits_of 32 k) r) (sym x) (new k (omega arith) (omega arith))

    there : (t ≡ n → ⊥) → Best ss (bits_of 32 k) (get_or (set answers n a) t 0)
    there ne =
        let x : get_or (set answers n a) t 0 ≡ get_or answers t 0 = get_or-set_other answers n t a 0 ne in
        let y : get_or (set starts (n + 1) next) t 0 ≡ get_or starts t 0 = get_or-set_other starts (n + 1) t next 0 (λ q. omega arith) in
        let z : get_or (set starts (n + 1) next) (t + 1) 0 ≡ get_or starts (t + 1) 0 = get_or-set_other starts (n + 1) (t + 1) next 0 (λ q. ne (omega arith)) in
        subst (λ (r : ℕ). Best ss (bits_of 32 k) r) (sym x) (old t (omega arith) k (omega arith) (omega arith))
