-- Laws of a stored set of strings.
use Rattle.std.proofs.Common.{◌≡◌, ℕ, ◌+◌, ◌-◌, ◌<◌, ◌≤◌, Bool, true, false, ◌⊎◌, List, [], length, get_or, set, sym, ap, ◌∙◌, subst, inl, inr, ⊎_elim, arith}
use Rattle.std.proofs.lemmas.Bool.{both_ways, cases_eq, cases_lt, cases_Bool}
use Rattle.std.proofs.lemmas.List.{get_or-map, length-map, nil_from_length, get_or-set_same, get_or-set_other}
use Rattle.fields.specs.Strings.{begins}
use Rattle.prefixes.specs.Strings.{ordered, common}
use Rattle.prefixes.specs.Stored.{at, Ascending, Covers, Parent, LinkedTo, Fits}
use Rattle.prefixes.specs.StoredStrings.{string_of, strings}
use Rattle.prefixes.specs.declared.stored.Stored.{Stored}
use Rattle.prefixes.proofs.StringLaws.{begins_refl, begins_ordered, ordered_trans, ordered_total, between, common_between}

-- an element spells the string at its place
pub spelled_at : (xs : List Stored) (i : ℕ) (d : Stored) → i < length xs → string_of (get_or xs i d) ≡ at (strings xs) i
spelled_at xs i d h = sym (get_or-map string_of xs i d [] h)

-- an element that was read spells the string at its place
pub read_at : (xs : List Stored) (i : ℕ) (x : Stored) → i < length xs → x ≡ get_or xs i x → string_of x ≡ at (strings xs) i
read_at xs i x h e = ap string_of e ∙ spelled_at xs i x h

-- one string not behind the key: all before it are not either
pub low_more : (ss : List (List ℕ)) (key : List ℕ) (m : ℕ) → Ascending ss → m < length ss → ordered (at ss m) key ≡ true → (i : ℕ) → i < m + 1 → ordered (at ss i) key ≡ true
low_more ss key m a h t i l =
    ⊎_elim
    (λ e. subst (λ (n : ℕ). ordered (at ss n) key ≡ true) (sym e) t)
    (λ ne. ordered_trans (at ss i) (at ss m) key (ordered_total (at ss i) (at ss m) (a.2 i m (omega arith) h)) t)
    (cases_eq i m)

-- one string behind the key: all after it are too
pub high_more : (ss : List (List ℕ)) (key : List ℕ) (m : ℕ) → Ascending ss → ordered (at ss m) key ≡ false → (i : ℕ) → m ≤ i → i < length ss → ordered (at ss i) key ≡ false
high_more ss key m a f i l h =
    ⊎_elim
    (λ e. subst (λ (n : ℕ). ordered (at ss n) key ≡ false) (sym e) f)
    (λ ne. ⊎_elim
    (λ t. absurd (both_ways (ordered (at ss m) key) f (ordered_trans (at ss m) (at ss i) key (ordered_total (at ss m) (at ss i) (a.2 m i (omega arith) h)) t)))
    (λ g. g)
    (cases_Bool (ordered (at ss i) key)))
    (cases_eq i m)

-- the last string that is not behind the key covers those up to it
pub covers_last : (ss : List (List ℕ)) (key : List ℕ) (m : ℕ) → Ascending ss → m < length ss → ordered (at ss m) key ≡ true → Covers ss key (m + 1) m
covers_last ss key m a h t j l b =
    ⊎_elim
    (λ e. (omega arith, subst (λ (n : ℕ). begins (at ss j) (at ss n) ≡ true) e (begins_refl (at ss j))))
    (λ ne. (omega arith, between (at ss j) (at ss m) key b (ordered_total (at ss j) (at ss m) (a.2 j m (omega arith) h)) t))
    (cases_eq j m)

-- what covers up to the last that is not behind the key covers all
pub covers_all : (ss : List (List ℕ)) (key : List ℕ) (n r : ℕ) → ((i : ℕ) → n ≤ i → i < length ss → ordered (at ss i) key ≡ false) → Covers ss key n r → Covers ss key (length ss) r
covers_all ss key n r high c j l b =
    ⊎_elim
    (λ lt. c j lt b)
    (λ ge. absurd (both_ways (ordered (at ss j) key) (high j ge l) (begins_ordered (at ss j) key b)))
    (cases_lt j n)

-- one link on, in a set in order that is linked as far as the place
pub climbs : (ss : List (List ℕ)) (key links : List ℕ) (n i : ℕ) → Ascending ss → LinkedTo ss links n → i < n → begins (at ss i) key ≡ false → Covers ss key n i
    → (get_or links i 0 < i) × Covers ss key n (get_or links i 0)
climbs ss key links n i a linked h f c =
    let link = linked i pos h in
    (link.0, λ j l b. let k = c j l b in link.1 j (below j k.0 b) k.1)
  where
    -- the empty string begins all, so a string that does not begin the key has a place above 0
    pos : 0 < i
    pos = ⊎_elim
        (λ lt. lt)
        (λ ge. absurd (both_ways (begins (at ss i) key) f (ap (λ (s : List ℕ). begins s key) (ap (at ss) (let e : i ≡ 0 = omega arith in e) ∙ nil_from_length (at ss 0) a.1))))
        (cases_lt 0 i)

    below : (j : ℕ) → j ≤ i → begins (at ss j) key ≡ true → j < i
    below j le b = ⊎_elim (λ lt. lt) (λ ge. absurd (both_ways (begins (at ss i) key) f (subst (λ (n : ℕ). begins (at ss n) key ≡ true) (let e : j ≡ i = omega arith in e) b))) (cases_lt j i)

pub length_strings : (xs : List Stored) → length (strings xs) ≡ length xs
length_strings xs = length-map xs string_of

-- what a test of an element says of the string at its place
pub tested_at : (f : List ℕ → Bool) (xs : List Stored) (i : ℕ) (x : Stored) (s : List ℕ) (b : Bool) → i < length xs → x ≡ get_or xs i x → s ≡ string_of x → b ≡ f s → f (at (strings xs) i) ≡ b
tested_at f xs i x s b h e es eb = sym (eb ∙ ap f (es ∙ read_at xs i x h e))

-- one link more
pub linked_more : (ss : List (List ℕ)) (links : List ℕ) (i r : ℕ) → i < length links → LinkedTo ss links i → Parent ss i r → LinkedTo ss (set links i r) (i + 1)
linked_more ss links i r h linked new k pos l =
    ⊎_elim
    (λ e. let s : get_or (set links i r) k 0 ≡ r = ap (λ (n : ℕ). get_or (set links i r) n 0) e ∙ get_or-set_same links i r 0 h in
    subst (λ (n : ℕ). Parent ss k n) (sym s) (subst (λ (n : ℕ). Parent ss n r) (sym e) new))
    (λ ne. let s : get_or (set links i r) k 0 ≡ get_or links k 0 = get_or-set_other links i k r 0 ne in
    subst (λ (n : ℕ). Parent ss k n) (sym s) (linked k pos (omega arith)))
    (cases_eq k i)

-- a string that no stored one up to the last before it equals is behind them all
pub fits_vacant : (ss : List (List ℕ)) (p : List ℕ) (n : ℕ) → Ascending ss → 0 < n → n ≤ length ss → ordered p (at ss (n - 1)) ≡ false → ((i : ℕ) → n ≤ i → i < length ss → ordered (at ss i) p ≡ false) → Fits ss p n
fits_vacant ss p n a pos h f high = record { above = pos; before = before; behind = high }
  where
    before : (i : ℕ) → i < n → ordered p (at ss i) ≡ false
    before i l =
        ⊎_elim
        (λ t. absurd (both_ways (ordered p (at ss (n - 1))) f (last i l t (cases_eq i (n - 1)))))
        (λ g. g)
        (cases_Bool (ordered p (at ss i)))
      where
        last : (i : ℕ) → i < n → ordered p (at ss i) ≡ true → (i ≡ n - 1) ⊎ (i ≡ n - 1 → ⊥) → ordered p (at ss (n - 1)) ≡ true
        last i l t (inl e) = subst (λ (k : ℕ). ordered p (at ss k) ≡ true) e t
        last i l t (inr ne) = ordered_trans p (at ss i) (at ss (n - 1)) t (ordered_total (at ss i) (at ss (n - 1)) (a.2 i (n - 1) (omega arith) (omega arith)))

-- the strings from low up to high share with the key what the two around them share
pub window : (ss : List (List ℕ)) (key : List ℕ) (low high middle below above m : ℕ) → Ascending ss → 0 < low → low ≤ middle → middle < high → high ≤ length ss → below ≤ common (at ss (low - 1)) key → (high < length ss → above ≤ common (at ss high) key) → (length ss ≤ high → above ≡ 0) → m ≤ below → m ≤ above → m ≤ common (at ss middle) key
window ss key low high middle below above m a pos lm mh hn b t z mb ma =
    ⊎_elim
    (λ lt. let u = t lt in
    common_between (at ss (low - 1)) (at ss middle) (at ss high) key m
    (ordered_total (at ss (low - 1)) (at ss middle) (a.2 (low - 1) middle (omega arith) (omega arith)))
    (ordered_total (at ss middle) (at ss high) (a.2 middle high mh lt))
    (omega arith) (omega arith))
    (λ ge. let u = z ge in omega arith)
    (cases_lt high (length ss))
