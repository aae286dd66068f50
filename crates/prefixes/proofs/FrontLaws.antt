-- Which strings are stored for a list of fronts, and what their rows show.
use Rattle.std.proofs.Common.{◌≡◌, ℕ, suc, ◌+◌, ◌-◌, ◌<◌, ◌≤◌, Bool, true, false, not, ◌&&◌, ◌||◌, eqb, List, [], ◌∷◌, map, length, get_or, Some, None, MatchBool, Option, sym, refl, ap, ◌∙◌, subst, ⊎_elim, arith}
use Rattle.std.specs.List.{insert, remove}
use Rattle.std.proofs.lemmas.Bool.{both_ways, cases_Bool, cases_lt, cases_order, and_parts, and_from, eqb-true, eq-eqb, ne_eqb, or_right}
use Rattle.std.proofs.lemmas.List.{get_or-map, get_or_default, get_or_past, length-map, nil_from_length}
use Rattle.std.proofs.lemmas.List.Edits.{length-insert, get_or-insert_below, get_or-insert_at, get_or-insert_above, length-remove, get_or-remove_below, get_or-remove_above}
use Rattle.fields.specs.Strings.{begins, same}
use Rattle.rows.specs.declared.row.Row.{Row}
use Rattle.rows.specs.Shown.{shown}
use Rattle.rows.specs.Shows.{Shows}
use Rattle.prefixes.specs.Fronts.{Fronts, covers, names, named, has, Told, Stores, StoresWith}
use Rattle.prefixes.specs.Stored.{at, Ascending, Parent, Longest, Fits}
use Rattle.prefixes.specs.Strings.{ordered}
use Rattle.columns.proofs.Pigeons.{pigeons}
use Rattle.columns.proofs.Some.{some_inserted, some_removed, some_at, some_none, some_where}
use Rattle.prefixes.proofs.StringLaws.{begins_refl, begins_trans, begins_ordered, begins_same, ordered_antisym}

same_refl : (s : List ℕ) → same s s ≡ true
same_refl s = and_from (eqb (length s) (length s)) (begins s s) (eq-eqb (length s) (length s) refl) (begins_refl s)

same_path : (p s : List ℕ) → same p s ≡ true → p ≡ s
same_path p s e =
    let q = and_parts (eqb (length p) (length s)) (begins p s) e in
    begins_same p s q.1 (eqb-true (length p) (length s) q.0)

ordered_refl : (s : List ℕ) → ordered s s ≡ true
ordered_refl s = begins_ordered s s (begins_refl s)

-- no string is stored twice
apart : (ss : List (List ℕ)) → Ascending ss → (i j : ℕ) → i < j → j < length ss → at ss i ≡ at ss j → ⊥
apart ss a i j l h e =
    both_ways (ordered (at ss j) (at ss i)) (a.2 i j l h) (subst (λ (s : List ℕ). ordered (at ss j) s ≡ true) (sym e) (ordered_refl (at ss j)))

-- only the first string is empty
not_empty : (ss : List (List ℕ)) → Ascending ss → (j : ℕ) → 0 < j → j < length ss → 0 < length (at ss j)
not_empty ss a j pos h = ⊎_elim
    (λ lt. lt)
    (λ ge. absurd (both_ways (ordered (at ss j) (at ss 0)) (a.2 0 j pos h)
    (ap (λ (s : List ℕ). ordered s (at ss 0)) (nil_from_length (at ss j) (omega arith)))))
    (cases_lt 0 (length (at ss j)))

has_at : (ss : List (List ℕ)) (j : ℕ) → j < length ss → has ss (at ss j) ≡ true
has_at ss j h = some_at (λ q. same q (at ss j)) ss j [] h (same_refl (at ss j))

has_where : (ss : List (List ℕ)) (s : List ℕ) → has ss s ≡ true → (j : ℕ) × (j < length ss) × (at ss j ≡ s)
has_where ss s e = from (some_where (λ q. same q s) ss [] e)
  where
    from : (j : ℕ) × (j < length ss) × (same (at ss j) s ≡ true) → (j : ℕ) × (j < length ss) × (at ss j ≡ s)
    from (j, l, t) = (j, l, same_path (at ss j) s t)

has_vacant : (ss : List (List ℕ)) (p : List ℕ) (m : ℕ) → Fits ss p m → has ss p ≡ false
has_vacant ss p m f = some_none (λ q. same q p) ss [] (λ i l. ⊎_elim
    (λ t. absurd (⊎_elim
    (λ lt. both_ways (ordered p (at ss i)) (f.before i lt) (subst (λ (s : List ℕ). ordered p s ≡ true) (sym (same_path (at ss i) p t)) (ordered_refl p)))
    (λ ge. both_ways (ordered (at ss i) p) (f.behind i ge l) (subst (λ (s : List ℕ). ordered s p ≡ true) (sym (same_path (at ss i) p t)) (ordered_refl p)))
    (cases_lt i m)))
    (λ e. e)
    (cases_Bool (same (at ss i) p)))

-- a string that is taken out does not stand elsewhere
has_no_more : (ss : List (List ℕ)) (j : ℕ) → Ascending ss → j < length ss → has (remove ss j) (at ss j) ≡ false
has_no_more ss j a h =
    let n = length-remove ss j h in
    some_none (λ q. same q (at ss j)) (remove ss j) [] (λ k l. ⊎_elim
    (λ t. let e = same_path (at (remove ss j) k) (at ss j) t in
    absurd (⊎_elim
    (λ lt. apart ss a k j lt h (sym (get_or-remove_below ss j [] k lt h) ∙ e))
    (λ ge. apart ss a j (k + 1) (omega arith) (omega arith) (sym e ∙ get_or-remove_above ss j [] k ge h))
    (cases_lt k j)))
    (λ e. e)
    (cases_Bool (same (at (remove ss j) k) (at ss j))))

-- one string more
pub has_inserted : (ss : List (List ℕ)) (m : ℕ) (p s : List ℕ) → has (insert ss m p) s ≡ (same p s || has ss s)
has_inserted ss m p s = some_inserted (λ q. same q s) ss m p

-- a string more that is stored already
pub has_already : (ss : List (List ℕ)) (p : List ℕ) (j : ℕ) → j < length ss → at ss j ≡ p → (s : List ℕ) → has ss s ≡ (same p s || has ss s)
has_already ss p j h e s = ⊎_elim
    (λ t. let q = same_path p s t in let a = has_at ss j h in let b = ap (has ss) (e ∙ q) in cc)
    (λ f. cc)
    (cases_Bool (same p s))

-- there are no more strings, the empty one apart, than conditions
one_front : (f : Option (List ℕ)) (s t : List ℕ) → names f s ≡ true → names f t ≡ true → s ≡ t
one_front None s t a b = absurd (both_ways false refl a)
one_front (Some p) s t a b = sym (same_path p s a) ∙ same_path p t b

pub lean : (ss : List (List ℕ)) (fs : Fronts) → Ascending ss → Stores ss fs → length ss ≤ length fs + 1
lean ss fs a stores =
    let few = pigeons (length ss - 1) (length fs) (λ j i. names (get_or fs i None) (at ss (j + 1)) ≡ true)
    (λ j l. some_where (λ f. names f (at ss (j + 1))) fs None
    (sym (stores (at ss (j + 1)) (not_empty ss a (j + 1) (omega arith) (omega arith))) ∙ has_at ss (j + 1) (omega arith)))
    (λ j k i l h u v. apart ss a (j + 1) (k + 1) (omega arith) (omega arith) (one_front (get_or fs i None) (at ss (j + 1)) (at ss (k + 1)) u v)) in
    omega (arith, a.0)

-- after one front less in the list, the string of that front is let go where no condition has it, and else is kept
stores_without : (ss : List (List ℕ)) (f : Option (List ℕ)) (fs : Fronts) → StoresWith ss f fs
    → (s : List ℕ) → 0 < length s → names f s ≡ false → has ss s ≡ named fs s
stores_without ss f fs stores s pos e = let a = stores s pos in cc

pub stores_removed : (ss : List (List ℕ)) (j : ℕ) (fs : Fronts) → Ascending ss → j < length ss → named fs (at ss j) ≡ false
    → StoresWith ss (Some (at ss j)) fs → Stores (remove ss j) fs
stores_removed ss j fs a h free stores s pos = ⊎_elim
    (λ t. let e = same_path (at ss j) s t in
    ap (has (remove ss j)) (sym e) ∙ has_no_more ss j a h ∙ sym (ap (named fs) (sym e) ∙ free))
    (λ t. let e = some_removed (λ q. same q s) ss j [] h in
    let d = stores_without ss (Some (at ss j)) fs stores s pos t in
    cc)
    (cases_Bool (same (at ss j) s))

pub stores_kept : (ss : List (List ℕ)) (p : List ℕ) (fs : Fronts) → named fs p ≡ true → StoresWith ss (Some p) fs → Stores ss fs
stores_kept ss p fs still stores s pos = ⊎_elim
    (λ t. let e = ap (named fs) (same_path p s t) in let a = stores s pos in cc)
    (λ t. stores_without ss (Some p) fs stores s pos t)
    (cases_Bool (same p s))

pub stores_vacant : (ss : List (List ℕ)) (p : List ℕ) (m : ℕ) (fs : Fronts) → Fits ss p m → StoresWith ss (Some p) fs → Stores ss fs
stores_vacant ss p m fs fits stores s pos = ⊎_elim
    (λ t. let e = ap (has ss) (same_path p s t) in
    let a = stores s pos in
    let b = has_vacant ss p m fits in
    let z : false ≡ true = cc in
    absurd (both_ways false refl z))
    (λ t. stores_without ss (Some p) fs stores s pos t)
    (cases_Bool (same p s))

pub stores_empty : (ss : List (List ℕ)) (p : List ℕ) (fs : Fronts) → length p ≡ 0 → StoresWith ss (Some p) fs → Stores ss fs
stores_empty ss p fs e stores s pos =
    stores_without ss (Some p) fs stores s pos
    (ap (λ b. b && begins p s) (ne_eqb (length p) (length s) (λ q. omega arith)))

-- the longest stored front of a key is covered by the same conditions as the key
stored_front : (ss : List (List ℕ)) (fs : Fronts) → Stores ss fs → (i : ℕ) → i < length fs
    → (p : List ℕ) → get_or fs i None ≡ Some p → 0 < length p → has ss p ≡ true
stored_front ss fs stores i h p e pos = stores p pos ∙ some_at (λ f. names f p) fs i None h (ap (λ f. names f p) e ∙ same_refl p)

same_tests : (a b : Bool) → (a ≡ true → b ≡ true) → (b ≡ true → a ≡ true) → a ≡ b
same_tests true b f g = sym (f refl)
same_tests false true f g = g refl
same_tests false false f g = refl

begins_longest : (ss : List (List ℕ)) (key : List ℕ) (r j : ℕ) → Longest ss key r → j < length ss → begins (at ss j) key ≡ begins (at ss j) (at ss r)
begins_longest ss key r j l h = same_tests (begins (at ss j) key) (begins (at ss j) (at ss r))
    (λ b. (l.covers j h b).1)
    (λ b. begins_trans (at ss j) (at ss r) key b l.front)

covers_longest : (ss : List (List ℕ)) (key : List ℕ) (r : ℕ) → Longest ss key r → (f : Option (List ℕ))
    → ((p : List ℕ) → f ≡ Some p → 0 < length p → has ss p ≡ true) → covers f (at ss r) ≡ covers f key
covers_longest ss key r l None stored = refl
covers_longest ss key r l (Some p) stored = ⊎_elim
    (λ pos. from (has_where ss p (stored p refl pos)))
    (λ nil. let e = nil_from_length p (omega arith) in ap (λ (q : List ℕ). begins q (at ss r)) e ∙ sym (ap (λ (q : List ℕ). begins q key) e))
    (cases_lt 0 (length p))
  where
    from : (j : ℕ) × (j < length ss) × (at ss j ≡ p) → begins p (at ss r) ≡ begins p key
    from (j, h, e) = subst (λ (q : List ℕ). begins q (at ss r) ≡ begins q key) e (sym (begins_longest ss key r j l h))

tests_agree : {X : Type 0} (t u : X → Bool) (d : X) (xs : List X) → ((i : ℕ) → i < length xs → t (get_or xs i d) ≡ u (get_or xs i d)) → map t xs ≡ map u xs
tests_agree t u d [] e = refl
tests_agree t u d (x ∷ xs) e =
    let a = e 0 (omega arith) in
    let b = tests_agree t u d xs (λ i h. e (suc i) (omega arith)) in
    cc

-- what a row that was read shows
row_at : (ss : List (List ℕ)) (rows : List Row) (fs : Fronts) (r : ℕ) (row : Row) → r < length rows → row ≡ get_or rows r row
    → Told ss rows fs → Shows row (λ f. covers f (at ss r)) fs
row_at ss rows fs r row h is told =
    subst (λ (x : Row). Shows x (λ f. covers f (at ss r)) fs) (sym (is ∙ get_or_default rows r row (record { words = [] }) h)) (told r h)

pub row_longest : (ss : List (List ℕ)) (rows : List Row) (fs : Fronts) (key : List ℕ) (r : ℕ) (row : Row) → length rows ≡ length ss
    → Longest ss key r → row ≡ get_or rows r row → Told ss rows fs → Stores ss fs → Shows row (λ f. covers f key) fs
row_longest ss rows fs key r row level l is told stores i =
    row_at ss rows fs r row (omega (arith, l.within)) is told i
    ∙ ap (λ (bs : List Bool). get_or bs i false) (tests_agree (λ f. covers f (at ss r)) (λ f. covers f key) None fs
    (λ k h. covers_longest ss key r l (get_or fs k None) (stored_front ss fs stores k h)))

-- the same of an equal row and an equal string
both : (fs : Fronts) {q s : List ℕ} {x y : Row} → q ≡ s → x ≡ y → Shows y (λ f. covers f s) fs → Shows x (λ f. covers f q) fs
both fs {q} {s} {x} {y} d e w = subst (λ (t : List ℕ). Shows x (λ f. covers f t) fs) (sym d) (subst (λ (z : Row). Shows z (λ f. covers f s) fs) (sym e) w)

-- a row more and a row less
told_inserted : (ss : List (List ℕ)) (rows : List Row) (fs : Fronts) (m : ℕ) (p : List ℕ) (row : Row) → length rows ≡ length ss → m ≤ length ss
    → Shows row (λ f. covers f p) fs → Told ss rows fs → Told (insert ss m p) (insert rows m row) fs
told_inserted ss rows fs m p row level h new told k l =
    let n = length-insert rows m row (omega arith) in
    let b : Row = record { words = [] } in
    ⊎_elim
    (λ e. both fs (ap (at (insert ss m p)) e ∙ get_or-insert_at ss m p [] h)
    (ap (λ i. get_or (insert rows m row) i b) e ∙ get_or-insert_at rows m row b (omega arith)) new)
    (⊎_elim
    (λ less. both fs (get_or-insert_below ss m p [] k less h) (get_or-insert_below rows m row b k less (omega arith)) (told k (omega arith)))
    (λ more. let e : k ≡ k - 1 + 1 = omega arith in
    both fs (ap (at (insert ss m p)) e ∙ get_or-insert_above ss m p [] (k - 1) (omega arith) h)
    (ap (λ i. get_or (insert rows m row) i b) e ∙ get_or-insert_above rows m row b (k - 1) (omega arith) (omega arith)) (told (k - 1) (omega arith))))
    (cases_order k m)

told_removed : (ss : List (List ℕ)) (rows : List Row) (fs : Fronts) (j : ℕ) → length rows ≡ length ss → j < length ss
    → Told ss rows fs → Told (remove ss j) (remove rows j) fs
told_removed ss rows fs j level h told k l =
    let n = length-remove rows j (omega arith) in
    let b : Row = record { words = [] } in
    ⊎_elim
    (λ less. both fs (get_or-remove_below ss j [] k less h) (get_or-remove_below rows j b k less (omega arith)) (told k (omega arith)))
    (λ ge. both fs (get_or-remove_above ss j [] k ge h) (get_or-remove_above rows j b k ge (omega arith)) (told (k + 1) (omega arith)))
    (cases_lt k j)

-- a string more with the row of its longest stored front, and a string less
pub told_given : (ss ts : List (List ℕ)) (rows new : List Row) (m : ℕ) (p : List ℕ) (r : ℕ) (row : Row) → length rows ≡ length ss → m ≤ length ss → Longest ss p r
    → row ≡ get_or rows r row → ts ≡ insert ss m p → new ≡ insert rows m row → (fs : Fronts) → Told ss rows fs → Stores ss fs → Told ts new fs
told_given ss ts rows new m p r row level h l is e d fs told stores =
    subst (λ (us : List (List ℕ)). Told us new fs) (sym e) (subst (λ (xs : List Row). Told (insert ss m p) xs fs) (sym d)
    (told_inserted ss rows fs m p row level h (row_longest ss rows fs p r row level l is told stores) told))

pub told_taken : (ss ts : List (List ℕ)) (rows new : List Row) (j : ℕ) → length rows ≡ length ss → j < length ss → ts ≡ remove ss j → new ≡ remove rows j
    → (fs : Fronts) → Told ss rows fs → Told ts new fs
told_taken ss ts rows new j level h e d fs told =
    subst (λ (us : List (List ℕ)). Told us new fs) (sym e) (subst (λ (xs : List Row). Told (remove ss j) xs fs) (sym d) (told_removed ss rows fs j level h told))

-- a condition that covers a string and not its parent has that string as its front
covers_apart : (ss : List (List ℕ)) (j r : ℕ) → Ascending ss → j < length ss → Parent ss j r → (f : Option (List ℕ))
    → ((p : List ℕ) → f ≡ Some p → 0 < length p → has ss p ≡ true) → covers f (at ss j) ≡ true → covers f (at ss r) ≡ false → names f (at ss j) ≡ true
covers_apart ss j r a h parent None stored t e = absurd (both_ways true e refl)
covers_apart ss j r a h parent (Some p) stored t e = ⊎_elim
    (λ pos. from (has_where ss p (stored p refl pos)))
    (λ nil. absurd (both_ways (begins p (at ss r)) e (ap (λ (q : List ℕ). begins q (at ss r)) (nil_from_length p (omega arith)))))
    (cases_lt 0 (length p))
  where
    from : (k : ℕ) × (k < length ss) × (at ss k ≡ p) → same p (at ss j) ≡ true
    from (k, l, q) =
        let b : begins (at ss k) (at ss j) ≡ true = subst (λ (s : List ℕ). begins s (at ss j) ≡ true) (sym q) t in
        ⊎_elim
        (λ here. subst (λ (s : List ℕ). same p s ≡ true) (sym q ∙ ap (at ss) here) (same_refl p))
        (⊎_elim
        (λ less. absurd (both_ways (begins p (at ss r)) e (subst (λ (s : List ℕ). begins s (at ss r) ≡ true) q (parent.1 k less b).1)))
        (λ more. absurd (both_ways (ordered (at ss k) (at ss j)) (a.2 j k more l) (begins_ordered (at ss k) (at ss j) b))))
        (cases_order k j)

-- and the other way round
names_covers : (ss : List (List ℕ)) (j r : ℕ) → Ascending ss → j < length ss → Parent ss j r → (f : Option (List ℕ))
    → names f (at ss j) ≡ true → (covers f (at ss j) ≡ true) × (covers f (at ss r) ≡ false)
names_covers ss j r a h parent None t = absurd (both_ways false refl t)
names_covers ss j r a h parent (Some p) t =
    let e = same_path p (at ss j) t in (
      subst (λ (s : List ℕ). begins s (at ss j) ≡ true) (sym e) (begins_refl (at ss j)),
      subst (λ (s : List ℕ). begins s (at ss r) ≡ false) (sym e) (⊎_elim
          (λ b. absurd (apart ss a r j parent.0 h
          (ordered_antisym (at ss r) (at ss j) (begins_ordered (at ss r) (at ss j) parent.2) (begins_ordered (at ss j) (at ss r) b))))
          (λ b. b)
          (cases_Bool (begins (at ss j) (at ss r)))),
    )

-- so a string is the front of a listed condition exactly where its row has a one that its parent's row has not
pub serves_any : (ss : List (List ℕ)) (rows : List Row) (fs : Fronts) (j r : ℕ) (own above : Row) (left : ℕ → Bool) (b : Bool) → Ascending ss
    → length rows ≡ length ss → j < length ss → Parent ss j r → own ≡ get_or rows j own → above ≡ get_or rows r above
    → ((i : ℕ) → left i ≡ (shown own i && not (shown above i))) → MatchBool b ((i : ℕ) × (left i ≡ true)) ((i : ℕ) → left i ≡ false)
    → Told ss rows fs → StoresWith ss (Some (at ss j)) fs → b ≡ named fs (at ss j)
serves_any ss rows fs j r own above left b a level h parent is-own is-above leaves any told stores = chosen b any
  where
    test : (t : ℕ) (i : ℕ) → i < length fs → get_or (map (λ f. covers f (at ss t)) fs) i false ≡ covers (get_or fs i None) (at ss t)
    test t i l = get_or-map (λ f. covers f (at ss t)) fs i None false l

    ones : (i : ℕ) → left i ≡ (get_or (map (λ f. covers f (at ss j)) fs) i false && not (get_or (map (λ f. covers f (at ss r)) fs) i false))
    ones i =
        let u = row_at ss rows fs j own (omega arith) is-own told i in
        let v = row_at ss rows fs r above (omega (arith, parent.0)) is-above told i in
        let w = leaves i in
        cc

    stored : (i : ℕ) → i < length fs → (p : List ℕ) → get_or fs i None ≡ Some p → 0 < length p → has ss p ≡ true
    stored i l p e pos = stores p pos ∙ or_right (same (at ss j) p) (named fs p) (some_at (λ f. names f p) fs i None l (ap (λ f. names f p) e ∙ same_refl p))

    found : (i : ℕ) → left i ≡ true → named fs (at ss j) ≡ true
    found i t =
        let w = and_parts (get_or (map (λ f. covers f (at ss j)) fs) i false) (not (get_or (map (λ f. covers f (at ss r)) fs) i false)) (sym (ones i) ∙ t) in
        ⊎_elim
        (λ l. some_at (λ f. names f (at ss j)) fs i None l
        (covers_apart ss j r a h parent (get_or fs i None) (stored i l) (sym (test j i l) ∙ w.0) (sym (test r i l) ∙ untrue (get_or (map (λ f. covers f (at ss r)) fs) i false) w.1)))
        (λ ge. absurd (both_ways (get_or (map (λ f. covers f (at ss j)) fs) i false) (get_or_past (map (λ f. covers f (at ss j)) fs) i false (omega (arith, length-map fs (λ f. covers f (at ss j))))) w.0))
        (cases_lt i (length fs))
      where
        untrue : (x : Bool) → not x ≡ true → x ≡ false
        untrue true e = sym e
        untrue false e = refl

    none : ((i : ℕ) → left i ≡ false) → named fs (at ss j) ≡ false
    none free = some_none (λ f. names f (at ss j)) fs None (λ i l. ⊎_elim
        (λ t. let w = names_covers ss j r a h parent (get_or fs i None) t in
        let u = test j i l ∙ w.0 in
        let v = test r i l ∙ w.1 in
        let x = ones i in
        let z : left i ≡ true = cc in
        absurd (both_ways (left i) (free i) z))
        (λ e. e)
        (cases_Bool (names (get_or fs i None) (at ss j))))

    chosen : (b : Bool) → MatchBool b ((i : ℕ) × (left i ≡ true)) ((i : ℕ) → left i ≡ false) → b ≡ named fs (at ss j)
    chosen true (i, t) = sym (found i t)
    chosen false free = sym (none free)
