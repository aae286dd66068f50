-- A row that shows a test of each element of a list, after an edit of both.
use Rattle.std.proofs.Common.{◌≡◌, ℕ, ◌+◌, ◌-◌, ◌<◌, ◌≤◌, Bool, false, cond, eqb, ltb, List, [], map, length, get_or, sym, ap, ◌∙◌, ⊎_elim, arith}
use Rattle.std.specs.List.{insert, remove}
use Rattle.std.proofs.lemmas.Bool.{cases_lt, cases_order, lt-ltb, le-ltb, ne_eqb, cond-true, cond-false}
use Rattle.std.proofs.lemmas.Bool.Decides.{nat_tests}
use Rattle.std.proofs.lemmas.List.{map-append, take-map, drop-map, length-map, get_or_past}
use Rattle.std.proofs.lemmas.List.Edits.{length-insert, get_or-insert_below, get_or-insert_at, get_or-insert_above, get_or-remove_below, get_or-remove_above}
use Rattle.rows.specs.Bits.{put_in, taken_out}
use Rattle.rows.specs.declared.row.Row.{Row}
use Rattle.rows.specs.Shown.{shown}
use Rattle.rows.specs.Tables.{Put, Out}
use Rattle.rows.specs.Shows.{Shows, TableShows}

map_inserted : {C : Type 0} (f : C → Bool) (xs : List C) (p : ℕ) (c : C) → map f (insert xs p c) ≡ insert (map f xs) p (f c)
map_inserted f xs p c = simp (map-append, take-map, drop-map)

map_removed : {C : Type 0} (f : C → Bool) (xs : List C) (p : ℕ) → map f (remove xs p) ≡ remove (map f xs) p
map_removed f xs p = simp (map-append, take-map, drop-map)

-- a list with an element put in, as a function of the place
put_in_list : (bs : List Bool) (p : ℕ) (b : Bool) (i : ℕ) → p ≤ length bs → get_or (insert bs p b) i false ≡ put_in (λ j. get_or bs j false) p b i
put_in_list bs p b i h = ⊎_elim
    (λ e. let a = get_or-insert_at bs p b false h in grind (arith, nat_tests))
    (⊎_elim
    (λ l. get_or-insert_below bs p b false i l h ∙ sym (cond-true (ltb i p) (get_or bs i false) (cond (eqb i p) b (get_or bs (i - 1) false)) (lt-ltb i p l)))
    (λ l. let e : i ≡ (i - 1) + 1 = omega arith in
    ap (λ n. get_or (insert bs p b) n false) e ∙ get_or-insert_above bs p b false (i - 1) (omega arith) h
    ∙ sym (cond-false (ltb i p) (get_or bs i false) (cond (eqb i p) b (get_or bs (i - 1) false)) (le-ltb i p (omega arith))
    ∙ cond-false (eqb i p) b (get_or bs (i - 1) false) (ne_eqb i p (omega arith)))))
    (cases_order i p)

taken_out_list : (bs : List Bool) (p i : ℕ) → p < length bs → get_or (remove bs p) i false ≡ taken_out (λ j. get_or bs j false) p i
taken_out_list bs p i h = ⊎_elim
    (λ l. get_or-remove_below bs p false i l h ∙ sym (cond-true (ltb i p) (get_or bs i false) (get_or bs (i + 1) false) (lt-ltb i p l)))
    (λ l. get_or-remove_above bs p false i l h ∙ sym (cond-false (ltb i p) (get_or bs i false) (get_or bs (i + 1) false) (le-ltb i p l)))
    (cases_lt i p)

pub shows_inserted : {C : Type 0} (test : C → Bool) (xs : List C) (p : ℕ) (c : C) (old new : Row) → p ≤ length xs → length xs < 512
    → Shows old test xs → Put p (test c) old new → Shows new test (insert xs p c)
shows_inserted test xs p c old new h l was put i =
    let bs : List Bool = map test xs in
    let n : length bs ≡ length xs = length-map xs test in
    let a : get_or (map test (insert xs p c)) i false ≡ put_in (λ j. get_or bs j false) p (test c) i =
    ap (λ ys. get_or ys i false) (map_inserted test xs p c) ∙ put_in_list bs p (test c) i (omega arith) in
    put i ∙ ⊎_elim
    (λ m. cond-true (ltb i 512) (put_in (shown old) p (test c) i) false (lt-ltb i 512 m) ∙ same i ∙ sym a)
    (λ m. cond-false (ltb i 512) (put_in (shown old) p (test c) i) false (le-ltb i 512 m)
    ∙ sym (get_or_past (map test (insert xs p c)) i false
    (omega (arith, length-map (insert xs p c) test, length-insert xs p c h))))
    (cases_lt i 512)
  where
    same : (i : ℕ) → put_in (shown old) p (test c) i ≡ put_in (λ j. get_or (map test xs) j false) p (test c) i
    same i = let a = was i in let b = was (i - 1) in cc

pub shows_removed : {C : Type 0} (test : C → Bool) (xs : List C) (p : ℕ) (old new : Row) → p < length xs
    → Shows old test xs → Out p old new → Shows new test (remove xs p)
shows_removed test xs p old new h was out i =
    let n : length (map test xs) ≡ length xs = length-map xs test in
    let a = was i in
    let b = was (i + 1) in
    let e = out i in
    let d = ap (λ ys. get_or ys i false) (map_removed test xs p) ∙ taken_out_list (map test xs) p i (omega arith) in
    cc

pub table_inserted : {C : Type 0} (test : C → ℕ → Bool) (xs : List C) (p : ℕ) (c : C) (rows new : List Row) → p ≤ length xs → length xs < 512
    → length new ≡ length rows → TableShows rows test xs
    → ((k : ℕ) (d : Row) → k < length rows → Put p (test c k) (get_or rows k d) (get_or new k d)) → TableShows new test (insert xs p c)
table_inserted test xs p c rows new h l n was put k m =
    let q : k < length rows = omega arith in
    shows_inserted (λ x. test x k) xs p c (get_or rows k (record { words = [] })) (get_or new k (record { words = [] })) h l
    (was k q) (put k (record { words = [] }) q)

pub table_removed : {C : Type 0} (test : C → ℕ → Bool) (xs : List C) (p : ℕ) (rows new : List Row) → p < length xs
    → length new ≡ length rows → TableShows rows test xs
    → ((k : ℕ) (d : Row) → k < length rows → Out p (get_or rows k d) (get_or new k d)) → TableShows new test (remove xs p)
table_removed test xs p rows new h n was out k m =
    let q : k < length rows = omega arith in
    shows_removed (λ x. test x k) xs p (get_or rows k (record { words = [] })) (get_or new k (record { words = [] })) h
    (was k q) (out k (record { words = [] }) q)
