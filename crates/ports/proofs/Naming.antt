-- The rows of the ports that conditions name, after a condition more and one less.
use Rattle.std.proofs.Common.{◌≡◌, ℕ, ◌≤◌, true, false, ◌||◌, eqb, List, [], ◌∷◌, map, length, get_or, Option, Some, None, Bor, sym, refl, ap, ◌∙◌, subst, inl, inr, ⊎_elim, arith}
use Rattle.std.specs.List.{insert, remove}
use Rattle.std.specs.Option.{unwrap_or}
use Rattle.std.specs.List.Sorted.{IsStrictlyIncreasing}
use Rattle.std.proofs.lemmas.Bool.{cases_eq, eqb-true, eqb-false, eq-eqb, ne_eqb, or_parts}
use Rattle.rows.specs.declared.row.Row.{Row}
use Rattle.ports.specs.declared.values.ordered.OrderedRows.{OrderedRows}
use Rattle.fields.specs.declared.condition.plain.Plain.{Plain}
use Rattle.fields.specs.declared.condition.plain.Plain.TheVariants.{Any, Is}
use Rattle.fields.specs.declared.values.port.Port.{Port}
use Rattle.rows.specs.Shows.{Shows, TableShows}
use Rattle.ports.specs.Keys.{has}
use Rattle.ports.specs.Ordered.{keys_of, rows_of, Found, Given, Taken}
use Rattle.ports.specs.Owned.{Readied, Cleaned}
use Rattle.ports.specs.Ports.{port_holds, on_any, names, named}
use Rattle.columns.proofs.Some.{some_inserted, some_removed}
use Rattle.ports.proofs.Climbing.{lean, has_vacant, has_no_more, beside_inserted, beside_removed}

-- each row shows the conditions at its key
abbrev pub Told : List ℕ → List Row → List (Plain Port) → Type 0
Told ks rs cs = TableShows rs (λ c k. port_holds c (get_or ks k 0)) cs

one_port : (c : Plain Port) (u v : ℕ) → names c u ≡ true → names c v ≡ true → u ≡ v
one_port Any u v a b = absurd (let z : ◌≡◌ {A = ℕ} 0 1 = cc in omega arith)
one_port (Is p) u v a b = sym (eqb-true p.number u a) ∙ eqb-true p.number v b

-- there are at most as many rows as conditions
pub few_keys : (ks : List ℕ) (cs : List (Plain Port)) → IsStrictlyIncreasing ks → ((v : ℕ) → has ks v ≡ named cs v) → length ks ≤ length cs
few_keys ks cs up stored = lean names Any cs ks one_port up stored

unnamed_one : (c : Plain Port) (v : ℕ) → names c v ≡ false → port_holds c v ≡ on_any c
unnamed_one Any v h = refl
unnamed_one (Is p) v h = ne_eqb v p.number (λ e. eqb-false p.number v h (sym e))

-- on a port that no condition names, those hold that always do
pub unnamed : (cs : List (Plain Port)) (v : ℕ) → named cs v ≡ false → map (λ c. port_holds c v) cs ≡ map on_any cs
unnamed [] v h = refl
unnamed (c ∷ cs) v h =
    let parts = or_parts (names c v) (named cs v) h in
    let a = unnamed_one c v parts.0 in
    let b = unnamed cs v parts.1 in
    cc

pub shows_unnamed : (row : Row) (cs : List (Plain Port)) (v : ℕ) → named cs v ≡ false → Shows row on_any cs → Shows row (λ c. port_holds c v) cs
shows_unnamed row cs v h s i = s i ∙ sym (ap (λ bs. get_or bs i false) (unnamed cs v h))

-- the row of a port, or that of all others where it has none
pub found_or : (v : ℕ) (t : OrderedRows) (cs : List (Plain Port)) (r : Option (Bor Row)) (others : Bor Row) → Found v t r
    → ((u : ℕ) → has (keys_of t) u ≡ named cs u) → Told (keys_of t) (rows_of t) cs → Shows others.now on_any cs
    → Shows (unwrap_or r others).now (λ c. port_holds c v) cs
found_or v t cs None others none stored told untold = shows_unnamed others.now cs v (sym (stored v) ∙ none) untold
found_or v t cs (Some row) others (i, l, at, is) stored told untold =
    subst (λ (x : Row). Shows x (λ c. port_holds c v) cs) (sym is)
    (subst (λ (n : ℕ). Shows (get_or (rows_of t) i (record { words = [] })) (λ c. port_holds c n) cs) at (told i (omega (arith, t.level))))

-- a port that is given a row
pub has_given : (v : ℕ) (row : Row) (s t : OrderedRows) → Given v row s t → (u : ℕ) → has (keys_of t) u ≡ (eqb v u || has (keys_of s) u)
has_given v row s t (inl (h, ks, rs)) u = ap (λ xs. has xs u) ks ∙ ⊎_elim
    (λ e. let a = ap (has (keys_of s)) e in let b = eq-eqb v u e in cc)
    (λ n. let b = ne_eqb v u n in cc)
    (cases_eq v u)
has_given v row s t (inr (i, fits, ks, rs)) u = ap (λ xs. has xs u) ks ∙ some_inserted (λ k. eqb k u) (keys_of s) i v

pub told_given : (v : ℕ) (row : Row) (s t : OrderedRows) (cs : List (Plain Port)) → Given v row s t
    → ((u : ℕ) → has (keys_of s) u ≡ named cs u) → Shows row on_any cs → Told (keys_of s) (rows_of s) cs → Told (keys_of t) (rows_of t) cs
told_given v row s t cs (inl (h, ks, rs)) stored others told =
    subst (λ (xs : List ℕ). Told xs (rows_of t) cs) (sym ks) (subst (λ (ys : List Row). Told (keys_of s) ys cs) (sym rs) told)
told_given v row s t cs (inr (i, fits, ks, rs)) stored others told =
    subst (λ (xs : List ℕ). Told xs (rows_of t) cs) (sym ks)
    (subst (λ (ys : List Row). Told (insert (keys_of s) i v) ys cs) (sym rs)
    (beside_inserted (λ k r. Shows r (λ c. port_holds c k) cs) (keys_of s) (rows_of s) i v row (record { words = [] }) s.level fits.0
    (shows_unnamed row cs v (sym (stored v) ∙ has_vacant (keys_of s) v i fits) others) told))

-- a port whose row is taken out
pub has_taken : (v : ℕ) (s t : OrderedRows) (cs : List (Plain Port)) → Taken v s t → named cs v ≡ false
    → ((u : ℕ) → has (keys_of s) u ≡ (eqb v u || named cs u)) → (u : ℕ) → has (keys_of t) u ≡ named cs u
has_taken v s t cs (inl (h, ks, rs)) free stored u = ap (λ xs. has xs u) ks ∙ ⊎_elim
    (λ e. let a = ap (has (keys_of s)) e in let b = ap (named cs) e in cc)
    (λ n. let a = stored u in let b = ne_eqb v u n in cc)
    (cases_eq v u)
has_taken v s t cs (inr (i, l, at, ks, rs)) free stored u = ap (λ xs. has xs u) ks ∙ ⊎_elim
    (λ e. let a = ap (has (remove (keys_of s) i)) e in let b = ap (named cs) e in
    let d = has_no_more (keys_of s) v i s.climbs l at in cc)
    (λ n. let a = stored u in let b = ne_eqb v u n in
    let d = some_removed (λ k. eqb k u) (keys_of s) i 0 l in let e = ap (λ k. eqb k u) at in cc)
    (cases_eq v u)

pub told_taken : (v : ℕ) (s t : OrderedRows) (cs : List (Plain Port)) → Taken v s t → Told (keys_of s) (rows_of s) cs → Told (keys_of t) (rows_of t) cs
told_taken v s t cs (inl (h, ks, rs)) told =
    subst (λ (xs : List ℕ). Told xs (rows_of t) cs) (sym ks) (subst (λ (ys : List Row). Told (keys_of s) ys cs) (sym rs) told)
told_taken v s t cs (inr (i, l, at, ks, rs)) told =
    subst (λ (xs : List ℕ). Told xs (rows_of t) cs) (sym ks)
    (subst (λ (ys : List Row). Told (remove (keys_of s) i) ys cs) (sym rs)
    (beside_removed (λ k r. Shows r (λ c. port_holds c k) cs) (keys_of s) (rows_of s) i (record { words = [] }) s.level l told))

-- a condition whose port has a row
pub ready_has : (c : Plain Port) (row : Row) (s t : OrderedRows) → Readied c row s t → (u : ℕ) → has (keys_of t) u ≡ (names c u || has (keys_of s) u)
ready_has Any row s t e u = ap (λ x. has (keys_of x) u) e
ready_has (Is p) row s t g u = has_given p.number row s t g u

pub ready_told : (c : Plain Port) (row : Row) (s t : OrderedRows) (cs : List (Plain Port)) → Readied c row s t
    → ((u : ℕ) → has (keys_of s) u ≡ named cs u) → Shows row on_any cs → Told (keys_of s) (rows_of s) cs → Told (keys_of t) (rows_of t) cs
ready_told Any row s t cs e stored others told = subst (λ (x : OrderedRows). Told (keys_of x) (rows_of x) cs) (sym e) told
ready_told (Is p) row s t cs g stored others told = told_given p.number row s t cs g stored others told

-- a condition that is removed, and whose port needs no row
pub clean_has : (c : Plain Port) (cs : List (Plain Port)) (s t : OrderedRows) → Cleaned c cs s t
    → ((u : ℕ) → has (keys_of s) u ≡ (names c u || named cs u)) → (u : ℕ) → has (keys_of t) u ≡ named cs u
clean_has Any cs s t e stored u = ap (λ x. has (keys_of x) u) e ∙ stored u
clean_has (Is p) cs s t (inl (still, e)) stored u = ap (λ x. has (keys_of x) u) e ∙ stored u ∙ ⊎_elim
    (λ q. let a = ap (named cs) q in let b = eq-eqb p.number u q in cc)
    (λ n. let b = ne_eqb p.number u n in cc)
    (cases_eq p.number u)
clean_has (Is p) cs s t (inr (free, k)) stored u = has_taken p.number s t cs k free stored u

pub clean_told : (c : Plain Port) (cs ds : List (Plain Port)) (s t : OrderedRows) → Cleaned c cs s t
    → Told (keys_of s) (rows_of s) ds → Told (keys_of t) (rows_of t) ds
clean_told Any cs ds s t e told = subst (λ (x : OrderedRows). Told (keys_of x) (rows_of x) ds) (sym e) told
clean_told (Is p) cs ds s t (inl (still, e)) told = subst (λ (x : OrderedRows). Told (keys_of x) (rows_of x) ds) (sym e) told
clean_told (Is p) cs ds s t (inr (free, k)) told = told_taken p.number s t ds k told
