-- A list of conditions with a side for each, after an edit of the list and of the row of sides.
use Rattle.std.proofs.Common.{◌≡◌, ℕ, zero, suc, ◌+◌, ◌-◌, ◌<◌, ◌≤◌, min, Bool, true, false, cond, not, ◌&&◌, ltb, List, [], ◌∷◌, map, length, get_or, is_some, Ok, Err, Option, sym, refl, ap, ◌∙◌, ⊎_elim, add-one, arith}
use lib.Dec.{leb-suc-suc}
use Rattle.std.specs.List.{insert, remove}
use Rattle.std.proofs.lemmas.Bool.{cases_order, cases_lt, le-ltb, cond-true, cond-false, lt-ltb}
use Rattle.std.proofs.lemmas.List.{get_or_past, length-map}
use Rattle.std.proofs.lemmas.Bool.Decides.{nat_tests}
use Rattle.rows.specs.Bits.{put_in, taken_out, differs}
use Rattle.fields.specs.declared.refusal.Refusal.{Refusal}
use Rattle.columns.specs.Edits.{insert_answer, insert_after, remove_answer, remove_after}
use Rattle.fields.specs.Conditions.{sided_admits}
use Rattle.fields.specs.Senses.{inverts, sense_of}
use Rattle.fields.specs.declared.condition.sided.Sense.{Sense}
use Rattle.fields.specs.declared.condition.sided.Sense.TheVariants as sense
use Rattle.columns.specs.Sides.{sided, turned}
use Rattle.columns.proofs.Accepted.{insert_ok, insert_after_ok, insert_after_err, remove_ok, remove_after_ok, remove_after_err}

inverts_sense : (b : Bool) → inverts (sense_of b) ≡ b
inverts_sense true = refl
inverts_sense false = refl

sense_inverts : (s : Sense) → sense_of (inverts s) ≡ s
sense_inverts sense.Plain = refl
sense_inverts sense.Inverted = refl

pub length_sided : {K : Type 0} (xs : List K) (t : ℕ → Bool) → length (sided xs t) ≡ length xs
length_sided [] t = refl
length_sided (x ∷ xs) t = ap suc (length_sided xs (λ i. t (suc i)))

sided_ext : {K : Type 0} (xs : List K) (t u : ℕ → Bool) → ((i : ℕ) → i < length xs → t i ≡ u i) → sided xs t ≡ sided xs u
sided_ext [] t u e = refl
sided_ext (x ∷ xs) t u e =
    let a = e 0 (omega arith) in
    let b = sided_ext xs (λ i. t (suc i)) (λ i. u (suc i)) (λ i h. e (suc i) (omega arith)) in
    cc

-- an insertion one place on
put_suc : (t : ℕ → Bool) (p : ℕ) (b : Bool) (i : ℕ) → put_in t (suc p) b (suc i) ≡ put_in (λ j. t (suc j)) p b i
put_suc t p b i = ⊎_elim
    (λ e. grind (arith, nat_tests))
    (⊎_elim (λ l. grind (arith, nat_tests)) (λ l. let f : suc (i - 1) ≡ suc i - 1 = omega arith in grind (arith, nat_tests)))
    (cases_order i p)

sided_inserted : {K : Type 0} (xs : List K) (p : ℕ) (c : K) (b : Bool) (t u : ℕ → Bool) → p ≤ length xs
    → ((i : ℕ) → i < length xs + 1 → u i ≡ put_in t p b i) → sided (insert xs p c) u ≡ insert (sided xs t) p (record { condition = c; sense = sense_of b })
sided_inserted xs zero c b t u h e =
    let a : u 0 ≡ b = e 0 (omega arith) in
    let d = sided_ext xs (λ i. u (suc i)) t (λ i l. let f = e (suc i) (omega arith) in grind (arith, nat_tests)) in
    cc
sided_inserted [] (suc p) c b t u h e = absurd (omega arith)
sided_inserted (x ∷ xs) (suc p) c b t u h e =
    let a : u 0 ≡ t 0 = let f = e 0 (omega arith) in grind (arith, nat_tests) in
    let d = sided_inserted xs p c b (λ i. t (suc i)) (λ i. u (suc i)) (omega arith)
    (λ i l. e (suc i) (omega arith) ∙ put_suc t p b i) in
    cc

-- a removal one place on
out_suc : (t : ℕ → Bool) (p i : ℕ) → taken_out t (suc p) (suc i) ≡ taken_out (λ j. t (suc j)) p i
out_suc t p i = ⊎_elim
    (λ l. cond-true (ltb (suc i) (suc p)) _ _ (lt-ltb (suc i) (suc p) (omega arith)) ∙ sym (cond-true (ltb i p) _ _ (lt-ltb i p l)))
    (λ l. cond-false (ltb (suc i) (suc p)) _ _ (le-ltb (suc i) (suc p) (omega arith))
    ∙ ap t (omega arith) ∙ sym (cond-false (ltb i p) _ _ (le-ltb i p l)))
    (cases_lt i p)

sided_removed : {K : Type 0} (xs : List K) (p : ℕ) (t u : ℕ → Bool) → p < length xs
    → ((i : ℕ) → u i ≡ taken_out t p i) → sided (remove xs p) u ≡ remove (sided xs t) p
sided_removed [] p t u h e = absurd (omega arith)
sided_removed (x ∷ xs) zero t u h e =
    sided_ext xs u (λ i. t (suc i)) (λ i l. e i ∙ cond-false (ltb i 0) (t i) (t (i + 1)) (le-ltb i 0 (omega arith)) ∙ ap t (add-one i))
sided_removed (x ∷ xs) (suc p) t u h e =
    let a : u 0 ≡ t 0 = e 0 ∙ cond-true (ltb 0 (suc p)) _ _ (lt-ltb 0 (suc p) (omega arith)) in
    let d = sided_removed xs p (λ i. t (suc i)) (λ i. u (suc i)) (omega arith) (λ i. e (suc i) ∙ out_suc t p i) in
    cc

-- what a test by side says of each
pub sided_test : {K V : Type 0} (holds : K → Option V → Bool) (v : Option V) (xs : List K) (t : ℕ → Bool) (i : ℕ)
    → get_or (map (λ c. sided_admits holds c v) (sided xs t)) i false
    ≡ cond (ltb i (length xs)) (cond (t i) (is_some v && not (get_or (map (λ c. holds c v) xs) i false)) (get_or (map (λ c. holds c v) xs) i false)) false
sided_test holds v [] t i = sym (cond-false (ltb i 0) _ _ (le-ltb i 0 (omega arith)))
sided_test holds v (x ∷ xs) t zero =
    ap (λ b. cond b (is_some v && not (holds x v)) (holds x v)) (inverts_sense (t 0))
    ∙ sym (cond-true (ltb 0 (suc (length xs))) _ _ (lt-ltb 0 (suc (length xs)) (omega arith)))
sided_test holds v (x ∷ xs) t (suc i) = sided_test holds v xs (λ i. t (suc i)) i
    ∙ ap (λ b. cond b (cond (t (suc i)) (is_some v && not (get_or (map (λ c. holds c v) xs) i false)) (get_or (map (λ c. holds c v) xs) i false)) false)
    (sym (leb-suc-suc (suc i) (length xs)))

pub insert_turned : {K : Type 0} (p : ℕ) (c : K) (s : Sense) (xs ys : List K) (t u : ℕ → Bool) → Ok tt ≡ insert_answer p (length xs)
    → ys ≡ insert_after p c xs → ((i : ℕ) → u i ≡ cond (ltb i 512) (put_in t (p - 1) (inverts s) i) false)
    → sided ys u ≡ insert_after p (record { condition = c; sense = s }) (sided xs t)
insert_turned p c s xs ys t u ok after put =
    let q = insert_ok p (length xs) ok in
    let lo = q.0 in
    let hi = q.1 in
    let few = q.2 in
    let n = length_sided xs t in
    ap (λ zs. sided zs u) (after ∙ insert_after_ok p c xs lo hi few)
    ∙ sided_inserted xs (p - 1) c (inverts s) t u (omega arith)
    (λ i l. put i ∙ cond-true (ltb i 512) (put_in t (p - 1) (inverts s) i) false (lt-ltb i 512 (omega arith)))
    ∙ ap (λ z. insert (sided xs t) (p - 1) (record { condition = c; sense = z })) (sense_inverts s)
    ∙ sym (insert_after_ok p (record { condition = c; sense = s }) (sided xs t) lo (omega arith) (omega arith))

pub insert_refused : {K : Type 0} (p : ℕ) (c : K) (s : Sense) (xs ys : List K) (t : ℕ → Bool) (r : Refusal) → Err r ≡ insert_answer p (length xs)
    → ys ≡ insert_after p c xs → sided ys t ≡ insert_after p (record { condition = c; sense = s }) (sided xs t)
insert_refused p c s xs ys t r e after =
    ap (λ zs. sided zs t) (after ∙ insert_after_err p c xs r e)
    ∙ sym (insert_after_err p (record { condition = c; sense = s }) (sided xs t) r (e ∙ ap (insert_answer p) (sym (length_sided xs t))))

pub remove_turned : {K : Type 0} (p : ℕ) (xs ys : List K) (t u : ℕ → Bool) → Ok tt ≡ remove_answer p (length xs)
    → ys ≡ remove_after p xs → ((i : ℕ) → u i ≡ taken_out t (p - 1) i) → sided ys u ≡ remove_after p (sided xs t)
remove_turned p xs ys t u ok after out =
    let q = remove_ok p (length xs) ok in
    let lo = q.0 in
    let hi = q.1 in
    let n = length_sided xs t in
    ap (λ zs. sided zs u) (after ∙ remove_after_ok p xs lo hi)
    ∙ sided_removed xs (p - 1) t u (omega arith) out
    ∙ sym (remove_after_ok p (sided xs t) lo (omega arith))

pub remove_refused : {K : Type 0} (p : ℕ) (xs ys : List K) (t : ℕ → Bool) (r : Refusal) → Err r ≡ remove_answer p (length xs)
    → ys ≡ remove_after p xs → sided ys t ≡ remove_after p (sided xs t)
remove_refused p xs ys t r e after =
    ap (λ zs. sided zs t) (after ∙ remove_after_err p xs r e)
    ∙ sym (remove_after_err p (sided xs t) r (e ∙ ap (remove_answer p) (sym (length_sided xs t))))

-- a row of plain answers, turned over where the side says so and cut behind the list
flipped : (x t l : Bool) → (differs x t && l) ≡ cond l (cond t (true && not x) x) false
flipped true true true = refl
flipped true true false = refl
flipped true false true = refl
flipped true false false = refl
flipped false true true = refl
flipped false true false = refl
flipped false false true = refl
flipped false false false = refl

cleared : (x t : Bool) → (x && not t) ≡ cond t (false && not x) x
cleared true true = refl
cleared true false = refl
cleared false true = refl
cleared false false = refl

read_present : {K V : Type 0} (holds : K → Option V → Bool) (v : Option V) (xs : List K) (n : ℕ) (t below out : ℕ → Bool)
    → is_some v ≡ true → n ≡ length xs → n ≤ 512 → ((i : ℕ) → below i ≡ get_or (map (λ c. holds c v) xs) i false)
    → ((i : ℕ) → out i ≡ (differs (below i) (t i) && ltb i (min n 512)))
    → (i : ℕ) → out i ≡ get_or (map (λ c. sided_admits holds c v) (sided xs t)) i false
read_present holds v xs n t below out some len few b r i =
    let x : Bool = get_or (map (λ c. holds c v) xs) i false in
    let m : min n 512 ≡ length xs = omega arith in
    let e : out i ≡ (differs x (t i) && ltb i (length xs)) =
    r i ∙ ap (λ y. differs y (t i) && ltb i (min n 512)) (b i) ∙ ap (λ k. differs x (t i) && ltb i k) m in
    e ∙ flipped x (t i) (ltb i (length xs))
    ∙ ap (λ s. cond (ltb i (length xs)) (cond (t i) (s && not x) x) false) (sym some) ∙ sym (sided_test holds v xs t i)

read_absent : {K V : Type 0} (holds : K → Option V → Bool) (v : Option V) (xs : List K) (t below out : ℕ → Bool)
    → is_some v ≡ false → ((i : ℕ) → below i ≡ get_or (map (λ c. holds c v) xs) i false) → ((i : ℕ) → out i ≡ (below i && not (t i)))
    → (i : ℕ) → out i ≡ get_or (map (λ c. sided_admits holds c v) (sided xs t)) i false
read_absent holds v xs t below out none b r i =
    let x : Bool = get_or (map (λ c. holds c v) xs) i false in
    r i ∙ ap (λ y. y && not (t i)) (b i) ∙ ⊎_elim
    (λ l. cleared x (t i) ∙ ap (λ s. cond (t i) (s && not x) x) (sym none) ∙ sym (cond-true (ltb i (length xs)) _ _ (lt-ltb i (length xs) l)))
    (λ l. ap (λ y. y && not (t i)) (get_or_past (map (λ c. holds c v) xs) i false (omega (arith, length-map xs (λ c. holds c v))))
    ∙ sym (cond-false (ltb i (length xs)) _ _ (le-ltb i (length xs) l)))
    (cases_lt i (length xs))
    ∙ sym (sided_test holds v xs t i)

pub read_turned : {K V : Type 0} (holds : K → Option V → Bool) (v : Option V) (xs : List K) (n : ℕ) (present : Bool) (t below out : ℕ → Bool)
    → present ≡ is_some v → n ≡ length xs → n ≤ 512 → ((i : ℕ) → below i ≡ get_or (map (λ c. holds c v) xs) i false)
    → ((i : ℕ) → out i ≡ turned (below i) (t i) present (ltb i (min n 512)))
    → (i : ℕ) → out i ≡ get_or (map (λ c. sided_admits holds c v) (sided xs t)) i false
read_turned holds v xs n true t below out e len few b r = read_present holds v xs n t below out (sym e) len few b r
read_turned holds v xs n false t below out e len few b r = read_absent holds v xs t below out (sym e) b r
