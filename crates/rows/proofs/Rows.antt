-- What a row of words says at each place, after a write to one word.
use Rattle.std.proofs.Common.{◌≡◌, ℕ, suc, ◌+◌, ◌-◌, ◌*◌, ◌/◌, ◌%◌, ◌^◌, ◌<◌, ◌≤◌, min, Bool, true, false, cond, eqb, ltb, List, length, get_or, set, replicate, sym, refl, ap, ◌∙◌, subst, ⊎_elim, arith}
use lib.Count.{count_leading_zeros, leading_top}
use Rattle.std.proofs.lemmas.Bool.Decides.{nat_tests}
use Rattle.std.proofs.lemmas.Bool.{cases_eq, cases_lt, cases_order, lt-ltb, le-ltb, cond-true, cond-false, ne_eqb}
use Rattle.std.proofs.lemmas.List.{get_or_past, get_or-set_same, get_or-set_other, get_or-replicate, length-replicate}
use Rattle.rows.specs.Bits.{bit, top, at, put_in, taken_out, joined_out, after_last, before_first}
use Rattle.rows.proofs.Bit.{bit_of_zero, bit_past, bit_top}

pub at_past : (ws : List ℕ) (i : ℕ) → length ws ≤ i / 64 → at ws i ≡ false
unfolding at
at_past ws i h = ap (λ x. top x (i % 64)) (get_or_past ws (i / 64) 0 h) ∙ bit_of_zero (63 - i % 64)

-- the place r of word k
pub at_place : (ws : List ℕ) (k r i : ℕ) → r < 64 → i ≡ 64 * k + r → at ws i ≡ top (get_or ws k 0) r
unfolding at
at_place ws k r i h e =
    let q : i / 64 ≡ k = omega arith in
    let m : i % 64 ≡ r = omega arith in
    cc

pub at_set : (ws : List ℕ) (k v i : ℕ) → k < length ws → i / 64 ≡ k → at (set ws k v) i ≡ top v (i % 64)
unfolding at
at_set ws k v i h e = let s = get_or-set_same ws k v 0 h in cc

pub at_kept : (ws : List ℕ) (k v i : ℕ) → (i / 64 ≡ k → ⊥) → at (set ws k v) i ≡ at ws i
unfolding at
at_kept ws k v i h = ap (λ x. top x (i % 64)) (get_or-set_other ws k (i / 64) v 0 h)

-- a loop that goes up through the words, and leaves F at each place before word k, where f stood
abbrev pub Upward : (F f : ℕ → Bool) → List ℕ → ℕ → Type 0
Upward F f ws k = (i : ℕ) → at ws i ≡ cond (ltb i (64 * k)) (F i) (f i)

pub upward_more : (F f : ℕ → Bool) (ws : List ℕ) (k v : ℕ) → k < length ws → Upward F f ws k
    → ((r : ℕ) → r < 64 → top v r ≡ F (64 * k + r)) → Upward F f (set ws k v) (k + 1)
upward_more F f ws k v h inv new i = ⊎_elim same other (cases_eq (i / 64) k)
  where
    same : i / 64 ≡ k → at (set ws k v) i ≡ cond (ltb i (64 * (k + 1))) (F i) (f i)
    same e =
        let r : i % 64 < 64 = omega arith in
        let p : 64 * k + i % 64 ≡ i = omega arith in
        let a = at_set ws k v i h e in
        let b = new (i % 64) r in
        let l : ltb i (64 * (k + 1)) ≡ true = lt-ltb i (64 * (k + 1)) (omega arith) in
        cc

    other : (i / 64 ≡ k → ⊥) → at (set ws k v) i ≡ cond (ltb i (64 * (k + 1))) (F i) (f i)
    other n = let a = at_kept ws k v i n in let b = inv i in grind (arith, nat_tests)

-- at the end, where F and f say the same past the last word
pub upward_all : (F f : ℕ → Bool) (ws : List ℕ) (k i : ℕ) → (64 * k ≤ i → f i ≡ F i) → Upward F f ws k → at ws i ≡ F i
upward_all F f ws k i past inv = inv i ∙ ⊎_elim
    (λ l. cond-true (ltb i (64 * k)) (F i) (f i) (lt-ltb i (64 * k) l))
    (λ l. cond-false (ltb i (64 * k)) (F i) (f i) (le-ltb i (64 * k) l) ∙ past l)
    (cases_lt i (64 * k))

-- what the loop has not come to yet
ahead : (F f : ℕ → Bool) (ws : List ℕ) (k i : ℕ) → 64 * k ≤ i → Upward F f ws k → at ws i ≡ f i
ahead F f ws k i l inv = inv i ∙ cond-false (ltb i (64 * k)) (F i) (f i) (le-ltb i (64 * k) l)

-- a row of which each word is what F says, where F is false past the last one
pub at_each : (F : ℕ → Bool) (ws : List ℕ) → length ws ≡ 8 → ((i : ℕ) → 512 ≤ i → F i ≡ false)
    → ((k r : ℕ) → k < 8 → r < 64 → top (get_or ws k 0) r ≡ F (64 * k + r)) → (i : ℕ) → at ws i ≡ F i
at_each F ws l past new i = ⊎_elim
    (λ h. let r : i % 64 < 64 = omega arith in
    let e : 64 * (i / 64) + i % 64 ≡ i = omega arith in
    at_place ws (i / 64) (i % 64) i r (omega arith) ∙ new (i / 64) (i % 64) (omega arith) r ∙ ap F e)
    (λ h. at_past ws i (omega arith) ∙ sym (past i h))
    (cases_lt i 512)

-- two rows joined word by word, by an operation that is b at each place
pub joined : (b : Bool → Bool → Bool) (ws os us : List ℕ) → b false false ≡ false → length ws ≡ 8 → length os ≡ 8 → length us ≡ 8
    → ((k r : ℕ) → k < 8 → r < 64 → top (get_or us k 0) r ≡ b (top (get_or ws k 0) r) (top (get_or os k 0) r))
    → (i : ℕ) → at us i ≡ b (at ws i) (at os i)
joined b ws os us z l m n new = at_each (λ i. b (at ws i) (at os i)) us n
    (λ i h. let p = at_past ws i (omega arith) in let q = at_past os i (omega arith) in cc)
    (λ k r h e. let p = at_place ws k r (64 * k + r) e refl in
    let q = at_place os k r (64 * k + r) e refl in
    let t = new k r h e in
    cc)

-- one place on, across the end of a word
next_place : (ws : List ℕ) (k r : ℕ) → r < 64 → before_first (top (get_or ws k 0)) (top (get_or ws (k + 1) 0)) r ≡ at ws (64 * k + r + 1)
next_place ws k r h = ⊎_elim
    (λ e. let a = at_place ws (k + 1) 0 (64 * k + r + 1) (omega arith) (omega arith) in grind (arith, nat_tests))
    (λ n. let a = at_place ws k (r + 1) (64 * k + r + 1) (omega arith) (omega arith) in grind (arith, nat_tests))
    (cases_eq r 63)

pub forward_more : (f : ℕ → Bool) (p : ℕ) (ws : List ℕ) (k v : ℕ) → k < length ws → p ≤ 64 * k → Upward (taken_out f p) f ws k
    → ((r : ℕ) → r < 64 → top v r ≡ before_first (top (get_or ws k 0)) (top (get_or ws (k + 1) 0)) r)
    → Upward (taken_out f p) f (set ws k v) (k + 1)
forward_more f p ws k v h l inv new = upward_more (taken_out f p) f ws k v h inv
    (λ r m. let a = new r m in
    let b = next_place ws k r m in
    let c = ahead (taken_out f p) f ws k (64 * k + r + 1) (omega arith) inv in
    grind (arith, nat_tests))

-- the first word of a removal
pub first_out : (f : ℕ → Bool) (p : ℕ) (ws : List ℕ) (k v : ℕ) → k < length ws → k ≡ p / 64 → ((i : ℕ) → at ws i ≡ f i)
    → ((r : ℕ) → r < 64 → top v r ≡ joined_out (top (get_or ws k 0)) (top (get_or ws (k + 1) 0)) (p % 64) r)
    → Upward (taken_out f p) f (set ws k v) (k + 1)
first_out f p ws k v h e same new = upward_more (taken_out f p) f ws k v h
    (λ i. let s = same i in grind (arith, nat_tests))
    (λ r m. let a = new r m in
    let b = next_place ws k r m in
    let c = at_place ws k r (64 * k + r) m refl in
    let d = same (64 * k + r) in
    let g = same (64 * k + r + 1) in
    grind (arith, nat_tests))

-- a loop that goes down through the words, and moves each place from word k on back by one
abbrev pub Downward : (ℕ → Bool) → List ℕ → ℕ → Type 0
Downward f ws k = (i : ℕ) → i < 512 → at ws i ≡ cond (ltb i (64 * k)) (f i) (f (i - 1))

-- one place back, across the start of a word
last_place : (ws : List ℕ) (k r : ℕ) → 0 < k → r < 64 → after_last (top (get_or ws (k - 1) 0)) (top (get_or ws k 0)) r ≡ at ws (64 * k + r - 1)
last_place ws k r z h = ⊎_elim
    (λ e. let a = at_place ws (k - 1) 63 (64 * k + r - 1) (omega arith) (omega arith) in grind (arith, nat_tests))
    (λ n. let a = at_place ws k (r - 1) (64 * k + r - 1) (omega arith) (omega arith) in grind (arith, nat_tests))
    (cases_eq r 0)

pub back_more : (f : ℕ → Bool) (ws : List ℕ) (k v : ℕ) → length ws ≡ 8 → 0 < k → k < 8 → Downward f ws (k + 1)
    → ((r : ℕ) → r < 64 → top v r ≡ after_last (top (get_or ws (k - 1) 0)) (top (get_or ws k 0)) r)
    → Downward f (set ws k v) k
back_more f ws k v n z h inv new i m = ⊎_elim same other (cases_eq (i / 64) k)
  where
    same : i / 64 ≡ k → at (set ws k v) i ≡ cond (ltb i (64 * k)) (f i) (f (i - 1))
    same e =
        let r : i % 64 < 64 = omega arith in
        let p : 64 * k + i % 64 - 1 ≡ i - 1 = omega arith in
        let a = at_set ws k v i (omega arith) e in
        let b = new (i % 64) r in
        let c = last_place ws k (i % 64) z r in
        let d = inv (i - 1) (omega arith) in
        grind (arith, nat_tests)

    other : (i / 64 ≡ k → ⊥) → at (set ws k v) i ≡ cond (ltb i (64 * k)) (f i) (f (i - 1))
    other x = let a = at_kept ws k v i x in let b = inv i m in grind (arith, nat_tests)

-- the same for a loop that counts k down
pub back_again : (f : ℕ → Bool) (ws : List ℕ) (k v : ℕ) → length ws ≡ 8 → 1 < k → k ≤ 8 → Downward f ws k
    → ((r : ℕ) → r < 64 → top v r ≡ after_last (top (get_or ws (k - 1 - 1) 0)) (top (get_or ws (k - 1) 0)) r)
    → Downward f (set ws (k - 1) v) (k - 1)
back_again f ws k v n z h inv new =
    let e : k ≡ k - 1 + 1 = omega arith in
    back_more f ws (k - 1) v n (omega arith) (omega arith) (subst (Downward f ws) e inv) new

-- what the loop has not come to
unmoved : (f : ℕ → Bool) (ws : List ℕ) (k i : ℕ) → i < 512 → i < 64 * k → Downward f ws k → at ws i ≡ f i
unmoved f ws k i m l inv = inv i m ∙ cond-true (ltb i (64 * k)) (f i) (f (i - 1)) (lt-ltb i (64 * k) l)

-- an insertion into g is one into f, where g is f from s on
put_moved : (g f : ℕ → Bool) (s q r p i : ℕ) (b : Bool) → p ≡ s + q → i ≡ s + r → g r ≡ f i → (0 < r → g (r - 1) ≡ f (i - 1))
    → put_in g q b r ≡ put_in f p b i
put_moved g f s q r p i b u w here before = ⊎_elim
    (λ e. grind (arith, nat_tests))
    (⊎_elim (λ l. grind (arith, nat_tests)) (λ l. let t = before (omega arith) in grind (arith, nat_tests)))
    (cases_order r q)

-- the last step of an insertion, in the word that holds the place
pub put_more : (f : ℕ → Bool) (ws : List ℕ) (p k v : ℕ) (b : Bool) → length ws ≡ 8 → p < 512 → k ≡ p / 64 → Downward f ws (k + 1)
    → ((r : ℕ) → r < 64 → top v r ≡ put_in (top (get_or ws k 0)) (p % 64) b r)
    → (i : ℕ) → i < 512 → at (set ws k v) i ≡ put_in f p b i
put_more f ws p k v b n l e inv new i m = ⊎_elim same other (cases_eq (i / 64) k)
  where
    same : i / 64 ≡ k → at (set ws k v) i ≡ put_in f p b i
    same q =
        let r : i % 64 < 64 = omega arith in
        at_set ws k v i (omega arith) q ∙ new (i % 64) r
        ∙ put_moved (top (get_or ws k 0)) f (64 * k) (p % 64) (i % 64) p i b (omega arith) (omega arith)
        (sym (at_place ws k (i % 64) i r (omega arith)) ∙ unmoved f ws (k + 1) i m (omega arith) inv)
        (λ z. sym (at_place ws k (i % 64 - 1) (i - 1) (omega arith) (omega arith))
        ∙ unmoved f ws (k + 1) (i - 1) (omega arith) (omega arith) inv)

    other : (i / 64 ≡ k → ⊥) → at (set ws k v) i ≡ put_in f p b i
    other x = at_kept ws k v i x ∙ ⊎_elim
        (λ a. unmoved f ws (k + 1) i m a inv ∙ sym (cond-true (ltb i p) (f i) (cond (eqb i p) b (f (i - 1))) (lt-ltb i p (omega arith))))
        (λ a. inv i m ∙ cond-false (ltb i (64 * (k + 1))) (f i) (f (i - 1)) (le-ltb i (64 * (k + 1)) a)
        ∙ sym (cond-false (ltb i p) (f i) (cond (eqb i p) b (f (i - 1))) (le-ltb i p (omega arith))
        ∙ cond-false (eqb i p) b (f (i - 1)) (ne_eqb i p (omega arith))))
        (cases_lt i (64 * (k + 1)))

-- the first one of a word
pub leading_one : (w : ℕ) → w < 2 ^ 64 → (w ≡ 0 → ⊥)
    → (count_leading_zeros 64 w < 64) × (top w (count_leading_zeros 64 w) ≡ true) × ((r : ℕ) → r < count_leading_zeros 64 w → top w r ≡ false)
leading_one w h n =
    let t = leading_top 64 w (omega arith) h in
    let j : ℕ = t.0 in
    let e : 63 - count_leading_zeros 64 w ≡ j = omega (arith, t.1) in (
      omega (arith, t.1),
      ap (bit w) e ∙ bit_top w j t.2 t.3,
      λ r l. bit_past w (suc j) (63 - r) t.3 (omega arith),
    )

-- the end of a removal: the first word, and then each place behind it moved forward
pub out_all : (f g : ℕ → Bool) (p k i : ℕ) → p < 64 * k → ((n : ℕ) → g n ≡ cond (ltb n (64 * k)) (taken_out f p n) (f n))
    → taken_out g (64 * k) i ≡ taken_out f p i
out_all f g p k i h e = let a = e i in let b = e (i + 1) in grind (arith, nat_tests)

-- no one in the words before k
abbrev pub Clear : List ℕ → ℕ → Type 0
Clear ws k = (i : ℕ) → i < 64 * k → at ws i ≡ false

pub clear_words : (ws : List ℕ) (k : ℕ) → ((j : ℕ) → j < k → get_or ws j 0 ≡ 0) → Clear ws k
unfolding at
clear_words ws k zero i h = ap (λ x. top x (i % 64)) (zero (i / 64) (omega arith)) ∙ bit_of_zero (63 - i % 64)

pub clear_all : (ws : List ℕ) (k : ℕ) → length ws ≡ k → Clear ws k → (i : ℕ) → at ws i ≡ false
clear_all ws k e inv i = ⊎_elim (inv i) (λ l. at_past ws i (omega arith)) (cases_lt i (64 * k))

pub first_one : (ws : List ℕ) (k : ℕ) → get_or ws k 0 < 2 ^ 64 → (get_or ws k 0 ≡ 0 → ⊥) → Clear ws k
    → (at ws (64 * k + count_leading_zeros 64 (get_or ws k 0)) ≡ true) × ((i : ℕ) → i < 64 * k + count_leading_zeros 64 (get_or ws k 0) → at ws i ≡ false)
first_one ws k h n inv =
    let t = leading_one (get_or ws k 0) h n in
    let lo = t.0 in (
      at_place ws k (count_leading_zeros 64 (get_or ws k 0)) (64 * k + count_leading_zeros 64 (get_or ws k 0)) lo refl ∙ t.1,
      λ i l. ⊎_elim (inv i)
          (λ m. at_place ws k (i - 64 * k) i (omega arith) (omega arith) ∙ t.2 (i - 64 * k) (omega arith))
          (cases_lt i (64 * k)),
    )

pub at_zeros : (n i : ℕ) → at (replicate n 0) i ≡ false
unfolding at
at_zeros n i = ap (λ x. top x (i % 64)) (⊎_elim
    (λ l. get_or-replicate n (i / 64) 0 0 l)
    (λ l. get_or_past (replicate n 0) (i / 64) 0 (omega (arith, length-replicate {A = ℕ} n 0)))
    (cases_lt (i / 64) n)) ∙ bit_of_zero (63 - i % 64)

-- past the last word nothing stands before a removal, nor after it
pub out_past : (ws : List ℕ) (p i : ℕ) → length ws ≤ i / 64 → taken_out (at ws) p i ≡ false
out_past ws p i h = let a = at_past ws i h in let b = at_past ws (i + 1) (omega arith) in grind (arith, nat_tests)

pub none_out : (ws : List ℕ) (p : ℕ) → length ws ≤ p / 64 → (i : ℕ) → at ws i ≡ taken_out (at ws) p i
none_out ws p h i = ⊎_elim
    (λ l. sym (cond-true (ltb i p) (at ws i) (at ws (i + 1)) (lt-ltb i p l)))
    (λ l. at_past ws i (omega arith) ∙ sym (out_past ws p i (omega arith)))
    (cases_lt i p)

-- the first n places, word by word
pub ones_place : (n k r : ℕ) → k < 8 → r < 64 → ltb r (min (n - 64 * k) 64) ≡ ltb (64 * k + r) (min n 512)
ones_place n k r h l = grind (arith, nat_tests)

-- an insertion at each place, also past the last one
pub put_all : (f : ℕ → Bool) (ws : List ℕ) (p : ℕ) (b : Bool) → length ws ≡ 8 → ((i : ℕ) → i < 512 → at ws i ≡ put_in f p b i)
    → (i : ℕ) → at ws i ≡ cond (ltb i 512) (put_in f p b i) false
put_all f ws p b n new i = ⊎_elim
    (λ l. new i l ∙ sym (cond-true (ltb i 512) (put_in f p b i) false (lt-ltb i 512 l)))
    (λ l. at_past ws i (omega arith) ∙ sym (cond-false (ltb i 512) (put_in f p b i) false (le-ltb i 512 l)))
    (cases_lt i 512)

-- nothing is put in behind the last place
pub none_put : (ws : List ℕ) (p : ℕ) (b : Bool) → length ws ≡ 8 → 512 ≤ p → (i : ℕ) → at ws i ≡ cond (ltb i 512) (put_in (at ws) p b i) false
none_put ws p b n h = put_all (at ws) ws p b n (λ i l. sym (cond-true (ltb i p) (at ws i) (cond (eqb i p) b (at ws (i - 1))) (lt-ltb i p (omega arith))))
