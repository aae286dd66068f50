-- Two lists with the same live entries, in any order, answer a look-up alike.
use Rattle.std.proofs.Common.{◌≡◌, ℕ, suc, ◌+◌, ◌≤◌, Bool, true, false, cond, not, ◌&&◌, eqb, List, [], ◌∷◌, get_or, Some, None, count_by, Option, sym, refl, ap, ◌∙◌, arith}
use Rattle.std.proofs.lemmas.List.Sums.{sum_by-cons}
use Rattle.std.proofs.lemmas.Bool.Decides.{nat_tests}
use Rattle.book.specs.declared.flow.Flow.{Flow}
use Rattle.book.specs.declared.entry.Entry.{Entry}
use Rattle.book.specs.Places.{Apart}
use Rattle.book.specs.Values.{state_value}
use Rattle.book.proofs.Flows.{same_equal, apart_flows}
use Rattle.std.specs.List.{find}
use Rattle.book.specs.Live.{same_flow, live, live_entry, live_count, Same}
use Rattle.book.proofs.Weigh.{sum_agree, first_none}

module _ {X : Type 0} (q : X → Bool) where
  count_step : (xs : List X) (x : X) (b : Bool) → q x ≡ b → count_by q (x ∷ xs) ≡ cond b 1 0 + count_by q xs
  count_step xs x b e = sum_by-cons (λ y. cond (q y) 1 0) x xs ∙ ap (λ c. cond c 1 0 + count_by q xs) e

  pub none_from_zero : (xs : List X) → count_by q xs ≡ 0 → find q xs ≡ None
  none_from_zero [] h = refl
  none_from_zero (x ∷ xs) h = grind (arith, nat_tests, sum_by-cons (λ y. cond (q y) 1 0) x xs, none_from_zero xs)

  pub zero_from_none : (xs : List X) → find q xs ≡ None → count_by q xs ≡ 0
  zero_from_none [] h = refl
  zero_from_none (x ∷ xs) h = grind (arith, nat_tests, sum_by-cons (λ y. cond (q y) 1 0) x xs, zero_from_none xs)

  -- what is found passes, and counts under any test that it passes
  pub counts_found : (r : X → Bool) (x : X) (xs : List X) → find q xs ≡ Some x → r x ≡ true → 1 ≤ count_by (λ e. q e && r e) xs
  counts_found r x [] h k = absurd cc
  counts_found r x (y ∷ xs) h k = grind (arith, nat_tests, sum_by-cons (λ e. cond (q e && r e) 1 0) y xs, counts_found r x xs)

  -- a second test parts what passes
  pub count_parted : (r : X → Bool) (xs : List X) → count_by q xs ≡ count_by (λ e. q e && r e) xs + count_by (λ e. q e && not (r e)) xs
  count_parted r [] = refl
  count_parted r (x ∷ xs) =
      grind (arith, nat_tests, sum_by-cons (λ e. cond (q e) 1 0) x xs, sum_by-cons (λ e. cond (q e && r e) 1 0) x xs, sum_by-cons (λ e. cond (q e && not (r e)) 1 0) x xs, count_parted r xs)

  -- lists that agree on every test answer alike, where one entry passes at most
  module _ (eq : X → X → Bool) (eq_self : (x : X) → eq x x ≡ true) (eq_true : (x y : X) → eq x y ≡ true → x ≡ y)
      (xs ys : List X) (agree : (p : X → Bool) → count_by (λ e. q e && p e) xs ≡ count_by (λ e. q e && p e) ys) (once : count_by q xs ≤ 1) where
    anyway : (zs : List X) → count_by (λ e. q e && true) zs ≡ count_by q zs
    anyway zs = sum_agree (λ e. cond (q e && true) 1 0) (λ e. cond (q e) 1 0) zs (λ k d l. with_true (q (get_or zs k d)))
      where
        with_true : (a : Bool) → ◌≡◌ {A = ℕ} (cond (a && true) 1 0) (cond a 1 0)
        with_true true = refl
        with_true false = refl

    none_alike : find q xs ≡ None → find q ys ≡ None
    none_alike h = none_from_zero ys (omega (arith, anyway xs, anyway ys, agree (λ _. true), zero_from_none xs h))

    -- what ys answers, where xs answers x
    alike_by : (x : X) → find q xs ≡ Some x → (o : Option X) → find q ys ≡ o → o ≡ Some x
    alike_by x h None e =
        absurd (omega (arith, counts_found (λ _. true) x xs h refl, agree (λ _. true), anyway ys, zero_from_none ys e))
    alike_by x h (Some y) e = same (eq y x) refl
      where
        same : (b : Bool) → eq y x ≡ b → Some y ≡ Some x
        same true k = ap Some (eq_true y x k)
        same false k =
            let n : not (eq y x) ≡ true = rw k in
            let a = counts_found (λ z. eq z x) x xs h (eq_self x) in
            let b = counts_found (λ z. not (eq z x)) y ys e n in
            absurd (omega (arith, a, b, agree (λ z. not (eq z x)), count_parted (λ z. eq z x) xs, once))

    pub first_alike : find q ys ≡ find q xs
    first_alike = by (find q xs) refl
      where
        by : (o : Option X) → find q xs ≡ o → find q ys ≡ find q xs
        by None h = none_alike h ∙ sym h
        by (Some x) h = alike_by x h (find q ys) refl ∙ sym h

-- equality of entries, as a test
abbrev same_entry : Entry → Entry → Bool
same_entry a b = same_flow a.flow b.flow && (eqb (state_value a.state) (state_value b.state) && eqb a.deadline b.deadline)

entry_self : (e : Entry) → same_entry e e ≡ true
entry_self e = grind (arith, nat_tests)

entry_true : (a b : Entry) → same_entry a b ≡ true → a ≡ b
entry_true a b h = grind (arith, nat_tests)

-- the tests of a look-up and of a count, in one order
turned : (s v b : Bool) → ◌≡◌ {A = ℕ} (cond ((s && v) && b) 1 0) (cond (v && (s && b)) 1 0)
turned s v b = grind (arith, nat_tests)

pub same_find : (t : ℕ) (f : Flow) (es fs : List Entry) → Same t es fs → count_by (λ e. same_flow e.flow f && live t e) es ≤ 1 → live_entry t f fs ≡ live_entry t f es
same_find t f es fs h once =
    first_alike (λ e. same_flow e.flow f && live t e) same_entry entry_self entry_true es fs (λ p. turn es p ∙ h (λ e. same_flow e.flow f && p e) ∙ sym (turn fs p)) once
  where
    turn : (gs : List Entry) (p : Entry → Bool) → count_by (λ e. (same_flow e.flow f && live t e) && p e) gs ≡ live_count t (λ e. same_flow e.flow f && p e) gs
    turn gs p = sum_agree (λ e. cond ((same_flow e.flow f && live t e) && p e) 1 0) (λ e. cond (live t e && (same_flow e.flow f && p e)) 1 0) gs
        (λ k d l. turned (same_flow (get_or gs k d).flow f) (live t (get_or gs k d)) (p (get_or gs k d)))

-- at most one is of a flow
both : (a b : Bool) → a && b ≡ true → a ≡ true
both true b e = refl
both false b e = e

module _ (t : ℕ) (f : Flow) where
  abbrev hit : Entry → Bool
  hit e = same_flow e.flow f && live t e

  once_by : (x : Entry) (xs : List Entry) → Apart (x ∷ xs) → (b : Bool) → hit x ≡ b → count_by hit xs ≤ 1 → count_by hit (x ∷ xs) ≤ 1
  once_by x xs asc true e ih =
      let r : x.flow ≡ f = same_equal x.flow f (both (same_flow x.flow f) (live t x) e) in
      let none = first_none hit xs (λ k d l.
      let a : same_flow (get_or xs k d).flow f ≡ false = apart_flows _ _ (λ z. asc 0 (suc k) d (omega arith) (omega arith) (r ∙ sym z)) in
      rw a) in
      omega (arith, count_step hit xs x true e, zero_from_none hit xs none)
  once_by x xs asc false e ih = omega (arith, count_step hit xs x false e)

  pub once : (es : List Entry) → Apart es → count_by hit es ≤ 1
  once [] asc = omega arith
  once (x ∷ xs) asc = once_by x xs asc (hit x) refl (once xs (λ i j d lo hi same. asc (suc i) (suc j) d (omega arith) (omega arith) same))
