-- What a look over the entries tells, entry by entry, and what is left of it as the dead ones go.
use Rattle.std.proofs.Common.{◌≡◌, ℕ, ◌+◌, ◌-◌, ◌<◌, ◌≤◌, ◌≢◌, List, length, get_or, slice_index, set, sym, ap, ◌∙◌, subst, ⊎_elim, arith, get_or-set_other, get_or-take}
use Rattle.std.specs.List.{swap_remove}
use Rattle.std.proofs.lemmas.Bool.{cases_eq}
use Rattle.std.proofs.lemmas.List.{get_or-set_same}
use Rattle.book.specs.declared.entry.Entry.{Entry}
use Rattle.book.specs.Sweeps.{LiveFrom, Told}

-- what holds below n and at n
below : (P : ℕ → Type 0) (n : ℕ) → ((k : ℕ) → k < n → P k) → P n → (k : ℕ) → k < n + 1 → P k
below P n low here k l = ⊎_elim (λ e. subst P (sym e) here) (λ ne. low k (omega arith)) (cases_eq k n)

module _ (t : ℕ) (es : List Entry) (size n : ℕ) (ns : List ℕ) (m : ℕ) (told : Told t es size n ns m) where
  -- a live entry more
  pub told_live : (p : ℕ) → p ≤ m → ((d : Entry) → LiveFrom t p (get_or es size d)) → Told t es (size + 1) n ns p
  told_live p less one = record {
    inside = λ j l. omega (arith, told.inside j l);
    rising = told.rising;
    dead = told.dead;
    live = λ k d l other. below (λ j. ((i : ℕ) → i < n → slice_index ns i ≢ j) → LiveFrom t p (get_or es j d)) size
        (λ j h o. let a = told.live j d h o in (a.0, omega (arith, a.1, less))) (λ o. one d) k l other;
  }

  -- a dead one more
  pub told_dead : n < length ns → ((d : Entry) → (get_or es size d).deadline ≤ t) → Told t es (size + 1) (n + 1) (set ns n size) m
  told_dead room one =
      let new : slice_index (set ns n size) n ≡ size = get_or-set_same ns n size 0 room in
      let old : (j : ℕ) → j < n → slice_index (set ns n size) j ≡ slice_index ns j = λ j l. get_or-set_other ns n j size 0 (λ e. omega arith) in
      record {
        inside = below (λ j. slice_index (set ns n size) j < size + 1) n (λ j l. omega (arith, old j l, told.inside j l)) (omega (arith, new));
        rising = λ i j a l. below (λ j. i < j → slice_index (set ns n size) i < slice_index (set ns n size) j) n
            (λ j l b. omega (arith, old i (omega arith), old j l, told.rising i j b l))
            (λ b. omega (arith, old i b, new, told.inside i b)) j l a;
        dead = λ j d l. below (λ j. (get_or es (slice_index (set ns n size) j) d).deadline ≤ t) n
            (λ j l. subst (λ (k : ℕ). (get_or es k d).deadline ≤ t) (sym (old j l)) (told.dead j d l))
            (subst (λ (k : ℕ). (get_or es k d).deadline ≤ t) (sym new) (one d)) j l;
        live = λ k d l other. below (λ k. ((i : ℕ) → i < n + 1 → slice_index (set ns n size) i ≢ k) → LiveFrom t m (get_or es k d)) size
            (λ k h o. told.live k d h (λ i a e. o i (omega arith) (old i a ∙ e)))
            (λ o. absurd (o n (omega arith) new)) k l other;
      }

-- the entry with the last of the numbers goes, and the last entry takes its place
module _ (t : ℕ) (es fs : List Entry) (n : ℕ) (ns : List ℕ) (m : ℕ) (r : Entry) (told : Told t es (length es) (n + 1) ns m)
    (is : fs ≡ swap_remove es (slice_index ns n) r) (len : length fs + 1 ≡ length es) where
  abbrev gap : ℕ
  gap = slice_index ns n

  abbrev last : Entry
  last = get_or es (length es - 1) r

  at : (k : ℕ) (d : Entry) → k < length fs → get_or fs k d ≡ get_or (set es gap last) k d
  at k d l = ap (λ xs. get_or xs k d) is ∙ get_or-take (length es - 1) (set es gap last) k d (omega arith)

  kept : (k : ℕ) (d : Entry) → k < length fs → k ≢ gap → get_or fs k d ≡ get_or es k d
  kept k d l ne = at k d l ∙ get_or-set_other es gap k last d ne

  before : (j : ℕ) → j < n → slice_index ns j < gap
  before j l = told.rising j n l (omega arith)

  pub told_less : Told t fs (length fs) n ns m
  told_less = record {
    inside = λ j l. omega (arith, before j l, told.inside n (omega arith), len);
    rising = λ i j a l. told.rising i j a (omega arith);
    dead = λ j d l. subst (λ (e : Entry). e.deadline ≤ t)
        (sym (kept (slice_index ns j) d (omega (arith, before j l, told.inside n (omega arith), len)) (λ e. omega (arith, before j l, e))))
        (told.dead j d (omega arith));
    live = λ k d l other. ⊎_elim
        (λ e. subst (LiveFrom t m) (sym (at k d l ∙ ap (λ (j : ℕ). get_or (set es gap last) j d) e ∙ get_or-set_same es gap last d (omega (arith, e, l, len))))
        (told.live (length es - 1) r (omega (arith, len)) (λ j h o. below (λ j. slice_index ns j ≢ length es - 1) n (λ j h o. omega (arith, before j h, o, e, l, len)) (λ o. omega (arith, o, e, l, len)) j h o)))
        (λ ne. subst (LiveFrom t m) (sym (kept k d l ne)) (told.live k d (omega (arith, len)) (below (λ j. slice_index ns j ≢ k) n other (λ o. ne (sym o)))))
        (cases_eq k gap);
  }
