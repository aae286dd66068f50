-- The live entries after an edit of the list.
use Rattle.std.proofs.Common.{◌≡◌, ℕ, suc, ◌+◌, ◌<◌, ◌≤◌, Bool, true, false, cond, not, ◌&&◌, List, [], ◌∷◌, ◌++◌, length, get_or, set, sum_by, sym, refl, ◌∙◌, arith, lt-ltb}
use Rattle.std.specs.List.{swap_remove}
use Rattle.std.proofs.lemmas.List.Sums.{sum_by-cons, sum_by_push, sum_by-set, sum_by-swap_remove, count_by-le-length}
use Rattle.std.proofs.lemmas.Bool.Decides.{nat_tests}
use Rattle.book.specs.declared.flow.Flow.{Flow}
use Rattle.book.specs.declared.entry.Entry.{Entry}
use Rattle.book.specs.Places.{Apart, Held, Absent}
use Rattle.book.specs.Live.{same_flow, live, live_total, AllLive, NoneBefore, Same, without, RoomMade, Full}
use Rattle.book.proofs.Weigh.{sum_agree, sum_but_one, sum_kept}
use Rattle.book.proofs.Places.{off_held, off_absent, here_held}

-- one for a live entry that passes
abbrev weight : ℕ → (Entry → Bool) → Entry → ℕ
weight t p e = cond (live t e && p e) 1 0

-- the same, of other flows than f
abbrev other : Flow → ℕ → (Entry → Bool) → Entry → ℕ
other f t p e = cond (not (same_flow e.flow f)) (weight t p e) 0

module _ (t : ℕ) (es : List Entry) (f : Flow) (i : ℕ) where
  -- without the entry at i
  one_less : Apart es → Held es f i → (p : Entry → Bool) (d : Entry) → sum_by (weight t p) es ≡ sum_by (weight t p) (without f es) + weight t p (get_or es i d)
  one_less asc held p d =
      let b = sum_but_one (weight t p) (other f t p) es i d held.0 (λ k e l n. rw (off_held es f i asc held k e l n)) in
      let c : other f t p (get_or es i d) ≡ 0 = rw (here_held es f i held d) in
      omega (arith, b, c, sum_kept (weight t p) (λ e. not (same_flow e.flow f)) es)

  pub none_less : Absent es f → Same t es (without f es)
  none_less btw p =
      let b = sum_agree (weight t p) (other f t p) es (λ k e l. rw (off_absent es f i btw k e l)) in
      omega (arith, b, sum_kept (weight t p) (λ e. not (same_flow e.flow f)) es)

  pub same_set : (x : Entry) → Apart es → Held es f i → Same t (set es i x) (x ∷ without f es)
  same_set x asc held p =
      omega (arith, sum_by-set (weight t p) es i x x held.0, one_less asc held p x, sum_by-cons (weight t p) x (without f es))

  pub same_pushed : (x : Entry) → Absent es f → Same t (es ++ x ∷ []) (x ∷ without f es)
  same_pushed x btw p =
      omega (arith, sum_by_push (weight t p) es x, none_less btw p, sum_by-cons (weight t p) x (without f es))

  pub same_swapped : (r : Entry) → Apart es → Held es f i → Same t (swap_remove es i r) (without f es)
  same_swapped r asc held p = omega (arith, sum_by-swap_remove (weight t p) es i r held.0, one_less asc held p r)

module _ (t : ℕ) where
  -- an entry that is not live can go
  pub same_dead : (es : List Entry) (i : ℕ) (r : Entry) → i < length es → live t (get_or es i r) ≡ false → Same t (swap_remove es i r) es
  same_dead es i r l dead p =
      let none : weight t p (get_or es i r) ≡ 0 = rw dead in
      omega (arith, sum_by-swap_remove (weight t p) es i r l)

  pub all_live : (es : List Entry) → AllLive t es → live_total t es ≡ length es
  all_live [] f = refl
  all_live (x ∷ xs) f =
      let a : weight t (λ _. true) x ≡ 1 = (let v : live t x ≡ true = f 0 x (omega arith) in rw v) in
      let b = all_live xs (λ k d l. f (suc k) d (omega arith)) in
      omega (arith, sum_by-cons (weight t (λ _. true)) x xs)

  moved_test : (s a b : Bool) → ◌≡◌ {A = ℕ} (cond (not s) (cond (a && b) 1 0) 0) (cond (a && (b && not s)) 1 0)
  moved_test s a b = grind (arith, nat_tests)

  -- the entries of other flows, counted by a test
  count_without : (f : Flow) (es : List Entry) (p : Entry → Bool) → sum_by (weight t p) (without f es) ≡ sum_by (weight t (λ e. p e && not (same_flow e.flow f))) es
  count_without f es p =
      sum_kept (weight t p) (λ e. not (same_flow e.flow f)) es
      ∙ sum_agree (other f t p) (weight t (λ e. p e && not (same_flow e.flow f))) es
      (λ k d l. moved_test (same_flow (get_or es k d).flow f) (live t (get_or es k d)) (p (get_or es k d)))

  -- equal entries stay equal
  pub same_without : (f : Flow) (es fs : List Entry) → Same t es fs → Same t (without f es) (without f fs)
  same_without f es fs h p = count_without f es p ∙ h (λ e. p e && not (same_flow e.flow f)) ∙ sym (count_without f fs p)

  pub same_cons : (x : Entry) (es fs : List Entry) → Same t es fs → Same t (x ∷ es) (x ∷ fs)
  same_cons x es fs h p = omega (arith, sum_by-cons (weight t p) x es, sum_by-cons (weight t p) x fs, h p)

-- entries whose deadlines are all past the clock
pub live_past : (t n : ℕ) (es : List Entry) → t < n → NoneBefore n es → AllLive t es
live_past t n es l waiting k d w = let b : n ≤ (get_or es k d).deadline = waiting k d w in lt-ltb _ _ (omega arith)

pub has_room : (t : ℕ) (es fs : List Entry) → length fs < 1024 → Same t fs es → RoomMade t es fs
has_room t es fs few same = record {
  fewer = omega (arith, count_by-le-length (λ e. live t e && true) fs, few, same (λ _. true));
  few = few;
  same = same;
}

pub is_full : (t : ℕ) (es fs : List Entry) → length fs ≡ 1024 → Same t fs es → AllLive t fs → Full t es fs
is_full t es fs most same all = record { full = omega (arith, all_live t fs all, same (λ _. true), most); same = same }
