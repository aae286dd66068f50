-- What the place of a flow says of the flow's live entry.
use Rattle.std.proofs.Common.{◌≡◌, ℕ, ◌<◌, Bool, true, false, ◌&&◌, List, length, get_or, Some, None, sym, refl, ap, ◌∙◌, subst, arith}
use Rattle.std.specs.Bool.{then_some}
use Rattle.std.proofs.lemmas.Bool.Decides.{nat_tests}
use Rattle.std.proofs.lemmas.List.{get_or_default}
use Rattle.book.specs.declared.flow.Flow.{Flow}
use Rattle.book.specs.declared.entry.Entry.{Entry}
use Rattle.book.specs.Places.{Apart, Held, Absent}
use Rattle.book.specs.Live.{same_flow, live, live_entry}
use Rattle.book.proofs.Flows.{same_from, apart_flows}
use Rattle.book.proofs.Weigh.{first_none, first_at}

module _ (es : List Entry) (f : Flow) (i : ℕ) where
  -- where f stands at i, no other entry is of f
  pub off_held : Apart es → Held es f i → (k : ℕ) (d : Entry) → k < length es → (k ≡ i → ⊥) → same_flow (get_or es k d).flow f ≡ false
  off_held apart held k d l ne = grind (arith, nat_tests, apart_flows, held.0, held.1 d, apart k i d, apart i k d)

  -- where f stands nowhere, no entry is
  pub off_absent : Absent es f → (k : ℕ) (d : Entry) → k < length es → same_flow (get_or es k d).flow f ≡ false
  off_absent b k d l = apart_flows _ _ (b k d l)

  pub here_held : Held es f i → (d : Entry) → same_flow (get_or es i d).flow f ≡ true
  here_held held d = same_from _ _ (held.1 d)

  module _ (t : ℕ) where
    found_live : Apart es → Held es f i → (d : Entry) → live t (get_or es i d) ≡ true → live_entry t f es ≡ Some (get_or es i d)
    found_live asc held d v =
        first_at (λ e. same_flow e.flow f && live t e) es i d held.0 (rw (here_held held d) v)
        (λ k h. let l : k < length es = omega (arith, held.0) in rw (off_held asc held k d l (λ z. omega arith)))

    found_dead : Apart es → Held es f i → ((d : Entry) → live t (get_or es i d) ≡ false) → live_entry t f es ≡ None
    found_dead asc held v = first_none (λ e. same_flow e.flow f && live t e) es (λ k d l. missed k d l)
      where
        missed : (k : ℕ) (d : Entry) → k < length es → (same_flow (get_or es k d).flow f && live t (get_or es k d)) ≡ false
        missed k d l = grind (arith, nat_tests, v d, off_held asc held k d l)

    -- the entry at the flow's place, where it is live
    pub found_held : Apart es → Held es f i → (x : Entry) → x ≡ get_or es i x → live_entry t f es ≡ then_some (live t x) x
    found_held asc held x at = by (live t x) refl
      where
        by : (b : Bool) → live t x ≡ b → live_entry t f es ≡ then_some b x
        by true v = let w : live t (get_or es i x) ≡ true = (let P : Entry → Type 0 = λ e. live t e ≡ true in subst P at v) in found_live asc held x w ∙ ap Some (sym at)
        by false v = found_dead asc held (λ d. let P : Entry → Type 0 = λ e. live t e ≡ false in subst P (at ∙ get_or_default es i x d held.0) v)

    pub found_none : Absent es f → live_entry t f es ≡ None
    found_none b = first_none (λ e. same_flow e.flow f && live t e) es (λ k d l. rw (off_absent b k d l))
