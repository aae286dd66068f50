-- What an edit leaves of the invariants of a book.
use Rattle.std.proofs.Common.{◌≡◌, ℕ, ◌+◌, ◌-◌, ◌<◌, ◌≤◌, ◌≢◌, List, [], ◌∷◌, ◌++◌, length, Option, get_or, set, sym, ◌∙◌, arith, length-set}
use Rattle.std.specs.List.{swap_remove}
use Rattle.std.proofs.lemmas.Grind.{common_steps}
use Rattle.std.proofs.lemmas.List.Elements.{All-weaker, All-set, All-push, All-take}
use Rattle.std.proofs.lemmas.List.Quantifiers.{all_pairs_push}
use Rattle.book.specs.declared.flow.Flow.{Flow}
use Rattle.book.specs.declared.entry.Entry.{Entry}
use Rattle.book.specs.declared.hash.Keys.{Keys}
use Rattle.book.specs.Places.{Apart, Held, Absent}
use Rattle.book.specs.Index.{Reached}
use Rattle.book.specs.Live.{NoneBefore}
use Rattle.book.proofs.Walk.{reached_at}

abbrev flow_at : List Entry → ℕ → Entry → Flow
flow_at es k d = (get_or es k d).flow

-- a write of the same flow
module _ (es : List Entry) (i : ℕ) (x : Entry) (held : Held es x.flow i) where
  flow_set : (k : ℕ) (d : Entry) → flow_at (set es i x) k d ≡ flow_at es k d
  flow_set k d = grind (arith, common_steps, held.0, held.1 d)

  pub apart_set : Apart es → Apart (set es i x)
  apart_set apart a b d lo hi same =
      apart a b d lo (omega (arith, hi, length-set es i x)) (sym (flow_set a d) ∙ same ∙ flow_set b d)

  pub reached_set : (key : Keys) (ss : List (Option ℕ)) (n : ℕ) → Reached key ss es n → Reached key ss (set es i x) n
  reached_set key ss n r k d l = reached_at key ss es (set es i x) k d (flow_set k d) (r k d l)

-- no deadline is before n, nor before an earlier m
module _ (n m : ℕ) (es : List Entry) (x : Entry) (waiting : NoneBefore n es) (low : m ≤ n) (here : m ≤ x.deadline) where
  earlier : NoneBefore m es
  earlier = All-weaker (λ (e : Entry). n ≤ e.deadline) (λ (e : Entry). m ≤ e.deadline) (λ e h. omega arith) es waiting

  pub none_before_set : (i : ℕ) → NoneBefore m (set es i x)
  none_before_set i = All-set (λ (e : Entry). m ≤ e.deadline) es i x here earlier

  pub none_before_pushed : NoneBefore m (es ++ x ∷ [])
  none_before_pushed = All-push (λ (e : Entry). m ≤ e.deadline) es x earlier here

-- one more of a new flow
pub apart_pushed : (es : List Entry) (x : Entry) → Apart es → Absent es x.flow → Apart (es ++ x ∷ [])
apart_pushed es x apart new = all_pairs_push (λ (a b : Entry). a.flow ≢ b.flow) es x apart new

-- one less, and the last in its place
pub none_before_swapped : (n : ℕ) (es : List Entry) (i : ℕ) (r : Entry) → i < length es → NoneBefore n es → NoneBefore n (swap_remove es i r)
none_before_swapped n es i r l waiting =
    let last : Entry = get_or es (length es - 1) r in
    All-take (λ (e : Entry). n ≤ e.deadline) (length es - 1) (set es i last) (All-set (λ (e : Entry). n ≤ e.deadline) es i last (waiting (length es - 1) r (omega arith)) waiting)

module _ (es fs : List Entry) (i : ℕ) (apart : Apart es) (len : length fs + 1 ≡ length es)
    (moved : (d : Entry) → i + 1 < length es → get_or fs i d ≡ get_or es (length es - 1) d)
    (kept : (k : ℕ) (d : Entry) → (k ≡ i → ⊥) → k + 1 < length es → get_or fs k d ≡ get_or es k d) where
  pub apart_swapped : Apart fs
  apart_swapped a b d lo hi same = grind (arith, moved d, kept a d, kept b d, apart a b d, apart a (length es - 1) d, apart b (length es - 1) d)
