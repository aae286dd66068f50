-- A packet that fits an entry, in terms of the entry's place.
use Rattle.std.proofs.Common.{◌≡◌, ℕ, Bool, true, false, cond, List, ◌∷◌, get_or, set, Some, None, Option, sym, refl, ap, ◌∙◌, subst}
use Rattle.std.specs.Bool.{then_some}
use Rattle.std.specs.List.{swap_remove}
use Rattle.std.proofs.lemmas.List.{set-get_or}
use Rattle.book.specs.declared.flow.Flow.{Flow}
use Rattle.book.specs.declared.entry.Entry.{Entry}
use Rattle.book.specs.declared.entry.Side.{Side}
use Rattle.book.specs.declared.advance.Outcome.TheVariants.{Renewed, Erased}
use Rattle.book.specs.Places.{Apart, Held, Absent}
use Rattle.book.specs.Steps.{erases, advanced}
use Rattle.book.specs.Live.{live, live_entry, without, Same, Fitted}
use Rattle.book.proofs.Places.{found_held, found_none}
use Rattle.book.proofs.Edits.{same_set, same_swapped}

pub renewed_keeps : (b : Bool) → Renewed ≡ cond b Erased Renewed → b ≡ false
renewed_keeps true e = absurd cc
renewed_keeps false e = refl

pub erased_ends : (b : Bool) → Erased ≡ cond b Erased Renewed → b ≡ true
erased_ends true e = refl
erased_ends false e = absurd cc

module _ (f : Flow) (side : Side) (flags : Option ℕ) (t : ℕ) (es : List Entry) (i : ℕ) where
  pub fit_none : Absent es f → Fitted f side flags t es es None (live_entry t f es)
  fit_none b =
      let P : Option Entry → Type 0 = λ o. Fitted f side flags t es es None o in
      subst P (sym (found_none es f i t b)) (refl, refl)

  module _ (asc : Apart es) (held : Held es f i) (y : Entry) (at : y ≡ get_or es i y) where
    there : (b : Bool) → live t y ≡ b → live_entry t f es ≡ then_some b y
    there b v = found_held es f i t asc held y at ∙ ap (λ w. then_some w y) v

    pub fit_dead : live t y ≡ false → Fitted f side flags t es es None (live_entry t f es)
    fit_dead v =
        let P : Option Entry → Type 0 = λ o. Fitted f side flags t es es None o in
        subst P (sym (there false v)) (refl, refl)

    pub fit_renewed : (z : Entry) → live t y ≡ true → erases flags ≡ false → z ≡ advanced y side flags t → Fitted f side flags t es (set es i z) (Some Renewed) (live_entry t f es)
    fit_renewed z v stays e =
        let P : Option Entry → Type 0 = λ o. Fitted f side flags t es (set es i z) (Some Renewed) o in
        let Q : Bool → Type 0 = λ b. (Some Renewed ≡ Some (cond b Erased Renewed)) × Same t (set es i z) (cond b (without f es) (advanced y side flags t ∷ without f es)) in
        let R : Entry → Type 0 = λ w. Same t (set es i z) (w ∷ without f es) in
        subst P (sym (there true v)) (subst Q (sym stays) (refl, subst R e (same_set t es f i z asc held)))

    pub fit_erased : (z r : Entry) → live t y ≡ true → erases flags ≡ true → z ≡ y → Fitted f side flags t es (swap_remove (set es i z) i r) (Some Erased) (live_entry t f es)
    fit_erased z r v ends e =
        let same : set es i z ≡ es = ap (set es i) (e ∙ at) ∙ set-get_or es i y in
        let P : Option Entry → Type 0 = λ o. Fitted f side flags t es (swap_remove (set es i z) i r) (Some Erased) o in
        let Q : Bool → Type 0 = λ b. (Some Erased ≡ Some (cond b Erased Renewed)) × Same t (swap_remove (set es i z) i r) (cond b (without f es) (advanced y side flags t ∷ without f es)) in
        let R : List Entry → Type 0 = λ xs. Same t (swap_remove xs i r) (without f es) in
        subst P (sym (there true v)) (subst Q (sym ends) (refl, subst R (sym same) (same_swapped t es f i r asc held)))
