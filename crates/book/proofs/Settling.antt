-- From the step on one flow to the settling of a packet.
use Rattle.std.proofs.Common.{◌≡◌, ℕ, Bool, true, false, cond, List, Some, None, Option, sym, refl, ap, ◌∙◌, subst}
use Rattle.book.specs.declared.entry.Entry.{Entry}
use Rattle.book.specs.declared.entry.Side.{Side}
use Rattle.book.specs.declared.entry.Side.TheVariants.{Opener, Other}
use Rattle.book.specs.declared.advance.Outcome.{Outcome}
use Rattle.book.specs.declared.advance.Outcome.TheVariants as outcome
use Rattle.book.specs.declared.answer.Answer.TheVariants as answer
use Rattle.book.specs.declared.fit.Fit.{Fit}
use Rattle.book.specs.declared.passage.Passage.{Passage}
use Rattle.book.specs.Steps.{erases}
use Rattle.book.specs.Live.{live_entry, Fitted}
use Rattle.book.specs.Passages.{answer_of, fits_from, flow_from, flags_of, from_side, fit_from, or_fit, fit_of, Settles}

-- what fits from a side is a live entry, of that side
from_pass : (b : Bool) (s : Side) (o : Option Entry) (x : Fit) → cond b (from_side s o) None ≡ Some x → (s ≡ x.side) × (o ≡ Some x.entry)
from_pass true s (Some e) x h =
    let k : record { entry = e; side = s } ≡ x = cc in (ap (λ (y : Fit). y.side) k, ap (λ (y : Fit). Some y.entry) k)
from_pass true s None x h = absurd cc
from_pass false s o x h = absurd cc

module _ (t : ℕ) (p : Passage) (es : List Entry) where
  side_there : (s : Side) (x : Fit) → fit_from t p es s ≡ Some x → live_entry t (flow_from p x.side) es ≡ Some x.entry
  side_there s x h =
      let r = from_pass (fits_from s p.kind) s (live_entry t (flow_from p s) es) x h in
      let P : Side → Type 0 = λ d. live_entry t (flow_from p d) es ≡ Some x.entry in
      subst P r.0 r.1

  there_by : (a b : Option Fit) → fit_from t p es Opener ≡ a → fit_from t p es Other ≡ b → (x : Fit) → or_fit a b ≡ Some x → live_entry t (flow_from p x.side) es ≡ Some x.entry
  there_by (Some y) b ha hb x h = side_there Opener x (ha ∙ h)
  there_by None b ha hb x h = side_there Other x (hb ∙ h)

  -- a packet fits the live entry of its flow
  there : (x : Fit) → fit_of t p es ≡ Some x → live_entry t (flow_from p x.side) es ≡ Some x.entry
  there x h = there_by (fit_from t p es Opener) (fit_from t p es Other) refl refl x h

  answered : (b : Bool) → answer_of (cond b outcome.Erased outcome.Renewed) ≡ cond b answer.Erased answer.Renewed
  answered true = refl
  answered false = refl

  pub settles : (fs : List Entry) (x : Fit) (o : Outcome) → Some x ≡ fit_of t p es
      → Fitted (flow_from p x.side) x.side (flags_of p.kind) t es fs (Some o) (live_entry t (flow_from p x.side) es) → Settles p t es fs (answer_of o) (fit_of t p es)
  settles fs x o h fit =
      let P : Option Entry → Type 0 = λ e. Fitted (flow_from p x.side) x.side (flags_of p.kind) t es fs (Some o) e in
      let Q : Option Fit → Type 0 = λ y. Settles p t es fs (answer_of o) y in
      let at = subst P (there x (sym h)) fit in
      let k : o ≡ cond (erases (flags_of p.kind)) outcome.Erased outcome.Renewed = (let e = at.0 in cc) in
      subst Q h (ap answer_of k ∙ answered (erases (flags_of p.kind)), at.1)
