-- From the book's own list to any list of the same live entries.
use Rattle.std.proofs.Common.{◌≡◌, ℕ, ◌≤◌, Bool, true, false, cond, ◌&&◌, ltb, List, ◌∷◌, get_or, Some, None, MatchBool, Option, sym, ap, ◌∙◌, subst, arith}
use Rattle.std.proofs.lemmas.Bool.Decides.{nat_tests}
use Rattle.book.specs.declared.entry.Entry.{Entry}
use Rattle.book.specs.declared.entry.Side.TheVariants.{Opener, Other}
use Rattle.book.specs.declared.fit.Fit.{Fit}
use Rattle.book.specs.declared.answer.Answer.{Answer}
use Rattle.book.specs.declared.answer.Answer.TheVariants as answer
use Rattle.book.specs.declared.passage.Passage.{Passage}
use Rattle.book.specs.Places.{Apart}
use Rattle.book.specs.Steps.{erases, advanced}
use Rattle.book.specs.Live.{live, live_entries, Same, live_count, live_total, without}
use Rattle.book.specs.Passages.{fits_from, flow_from, flags_of, opens_new, opened_entry, from_side, fit_from, or_fit, fit_of, Settles, answer_for, entries_for}
use Rattle.book.proofs.Weigh.{sum_agree, sum_kept}
use Rattle.book.proofs.Edits.{same_without, same_cons}
use Rattle.book.proofs.Agree.{same_find, once}

lasting : (a b c : Bool) → (b ≡ true → a ≡ true) → ◌≡◌ {A = ℕ} (cond (b && c) 1 0) (cond (a && (b && c)) 1 0)
lasting a b c h = grind (arith, nat_tests)

live_before : (t u : ℕ) (e : Entry) → t ≤ u → live u e ≡ true → live t e ≡ true
live_before t u e l h = grind (arith, nat_tests)

-- lists that are the same stay so as the clock goes on
pub later : (t u : ℕ) (es fs : List Entry) → t ≤ u → Same t es fs → Same u es fs
later t u es fs l h p = turn es ∙ h (λ e. live u e && p e) ∙ sym (turn fs)
  where
    turn : (gs : List Entry) → live_count u p gs ≡ live_count t (λ e. live u e && p e) gs
    turn gs = sum_agree (λ e. cond (live u e && p e) 1 0) (λ e. cond (live t e && (live u e && p e)) 1 0) gs
        (λ k d b. lasting (live t (get_or gs k d)) (live u (get_or gs k d)) (p (get_or gs k d)) (live_before t u (get_or gs k d) l))

only_live : (a b : Bool) → ◌≡◌ {A = ℕ} (cond a (cond (a && b) 1 0) 0) (cond (a && b) 1 0)
only_live a b = grind (arith, nat_tests)

-- a model may forget what is no longer live
pub same_live : (t : ℕ) (es : List Entry) → Same t es (live_entries t es)
same_live t es p =
    sym (sum_kept (λ e. cond (live t e && p e) 1 0) (live t) es
    ∙ sum_agree (λ e. cond (live t e) (cond (live t e && p e) 1 0) 0) (λ e. cond (live t e && p e) 1 0) es (λ k d l. only_live (live t (get_or es k d)) (p (get_or es k d))))

module _ (p : Passage) (t : ℕ) (es m : List Entry) (same : Same t es m) where
  -- a packet fits the same entry
  pub fit_alike : Apart es → fit_of t p m ≡ fit_of t p es
  fit_alike asc =
      let a : fit_from t p m Opener ≡ fit_from t p es Opener = ap (λ o. cond (fits_from Opener p.kind) (from_side Opener o) None) (same_find t (flow_from p Opener) es m same (once t (flow_from p Opener) es asc)) in
      let b : fit_from t p m Other ≡ fit_from t p es Other = ap (λ o. cond (fits_from Other p.kind) (from_side Other o) None) (same_find t (flow_from p Other) es m same (once t (flow_from p Other) es asc)) in
      ap (λ o. or_fit o (fit_from t p m Other)) a ∙ ap (λ o. or_fit (fit_from t p es Opener) o) b

  module _ (fs : List Entry) (r : Answer) where
    abbrev Goal : Option Fit → Type 0
    Goal x = (r ≡ answer_for p t m x) × Same t fs (entries_for p t m x)

    fitted : (x : Fit) (b : Bool)
        → (r ≡ cond b answer.Erased answer.Renewed) × Same t fs (cond b (without (flow_from p x.side) es) (advanced x.entry x.side (flags_of p.kind) t ∷ without (flow_from p x.side) es))
        → (r ≡ cond b answer.Erased answer.Renewed) × Same t fs (cond b (without (flow_from p x.side) m) (advanced x.entry x.side (flags_of p.kind) t ∷ without (flow_from p x.side) m))
    fitted x true h = (h.0, λ q. h.1 q ∙ same_without t (flow_from p x.side) es m same q)
    fitted x false h = (h.0, λ q. h.1 q ∙ same_cons t (advanced x.entry x.side (flags_of p.kind) t) (without (flow_from p x.side) es) (without (flow_from p x.side) m) (same_without t (flow_from p x.side) es m same) q)

    kept : (k : Answer) → (r ≡ k) × Same t fs es → (r ≡ k) × Same t fs m
    kept k h = (h.0, λ q. h.1 q ∙ same q)

    opened : (b : Bool) → MatchBool b ((r ≡ answer.Created) × Same t fs (opened_entry p t ∷ without (flow_from p Opener) es)) ((r ≡ answer.BookFull) × Same t fs es)
        → (r ≡ cond b answer.Created answer.BookFull) × Same t fs (cond b (opened_entry p t ∷ without (flow_from p Opener) m) m)
    opened true h = (h.0, λ q. h.1 q ∙ same_cons t (opened_entry p t) (without (flow_from p Opener) es) (without (flow_from p Opener) m) (same_without t (flow_from p Opener) es m same) q)
    opened false h = kept answer.BookFull h

    total : live_total t es ≡ live_total t m
    total = same (λ _. true)

    unfit : (b : Bool) → MatchBool b (MatchBool (ltb (live_total t es) 1024) ((r ≡ answer.Created) × Same t fs (opened_entry p t ∷ without (flow_from p Opener) es)) ((r ≡ answer.BookFull) × Same t fs es)) ((r ≡ answer.Nothing) × Same t fs es)
        → (r ≡ cond b (cond (ltb (live_total t m) 1024) answer.Created answer.BookFull) answer.Nothing) × Same t fs (cond b (cond (ltb (live_total t m) 1024) (opened_entry p t ∷ without (flow_from p Opener) m) m) m)
    unfit true h =
        let W : ℕ → Type 0 = λ n. MatchBool (ltb n 1024) ((r ≡ answer.Created) × Same t fs (opened_entry p t ∷ without (flow_from p Opener) es)) ((r ≡ answer.BookFull) × Same t fs es) in
        opened (ltb (live_total t m) 1024) (subst W total h)
    unfit false h = kept answer.Nothing h

    by_fit : (x : Option Fit) → Settles p t es fs r x → Goal x
    by_fit (Some x) h = fitted x (erases (flags_of p.kind)) h
    by_fit None h = unfit (opens_new p.kind) h

    pub any_order : Apart es → Settles p t es fs r (fit_of t p es) → Goal (fit_of t p m)
    any_order asc h = subst Goal (sym (fit_alike asc)) (by_fit (fit_of t p es) h)
