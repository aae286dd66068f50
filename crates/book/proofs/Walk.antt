-- Walks through the slots of an index.
use Rattle.std.proofs.Common.{◌≡◌, ℕ, zero, suc, ◌+◌, ◌-◌, ◌%◌, ◌<◌, cond, ◌≢◌, ◌⊎◌, List, [], ◌∷◌, length, get_or, replicate, Option, Some, None, is_none, sym, refl, ap, ◌∙◌, subst, inl, inr, eq-or-lt_of_le, arith}
use Rattle.std.proofs.lemmas.List.Sums.{sum_by-cons}
use Rattle.std.proofs.lemmas.List.{get_or_default}
use Rattle.std.proofs.lemmas.Bool.Decides.{leb_tells}
use Rattle.book.specs.declared.flow.Flow.{Flow}
use Rattle.book.specs.declared.entry.Entry.{Entry}
use Rattle.book.specs.declared.hash.Keys.{Keys}
use Rattle.book.specs.Home.{home}
use Rattle.book.specs.Index.{spot, slot_at, frees, Taken, Met, Reached, Kept, Linked}

pub three : (k i : ℕ) → (k < i) ⊎ ((k ≡ i) ⊎ (i < k))
three k i = elim (leb_tells k i) [
  | inl h ↦ elim (eq-or-lt_of_le h.1) [ inl e ↦ inr (inl e) | inr l ↦ inl l ]
  | inr h ↦ inr (inr h.1)
]

-- a walk goes on as before where the taken slots stay
pub met_kept : (ss ts : List (Option ℕ)) (h n : ℕ) → Kept ss ts → Met ss h n → Met ts h n
met_kept ss ts h n kept m = record {
  far = m.far;
  within = m.within;
  here = kept (spot h m.far) (λ z. let e = m.here in absurd cc) ∙ m.here;
  taken = λ k l z. m.taken k l (sym (kept (spot h k) (m.taken k l)) ∙ z);
}

-- where every slot is taken, none is free
taken_weight : (s : Option ℕ) → s ≢ None → ◌≡◌ {A = ℕ} (cond (is_none s) 1 0) 0
taken_weight None f = absurd (f refl)
taken_weight (Some n) f = refl

pub no_frees : (ss : List (Option ℕ)) → ((p : ℕ) → p < length ss → slot_at ss p ≢ None) → frees ss ≡ 0
no_frees [] f = refl
no_frees (s ∷ ss) f =
    let b : frees ss ≡ 0 = no_frees ss (λ p l. f (suc p) (omega arith)) in
    omega (arith, sum_by-cons (λ x. cond (is_none x) 1 0) s ss, taken_weight s (f 0 (omega arith)))

-- a walk over all slots meets each
back : (h p : ℕ) → h < 4096 → p < 4096 → (h + (p + 4096 - h) % 4096) % 4096 ≡ p
back h p a b = omega arith

pub all_taken : (ss : List (Option ℕ)) (h : ℕ) → length ss ≡ 4096 → h < 4096 → Taken ss h 4096 → frees ss ≡ 0
all_taken ss h long w taken = no_frees ss (λ p l.
    let e : spot h ((p + 4096 - h) % 4096) ≡ p = back h p w (omega arith) in
    let P : ℕ → Type 0 = λ q. slot_at ss q ≢ None in
    subst P e (taken ((p + 4096 - h) % 4096) (omega arith)))

-- once the i-th flow is linked, all are reached of which only the i-th was not
pub reached_linked : (key : Keys) (ss ts : List (Option ℕ)) (ks : List Entry) (i m : ℕ) (x : Entry) → Linked ss ts (home key (get_or ks i x).flow) i → i < length ks
    → ((k : ℕ) (d : Entry) → k < m → (k ≡ i → ⊥) → (Met ss (home key (get_or ks k d).flow) k → ⊥) → ⊥) → Reached key ts ks m
reached_linked key ss ts ks i m x lk w but k d l miss =
    let old : (k ≡ i → ⊥) → ⊥ = (λ ne. but k d l ne (λ q. miss (met_kept ss ts _ k lk.kept q))) in
    old (λ z.
    let f : (get_or ks i x).flow ≡ (get_or ks k d).flow = ap (λ (y : Entry). y.flow) (get_or_default ks i x d w) ∙ ap (λ j. (get_or ks j d).flow) (sym z) in
    let P : ℕ → Type 0 = λ j. Met ts (home key (get_or ks i x).flow) j in
    let Q : Flow → Type 0 = λ g. Met ts (home key g) k in
    miss (subst Q f (subst P (sym z) lk.met)))

-- slots that are all free
pub frees_replicate : (n : ℕ) → frees (replicate n None) ≡ n
frees_replicate zero = refl
frees_replicate (suc n) =
    omega (arith, sum_by-cons (λ x. cond (is_none {T = ℕ} x) 1 0) None (replicate n None), frees_replicate n)

-- flows that stand where they stood stay reached
pub reached_at : (key : Keys) (ss : List (Option ℕ)) (ks js : List Entry) (k : ℕ) (d : Entry) → (get_or js k d).flow ≡ (get_or ks k d).flow
    → ((Met ss (home key (get_or ks k d).flow) k → ⊥) → ⊥) → (Met ss (home key (get_or js k d).flow) k → ⊥) → ⊥
reached_at key ss ks js k d e = let P : Flow → Type 0 = λ x. (Met ss (home key x) k → ⊥) → ⊥ in subst P (sym e)
