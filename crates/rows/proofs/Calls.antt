-- What `array::from_fn` leaves, where each of its calls leaves the closure as it was.
use Rattle.std.proofs.Common.{ℕ, zero, suc, ◌+◌, ◌<◌, ◌≤◌, List, get_or, subst, sym, ⊎_elim, arith}
use Rattle.std.proofs.lemmas.Bool.{cases_eq}
use Rattle.std.specs.Array.{IsFromFnResult, IsFromFnResultFrom}
use denote.Param.Members.{Mut, Called}

module _ {F B : Type 0} (g : Mut F (ℕ × Unit {0}) B) (I : F → Type 0) (R : ℕ → B → Type 0)
    (call : (p q : F) (i : ℕ) (y : B) → I p → Called g p (i, tt) y q → R i y × I q) where
  made_from : (f : F) (ys : List B) (i n : ℕ) → I f → IsFromFnResultFrom g f ys i n → (k : ℕ) (d : B) → i ≤ k → k < i + n → R k (get_or ys k d)
  made_from f ys i zero own made k d l h = absurd (omega arith)
  made_from f ys i (suc n) own (q, y, at, called, made) k d l h =
      let one = call f q i y own called in
      ⊎_elim
      (λ e. subst (λ (j : ℕ). R j (get_or ys j d)) (sym e) (subst (R i) (sym (at.1 d)) one.0))
      (λ e. made_from q ys (i + 1) n one.1 made k d (omega arith) (omega arith))
      (cases_eq k i)

  -- R of each index and the element there, where I holds of the closure before and after each call
  pub made : {f : F} {ys : List B} {n : ℕ} → IsFromFnResult g f ys n → I f → (k : ℕ) (d : B) → k < n → R k (get_or ys k d)
  made {f} {ys} {n} m own k d h = made_from f ys 0 n own m.each k d (omega arith) (omega arith)
