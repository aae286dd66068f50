-- What follows for the list from an edit's answer.
use Rattle.std.proofs.Common.{◌≡◌, ℕ, ◌+◌, ◌-◌, ◌<◌, ◌≤◌, ◌&&◌, ltb, leb, List, length, Ok, Err, ◌∙◌, ⊎_elim}
use Rattle.std.specs.List.{insert, remove}
use Rattle.std.proofs.lemmas.Bool.{cases_Bool, cond-true, and_from, and_parts, le-leb, lt-ltb, leb-true, ltb-true}
use Rattle.fields.specs.declared.refusal.Refusal.{Refusal}
use Rattle.columns.specs.Edits.{insert_answer, insert_after, remove_answer, remove_after}

-- an accepted insertion
pub insert_ok : (p n : ℕ) → Ok tt ≡ insert_answer p n → (1 ≤ p) × (p ≤ n + 1) × (n < 512)
insert_ok p n e = ⊎_elim
    (λ a. ⊎_elim
    (λ b. let q = and_parts (leb 1 p) (leb p (n + 1)) a in (leb-true 1 p q.0, leb-true p (n + 1) q.1, ltb-true n 512 b))
    (λ b. cc)
    (cases_Bool (ltb n 512)))
    (λ a. cc)
    (cases_Bool (leb 1 p && leb p (n + 1)))

pub insert_after_ok : {K : Type 0} (p : ℕ) (c : K) (xs : List K) → 1 ≤ p → p ≤ length xs + 1 → length xs < 512 → insert_after p c xs ≡ insert xs (p - 1) c
insert_after_ok p c xs l h f =
    cond-true (leb 1 p && leb p (length xs + 1)) _ _ (and_from (leb 1 p) (leb p (length xs + 1)) (le-leb 1 p l) (le-leb p (length xs + 1) h))
    ∙ cond-true (ltb (length xs) 512) _ _ (lt-ltb (length xs) 512 f)

pub insert_after_err : {K : Type 0} (p : ℕ) (c : K) (xs : List K) (r : Refusal) → Err r ≡ insert_answer p (length xs) → insert_after p c xs ≡ xs
insert_after_err p c xs r e = ⊎_elim
    (λ a. ⊎_elim
    (λ b. cc)
    (λ b. cc)
    (cases_Bool (ltb (length xs) 512)))
    (λ a. cc)
    (cases_Bool (leb 1 p && leb p (length xs + 1)))

pub remove_ok : (p n : ℕ) → Ok tt ≡ remove_answer p n → (1 ≤ p) × (p ≤ n)
remove_ok p n e = ⊎_elim
    (λ a. let q = and_parts (leb 1 p) (leb p n) a in (leb-true 1 p q.0, leb-true p n q.1))
    (λ a. cc)
    (cases_Bool (leb 1 p && leb p n))

pub remove_after_ok : {K : Type 0} (p : ℕ) (xs : List K) → 1 ≤ p → p ≤ length xs → remove_after p xs ≡ remove xs (p - 1)
remove_after_ok p xs l h =
    cond-true (leb 1 p && leb p (length xs)) _ _ (and_from (leb 1 p) (leb p (length xs)) (le-leb 1 p l) (le-leb p (length xs) h))

pub remove_after_err : {K : Type 0} (p : ℕ) (xs : List K) (r : Refusal) → Err r ≡ remove_answer p (length xs) → remove_after p xs ≡ xs
remove_after_err p xs r e = ⊎_elim
    (λ a. cc)
    (λ a. cc)
    (cases_Bool (leb 1 p && leb p (length xs)))
