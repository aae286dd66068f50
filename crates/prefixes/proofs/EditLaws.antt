-- The order after one string more and one less.
use Rattle.std.proofs.Common.{◌≡◌, ℕ, suc, ◌+◌, ◌-◌, ◌<◌, ◌≤◌, false, ◌⊎◌, List, [], ◌∷◌, map, length, take, drop, ap, ◌∙◌, inl, inr, ⊎_elim, arith}
use Rattle.std.specs.List.{insert, remove}
use Rattle.std.proofs.lemmas.Bool.{cases_eq, cases_lt}
use Rattle.std.proofs.lemmas.List.{map-append, take-map, drop-map}
use Rattle.std.proofs.lemmas.List.Edits.{length-insert, get_or-insert_below, get_or-insert_at, get_or-insert_above, length-remove, get_or-remove_below, get_or-remove_above}
use Rattle.prefixes.specs.Strings.{ordered}
use Rattle.prefixes.specs.Stored.{at, Ascending, Fits}
use Rattle.prefixes.specs.StoredStrings.{string_of, strings}
use Rattle.prefixes.specs.declared.stored.Stored.{Stored}

pub map_inserted : {X Y : Type 0} (f : X → Y) (xs : List X) (i : ℕ) (x : X) → map f (insert xs i x) ≡ insert (map f xs) i (f x)
map_inserted f xs i x = rw (map-append f (take i xs) (x ∷ drop i xs), take-map f i xs, drop-map f i xs)

pub map_removed : {X Y : Type 0} (f : X → Y) (xs : List X) (i : ℕ) → map f (remove xs i) ≡ remove (map f xs) i
map_removed f xs i = rw (map-append f (take i xs) (drop (suc i) xs), take-map f i xs, drop-map f (suc i) xs)

-- where the string at a place of a longer list comes from
data From (ss : List (List ℕ)) (p : List ℕ) (m k : ℕ) : Type 0 where
  old_below : k < m → at (insert ss m p) k ≡ at ss k → From ss p m k
  new : k ≡ m → at (insert ss m p) k ≡ p → From ss p m k
  old_above : m < k → at (insert ss m p) k ≡ at ss (k - 1) → From ss p m k

from : (ss : List (List ℕ)) (p : List ℕ) (m k : ℕ) → m ≤ length ss → From ss p m k
from ss p m k h =
    ⊎_elim
    (λ lt. old_below lt (get_or-insert_below ss m p [] k lt h))
    (λ ge. ⊎_elim
    (λ e. new e (ap (at (insert ss m p)) e ∙ get_or-insert_at ss m p [] h))
    (λ ne. old_above (omega arith)
    (ap (at (insert ss m p)) (let e : k ≡ (k - 1) + 1 = omega arith in e) ∙ get_or-insert_above ss m p [] (k - 1) (omega arith) h))
    (cases_eq k m))
    (cases_lt k m)

pub ascending_inserted : (ss : List (List ℕ)) (p : List ℕ) (m : ℕ) → m ≤ length ss → Ascending ss → Fits ss p m → Ascending (insert ss m p)
ascending_inserted ss p m h a f =
    let n = length-insert ss m p h in (
      omega arith,
      ap length (get_or-insert_below ss m p [] 0 f.above h) ∙ a.1,
      λ i j l k. apart i j l (omega arith) (from ss p m i h) (from ss p m j h),
    )
  where
    apart : (i j : ℕ) → i < j → j < length ss + 1 → From ss p m i → From ss p m j → ordered (at (insert ss m p) j) (at (insert ss m p) i) ≡ false
    apart i j l k (old_below x u) (old_below y v) = rw (u, v) (a.2 i j l (omega arith))
    apart i j l k (old_below x u) (new y v) = rw (u, v) (f.before i x)
    apart i j l k (old_below x u) (old_above y v) = rw (u, v) (a.2 i (j - 1) (omega arith) (omega arith))
    apart i j l k (new x u) (old_below y v) = absurd (omega arith)
    apart i j l k (new x u) (new y v) = absurd (omega arith)
    apart i j l k (new x u) (old_above y v) = rw (u, v) (f.behind (j - 1) (omega arith) (omega arith))
    apart i j l k (old_above x u) (old_below y v) = absurd (omega arith)
    apart i j l k (old_above x u) (new y v) = absurd (omega arith)
    apart i j l k (old_above x u) (old_above y v) = rw (u, v) (a.2 (i - 1) (j - 1) (omega arith) (omega arith))

pub ascending_removed : (ss : List (List ℕ)) (m : ℕ) → 0 < m → m < length ss → Ascending ss → Ascending (remove ss m)
ascending_removed ss m pos h a =
    let n = length-remove ss m h in (
      omega arith,
      ap length (get_or-remove_below ss m [] 0 pos h) ∙ a.1,
      λ i j l k. apart i j l (omega arith) (cases_lt i m) (cases_lt j m),
    )
  where
    apart : (i j : ℕ) → i < j → j + 1 < length ss → (i < m) ⊎ (m ≤ i) → (j < m) ⊎ (m ≤ j) → ordered (at (remove ss m) j) (at (remove ss m) i) ≡ false
    apart i j l k (inl x) (inl y) = rw (get_or-remove_below ss m [] i x h, get_or-remove_below ss m [] j y h) (a.2 i j l (omega arith))
    apart i j l k (inl x) (inr y) = rw (get_or-remove_below ss m [] i x h, get_or-remove_above ss m [] j y h) (a.2 i (j + 1) (omega arith) k)
    apart i j l k (inr x) (inl y) = absurd (omega arith)
    apart i j l k (inr x) (inr y) = rw (get_or-remove_above ss m [] i x h, get_or-remove_above ss m [] j y h) (a.2 (i + 1) (j + 1) (omega arith) k)

pub strings_inserted : (xs ys : List Stored) (m : ℕ) (x : Stored) (p : List ℕ) → ys ≡ insert xs m x → string_of x ≡ p → strings ys ≡ insert (strings xs) m p
strings_inserted xs ys m x p e q = ap strings e ∙ map_inserted string_of xs m x ∙ ap (insert (strings xs) m) q

pub strings_removed : (xs ys : List Stored) (m : ℕ) → ys ≡ remove xs m → strings ys ≡ remove (strings xs) m
strings_removed xs ys m e = ap strings e ∙ map_removed string_of xs m
