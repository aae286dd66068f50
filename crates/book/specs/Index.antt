-- The index: slots that are free or hold the number of an entry.
use Rattle.std.specs.Prelude.{◌≡◌, ℕ, ◌+◌, ◌%◌, ◌<◌, List, length, count_by, ◌≢◌, Option, Some, None, is_none, slice_index_or}
use Rattle.book.specs.declared.flow.Flow.{Flow}
use Rattle.book.specs.declared.entry.Entry.{Entry}
use Rattle.book.specs.declared.hash.Keys.{Keys}
use Rattle.book.specs.Home.{home}

-- the j-th slot of a walk that begins at h
abbrev pub spot : ℕ → ℕ → ℕ
spot h j = (h + j) % 4096

-- what the slot p holds
abbrev pub slot_at : List (Option ℕ) → ℕ → Option ℕ
slot_at ss p = slice_index_or ss p None

-- how many slots are free
abbrev pub frees : List (Option ℕ) → ℕ
frees ss = count_by (λ s. is_none s) ss

-- the first j slots of the walk from h are taken
abbrev pub Taken : List (Option ℕ) → ℕ → ℕ → Type 0
Taken ss h j = (k : ℕ) → k < j → slot_at ss (spot h k) ≢ None

-- the walk from h meets the number n before a free slot
pub record Met (ss : List (Option ℕ)) (h n : ℕ) : Type 0 where
  pub far : ℕ
  pub within : far < 4096
  pub here : slot_at ss (spot h far) ≡ Some n
  pub taken : Taken ss h far

-- the walk of each of the first n entries meets its number
abbrev pub Reached : Keys → List (Option ℕ) → List Entry → ℕ → Type 0
Reached key ss es n = (k : ℕ) (d : Entry) → k < n → (Met ss (home key (slice_index_or es k d).flow) k → ⊥) → ⊥

-- the same of all entries but the i-th
abbrev pub ReachedBut : Keys → List (Option ℕ) → List Entry → ℕ → Type 0
ReachedBut key ss es i = (k : ℕ) (d : Entry) → k < length es → (k ≢ i) → (Met ss (home key (slice_index_or es k d).flow) k → ⊥) → ⊥

-- what was taken stays as it was
abbrev pub Kept : List (Option ℕ) → List (Option ℕ) → Type 0
Kept ss ts = (p : ℕ) → slot_at ss p ≢ None → slot_at ts p ≡ slot_at ss p

-- ss becomes ts: the number n is written for the walk from h
pub record Linked (ss ts : List (Option ℕ)) (h n : ℕ) : Type 0 where
  pub met : Met ts h n
  pub kept : Kept ss ts

-- the slot r is the first free one of the walk from h
pub record FreeAt (ss : List (Option ℕ)) (h r : ℕ) : Type 0 where
  pub far : ℕ
  pub within : far < 4096
  pub at : r ≡ spot h far
  pub empty : slot_at ss r ≡ None
  pub taken : Taken ss h far

-- a slot that holds s does not lead to the flow
abbrev pub Other : List Entry → Flow → Option ℕ → Type 0
Other es q s = (n : ℕ) (d : Entry) → s ≡ Some n → n < length es → (slice_index_or es n d).flow ≢ q
