-- What a look over the entries tells before a sweep.
use Rattle.std.specs.Prelude.{ℕ, ◌<◌, ◌≤◌, List, ◌≢◌, slice_index, slice_index_or}
use Rattle.book.specs.declared.entry.Entry.{Entry}

-- live at t, with no deadline before m
abbrev pub LiveFrom : ℕ → ℕ → Entry → Type 0
LiveFrom t m e = (t < e.deadline) × (m ≤ e.deadline)

-- Of the first `size` entries the n dead ones at the clock t have the numbers ns, which rise; none of the live ones ends before m.
pub record Told (t : ℕ) (es : List Entry) (size n : ℕ) (ns : List ℕ) (m : ℕ) : Type 0 where
  pub inside : (j : ℕ) → j < n → slice_index ns j < size
  pub rising : (i j : ℕ) → i < j → j < n → slice_index ns i < slice_index ns j
  pub dead : (j : ℕ) (d : Entry) → j < n → (slice_index_or es (slice_index ns j) d).deadline ≤ t
  pub live : (k : ℕ) (d : Entry) → k < size → ((j : ℕ) → j < n → slice_index ns j ≢ k) → LiveFrom t m (slice_index_or es k d)
