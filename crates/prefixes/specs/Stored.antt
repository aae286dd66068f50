-- A stored set of strings: a list in strict order that starts with the empty string, and links back.
use Rattle.std.specs.Prelude.{◌≡◌, ℕ, ◌<◌, ◌≤◌, true, false, List, [], length, slice_index, slice_index_or}
use Rattle.fields.specs.Strings.{begins}
use Rattle.prefixes.specs.Strings.{ordered}

-- the string at a place
abbrev pub at : List (List ℕ) → ℕ → List ℕ
at ss i = slice_index_or ss i []

-- no string comes twice, each stands behind those before it in the alphabet, and the empty one is first
abbrev pub Ascending : List (List ℕ) → Type 0
Ascending ss = (0 < length ss) × (length (at ss 0) ≡ 0) × ((i j : ℕ) → i < j → j < length ss → ordered (at ss j) (at ss i) ≡ false)

-- each of the first n strings that begins the key stands at r or before it, and begins the one at r
abbrev pub Covers : List (List ℕ) → List ℕ → ℕ → ℕ → Type 0
Covers ss key n r = (j : ℕ) → j < n → begins (at ss j) key ≡ true → (j ≤ r) × (begins (at ss j) (at ss r) ≡ true)

-- the string at r is the longest of those before place i that begin the string there
abbrev pub Parent : List (List ℕ) → ℕ → ℕ → Type 0
Parent ss i r = (r < i) × Covers ss (at ss i) i r × (begins (at ss r) (at ss i) ≡ true)

-- each of the first n strings but the empty one has a link back to its parent
abbrev pub LinkedTo : List (List ℕ) → List ℕ → ℕ → Type 0
LinkedTo ss links n = (i : ℕ) → 0 < i → i < n → Parent ss i (slice_index links i)

-- the longest stored string that begins the key
pub record Longest (ss : List (List ℕ)) (key : List ℕ) (r : ℕ) : Type 0 where
  pub within : r < length ss
  pub front : begins (at ss r) key ≡ true
  pub covers : Covers ss key (length ss) r

-- a string that is not stored belongs between those before the place and those from it on
pub record Fits (ss : List (List ℕ)) (p : List ℕ) (m : ℕ) : Type 0 where
  pub above : 0 < m
  pub before : (i : ℕ) → i < m → ordered p (at ss i) ≡ false
  pub behind : (i : ℕ) → m ≤ i → i < length ss → ordered (at ss i) p ≡ false
