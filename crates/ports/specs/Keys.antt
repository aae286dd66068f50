-- Sorted keys, and where one stands among them.
use Rattle.std.specs.Prelude.{◌≡◌, ℕ, ◌<◌, ◌≤◌, Bool, List, length, Some, Option, Result, MatchResult, nat_eq, slice_index}
use Rattle.columns.specs.Somewhere.{some}
use Rattle.fields.specs.declared.values.port.Port.{Port}

-- whether a number is in the list
abbrev pub has : List ℕ → ℕ → Bool
has ks v = some (λ k. nat_eq k v) ks

-- a key that is not listed belongs between those before the place and those from it on
abbrev pub Fits : List ℕ → ℕ → ℕ → Type 0
Fits ks v i = (i ≤ length ks) × ((k : ℕ) → k < i → slice_index ks k < v) × ((k : ℕ) → i ≤ k → k < length ks → v < slice_index ks k)

-- the port at a place, as a value
abbrev pub port_at : List ℕ → ℕ → Option Port
port_at ks k = Some (record { number = slice_index ks k })

-- where a key stands, or where it belongs
abbrev pub Sought : List ℕ → ℕ → Result ℕ ℕ → Type 0
Sought ks v r = MatchResult r (λ i. (i < length ks) × (slice_index ks i ≡ v)) (Fits ks v)
