-- What the search for a string in a set answers: where it is stored, or else where it belongs.
use Rattle.std.specs.Prelude.{◌≡◌, ℕ, ◌<◌, ◌≤◌, List, length, Ok, Err, Result}
use Rattle.prefixes.specs.Stored.{at, Fits}

abbrev pub Placed : List (List ℕ) → List ℕ → Result ℕ ℕ → Type 0
Placed ss p (Ok i) = (i < length ss) × (at ss i ≡ p)
Placed ss p (Err i) = (i ≤ length ss) × Fits ss p i
