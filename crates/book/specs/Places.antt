-- Where the entry of a flow stands.
use Rattle.std.specs.Prelude.{◌≡◌, ℕ, ◌<◌, List, length, ◌≢◌, All, AllPairs, slice_index_or}
use Rattle.book.specs.declared.flow.Flow.{Flow}
use Rattle.book.specs.declared.entry.Entry.{Entry}

-- each flow once
abbrev pub Apart : List Entry → Type 0
Apart es = AllPairs (λ x y. x.flow ≢ y.flow) es

-- the entry of f stands at i
abbrev pub Held : List Entry → Flow → ℕ → Type 0
Held es f i = (i < length es) × ((d : Entry) → (slice_index_or es i d).flow ≡ f)

-- f has no entry
abbrev pub Absent : List Entry → Flow → Type 0
Absent es f = All (λ e. e.flow ≢ f) es
