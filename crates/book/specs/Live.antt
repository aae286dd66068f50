-- What a book holds: its live entries, in any order.
use Rattle.std.specs.Prelude.{◌≡◌, ℕ, ◌<◌, ◌≤◌, Bool, true, cond, not, ◌&&◌, List, ◌∷◌, length, All, Some, None, count_by, filter, find, Option, ◌==◌, nat_lt}
use Rattle.book.specs.declared.flow.End.{End}
use Rattle.book.specs.declared.flow.Flow.{Flow}
use Rattle.book.specs.declared.entry.Entry.{Entry}
use Rattle.book.specs.declared.entry.Side.{Side}
use Rattle.book.specs.declared.advance.Outcome.{Outcome}
use Rattle.book.specs.declared.advance.Outcome.TheVariants.{Renewed, Erased}
use Rattle.book.specs.Values.{protocol_value}
use Rattle.book.specs.Steps.{erases, advanced}

-- at the clock t
abbrev pub live : ℕ → Entry → Bool
live t e = nat_lt t e.deadline

abbrev pub same_end : End → End → Bool
same_end a b = a.address.bits == b.address.bits && a.port == b.port

abbrev pub same_flow : Flow → Flow → Bool
same_flow f g = protocol_value f.protocol == protocol_value g.protocol && (same_end f.opener g.opener && same_end f.other g.other)

-- the live entry of a flow
abbrev pub live_entry : ℕ → Flow → List Entry → Option Entry
live_entry t f es = find (λ e. same_flow e.flow f && live t e) es

-- how many live entries pass a test
abbrev pub live_count : ℕ → (Entry → Bool) → List Entry → ℕ
live_count t p es = count_by (λ e. live t e && p e) es

-- the same live entries in any order: every test passes equally many of both
abbrev pub Same : ℕ → List Entry → List Entry → Type 0
Same t es fs = (p : Entry → Bool) → live_count t p es ≡ live_count t p fs

-- the entries that are live, and no others
abbrev pub live_entries : ℕ → List Entry → List Entry
live_entries t es = filter (live t) es

-- the entries of other flows
abbrev pub without : Flow → List Entry → List Entry
without f es = filter (λ e. not (same_flow e.flow f)) es

abbrev pub AllLive : ℕ → List Entry → Type 0
AllLive t es = All (λ e. live t e ≡ true) es

-- no deadline is before n
abbrev pub NoneBefore : ℕ → List Entry → Type 0
NoneBefore n es = All (λ e. n ≤ e.deadline) es

-- how many entries are live
abbrev pub live_total : ℕ → List Entry → ℕ
live_total t es = live_count t (λ _. true) es

-- es becomes fs: as many as there is room for are live, and they stay
pub record Full (t : ℕ) (es fs : List Entry) : Type 0 where
  pub full : live_total t es ≡ 1024
  pub same : Same t fs es

-- es becomes fs: there is a place for one more, and the live entries stay
pub record RoomMade (t : ℕ) (es fs : List Entry) : Type 0 where
  pub fewer : live_total t es < 1024
  pub few : length fs < 1024
  pub same : Same t fs es

-- es becomes fs: e is recorded, in the place of what its flow had
pub record Created (t : ℕ) (e : Entry) (es fs : List Entry) : Type 0 where
  pub fewer : live_total t es < 1024
  pub same : Same t fs (e ∷ without e.flow es)

-- the entries after a packet that fits e, which is of the flow f
abbrev pub after_fit : Flow → Side → Option ℕ → ℕ → Entry → List Entry → List Entry
after_fit f side flags t e es = cond (erases flags) (without f es) (advanced e side flags t ∷ without f es)

-- es becomes fs, and the answer is r, when a packet of the flow f comes from the side
abbrev pub Fitted : Flow → Side → Option ℕ → ℕ → List Entry → List Entry → Option Outcome → Option Entry → Type 0
Fitted f side flags t es fs r None = (r ≡ None) × (fs ≡ es)
Fitted f side flags t es fs r (Some e) = (r ≡ Some (cond (erases flags) Erased Renewed)) × Same t fs (after_fit f side flags t e es)
