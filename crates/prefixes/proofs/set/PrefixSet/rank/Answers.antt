use Rattle.std.proofs.Common.{◌≡◌, ℕ, ◌+◌, ◌-◌, ◌/◌, ◌<◌, ◌≤◌, true, false, List, length, vec_items, sym, ap, ◌∙◌, subst, arith}
use Rattle.prefixes.specs.Strings.{ordered, common}
use Rattle.prefixes.specs.Stored.{at}
use Rattle.prefixes.specs.Spelled.{spelled}
use Rattle.prefixes.specs.StoredStrings.{strings}
use Rattle.prefixes.proofs.StoredLaws.{low_more, high_more, tested_at, read_at, window, length_strings}
use Rattle.prefixes.proofs.set.PrefixSet.rank.Goals as goal

pub shared-at-requires : goal.shared-at-requires
shared-at-requires c =
    let set = c.args.self.now in
    let xs = vec_items set.stored in
    let m : ℕ = c.loop-low.low + (c.loop-low.high - c.loop-low.low) / 2 in
    let n = length_strings xs in
    let h : m < length xs = omega arith in
    let inv = c.loop-low.invariant in
    let e : c.as_slice-string.result.now ≡ at (strings xs) m = c.as_slice-string.ensures ∙ read_at xs m c.index.result.now h c.index.ensures in
    subst (λ (k : List ℕ). c.min.result ≤ common c.as_slice-string.result.now k) (sym c.as_slice-symbols.ensures)
    (subst (λ (s : List ℕ). c.min.result ≤ common s (spelled c.args.key.now)) (sym e)
    (window (strings xs) (spelled c.args.key.now) c.loop-low.low c.loop-low.high m c.loop-low.below c.loop-low.above c.min.result set.ascending
    inv.0.0 (omega arith) (omega arith) (omega arith) inv.3 inv.4.0 inv.4.1 (omega arith) (omega arith)))

pub loop-low-preserved-then-precedes : goal.loop-low-preserved-then-precedes
loop-low-preserved-then-precedes c =
    let set = c.args.self.now in
    let xs = vec_items set.stored in
    let m : ℕ = c.loop-low.low + (c.loop-low.high - c.loop-low.low) / 2 in
    let n = length_strings xs in
    let h : m < length xs = omega arith in
    let inv = c.loop-low.invariant in
    let e : c.as_slice-string.result.now ≡ at (strings xs) m = c.as_slice-string.ensures ∙ read_at xs m c.index.result.now h c.index.ensures in
    let t = tested_at (λ s. ordered s (spelled c.args.key.now)) xs m c.index.result.now c.as_slice-string.result.now true h c.index.ensures c.as_slice-string.ensures
    (c.if-precedes.ensures ∙ ap (ordered c.as_slice-string.result.now) c.as_slice-symbols.ensures) in
    let b : c.shared-at.result ≡ common (at (strings xs) (m + 1 - 1)) (spelled c.args.key.now) =
    c.shared-at.ensures ∙ ap (common c.as_slice-string.result.now) c.as_slice-symbols.ensures ∙ ap (λ (s : List ℕ). common s (spelled c.args.key.now)) (e ∙ ap (at (strings xs)) (let q : m ≡ m + 1 - 1 = omega arith in q)) in (
      (omega arith, omega arith, inv.0.2),
      low_more (strings xs) (spelled c.args.key.now) m set.ascending (omega arith) t,
      inv.2,
      omega (arith, b),
      inv.4,
    )

pub loop-low-preserved : goal.loop-low-preserved
loop-low-preserved c =
    let set = c.args.self.now in
    let xs = vec_items set.stored in
    let m : ℕ = c.loop-low.low + (c.loop-low.high - c.loop-low.low) / 2 in
    let n = length_strings xs in
    let h : m < length xs = omega arith in
    let inv = c.loop-low.invariant in
    let e : c.as_slice-string.result.now ≡ at (strings xs) m = c.as_slice-string.ensures ∙ read_at xs m c.index.result.now h c.index.ensures in
    let f = tested_at (λ s. ordered s (spelled c.args.key.now)) xs m c.index.result.now c.as_slice-string.result.now false h c.index.ensures c.as_slice-string.ensures
    (c.if-precedes.ensures ∙ ap (ordered c.as_slice-string.result.now) c.as_slice-symbols.ensures) in
    let b : c.shared-at.result ≡ common (at (strings xs) m) (spelled c.args.key.now) = c.shared-at.ensures ∙ ap (common c.as_slice-string.result.now) c.as_slice-symbols.ensures ∙ ap (λ (s : List ℕ). common s (spelled c.args.key.now)) e in (
      (inv.0.0, omega arith, omega arith),
      inv.1,
      (λ i l k. high_more (strings xs) (spelled c.args.key.now) m set.ascending f i l (omega arith)),
      inv.3,
      ((λ k. omega (arith, b)), λ k. absurd (omega arith)),
    )
