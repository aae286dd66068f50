use Rattle.std.proofs.Common.{ℕ, ◌-◌, ◌<◌, true, false, List, length, vec_items, ap, ◌∙◌, arith}
use Rattle.prefixes.specs.Strings.{ordered}
use Rattle.prefixes.specs.Stored.{at}
use Rattle.prefixes.specs.Spelled.{spelled}
use Rattle.prefixes.specs.StoredStrings.{strings}
use Rattle.prefixes.proofs.StringLaws.{ordered_antisym}
use Rattle.prefixes.proofs.StoredLaws.{fits_vacant, tested_at, length_strings}
use Rattle.prefixes.proofs.set.PrefixSet.locate.Goals as goal

pub returns-then-ordered : goal.returns-then-ordered
returns-then-ordered c =
    let t = c.args.self.now in
    let xs = vec_items t.stored in
    let p = spelled c.args.prefix.now in
    let n = length_strings xs in
    let pos = c.rank-count.ensures.some in
    let w = c.rank-count.ensures.within in
    let h : c.rank-count.result - 1 < length xs = omega arith in
    let t = tested_at (λ s. ordered p s) xs (c.rank-count.result - 1) c.index.result.now c.as_slice-2.result.now true h c.index.ensures c.as_slice-2.ensures
    (c.if-ordered.ensures ∙ ap (λ (q : List ℕ). ordered q c.as_slice-2.result.now) c.as_slice.ensures) in
    (omega arith, ordered_antisym (at (strings xs) (c.rank-count.result - 1)) p (c.rank-count.ensures.low (c.rank-count.result - 1) (omega arith)) t)

pub returns-else-ordered : goal.returns-else-ordered
returns-else-ordered c =
    let t = c.args.self.now in
    let xs = vec_items t.stored in
    let p = spelled c.args.prefix.now in
    let n = length_strings xs in
    let pos = c.rank-count.ensures.some in
    let w = c.rank-count.ensures.within in
    let h : c.rank-count.result - 1 < length xs = omega arith in
    let f = tested_at (λ s. ordered p s) xs (c.rank-count.result - 1) c.index.result.now c.as_slice-2.result.now false h c.index.ensures c.as_slice-2.ensures
    (c.if-ordered.ensures ∙ ap (λ (q : List ℕ). ordered q c.as_slice-2.result.now) c.as_slice.ensures) in
    (omega arith, fits_vacant (strings xs) p c.rank-count.result t.ascending pos (omega arith) f (λ i l k. c.rank-count.ensures.high i l (omega arith)))
