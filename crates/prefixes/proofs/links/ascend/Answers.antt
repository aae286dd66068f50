use Rattle.std.proofs.Common.{◌≡◌, ℕ, ◌+◌, ◌<◌, false, List, length, sym, ap, ◌∙◌, subst, arith}
use Rattle.std.proofs.lemmas.List.{get_or-map}
use Rattle.fields.specs.Strings.{begins}
use Rattle.prefixes.specs.Stored.{at, Covers}
use Rattle.prefixes.specs.StoredStrings.{link_of, strings, links}
use Rattle.prefixes.proofs.StoredLaws.{climbs, read_at}
use Rattle.prefixes.proofs.links.ascend.Goals as goal

pub loop-at-preserved : goal.loop-at-preserved
loop-at-preserved g c =
    let xs = c.args.stored.now in
    let ss = strings xs in
    let key = g.K.Key.spelling c.args.key.now in
    let i = c.loop-at.at in
    let h : i < length xs = omega arith in
    let f : begins (at ss i) key ≡ false =
    sym (c.loop-at-test.ensures.result ∙ ap (λ (s : List ℕ). begins s key) (read_at xs i c.index-stored-at.result h c.index-stored-at.is)) in
    let r = subst (λ (n : ℕ). (n < i) × Covers ss key (c.args.from + 1) n) (get_or-map link_of xs i c.index-stored-at-in-loop-at.result 0 h)
    (climbs ss key (links xs) (c.args.from + 1) i c.requires.ascending c.requires.linked (omega arith) f c.loop-at.invariant.1) in
    (omega (arith, r.0), r.1)
