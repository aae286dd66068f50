use Rattle.std.proofs.Common.{◌<◌, length, vec_items, sym, ap, ◌∙◌, subst, arith}
use Rattle.std.proofs.lemmas.List.{get_or-map}
use Rattle.prefixes.specs.Held.{held}
use Rattle.prefixes.specs.Stored.{Parent}
use Rattle.prefixes.specs.StoredStrings.{link_of}
use Rattle.prefixes.proofs.StoredLaws.{length_strings}
use Rattle.prefixes.proofs.set.PrefixSet.parent.Goals as goal

pub returns : goal.returns
returns c =
    let s = c.args.self.now in
    let xs = vec_items s.stored in
    let i = c.args.at in
    let n = length_strings xs in
    let h : i < length xs = omega arith in
    subst (Parent (held s) i) (get_or-map link_of xs i c.index.result.now 0 h ∙ ap link_of (sym c.index.ensures))
    (s.linked i c.requires.above h)
