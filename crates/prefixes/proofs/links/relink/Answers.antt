use Rattle.std.proofs.Common.{◌≡◌, ℕ, ◌+◌, ◌-◌, true, List, get_or, refl, sym, ◌∙◌, subst, arith}
use Rattle.std.proofs.Math.Seq.{map-set_same}
use Rattle.std.proofs.lemmas.List.{map-set, length-map}
use Rattle.fields.specs.Strings.{begins}
use Rattle.prefixes.specs.Strings.{ordered}
use Rattle.prefixes.specs.Stored.{at, Ascending, LinkedTo, Parent}
use Rattle.prefixes.specs.StoredStrings.{string_of, link_of, strings, links}
use Rattle.prefixes.proofs.StringLaws.{ordered_total}
use Rattle.prefixes.proofs.StoredLaws.{covers_last, linked_more, spelled_at, length_strings}
use Rattle.prefixes.proofs.links.relink.Goals as goal

pub ascend-link-requires-clause-covers : goal.ascend-link-requires-clause-covers
ascend-link-requires-clause-covers c =
    let xs = c.loop-i.stored in
    let ss = strings xs in
    let i = c.loop-i.i in
    let n = length_strings xs in
    let a : Ascending ss = subst (λ (ts : List (List ℕ)). Ascending ts) (sym c.loop-i.invariant.0) c.requires in
    covers_last ss (string_of (get_or xs i c.index-strings-i.result)) (i - 1) a (omega arith)
    (subst (λ (s : List ℕ). ordered (at ss (i - 1)) s ≡ true) (sym (spelled_at xs i c.index-strings-i.result (omega arith)))
    (ordered_total (at ss (i - 1)) (at ss i) (a.2 (i - 1) i (omega arith) (omega arith))))

pub loop-i-preserved : goal.loop-i-preserved
loop-i-preserved c =
    let xs = c.loop-i.stored in
    let ss = strings xs in
    let i = c.loop-i.i in
    let r = c.ascend-link.result in
    let e = c.loop-i.invariant.0 in
    let key = spelled_at xs i c.index-strings-i.result (omega arith) in
    let p : Parent ss i r = (
      omega (arith, c.ascend-link.ensures.bound),
      (λ j l b. c.ascend-link.ensures.covers j (omega arith) (subst (λ (s : List ℕ). begins (at ss j) s ≡ true) (sym key) b)),
      subst (λ (s : List ℕ). begins (at ss r) s ≡ true) key c.ascend-link.ensures.begun,
    ) in (
      map-set_same string_of xs i _ c.index-stored-i.result refl ∙ e,
      subst (λ (ws : List ℕ). LinkedTo (strings c.args.stored.now) ws (i + 1)) (sym (map-set link_of xs i _))
          (linked_more (strings c.args.stored.now) (links xs) i r (omega (arith, length-map xs link_of)) c.loop-i.invariant.1
          (subst (λ (ts : List (List ℕ)). Parent ts i r) e p)),
    )
