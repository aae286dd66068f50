use Rattle.std.proofs.Common.{ℕ, List, subst}
use Rattle.std.specs.List.Sorted.{IsBinarySearchResult}
use Rattle.std.proofs.lemmas.List.Sorted.{searched}
use Rattle.ports.specs.Ordered.{keys_of}
use Rattle.ports.proofs.Climbing.{rising}
use Rattle.ports.proofs.values.ordered.OrderedRows.find.Goals as goal
use Rattle.std.specs.Ordering.{nat_cmp}

pub returns : goal.returns
returns c =
    searched (keys_of c.args.self.now) c.args.key c.binary_search.result
    (subst (λ (ks : List ℕ). IsBinarySearchResult (λ y. nat_cmp y c.args.key) ks c.binary_search.result) c.deref.ensures.value
    c.binary_search.ensures.position)
    (rising (keys_of c.args.self.now) c.args.self.now.climbs)
