use Rattle.std.proofs.Common.{List, sym, subst}
use Rattle.fields.specs.declared.condition.plain.Plain.{Plain}
use Rattle.prefixes.specs.Tables.{TableTold, TableStores}
use Rattle.prefixes.proofs.column.methods.PrefixColumnColumn.new.Goals as goal

pub invariant_of-result-clause-told : goal.invariant_of-result-clause-told
invariant_of-result-clause-told g c =
    subst (λ (cs : List (Plain _)). TableTold g.T.Prefix.front cs c.in_ok-keyed.keyed) (sym c.in_ok-conditions.ensures.items) c.in_ok-keyed.ensures.0

pub invariant_of-result-clause-stored : goal.invariant_of-result-clause-stored
invariant_of-result-clause-stored g c =
    subst (λ (cs : List (Plain _)). TableStores g.T.Prefix.front cs c.in_ok-keyed.keyed) (sym c.in_ok-conditions.ensures.items) c.in_ok-keyed.ensures.1
