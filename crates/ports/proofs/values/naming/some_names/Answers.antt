use Rattle.std.proofs.Common.{◌≡◌, Bool, List, [], ◌∷◌, ◌||◌, refl, ap, ◌∙◌, rules, tests}
use Rattle.std.specs.List.{list_any}
use Rattle.std.proofs.lemmas.Iterator.{YieldsList-from_slice}
use Rattle.std.proofs.lemmas.Iterator.Search.{any_from_yields_List}
use Rattle.columns.specs.Somewhere.{some}
use Rattle.ports.specs.Ports.{names}
use Rattle.ports.proofs.values.naming.some_names.Goals as goal

some_is : {X : Type 0} (test : X → Bool) (xs : List X) → list_any test xs ≡ some test xs
some_is test [] = refl
some_is test (x ∷ xs) = ap (λ b. test x || b) (some_is test xs)

pub returns : goal.returns
returns c =
    let xs = c.args.conditions.now in
    any_from_yields_List (λ x. names x c.args.port) _ _ _ c.any.ensures.ran (YieldsList-from_slice xs cc) (λ x b q k. search (rules, tests))
    ∙ some_is (λ x. names x c.args.port) xs
