-- What the fronts of a list of conditions say of a value.
use Rattle.std.proofs.Common.{◌≡◌, ℕ, Bool, false, List, [], ◌∷◌, map, get_or, Some, Option, sym, refl, ap, ◌∙◌}
use Rattle.fields.specs.Conditions.{plain_admits}
use Rattle.fields.specs.Strings.{begins}
use Rattle.fields.specs.declared.condition.plain.Plain.{Plain}
use Rattle.fields.specs.declared.condition.plain.Plain.TheVariants.{Any, Is}
use Rattle.rows.specs.declared.row.Row.{Row}
use Rattle.rows.specs.Shows.{Shows}
use Rattle.prefixes.specs.Fronts.{covers}
use Rattle.prefixes.specs.Listed.{fronts_of}

covers_admits : {T V : Type 0} (passes : T → V → Bool) (front : T → List ℕ) (v : V) (s : List ℕ) → ((t : T) → passes t v ≡ begins (front t) s)
    → (cs : List (Plain T)) → map (λ f. covers f s) (fronts_of front cs) ≡ map (λ c. plain_admits passes c (Some v)) cs
covers_admits passes front v s meets [] = refl
covers_admits passes front v s meets (Any ∷ cs) = let a = covers_admits passes front v s meets cs in cc
covers_admits passes front v s meets (Is t ∷ cs) =
    let a = covers_admits passes front v s meets cs in
    let b = meets t in
    cc

-- a row that shows the fronts that cover a value's spelling shows the conditions that hold on the value
pub shows_admits : {T V : Type 0} (passes : T → V → Bool) (front : T → List ℕ) (v : V) (s : List ℕ) → ((t : T) → passes t v ≡ begins (front t) s)
    → (value : Option V) → value ≡ Some v → (cs : List (Plain T)) (row : Row) → Shows row (λ f. covers f s) (fronts_of front cs)
    → Shows row (λ c. plain_admits passes c value) cs
shows_admits passes front v s meets value e cs row shows i =
    shows i ∙ ap (λ (bs : List Bool). get_or bs i false) (covers_admits passes front v s meets cs)
    ∙ sym (ap (λ o. get_or (map (λ c. plain_admits passes c o) cs) i false) e)
