-- The strings and the links of stored strings, as lists.
use Rattle.std.specs.Prelude.{ℕ, List, map}
use Rattle.prefixes.specs.Spelled.{spelled}
use Rattle.prefixes.specs.declared.stored.Stored.{Stored}

abbrev pub string_of : Stored → List ℕ
string_of x = spelled x.symbols

abbrev pub link_of : Stored → ℕ
link_of x = x.link

abbrev pub strings : List Stored → List (List ℕ)
strings xs = map string_of xs

abbrev pub links : List Stored → List ℕ
links xs = map link_of xs
