-- What a book holds.
use Rattle.std.specs.Prelude.{ℕ, List, vec_items}
use Rattle.book.specs.declared.book.Book.{Book}
use Rattle.book.specs.declared.entry.Entry.{Entry}
use Rattle.book.specs.Live.{Same}

-- its entries, live or not
abbrev pub stored : Book → List Entry
stored b = vec_items b.entries

-- m has the book's entries that are live at the clock t, in any order
abbrev pub Keeps : Book → ℕ → List Entry → Type 0
Keeps b t m = Same t (stored b) m
