-- What the edits of a column answer, and what they leave of its list. Positions count from 1.
use Rattle.std.specs.Prelude.{ℕ, ◌+◌, ◌-◌, cond, ◌&&◌, List, length, Ok, Err, Result, nat_le, nat_lt}
use Rattle.std.specs.List.{insert, remove}
use Rattle.fields.specs.declared.refusal.Refusal.{Refusal}
use Rattle.fields.specs.declared.refusal.Reason.{Reason}
use Rattle.fields.specs.declared.refusal.Reason.TheVariants as reason
use Rattle.fields.specs.declared.refusal.Part.TheVariants as part

-- a refusal by a column, at place 0
abbrev pub column_refusal : Reason → Refusal
column_refusal why = record { reason = why; part = part.Columns; place = 0 }

-- the answer to an insertion at p into a list of n: first the position is looked at, then the length
abbrev pub insert_answer : ℕ → ℕ → Result (Unit {0}) Refusal
insert_answer p n =
    cond (nat_le 1 p && nat_le p (n + 1)) (cond (nat_lt n 512) (Ok tt) (Err (column_refusal reason.ListFull))) (Err (column_refusal reason.Position))

-- the list after it
abbrev pub insert_after : {C : Type 0} → ℕ → C → List C → List C
insert_after p c xs = cond (nat_le 1 p && nat_le p (length xs + 1)) (cond (nat_lt (length xs) 512) (insert xs (p - 1) c) xs) xs

-- the answer to a removal at p from a list of n
abbrev pub remove_answer : ℕ → ℕ → Result (Unit {0}) Refusal
remove_answer p n = cond (nat_le 1 p && nat_le p n) (Ok tt) (Err (column_refusal reason.Position))

-- the list after it
abbrev pub remove_after : {C : Type 0} → ℕ → List C → List C
remove_after p xs = cond (nat_le 1 p && nat_le p (length xs)) (remove xs (p - 1)) xs
