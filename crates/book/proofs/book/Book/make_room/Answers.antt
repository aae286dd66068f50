use Rattle.std.proofs.Common.{vec_items, refl, arith}
use Rattle.book.proofs.Edits.{has_room, is_full, live_past}
use Rattle.book.proofs.book.Book.make_room.Goals as goal

pub returns-then-len-lt-CAPACITY : goal.returns-then-len-lt-CAPACITY
returns-then-len-lt-CAPACITY c =
    let v = c.args.self.now.entries in
    let es = vec_items v in
    record { result = has_room c.args.clock es es (omega (arith, v.ok.0, c.len.ensures, c.if-len-lt-CAPACITY.true)) (λ p. refl) }

pub returns-then-from-self : goal.returns-then-from-self
returns-then-from-self c =
    let now = c.args.self.now in
    let es = vec_items now.entries in
    let all = live_past c.args.clock now.earliest es (omega (arith, c.if-from-self.true, c.from.ensures)) now.waiting in
    record { result = is_full c.args.clock es es (omega (arith, now.entries.ok.0, c.len.ensures, c.if-len-lt-CAPACITY.false, now.few)) (λ p. refl) all }

pub returns-then-len-lt-CAPACITY-2 : goal.returns-then-len-lt-CAPACITY-2
returns-then-len-lt-CAPACITY-2 c =
    let v = c.sweep.new.self.entries in
    record {
      result = has_room c.args.clock (vec_items c.args.self.now.entries) (vec_items v)
          (omega (arith, v.ok.0, c.len-2.ensures, c.if-len-lt-CAPACITY-2.true)) c.sweep.ensures.later;
    }

pub returns-else-len-lt-CAPACITY-2 : goal.returns-else-len-lt-CAPACITY-2
returns-else-len-lt-CAPACITY-2 c =
    let v = c.sweep.new.self.entries in
    record {
      result = is_full c.args.clock (vec_items c.args.self.now.entries) (vec_items v)
          (omega (arith, v.ok.0, c.len-2.ensures, c.if-len-lt-CAPACITY-2.false, c.sweep.new.self.few)) c.sweep.ensures.later c.sweep.ensures.live;
    }
