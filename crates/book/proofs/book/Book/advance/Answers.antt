use Rattle.std.proofs.Common.{◌≡◌, ℕ, ◌<◌, ◌≤◌, Bool, true, false, cond, List, length, get_or, set, Some, vec_items, vec_len, Option, sym, refl, ap, ◌∙◌, subst, arith, get_or-set_same}
use Rattle.std.specs.List.{swap_remove}
use Rattle.std.proofs.lemmas.Bool.{cond-true, cond-false}
use Rattle.std.proofs.lemmas.List.{get_or_default}
use Rattle.book.specs.declared.entry.Entry.{Entry}
use Rattle.book.specs.declared.advance.Outcome.{Outcome}
use Rattle.book.specs.Steps.{erases, advanced}
use Rattle.book.specs.Places.{Held, Absent}
use Rattle.book.specs.Passages.{flow_from, flags_of}
use Rattle.book.specs.declared.flow.Flow.{Flow}
use Rattle.book.specs.declared.entry.Side.{Side}
use Rattle.book.proofs.Orders.{apart_set, reached_set, none_before_set}
use Rattle.book.specs.Live.{live, live_entry, Fitted}
use Rattle.book.proofs.Fits.{renewed_keeps, erased_ends, fit_none, fit_dead, fit_renewed, fit_erased}
use Rattle.book.proofs.book.Book.advance.Goals as goal

-- two reads of one entry are live alike
live_read : (es : List Entry) (i : ℕ) (x y : Entry) (t : ℕ) → i < length es → x ≡ get_or es i x → y ≡ get_or es i y → live t x ≡ true → live t y ≡ true
live_read es i x y t l h k v =
    let P : Entry → Type 0 = λ e. live t e ≡ true in
    subst P (h ∙ get_or_default es i x y l ∙ sym k) v

flow_stays : (b : Bool) (y : Entry) (side : Side) (flags : Option ℕ) (t : ℕ) → (cond b y (advanced y side flags t)).flow ≡ y.flow
flow_stays true y side flags t = refl
flow_stays false y side flags t = refl

pub invariant_of-self : goal.invariant_of-self
invariant_of-self c =
    let now = c.args.self.now in
    let es = vec_items now.entries in
    let i = c.in_ok-i.i in
    let y = c.index_mut.result.now in
    let x = c.advance-outcome.new.self in
    let held = c.in_ok-i.ensures.result in
    let F : Entry → Flow = λ e. e.flow in
    let same : x.flow ≡ c.flow.result = ap F c.advance-outcome.ensures.later ∙ flow_stays (erases c.flags.result) y c.args.side c.flags.result c.args.clock ∙ ap F c.index_mut.ensures.value ∙ held.1 y in
    let read : c.index-2.result.now ≡ x = c.index-2.ensures ∙ get_or-set_same es i x c.index-2.result.now held.0 in
    let D : Entry → Type 0 = λ e. c.min-self.result ≤ e.deadline in
    let low = subst D read (omega (arith, c.min-self.ensures)) in
    let stays : Held es x.flow i = (held.0, λ d. held.1 d ∙ sym same) in
    record {
      room = now.room;
      few = now.few;
      reached = reached_set es i x stays now.index.keys now.index.slots (vec_len now.entries) now.reached;
      apart = apart_set es i x stays now.apart;
      waiting = none_before_set now.earliest c.min-self.result es x now.waiting (omega (arith, c.min-self.ensures)) low i;
    }

pub returns-in_err-i : goal.returns-in_err-i
returns-in_err-i c =
    let es = vec_items c.args.self.now.entries in
    let f = flow_from c.args.passage.now c.args.side in
    let flags = flags_of c.args.passage.now.kind in
    let A : Flow → Type 0 = λ g. Absent es g in
    let P : Option Outcome → Type 0 = λ r. Fitted f c.args.side flags c.args.clock es es r (live_entry c.args.clock f es) in
    record { result = subst P (sym c.from_residual.ensures) (fit_none f c.args.side flags c.args.clock es 0 (subst A c.flow.ensures.result c.in_err-i.ensures.result)) }

pub returns-then-not-is_live : goal.returns-then-not-is_live
returns-then-not-is_live c =
    let es = vec_items c.args.self.now.entries in
    let f = flow_from c.args.passage.now c.args.side in
    let H : Flow → Type 0 = λ g. Held es g c.in_ok-i.i in
    record {
      result = fit_dead f c.args.side (flags_of c.args.passage.now.kind) c.args.clock es c.in_ok-i.i
          c.args.self.now.apart (subst H c.flow.ensures.result c.in_ok-i.ensures.result) c.index.result.now c.index.ensures (sym c.if-not-is_live.ensures.result);
    }

pub returns-in-Renewed : goal.returns-in-Renewed
returns-in-Renewed c =
    let es = vec_items c.args.self.now.entries in
    let i = c.in_ok-i.i in
    let t = c.args.clock in
    let f = flow_from c.args.passage.now c.args.side in
    let flags = flags_of c.args.passage.now.kind in
    let y = c.index_mut.result.now in
    let H : Flow → Type 0 = λ g. Held es g i in
    let held = subst H c.flow.ensures.result c.in_ok-i.ensures.result in
    let stays = renewed_keeps (erases c.flags.result) c.in-Renewed.ensures.result in
    let E : Option ℕ → Type 0 = λ g. erases g ≡ false in
    let Z : Option ℕ → Type 0 = λ g. c.advance-outcome.new.self ≡ advanced y c.args.side g t in
    let v = live_read es i c.index.result.now y t held.0 c.index.ensures c.index_mut.ensures.value (sym c.if-not-is_live.ensures.result) in
    let P : Outcome → Type 0 = λ o. Fitted f c.args.side flags t es (set es i c.advance-outcome.new.self) (Some o) (live_entry t f es) in
    record {
      result = subst P (sym c.in-Renewed.is)
          (fit_renewed f c.args.side flags t es i c.args.self.now.apart held y c.index_mut.ensures.value c.advance-outcome.new.self v
          (subst E c.flags.ensures.result stays) (subst Z c.flags.ensures.result (c.in-Renewed.ensures.later ∙ cond-false _ _ _ stays)));
    }

pub returns-in-Erased : goal.returns-in-Erased
returns-in-Erased c =
    let es = vec_items c.args.self.now.entries in
    let i = c.in_ok-i.i in
    let t = c.args.clock in
    let f = flow_from c.args.passage.now c.args.side in
    let flags = flags_of c.args.passage.now.kind in
    let y = c.index_mut.result.now in
    let z = c.advance-outcome.new.self in
    let H : Flow → Type 0 = λ g. Held es g i in
    let held = subst H c.flow.ensures.result c.in_ok-i.ensures.result in
    let ends = erased_ends (erases c.flags.result) c.in-Erased.ensures.result in
    let E : Option ℕ → Type 0 = λ g. erases g ≡ true in
    let v = live_read es i c.index.result.now y t held.0 c.index.ensures c.index_mut.ensures.value (sym c.if-not-is_live.ensures.result) in
    let P : Outcome → Type 0 = λ o. Fitted f c.args.side flags t es (swap_remove (set es i z) i c.take_out.result) (Some o) (live_entry t f es) in
    let Q : List Entry → Type 0 = λ xs. Fitted f c.args.side flags t es xs (Some c.advance-outcome.result) (live_entry t f es) in
    record {
      result = subst Q (sym c.take_out.ensures.later) (subst P (sym c.in-Erased.is)
          (fit_erased f c.args.side flags t es i c.args.self.now.apart held y c.index_mut.ensures.value z c.take_out.result v
          (subst E c.flags.ensures.result ends) (c.in-Erased.ensures.later ∙ cond-true _ _ _ ends)));
    }
