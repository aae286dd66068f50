use Rattle.std.proofs.Common.{false, cond, ltb, [], get_or, Some, ap, ◌∙◌, arith}
use Rattle.rows.specs.Bits.{put_in}
use Rattle.rows.specs.Shown.{shown}
use Rattle.rows.specs.Tables.{Put}
use Rattle.columns.proofs.Tables.{each_more}
use Rattle.codes.proofs.spread.column.insert_each.Goals as goal

pub loop-code-preserved : goal.loop-code-preserved
loop-code-preserved g c =
    each_more (λ k. Put c.args.place (g.K.Condition.admits c.args.condition.now (Some (g.K.Value.Coded.decoded k)))) c.args.rows.now c.loop-code.rows
    c.loop-code.code c.insert.new.self (record { words = [] }) (omega arith) c.loop-code.invariant
    (λ i. c.insert.ensures i
    ∙ ap (λ b. cond (ltb i 512) (put_in (shown (get_or c.loop-code.rows c.loop-code.code (record { words = [] }))) c.args.place b i) false)
    (c.holds_on-holds.ensures.result ∙ ap (λ v. g.K.Condition.admits c.args.condition.now (Some v)) c.from_code.ensures.result))
