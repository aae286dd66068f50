use Rattle.std.proofs.Common.{◌+◌, ◌^◌, ◌<◌, length, sym, ◌∙◌, arith, length-set}
use Rattle.std.proofs.lemmas.List.{get_or-set_same, get_or-set_other}
use Rattle.prefixes.specs.Held.{held}
use Rattle.prefixes.specs.Stored.{at}
use Rattle.prefixes.proofs.RangeLaws.{begins_within, low_bound}
use Rattle.prefixes.proofs.StretchLaws.{covers_low, stretch, stretched_more}
use Rattle.prefixes.proofs.stretches.methods.divide.Goals as goal

pub longest_to-answer-requires-clause-covers : goal.longest_to-answer-requires-clause-covers
longest_to-answer-requires-clause-covers c =
    let ss = held c.args.set.now in
    covers_low ss c.advance-last.result c.loop-start.start c.args.set.now.ascending c.advance-last.ensures.within (omega arith) c.advance-last.ensures.low

pub loop-start-preserved : goal.loop-start-preserved
loop-start-preserved c =
    let ss = held c.args.set.now in
    let starts = c.loop-start.starts in
    let s = c.loop-start.start in
    let count = c.loop-start.count in
    let last = c.advance-last.result in
    let a = c.longest_to-answer.result in
    let next = c.until-start.result in
    let inv = c.loop-start.invariant in
    let w = c.advance-last.ensures.within in
    let al = c.longest_to-answer.ensures.bound in
    let in-range = begins_within 32 (at ss a) s c.longest_to-answer.ensures.begun in
    let s32 : s < 2 ^ 32 = omega arith in
    let less : s < next = c.until-start.ensures.least s (omega arith) c.advance-last.ensures.high in
    let next_low = c.until-start.ensures.low in
    let same = get_or-set_same starts (count + 1) next 0 (omega arith) in
    let first = get_or-set_other starts (count + 1) 0 next 0 (λ e. omega arith) in
    let long = length-set starts (count + 1) next in
    let wide = length-set c.loop-start.answers count a in
    let h : count + 1 < length starts = omega arith in
    let right = stretch ss s next last a c.args.set.now.ascending w al s32 c.advance-last.ensures.low next_low c.until-start.ensures.past c.longest_to-answer.ensures.covers in (
      (omega arith, omega arith),
      (omega arith, w),
      sym same,
      first ∙ inv.3,
      omega (arith, c.advance-last.ensures.low),
      (λ e. absurd (omega arith)),
      (omega (arith, c.until-start.ensures.past, low_bound 32 (at ss a)), λ t l k. get_or-set_other starts (count + 1) t next 0 (λ e. omega arith) ∙ inv.6.1 t (omega arith) (omega arith)),
      stretched_more ss starts c.loop-start.answers count next a h (omega arith) inv.7 (λ k l m. right k (omega arith) m),
    )
