use Rattle.std.proofs.Common.{◌-◌, arith}
use Rattle.prefixes.specs.Held.{held}
use Rattle.prefixes.specs.Spelled.{spelled}
use Rattle.prefixes.proofs.StoredLaws.{covers_last, covers_all}
use Rattle.prefixes.proofs.set.PrefixSet.longest.Goals as goal

pub longest_to-requires : goal.longest_to-requires
longest_to-requires c =
    let t = c.args.self.now in
    let p = c.rank.ensures.some in
    let w = c.rank.ensures.within in
    record {
      within = omega arith;
      covers = covers_last (held t) (spelled c.args.key.now) (c.rank.result - 1) t.ascending (omega arith) (c.rank.ensures.low (c.rank.result - 1) (omega arith));
    }

pub returns : goal.returns
returns c =
    let t = c.args.self.now in
    let p = c.rank.ensures.some in
    let w = c.rank.ensures.within in
    record {
      within = omega (arith, c.longest_to.ensures.bound);
      front = c.longest_to.ensures.begun;
      covers = covers_all (held t) (spelled c.args.key.now) c.rank.result c.longest_to.result c.rank.ensures.high
          (λ j l b. c.longest_to.ensures.covers j (omega arith) b);
    }
