use Rattle.std.proofs.Common.{length}
use Rattle.book.proofs.Walk.{reached_linked}
use Rattle.book.proofs.index.Index.note.Goals as goal

pub returns-else-self : goal.returns-else-self
returns-else-self c = record {
  keys = c.link.ensures.keys;
  reached = rw c.link.ensures.keys (reached_linked c.args.self.now.keys c.args.self.now.slots _ c.args.entries.now c.args.number (length c.args.entries.now) _ c.link.ensures.later
      c.requires.inside c.requires.others);
}
