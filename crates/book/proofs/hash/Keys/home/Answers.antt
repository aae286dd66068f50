use Rattle.std.proofs.Common.{rules}
use Rattle.book.specs.Home.{home}
use Rattle.book.proofs.hash.Keys.home.Goals as goal

pub returns : goal.returns
unfolding home
returns c = search rules
