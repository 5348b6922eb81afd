use Rattle.std.proofs.Common.{length}
use Rattle.reql_words.proofs.telling.+tell_options.Given as goal

abbrev pub decreases-tell_options : goal.decreases-tell_options
decreases-tell_options l = length l.words.now
