use Rattle.reql_wire.proofs.Fronts.{more_no_frame, too_long_over, over_too_long, over_no_frame, no_frame_fronts}
use Rattle.reql_wire.proofs.frame_laws.front_decides.Goals as goal

pub returns-clause-more : goal.returns-clause-more
returns-clause-more c = more_no_frame

pub returns-clause-too_long : goal.returns-clause-too_long
returns-clause-too_long c = λ limit bytes len. (too_long_over limit bytes len, over_too_long limit bytes len)

pub returns-clause-over : goal.returns-clause-over
returns-clause-over c = over_no_frame

pub returns-clause-none : goal.returns-clause-none
returns-clause-none c = no_frame_fronts
