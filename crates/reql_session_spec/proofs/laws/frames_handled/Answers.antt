use Rattle.reql_session_spec.proofs.Rests as rests
use Rattle.reql_session_spec.proofs.laws.frames_handled.Goals as goal

pub returns : goal.returns
returns g c = λ f. rests.frames_handled (g.F.Planning.talk f)
