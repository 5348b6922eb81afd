use Rattle.std.proofs.Common.{inl, inr, ap, ◌∙◌, length}
use Rattle.reql_turns.proofs.Frames.{over_received, whole_room, within}
use Rattle.reql_turns.proofs.receiving.receive_more.Goals as goal

pub returns-in-Idle-clause-receives : goal.returns-in-Idle-clause-receives
returns-in-Idle-clause-receives g c = inl c.in-Idle.ensures.receives

pub returns-in-Piece-clause-receives : goal.returns-in-Piece-clause-receives
returns-in-Piece-clause-receives g c = inr (c.in-Piece.ensures.receives.0, within _ _ _ _ (whole_room _ c.requires.room) c.in-Piece.ensures.receives.1, c.in-Piece.ensures.receives.2)

pub returns-in-Lost-clause-receives : goal.returns-in-Lost-clause-receives
returns-in-Lost-clause-receives g c = (c.in-Lost.ensures.receives.0, within _ _ _ _ (whole_room _ c.requires.room) c.in-Lost.ensures.receives.1)

pub returns-in-Over-clause-receives : goal.returns-in-Over-clause-receives
returns-in-Over-clause-receives g c = over_received _ _ c.args.feeder.now.held c.receive.new.feeder.held c.held.result c.end_of.result c.end_of.ensures (c.held.ensures ∙ ap length c.in-Over.ensures.receives.1) c.in-Over.ensures.receives.0

pub returns-in-Failed-clause-receives : goal.returns-in-Failed-clause-receives
returns-in-Failed-clause-receives g c = c.in-Failed.ensures.receives.0
