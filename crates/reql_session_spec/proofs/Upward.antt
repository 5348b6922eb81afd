-- Laws that carry an explained session upward.
use Rattle.std.proofs.Common.{List, map}
use Rattle.reql_shared.specs.Parts.{Part, between}
use Rattle.reql_hall.specs.Rooms.{pass}
use Rattle.reql_hall.specs.Shares.{IsKept, Divides}
use Rattle.reql_hall.proofs.Joining.{share_lies_longer, serves_more, serves_learnt}
use Rattle.reql_session_spec.specs.Tasks.{Talk}
use Rattle.reql_session_spec.specs.Explained.{DeskShare, ExplainedBy}
use Rattle.reql_session_spec.specs.Laws.{OneMore, Learning, NoneLeft, NothingLeft}

module _ {C S : Type 0} where
  none_left : (whole : Part C S) (parts : List (Part C S)) → Divides whole parts → NoneLeft whole parts
  none_left whole parts d = record { owned = d.owned; marks = d.marks }

module _ {PL : Type 0} (k : Talk PL) where
  -- explained by a hall, a session is explained with the same share by each hall whose histories go on from there
  pub kept : IsKept (ExplainedBy k)
  kept s life seen later b e = record { lies = share_lies_longer s seen later b e.lies; explained = e.explained }

  pub one_more : OneMore k
  one_more some a b c lives life s g e = serves_more some (ExplainedBy k) kept a b c lives life s g e

  pub learning : Learning k
  learning some a b c lives all s l = serves_learnt some (ExplainedBy k) kept a b c lives all s l

  pub nothing_left : NothingLeft k
  nothing_left some a b lives s = (
    none_left (between a.names b.names) (map (λ (x : DeskShare). x.names) s.shares) s.names,
    λ slot. none_left (between (pass some a slot) (pass some b slot)) (map (λ (x : DeskShare). x.slots slot) s.shares) (s.slots slot),
  )
