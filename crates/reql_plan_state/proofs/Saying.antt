-- What a reply says goes on.
use Rattle.std.proofs.Common.{◌≡◌, List, Result}
use Rattle.reql_term.specs.Views.{Document, Entry}
use Rattle.reql_rules.specs.Lists.{Bytes}
use Rattle.reql_table_spec.specs.Indexes.{Indexes}
use Rattle.reql_table_spec.specs.Replies.{said_of}
use Rattle.reql_table_spec.specs.declared.reply.Said.{Said}
use Rattle.reql_plan_spec.specs.Move.{Replied}
use Rattle.reql_plan_spec.specs.Request.{Request, Moves}
use Rattle.reql_plan_steps.specs.Keeps.{Keeps}
use Rattle.reql_plan_state.specs.Turn.{Turns}
use Rattle.reql_plan_steps.specs.declared.replies.Kept.TheVariants as kept
use Rattle.reql_plan_state.specs.declared.stage.Turn.{Turn}

module _ {V E : Type 0} (documents : V → List Document) (indexes : V → Indexes) (entries : V → Bytes → List Entry) where
  pub kept_on : (r : Result (Turn V) E) (m : Moves Replied) (s : Said) (on : Replied → Request) → Keeps (kept.Said s) m → Turns documents indexes entries r (on (said_of s)) → Turns documents indexes entries r (m on)
  kept_on r m s on keeps is = rw (keeps on) is
