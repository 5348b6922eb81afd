-- What a reply says goes on, or ends the request.
use Rattle.std.specs.Prelude.{◌≡◌}
use Rattle.reql_table_spec.specs.Replies.{said_of}
use Rattle.reql_plan_spec.specs.Move.{Replied}
use Rattle.reql_plan_spec.specs.Request.{Request, ends, Moves}
use Rattle.reql_plan_steps.specs.Heard.{outcome_of}
use Rattle.reql_plan_steps.specs.declared.replies.Kept.{Kept}
use Rattle.reql_plan_steps.specs.declared.replies.Kept.TheVariants as kept

-- whatever would follow, it is given what was said, or there is the answer
abbrev pub Keeps : Kept → Moves Replied → Type 0
Keeps (kept.Said s) w = (on : Replied → Request) → w on ≡ on (said_of s)
Keeps (kept.Ends o) w = (on : Replied → Request) → w on ≡ ends (outcome_of o)
