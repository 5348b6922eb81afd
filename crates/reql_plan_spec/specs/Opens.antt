-- That every feed that a plan opens follows something: what planning leaves of a request's term is what the law of feeds asks for.
use Rattle.std.specs.Prelude.{◌≡◌, ℕ, ℤ, List, Option, Some, None, Bool, true, false, ◌&&◌, Ok, Err}
use Rattle.std.specs.List.{AllByRecursion}
use Rattle.reql_datum.specs.Answer.{Answer, ◌>>=◌}
use Rattle.reql_term.specs.Form.{Form, several, keyed, operation, Forms, no_forms, form, NamedForms, no_named, named}
use Rattle.reql_term.specs.Table.{fits}
use Rattle.reql_term.specs.declared.op.Op.TheVariants as op
use Rattle.reql_rewrite.specs.Rewrite.{rewritten}
use Rattle.reql_rules.specs.Lists.{Bytes}
use Rattle.reql_faults.specs.Faults.{plan_fault}
use Rattle.reql_faults.specs.Places.{count}
use Rattle.reql_catalog.specs.Catalog.{Named}
use Rattle.reql_naming.specs.Named.{resolved}
use Rattle.reql_table_spec.specs.declared.command.Cmd.TheVariants as cmds
use Rattle.reql_table_spec.specs.declared.command.FeedSpec.{FeedSpec}
use Rattle.reql_table_spec.specs.declared.command.Order.{Order}
use Rattle.reql_plan_spec.specs.declared.parts.Plan.{Plan}
use Rattle.reql_plan_spec.specs.declared.parts.Setting.{Setting}
use Rattle.reql_plan_spec.specs.Course.{plan_next}
use Rattle.reql_plan_spec.specs.Feeding.{Feeding, feeding}
use Rattle.reql_plan_spec.specs.Follows.{IsRead, takes_all}
use Rattle.reql_plan_spec.specs.Held.{Held}
use Rattle.reql_plan_spec.specs.Move.{Heard, run}
use Rattle.reql_plan_spec.specs.Reads.{leaks, now_rule}
use Rattle.reql_plan_spec.specs.Request.{moves}
use Rattle.reql_plan_spec.specs.Texts.{undetermined}

-- a term as reading leaves it: each operator has a count of arguments and options that it takes, each option once; of what stands in
-- functions nothing is asked
abbrev mutual
  pub is_asked : Form → Bool
  is_asked (several fs) = are_asked fs
  is_asked (keyed ms) = fields_asked ms
  is_asked (operation o fs ms) = (fits o (count fs) && takes_all o ms) && (are_asked fs && fields_asked ms)
  is_asked f = true

  pub are_asked : Forms → Bool
  are_asked no_forms = true
  are_asked (form f fs) = is_asked f && are_asked fs

  pub fields_asked : NamedForms → Bool
  fields_asked no_named = true
  fields_asked (named k f ms) = is_asked f && fields_asked ms

-- a term as it is carried out: its names are looked up, no function that may name no table does so, and NOW is the moment, where it is asked for
abbrev pub unless_leaks : Bool → Form → Answer Form
unless_leaks true f = Err undetermined
unless_leaks false f = Ok f

abbrev pub at_time : Option ℤ → Form → Answer Form
at_time None f = Ok f
at_time (Some moment) f = rewritten (now_rule moment) f

abbrev pub carried_as : Named → Bytes → Option ℤ → Form → Answer Form
carried_as ns db moment f = resolved ns db f >>= λ g. unless_leaks (leaks false g) g >>= at_time moment

-- CHANGES of a term that has a plan: every feed that it opens follows something
abbrev pub PlannedFeedsAreRead : Type 0
PlannedFeedsAreRead = (ns : Named) (db : Bytes) (moment : Option ℤ) (f : Form) (fs : Forms) (ms : NamedForms) (e : Held) (x : Feeding)
    → is_asked f ≡ true → plan_fault f ≡ None → carried_as ns db moment f ≡ Ok (operation op.Changes fs ms) → feeding e fs ms ≡ Ok x
    → AllByRecursion (λ o. IsRead o.spec) x.openings

-- and so every feed that a plan asks a slot for, whatever it heard before
abbrev pub AskedFeedsAreRead : Type 0
AskedFeedsAreRead = (p : Plan) (s : Setting) (hs : List Heard) (n : ℕ) (order : Order) (spec : FeedSpec)
    → is_asked p.term ≡ true → plan_fault p.term ≡ None → plan_next p s hs ≡ moves (run n order) → order.cmd ≡ cmds.Subscribe spec → IsRead spec
