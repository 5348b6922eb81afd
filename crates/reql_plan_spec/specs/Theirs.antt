-- Whose the feeds of a request are: each is asked of the table that its own term is on, and follows that term, by what the term is.
use Rattle.std.specs.Prelude.{◌≡◌, ℕ, ℤ, List, [], ◌∷◌, Option, Some, None, true, Ok, Err}
use Rattle.reql_datum.specs.Answer.{Answer, ◌>>=◌}
use Rattle.reql_term.specs.Form.{Form, slot, operation, Forms, no_forms, form, NamedForms}
use Rattle.reql_term.specs.declared.op.Op.TheVariants as op
use Rattle.reql_rules.specs.Faults.{misplaced}
use Rattle.reql_rules.specs.Lists.{Bytes}
use Rattle.reql_faults.specs.Faults.{plan_fault}
use Rattle.reql_faults.specs.Places.{first, second}
use Rattle.reql_faults.specs.Shapes.{shape}
use Rattle.reql_faults.specs.declared.shape.Shape.{Shape}
use Rattle.reql_faults.specs.declared.shape.Shape.TheVariants as shapes
use Rattle.reql_catalog.specs.Catalog.{Named}
use Rattle.reql_feed_spec.specs.declared.kind.FeedKind.{FeedKind}
use Rattle.reql_feed_spec.specs.declared.kind.FeedKind.TheVariants as kinds
use Rattle.reql_table_spec.specs.Followed.{arguments, shape_index}
use Rattle.reql_table_spec.specs.declared.command.Cmd.TheVariants as cmds
use Rattle.reql_table_spec.specs.declared.command.FeedSpec.{FeedSpec}
use Rattle.reql_table_spec.specs.declared.command.Order.{Order}
use Rattle.reql_plan_spec.specs.declared.parts.Opening.{Opening}
use Rattle.reql_plan_spec.specs.declared.parts.Plan.{Plan}
use Rattle.reql_plan_spec.specs.declared.parts.Setting.{Setting}
use Rattle.reql_plan_spec.specs.Course.{plan_next}
use Rattle.reql_plan_spec.specs.Feeding.{Told, Feeding, count_in, name_of_order, feed_settled, feeding, told}
use Rattle.reql_plan_spec.specs.Follows.{are_planned}
use Rattle.reql_plan_spec.specs.Held.{Held, key_of}
use Rattle.reql_plan_spec.specs.Move.{Heard, names, run}
use Rattle.reql_plan_spec.specs.Opens.{is_asked, carried_as}
use Rattle.reql_plan_spec.specs.Reads.{args_of}
use Rattle.reql_plan_spec.specs.Request.{moves}
use Rattle.reql_plan_spec.specs.Settled.{there, options_given}

-- the table that a term is on: each operator is on that of its first argument
abbrev mutual
  pub table_of : Form → Option ℕ
  table_of (slot n) = Some n
  table_of (operation o fs ms) = first_table fs
  table_of f = None

  pub first_table : Forms → Option ℕ
  first_table no_forms = None
  first_table (form f fs) = table_of f

-- the terms that are followed, a feed each: the arms of a UNION, else the term itself
abbrev pub terms_as : Option Shape → Form → List Form
terms_as (Some shapes.United) f = arguments (args_of f)
terms_as s f = f ∷ []

abbrev pub terms_of : Forms → List Form
terms_of no_forms = []
terms_of (form f fs) = terms_as (shape f) f

-- the kind of a feed by the shape of its term, once that is settled: a limit feed tells so many as LIMIT's count says
abbrev pub kind_as : Option Shape → Form → Answer FeedKind
kind_as (Some shapes.Point) f = Ok kinds.Point
kind_as (Some shapes.Range) f = Ok kinds.Range
kind_as (Some shapes.Limit) f = there (second (args_of f)) >>= λ c. count_in c >>= λ n. Ok (kinds.Limit n)
kind_as s f = Err misplaced

-- and its index: none for a document by its key, that of the range, or that of the order
abbrev pub index_as : Option Shape → Form → Answer (Option Bytes)
index_as (Some shapes.Point) f = Ok None
index_as (Some shapes.Range) f = shape_index f
index_as (Some shapes.Limit) f = there (first (args_of f)) >>= λ order. name_of_order order >>= λ name. Ok (Some name)
index_as s f = Err misplaced

-- what is asked for this term
pub record IsItsOwn (e : Held) (t : Told) (f : Form) (o : Opening) : Type 0 where
  -- of the table that the term is on
  pub table : table_of f ≡ Some o.slot
  -- by the name of that table's key field
  pub key : o.spec.key ≡ key_of e.names o.slot
  -- to follow the term, with the data of its arguments in their places
  pub term : feed_settled e f ≡ Ok o.spec.shape
  -- by its shape
  pub kind : kind_as (shape f) o.spec.shape ≡ Ok o.spec.kind
  pub index : index_as (shape f) o.spec.shape ≡ Ok o.spec.index
  -- and told by the options of CHANGES
  pub size : o.spec.size ≡ t.size
  pub offsets : o.spec.offsets ≡ t.offsets
  pub types : o.spec.types ≡ t.types
  pub squash : o.spec.squash ≡ t.squash

-- one for each term, in their order
abbrev pub AreTheirOwn : Held → Told → List Form → List Opening → Type 0
AreTheirOwn e t [] [] = Unit {0}
AreTheirOwn e t (f ∷ fs) (o ∷ os) = IsItsOwn e t f o × AreTheirOwn e t fs os
AreTheirOwn e t fs os = ⊥

pub record AreOf (e : Held) (fs : Forms) (ms : NamedForms) (x : Feeding) : Type 0 where
  pub options : (options_given e.world ms >>= λ os. told ms os) ≡ Ok x.told
  pub openings : AreTheirOwn e x.told (terms_of fs) x.openings

-- the feeds of CHANGES of a term whose tables are looked up
abbrev pub OpeningsAreTheirs : Type 0
OpeningsAreTheirs = (e : Held) (fs : Forms) (ms : NamedForms) (x : Feeding) → are_planned fs ≡ true → feeding e fs ms ≡ Ok x → AreOf e fs ms x

-- and so of every request for CHANGES that has a plan
abbrev pub PlannedOpeningsAreTheirs : Type 0
PlannedOpeningsAreTheirs = (ns : Named) (db : Bytes) (moment : Option ℤ) (f : Form) (fs : Forms) (ms : NamedForms) (e : Held) (x : Feeding)
    → is_asked f ≡ true → plan_fault f ≡ None → carried_as ns db moment f ≡ Ok (operation op.Changes fs ms) → feeding e fs ms ≡ Ok x → AreOf e fs ms x

-- a feed that is asked for on a slot follows a term on the slot's table, by the name that the names have for its key field
pub record IsOfItsTable (known : Named) (n : ℕ) (spec : FeedSpec) : Type 0 where
  pub table : table_of spec.shape ≡ Some n
  pub key : spec.key ≡ key_of known n

-- and so every feed that a plan asks a slot for, whatever it heard before, by the names that it heard first
abbrev pub AskedOpeningsAreTheirs : Type 0
AskedOpeningsAreTheirs = (p : Plan) (s : Setting) (known : Named) (hs : List Heard) (n : ℕ) (order : Order) (spec : FeedSpec) → is_asked p.term ≡ true → plan_fault p.term ≡ None
    → plan_next p s (names known ∷ hs) ≡ moves (run n order) → order.cmd ≡ cmds.Subscribe spec → IsOfItsTable known n spec
