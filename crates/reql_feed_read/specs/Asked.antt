-- The order that the request of a limit feed asks for, read part by part; none where there is a fault.
use Rattle.std.specs.Prelude.{ℕ, pos, List, [], Bool, true, false, ◌&&◌, if◌then◌else◌, Option, Some, None, Ok, Err, codes}
use Rattle.std.specs.Ordering.{int_eq}
use Rattle.std.specs.List.{list_all}
use Rattle.reql_datum.specs.Answer.{Answer, ◌>>=◌}
use Rattle.reql_datum.specs.Members.{find}
use Rattle.reql_datum.specs.Plain.{Plain, number}
use Rattle.reql_rules.specs.Faults.{misplaced}
use Rattle.reql_rules.specs.Lists.{Bytes}
use Rattle.reql_rules.specs.Types.{same_text, text_in}
use Rattle.reql_term.specs.Form.{Form, literal, slot, operation, Forms, no_forms, form, NamedForms, no_named, named}
use Rattle.reql_term.specs.Table.{takes}
use Rattle.reql_term.specs.Views.{Index}
use Rattle.reql_term.specs.declared.op.Op.{Op}
use Rattle.reql_term.specs.declared.op.Op.TheVariants as op
use Rattle.reql_value_spec.specs.Meaning.{value}
use Rattle.reql_value_spec.specs.Meant.{Meant, Options}
use Rattle.reql_value_spec.specs.Tables.{key_if, may_bound}
use Rattle.reql_value_spec.specs.Wanted.{left_is_open, right_is_open}
use Rattle.reql_value_spec.specs.World.{bare_world}
use Rattle.reql_feed_spec.specs.Feeds.{Watch, nothing}
use Rattle.reql_feed_spec.specs.Kept.{Kept, by_index, by_primary, is_free, watch_of}
use Rattle.reql_feed_spec.specs.Watched.{Part, whole, between}
use Rattle.reql_feed_spec.specs.declared.kind.FeedKind.{FeedKind}
use Rattle.reql_table_spec.specs.Followed.{Ordered, options, index_in, index_by, closed_value, closed_options, is_same, is_limit, is_order, is_between}
use Rattle.reql_feed_read.specs.Shapes.{given, is_slot}

-- ---- arguments and options by their number
abbrev pub one_in : Forms → Option Form
one_in (form f no_forms) = Some f
one_in fs = None

abbrev pub two_in : Forms → Option (Form × Form)
two_in (form f (form g no_forms)) = Some (f, g)
two_in fs = None

abbrev pub three_in : Forms → Option (Form × (Form × Form))
three_in (form f (form g (form h no_forms))) = Some (f, (g, h))
three_in fs = None

abbrev pub no_options : NamedForms → Bool
no_options no_named = true
no_options (named k f ms) = false

-- the one option, where it is that of the index
abbrev pub index_option : Bytes → Form → Option Form
index_option k f = if same_text k (codes "index") then Some f else None

abbrev pub only_index : NamedForms → Option Form
only_index (named k f no_named) = index_option k f
only_index ms = None

-- ---- the name of an index, with a direction
abbrev pub name_in : Form → Option Bytes
name_in (literal d) = text_in d
name_in f = None

abbrev pub name_if : Option Form → Option Bytes
name_if None = None
name_if (Some f) = name_in f

abbrev pub direction_in : Op → Option Bool
direction_in op.Asc = Some false
direction_in op.Desc = Some true
direction_in o = None

abbrev pub towards : Bool → Option Bytes → Option (Bytes × Bool)
towards down None = None
towards down (Some name) = Some (name, down)

abbrev pub directed : Option Bool → Option Form → Option (Bytes × Bool)
directed None o = None
directed (Some down) o = towards down (name_if o)

abbrev pub pointed_in : Form → Option (Bytes × Bool)
pointed_in (operation o fs ms) = if no_options ms then directed (direction_in o) (one_in fs) else None
pointed_in f = towards false (name_in f)

abbrev pub pointed_if : Option Form → Option (Bytes × Bool)
pointed_if None = None
pointed_if (Some f) = pointed_in f

-- ---- a part of an order
abbrev pub names_by : Bytes → Bytes → Answer (Option Bytes) → Bool
names_by key name (Ok index) = same_text (index_by key index) name
names_by key name (Err e) = false

-- an argument or an option that reads no table and no variable from outside
abbrev pub closed_meaning : Form → Answer Meant
closed_meaning f = if is_free [] f then value f bare_world [] else Err misplaced

abbrev pub bound_in : Form → Answer Plain
bound_in f = closed_value f >>= key_if may_bound

abbrev pub as_bound : Answer Plain → Answer Plain
as_bound a = a >>= key_if may_bound

abbrev pub open_sides : Answer Options → Answer (Bool × Bool)
open_sides a = do
  os ← a
  bottom_open ← left_is_open os
  top_open ← right_is_open os
  Ok (bottom_open, top_open)

abbrev pub sides_in : List (Bytes × Form) → Answer (Bool × Bool)
sides_in ms = open_sides (closed_options ms)

abbrev pub sided : Plain → Plain → Option (Bool × Bool) → Option Part
sided l h None = None
sided l h (Some s) = Some (between l s.0 h s.1)

abbrev pub topped : Plain → Option Plain → Option (Bool × Bool) → Option Part
topped l None s = None
topped l (Some h) s = sided l h s

abbrev pub bottomed : Option Plain → Option Plain → Option (Bool × Bool) → Option Part
bottomed None h s = None
bottomed (Some l) h s = topped l h s

abbrev pub are_taken : List (Bytes × Form) → Bool
are_taken = list_all (λ (m : Bytes × Form). takes op.Between m.0)

abbrev pub bounds_in : Form → Form → List (Bytes × Form) → Option Part
bounds_in l h ms = if are_taken ms then bottomed (given (bound_in l)) (given (bound_in h)) (given (sides_in ms)) else None

-- BETWEEN by the index of this name
abbrev pub part_over : Bytes → Bytes → NamedForms → Option (Form × (Form × Form)) → Option Part
part_over key name ms None = None
part_over key name ms (Some p) = if is_slot p.0 && names_by key name (index_in ms) then bounds_in p.1.0 p.1.1 (options ms) else None

abbrev pub part_in : Bytes → Bytes → Form → Option Part
part_in key name (slot n) = Some whole
part_in key name (operation o fs ms) = if is_between o then part_over key name ms (three_in fs) else None
part_in key name f = None

-- ---- an order
abbrev pub ordered_by : Bytes × Bool → Option Part → Option Ordered
ordered_by i None = None
ordered_by i (Some p) = Some (record { part = p; name = i.0; down = i.1 })

abbrev pub ordered_over : Bytes → Form → Option (Bytes × Bool) → Option Ordered
ordered_over key f None = None
ordered_over key f (Some i) = ordered_by i (part_in key i.0 f)

abbrev pub ordered_if : Bytes → Option Form → Option Form → Option Ordered
ordered_if key None o = None
ordered_if key (Some f) o = ordered_over key f (pointed_if o)

abbrev pub order_in : Bytes → Form → Option Ordered
order_in key (operation o fs ms) = if is_order o then ordered_if key (one_in fs) (only_index ms) else None
order_in key f = None

-- ---- the first so many of it
abbrev pub is_number : ℕ → Plain → Bool
is_number most (number n) = int_eq n (pos most)
is_number most v = false

abbrev pub counts : ℕ → Form → Bool
counts most (literal d) = is_number most d
counts most f = false

abbrev pub first_two : Bytes → ℕ → Option (Form × Form) → Option Ordered
first_two key most None = None
first_two key most (Some p) = if counts most p.1 then order_in key p.0 else None

abbrev pub first_in : Bytes → ℕ → Form → Option Ordered
first_in key most (operation o fs ms) = if is_limit o && no_options ms then first_two key most (two_in fs) else None
first_in key most f = None

-- where it is by the index of the request
abbrev pub by_asked : Option Bytes → Option Ordered → Option Ordered
by_asked index None = None
by_asked index (Some o) = if is_same (Some o.name) index then Some o else None

-- ---- what is kept of it
abbrev pub kept_index : Ordered → ℕ → Option Index → Option Kept
kept_index o most None = None
kept_index o most (Some i) = Some (by_index i o.part o.down most)

abbrev pub kept_ordered : Bytes → List (Bytes × Index) → ℕ → Ordered → Option Kept
kept_ordered key indexes most o = if same_text o.name key then Some (by_primary o.part o.down most) else kept_index o most (find o.name indexes)

abbrev pub kept_if : Bytes → List (Bytes × Index) → ℕ → Option Ordered → Option Kept
kept_if key indexes most None = None
kept_if key indexes most (Some o) = kept_ordered key indexes most o

-- what is followed, where something is kept
abbrev pub watch_if : FeedKind → Option Kept → Watch
watch_if kind None = nothing kind
watch_if kind (Some k) = watch_of k
