-- What an answer tells (ql2.proto, Response).
use Rattle.std.specs.Prelude.{◌≡◌, ◌==◌, ℕ, nat_lt, List, Bool, true, false, codes, if◌then◌else◌, Option, Some, None, option_map, option_and_then}
use Rattle.serde_json.specs.Data.{Data, Items}
use Rattle.serde_json.specs.Find.{get, get_item, as_number, as_u64, as_array, as_str}
use Rattle.serde_json.specs.View.{view, items_view}
use Rattle.reql_query.specs.declared.kind.Kind.{Kind}
use Rattle.reql_query.specs.declared.kind.Kind.TheVariants as kinds
use Rattle.reql_query.specs.declared.answer.Told.{Told}
use Rattle.reql_query.specs.declared.answer.Told.TheVariants as told

-- the kind of a code (ErrorType)
unfoldable pub code_kind : ℕ → Kind
code_kind code =
    if code == 1000000 then kinds.Internal
    else if code == 2000000 then kinds.ResourceLimit
    else if code == 3000000 then kinds.QueryLogic
    else if code == 3100000 then kinds.NonExistence
    else if code == 4100000 then kinds.OpFailed
    else if code == 4200000 then kinds.OpIndeterminate
    else if code == 5000000 then kinds.User
    else if code == 6000000 then kinds.Permission
    else kinds.Runtime

abbrev pub running_kind : Option ℕ → Kind
running_kind None = kinds.Runtime
running_kind (Some code) = code_kind code

-- the kind of an answer of a type with a code (ResponseType: 16 CLIENT_ERROR, 17 COMPILE_ERROR, 18 RUNTIME_ERROR)
unfoldable pub kind_of : ℕ → Option ℕ → Kind
kind_of number code =
    if number == 16 then kinds.Client
    else if number == 17 then kinds.Compile
    else running_kind code

-- the whole number of a member
abbrev pub number_in : List ℕ → Data → Option ℕ
number_in name answer = option_and_then as_u64 (option_and_then as_number (get name answer))

-- the first of some results, where it is a text
abbrev pub first_text : Items → Option (List ℕ)
first_text items = option_and_then as_str (get_item 0 items)

-- what an answer tells: results, and whether others follow by CONTINUE; a fault; or it is none that a server gives
pub data Telling : Type 0 where
  Results : Items → Bool → Telling
  Fault : Kind → List ℕ → Option Data → Telling
  Strange : Telling

abbrev pub fault_by : Kind → Option Data → Option (List ℕ) → Telling
fault_by kind path None = Strange
fault_by kind path (Some text) = Fault kind text path

-- by its type: a partial sequence; an atom, a sequence, what a wait or a question for the server gives; a fault
unfoldable pub told_by : Data → ℕ → Items → Telling
told_by answer number items =
    if number == 3 then Results items true
    else if number == 1 then Results items false
    else if number == 2 then Results items false
    else if number == 4 then Results items false
    else if number == 5 then Results items false
    else if nat_lt number 16 then Strange
    else if nat_lt 18 number then Strange
    else fault_by (kind_of number (number_in (codes "e") answer)) (get (codes "b") answer) (first_text items)

abbrev pub told_of : Data → Option ℕ → Option Items → Telling
told_of answer None items = Strange
told_of answer (Some number) None = Strange
told_of answer (Some number) (Some items) = told_by answer number items

abbrev pub telling : Data → Telling
telling answer = told_of answer (number_in (codes "t") answer) (option_and_then as_array (get (codes "r") answer))

-- what was told of an answer
abbrev pub Tells : Told → Telling → Type 0
Tells (told.Results results more) t = t ≡ Results (items_view results.now.items) more
Tells (told.Fault kind text path) t = t ≡ Fault kind text.now (option_map (λ p. view p.now) path)
Tells told.Strange t = t ≡ Strange
