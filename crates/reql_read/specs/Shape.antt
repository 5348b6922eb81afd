-- The shape of a query (the driver-writing guide, 'Serialization' and 'Sending queries'), and of each term in it. It
-- is tested before anything is read, and what has it is handed on as it is written. BadShape comes from here alone.
use Rattle.std.specs.Prelude.{ℕ, List, [], ◌∷◌, ◌++◌, Bool, true, ◌&&◌, not, is_some, nat_eq, if◌then◌else◌, Option, Some, None, option_and_then, Result, Ok, Err}
use Rattle.serde_json.specs.Data.{Data, null, boolean, number, string, Items, no_items, item, Members, no_members, member}
use Rattle.serde_json.specs.Data as json
use Rattle.serde_json.specs.Find.{as_number, as_u64, as_array, as_object, get_member}
use Rattle.reql_datum.specs.Answer.{◌>>=◌}
use Rattle.reql_json.specs.Reading.{reserved}
use Rattle.reql_term.specs.Table.{number_of}
use Rattle.reql_term.specs.declared.op.Op.TheVariants as op
use Rattle.reql_read.specs.Written.{Names, Written, value, array, object, variable, row, function, call, Parts, no_parts, part, NamedParts, no_named, named, names_of}
use Rattle.reql_read.specs.declared.fault.ReadFault.{ReadFault}
use Rattle.reql_read.specs.declared.fault.ReadFault.TheVariants.{BadShape}
use Rattle.reql_read.specs.declared.shape.Kind.{Kind}
use Rattle.reql_read.specs.declared.shape.Kind.TheVariants as kind

abbrev pub or_shape : {A : Type 0} → Option A → Result A ReadFault
or_shape None = Err BadShape
or_shape (Some x) = Ok x

-- a whole number from 0, as the numbers of terms and the ids of variables are
abbrev pub number_in : Data → Result ℕ ReadFault
number_in d = or_shape (option_and_then as_u64 (as_number d))

abbrev pub items_in : Data → Result Items ReadFault
items_in d = or_shape (as_array d)

abbrev pub members_in : Data → Result Members ReadFault
members_in d = or_shape (as_object d)

-- the terms of `ql2.proto` whose numbers have a form of their own
unfoldable pub kind_of : ℕ → Kind
kind_of n =
    if nat_eq n (number_of op.MakeArray) then kind.Array else (
    if nat_eq n (number_of op.MakeObj) then kind.Object else (
    if nat_eq n (number_of op.Var) then kind.Variable else (
    if nat_eq n (number_of op.ImplicitVar) then kind.Row else (
    if nat_eq n (number_of op.Func) then kind.Function else kind.Call))))

-- an object that has the reserved name stands for a document, if for anything
abbrev pub object_of : Members → NamedParts → Written
object_of ms ws = if is_some (get_member reserved ms) then value (json.object ms) else object ws

-- an id, written as a number
abbrev pub id_of : Written → Result ℕ ReadFault
id_of (value d) = number_in d
id_of w = Err BadShape

-- ids of parameters, no two alike, after those before
abbrev pub is_new : ℕ → List ℕ → Bool
is_new id [] = true
is_new id (k ∷ ks) = not (nat_eq k id) && is_new id ks

abbrev pub ids_from : List ℕ → Parts → Result (List ℕ) ReadFault
ids_from before no_parts = Ok before
ids_from before (part w ws) = id_of w >>= λ id. if is_new id before then ids_from (before ++ id ∷ []) ws else Err BadShape

-- an array of ids, and the names that stand with it
abbrev pub ids_of : Written → Result (List ℕ × Names) ReadFault
ids_of (array ws names) = ids_from [] ws >>= λ ids. Ok (ids, names)
ids_of w = Err BadShape

-- a term of a number and its kind, with its arguments, and its optional ones as they are in JSON and as they are written
abbrev pub term_of : Kind → ℕ → Parts → Members → NamedParts → Result Written ReadFault
term_of kind.Array n args ms opts = Ok (array args (names_of opts))
term_of kind.Object n no_parts ms opts = Ok (object_of ms opts)
term_of kind.Variable n (part id no_parts) ms opts = id_of id >>= λ k. Ok (variable k (names_of opts))
term_of kind.Row n no_parts ms opts = Ok (row (names_of opts))
term_of kind.Function n (part ids (part body no_parts)) ms opts = ids_of ids >>= λ ks. Ok (function ks.0 ks.1 body (names_of opts))
term_of k n args ms opts = Ok (call n args opts)

abbrev mutual
  pub shaped : Data → Result Written ReadFault
  shaped (json.array ds) = shaped_term ds
  shaped (json.object ms) = shaped_named ms >>= λ ws. Ok (object_of ms ws)
  shaped d = Ok (value d)

  -- [number], [number, arguments] or [number, arguments, optional arguments]
  pub shaped_term : Items → Result Written ReadFault
  shaped_term (item n no_items) = number_in n >>= λ k. term_of (kind_of k) k no_parts no_members no_named
  shaped_term (item n (item (json.array args) no_items)) =
      number_in n >>= λ k. shaped_all args >>= λ ws. term_of (kind_of k) k ws no_members no_named
  shaped_term (item n (item (json.array args) (item (json.object ms) no_items))) =
      number_in n >>= λ k. shaped_all args >>= λ ws. shaped_named ms >>= λ os. term_of (kind_of k) k ws ms os
  shaped_term ds = Err BadShape

  pub shaped_all : Items → Result Parts ReadFault
  shaped_all no_items = Ok no_parts
  shaped_all (item d ds) = shaped d >>= λ w. shaped_all ds >>= λ ws. Ok (part w ws)

  pub shaped_named : Members → Result NamedParts ReadFault
  shaped_named no_members = Ok no_named
  shaped_named (member k d ms) = shaped d >>= λ w. shaped_named ms >>= λ ws. Ok (named k w ws)

-- ---- the whole query

-- what a body asks for: START with its term and options, or one of the others
pub data Query : Type 0 where
  start : Written → Members → Query
  continued : Query
  stop : Query
  noreply_wait : Query
  server_info : Query

-- the term of a START, and its options, none where they are missing
abbrev pub shaped_start : Items → Result Query ReadFault
shaped_start (item term no_items) = shaped term >>= λ w. Ok (start w no_members)
shaped_start (item term (item (json.object opts) no_items)) = shaped term >>= λ w. Ok (start w opts)
shaped_start ds = Err BadShape

abbrev pub shaped_kind : ℕ → Items → Result Query ReadFault
shaped_kind n ds =
    if nat_eq n 1 then shaped_start ds else (
    if nat_eq n 2 then Ok continued else (
    if nat_eq n 3 then Ok stop else (
    if nat_eq n 4 then Ok noreply_wait else (
    if nat_eq n 5 then Ok server_info else Err BadShape))))

abbrev pub shaped_parts : Items → Result Query ReadFault
shaped_parts no_items = Err BadShape
shaped_parts (item n ds) = number_in n >>= λ k. shaped_kind k ds

abbrev pub shaped_query : Data → Result Query ReadFault
shaped_query d = items_in d >>= shaped_parts
