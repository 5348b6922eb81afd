-- All faults of a query, of which the first is answered: those of its term part by part, then those of its options.
use Rattle.std.specs.Prelude.{◌≡◌, ℕ, ◌^◌, ◌-◌, List, [], ◌∷◌, ◌++◌, map, Bool, true, false, ◌&&◌, not, is_some, nat_le, min, if◌then◌else◌, Option, Some, None, Result, Ok, Err}
use Rattle.std.specs.List.{filter, flat_map}
use Rattle.serde_json.specs.Data.{Data, Members, no_members, member}
use Rattle.serde_json.specs.Find.{as_bool}
use Rattle.reql_datum.specs.Plain.{Plain}
use Rattle.reql_json.specs.Reading.{document}
use Rattle.reql_json.specs.declared.fault.JsonFault.{JsonFault}
use Rattle.reql_term.specs.Table.{op_of, number_of, fits, takes}
use Rattle.reql_term.specs.declared.op.Op.{Op}
use Rattle.reql_term.specs.declared.op.Op.TheVariants as op
use Rattle.reql_read.specs.Globals.{as_whole, db_in, limit_of, batch_of, profile_of, choice_of}
use Rattle.reql_read.specs.Query.{asked_by}
use Rattle.reql_read.specs.Shape.{Query, start}
use Rattle.reql_read.specs.Written.{Names, Written, value, array, object, variable, row, function, call, Parts, no_parts, part, NamedParts, no_named, named, count_of, names_of}
use Rattle.reql_read.specs.declared.fault.ReadFault.{ReadFault}
use Rattle.reql_read.specs.declared.fault.ReadFault.TheVariants.{UnknownTerm, LeftOut, Arity, BadOptarg, Number}
use Rattle.reql_read.specs.declared.globals.Choice.{Choice}
use Rattle.reql_read.specs.declared.globals.Choice.TheVariants as choice

-- all parts of a term in preorder, from itself on
abbrev mutual
  pub parts_of : Written → List Written
  parts_of (value d) = value d ∷ []
  parts_of (array ws names) = array ws names ∷ parts_of_all ws
  parts_of (object ws) = object ws ∷ parts_of_named ws
  parts_of (variable id names) = variable id names ∷ []
  parts_of (row names) = row names ∷ []
  parts_of (function ids id_names body names) = function ids id_names body names ∷ parts_of body
  parts_of (call n args opts) = call n args opts ∷ (parts_of_all args ++ parts_of_named opts)

  pub parts_of_all : Parts → List Written
  parts_of_all no_parts = []
  parts_of_all (part w ws) = parts_of w ++ parts_of_all ws

  pub parts_of_named : NamedParts → List Written
  parts_of_named no_named = []
  parts_of_named (named k w ws) = parts_of w ++ parts_of_named ws

-- ---- the faults of a part by itself

abbrev pub bad_names : Op → Names → List ReadFault
bad_names op names = map BadOptarg (filter (λ k. not (takes op k)) names)

abbrev pub bad_count : Op → ℕ → List ReadFault
bad_count op n = if fits op n then [] else Arity (number_of op) (min n (2 ^ 32 - 1)) ∷ []

abbrev pub bad_value : Result Plain JsonFault → List ReadFault
bad_value (Ok p) = []
bad_value (Err fault) = Number fault ∷ []

-- of a term whose number is that of an operator, or of none
abbrev pub bad_call : ℕ → Option Op → ℕ → Names → List ReadFault
bad_call n None count names = LeftOut n ∷ []
bad_call n (Some op) count names = bad_count op count ++ bad_names op names

abbrev pub own_faults : Written → List ReadFault
own_faults (value d) = bad_value (document d)
own_faults (array ws names) = bad_names op.MakeArray names
own_faults (object ws) = []
own_faults (variable id names) = bad_names op.Var names
own_faults (row names) = bad_names op.ImplicitVar names
own_faults (function ids id_names body names) = bad_names op.Func names ++ bad_names op.MakeArray id_names
own_faults (call n args opts) = if nat_le 1 n && nat_le n 255 then bad_call n (op_of n) (count_of args) (names_of opts) else UnknownTerm n ∷ []

abbrev pub term_faults : Written → List ReadFault
term_faults w = flat_map own_faults (parts_of w)

-- ---- the faults of the options

abbrev pub is_right : Choice → Data → Bool
is_right choice.Db d = is_some (db_in d)
is_right choice.Noreply d = is_some (as_bool d)
is_right choice.ArrayLimit d = is_some (limit_of (as_whole d))
is_right choice.Batch d = is_some (batch_of (as_whole d))
is_right choice.Profile d = is_some (profile_of (as_bool d))
is_right choice.Accepted d = true
is_right choice.Unknown d = false

abbrev pub option_faults : Members → List ReadFault
option_faults no_members = []
option_faults (member k d ms) = (if is_right (choice_of k) d then [] else BadOptarg k ∷ []) ++ option_faults ms

abbrev pub faults_of : Query → List ReadFault
faults_of (start term opts) = term_faults term ++ option_faults opts
faults_of q = []

-- A query is read exactly where there is no fault, and else answered by the first one.
abbrev pub IsFirstOf : {A : Type 0} → List ReadFault → Result A ReadFault → Type 0
IsFirstOf [] (Ok x) = Unit {0}
IsFirstOf (e ∷ es) (Err f) = f ≡ e
IsFirstOf es r = ⊥

abbrev pub FirstFaultIsTold : Type 0
FirstFaultIsTold = (q : Query) → IsFirstOf (faults_of q) (asked_by q)
