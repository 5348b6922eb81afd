-- Which terms a body can hold, by a test, and the body that each is printed as.
use Rattle.std.specs.Prelude.{ℕ, List, [], ◌∷◌, Bool, true, false, ◌&&◌, not, nat_le, is_some, if◌then◌else◌, Option, Some, None}
use Rattle.serde_json.specs.Data as json
use Rattle.serde_json.specs.Find.{get_member}
use Rattle.serde_json.specs.Read.{max_depth}
use Rattle.serde_json.specs.Written.{compact_text}
use Rattle.reql_datum.specs.Plain.{Plain, boolean, null, number, text, binary, time}
use Rattle.reql_datum.specs.Whole.{is_in}
use Rattle.reql_datum.specs.Zone.{is_zone}
use Rattle.reql_json.specs.Literal.{are_bytes}
use Rattle.reql_json.specs.Reading.{reserved}
use Rattle.reql_term.specs.Form.{Form, literal, several, keyed, variable, implicit, function, slot, operation, Forms, no_forms, form, NamedForms, no_named, named}
use Rattle.reql_term.specs.Table.{fits}
use Rattle.reql_term.specs.declared.op.Op.{Op}
use Rattle.reql_term.specs.declared.op.Op.TheVariants as op
use Rattle.reql_read.specs.Shape.{is_new}
use Rattle.reql_read.specs.Spelling.{spelled_number, spelled, spelled_named, count_of, takes_all}

-- a document that is a literal: null, a boolean, a text, or a number, a binary or a time in its range
abbrev pub is_literal : Plain → Bool
is_literal null = true
is_literal (boolean b) = true
is_literal (number z) = is_in z
is_literal (text s) = true
is_literal (binary s) = are_bytes s
is_literal (time t) = is_in t.0 && is_zone t.1
is_literal p = false

-- the operators whose terms have a form of their own, and are no operations
abbrev pub has_form : Op → Bool
has_form op.MakeArray = true
has_form op.MakeObj = true
has_form op.Var = true
has_form op.ImplicitVar = true
has_form op.Func = true
has_form o = false

-- an operator with a right count of arguments and optional arguments of its own
abbrev pub is_taken : Op → Forms → NamedForms → Bool
is_taken o fs ms = not (has_form o) && (fits o (count_of fs) && takes_all o ms)

-- no two ids alike
abbrev pub are_distinct : List ℕ → Bool
are_distinct [] = true
are_distinct (k ∷ ks) = is_new k ks && are_distinct ks

-- an object whose names are others than the reserved one
abbrev pub is_free : NamedForms → Bool
is_free ms = not (is_some (get_member reserved (spelled_named ms)))

-- a term that a body can hold: it has no slot and no document but literals
abbrev mutual
  pub is_held : Form → Bool
  is_held (literal p) = is_literal p
  is_held (several fs) = are_held fs
  is_held (keyed ms) = is_free ms && are_named_held ms
  is_held (variable n) = true
  is_held implicit = true
  is_held (function ids f) = are_distinct ids && is_held f
  is_held (slot n) = false
  is_held (operation o fs ms) = is_taken o fs ms && (are_held fs && are_named_held ms)

  pub are_held : Forms → Bool
  are_held no_forms = true
  are_held (form f fs) = is_held f && are_held fs

  pub are_named_held : NamedForms → Bool
  are_named_held no_named = true
  are_named_held (named k f ms) = is_held f && are_named_held ms

-- the query that starts a term, with no options: [1, term]
abbrev pub body_of : Form → json.Data
body_of f = json.array (json.item (spelled_number 1) (json.item (spelled f) json.no_items))

-- its arrays and objects nest no deeper than is read
abbrev pub is_shallow : Form → Bool
is_shallow f = nat_le (json.depth (body_of f)) max_depth

abbrev pub is_printable : Form → Bool
is_printable f = is_held f && is_shallow f

-- the text of that query, of a term that can be printed
abbrev pub printed : Form → Option (List ℕ)
printed f = if is_printable f then Some (compact_text (body_of f)) else None
