-- A term spelled as the JSON of a body, as drivers write it, and which terms a body can hold.
use Rattle.std.specs.Prelude.{◌≡◌, ℕ, suc, ◌^◌, ◌<◌, ◌≤◌, pos, negsuc, List, [], ◌∷◌, Bool, true, false, ◌&&◌, is_some, Ok}
use Rattle.std.specs.Str.{IsUtf8}
use Rattle.serde_json.specs.Data as json
use Rattle.serde_json.specs.Find.{of_integer, get_member}
use Rattle.serde_json.specs.Read.{max_depth}
use Rattle.serde_json.specs.Written.{compact_text}
use Rattle.reql_datum.specs.Members.{AreRising}
use Rattle.reql_datum.specs.Plain.{Plain, boolean, null, number, text, binary, time}
use Rattle.reql_json.specs.Literal.{binary_shown, time_shown}
use Rattle.reql_json.specs.Reading.{document, reserved}
use Rattle.reql_term.specs.Form.{Form, literal, several, keyed, variable, implicit, function, slot, operation, Forms, no_forms, form, NamedForms, no_named, named}
use Rattle.reql_term.specs.Params.{AreDistinct}
use Rattle.reql_term.specs.Table.{number_of, fits, takes}
use Rattle.reql_term.specs.declared.op.Op.{Op}
use Rattle.reql_term.specs.declared.op.Op.TheVariants as op
use Rattle.reql_read.specs.Globals.{settings_of}
use Rattle.reql_read.specs.Query.{start, query_text}
use Rattle.reql_read.specs.Shape.{kind_of}
use Rattle.reql_read.specs.declared.globals.Settings.{Settings}
use Rattle.reql_read.specs.declared.shape.Kind.TheVariants as kind

-- a number
abbrev pub spelled_number : ℕ → json.Data
spelled_number n = json.number (json.unsigned n)

-- a term: [number], [number, arguments] or [number, arguments, optional arguments]
abbrev pub call : ℕ → json.Items → json.Members → json.Data
call n json.no_items json.no_members = json.array (json.item (spelled_number n) json.no_items)
call n args json.no_members = json.array (json.item (spelled_number n) (json.item (json.array args) json.no_items))
call n args opts = json.array (json.item (spelled_number n) (json.item (json.array args) (json.item (json.object opts) json.no_items)))

abbrev pub spelled_ids : List ℕ → json.Items
spelled_ids [] = json.no_items
spelled_ids (n ∷ ns) = json.item (spelled_number n) (spelled_ids ns)

abbrev pub one : json.Data → json.Items
one d = json.item d json.no_items

-- a document that is a literal: null, a boolean, a number, a text, a binary or a time
abbrev pub spelled_literal : Plain → json.Data
spelled_literal null = json.null
spelled_literal (boolean b) = json.boolean b
spelled_literal (number z) = json.number (of_integer z)
spelled_literal (text s) = json.string s
spelled_literal (binary s) = binary_shown s
spelled_literal (time t) = time_shown t
spelled_literal _ = json.null

abbrev mutual
  pub spelled : Form → json.Data
  spelled (literal p) = spelled_literal p
  spelled (several fs) = call (number_of op.MakeArray) (spelled_all fs) json.no_members
  spelled (keyed ms) = json.object (spelled_named ms)
  spelled (variable n) = call (number_of op.Var) (one (spelled_number n)) json.no_members
  spelled implicit = call (number_of op.ImplicitVar) json.no_items json.no_members
  spelled (function ids f) =
      call (number_of op.Func) (json.item (call (number_of op.MakeArray) (spelled_ids ids) json.no_members) (one (spelled f))) json.no_members
  spelled (slot n) = json.null
  spelled (operation op fs ms) = call (number_of op) (spelled_all fs) (spelled_named ms)

  pub spelled_all : Forms → json.Items
  spelled_all no_forms = json.no_items
  spelled_all (form f fs) = json.item (spelled f) (spelled_all fs)

  pub spelled_named : NamedForms → json.Members
  spelled_named no_named = json.no_members
  spelled_named (named k f ms) = json.member k (spelled f) (spelled_named ms)

-- ---- JSON that has a text of its own

abbrev pub members_list : json.Members → List (List ℕ × json.Data)
members_list json.no_members = []
members_list (json.member k d ms) = (k, d) ∷ members_list ms

-- a whole number in 64 bits, without a sign or, if below 0, above -2^63
abbrev pub IsWord : json.Num → Type 0
IsWord (json.unsigned n) = n < 2 ^ 64
IsWord (json.negative (pos n)) = ⊥
IsWord (json.negative (negsuc n)) = suc n < 2 ^ 63
IsWord (json.float x) = ⊥

-- numbers are such words, texts are UTF-8, and the names of an object rise
abbrev mutual
  pub HasText : json.Data → Type 0
  HasText json.null = Unit {0}
  HasText (json.boolean b) = Unit {0}
  HasText (json.number n) = IsWord n
  HasText (json.string s) = IsUtf8 s
  HasText (json.array ds) = HaveText ds
  HasText (json.object ms) = AreRising (members_list ms) × MembersHaveText ms

  pub HaveText : json.Items → Type 0
  HaveText json.no_items = Unit {0}
  HaveText (json.item d ds) = HasText d × HaveText ds

  pub MembersHaveText : json.Members → Type 0
  MembersHaveText json.no_members = Unit {0}
  MembersHaveText (json.member k d ms) = IsUtf8 k × HasText d × MembersHaveText ms

-- ---- the terms that a body can hold

-- a literal that its spelling says
abbrev pub IsLiteral : Plain → Type 0
IsLiteral p = document (spelled_literal p) ≡ Ok p

abbrev pub count_of : Forms → ℕ
count_of no_forms = 0
count_of (form f fs) = suc (count_of fs)

abbrev pub takes_all : Op → NamedForms → Bool
takes_all op no_named = true
takes_all op (named k f ms) = takes op k && takes_all op ms

-- an operation whose operator has a form of its own is written in that form; a slot is written by no body
abbrev mutual
  pub IsHeld : Form → Type 0
  IsHeld (literal p) = IsLiteral p
  IsHeld (several fs) = AreHeld fs
  IsHeld (keyed ms) = (is_some (get_member reserved (spelled_named ms)) ≡ false) × AreNamedHeld ms
  IsHeld (variable n) = Unit {0}
  IsHeld implicit = Unit {0}
  IsHeld (function ids f) = AreDistinct ids × IsHeld f
  IsHeld (slot n) = ⊥
  IsHeld (operation op fs ms) = (kind_of (number_of op) ≡ kind.Call) × (fits op (count_of fs) ≡ true) × (takes_all op ms ≡ true) × AreHeld fs × AreNamedHeld ms

  pub AreHeld : Forms → Type 0
  AreHeld no_forms = Unit {0}
  AreHeld (form f fs) = IsHeld f × AreHeld fs

  pub AreNamedHeld : NamedForms → Type 0
  AreNamedHeld no_named = Unit {0}
  AreNamedHeld (named k f ms) = IsHeld f × AreNamedHeld ms

-- a query that starts a term, written [1, term, options]
abbrev pub spelled_query : Form → json.Members → json.Data
spelled_query f opts = json.array (json.item (spelled_number 1) (json.item (spelled f) (json.item (json.object opts) json.no_items)))

-- A body can hold a query: its term is one that can be written, and its JSON has a text that is no deeper than is read.
abbrev pub FitsBody : Form → json.Members → Type 0
FitsBody f opts = record { held : IsHeld f; has_text : HasText (spelled_query f opts); shallow : json.depth (spelled_query f opts) ≤ max_depth }

-- a query that a body can hold is read back from the text of its spelling
abbrev pub ReadsBack : Type 0
ReadsBack = (f : Form) (opts : json.Members) (s : Settings) → FitsBody f opts → settings_of opts ≡ Ok s → query_text (compact_text (spelled_query f opts)) ≡ Ok (start f s)

-- the term of a query that is read from a body is one that a body can hold
abbrev pub ReadsHeld : Type 0
ReadsHeld = (body : List ℕ) (f : Form) (s : Settings) → query_text body ≡ Ok (start f s) → IsHeld f
