-- What stands in the places of a term.
use Rattle.std.specs.Prelude.{ℕ, suc, List, [], ◌∷◌, Option, Some, None, Bool, true, false}
use Rattle.reql_datum.specs.Members.{find}
use Rattle.reql_datum.specs.Plain.{Plain, boolean, text}
use Rattle.reql_term.specs.Form.{Form, literal, operation, Forms, no_forms, form, NamedForms, no_named, named}

-- a literal text
abbrev pub plain_text : Plain → Option (List ℕ)
plain_text (text s) = Some s
plain_text d = None

abbrev pub text_in : Form → Option (List ℕ)
text_in (literal d) = plain_text d
text_in f = None

abbrev pub text_at : Option Form → Option (List ℕ)
text_at None = None
text_at (Some f) = text_in f

-- whether a literal is the truth value true
abbrev pub plain_truth : Plain → Bool
plain_truth (boolean b) = b
plain_truth d = false

abbrev pub is_true : Form → Bool
is_true (literal d) = plain_truth d
is_true f = false

abbrev pub is_true_at : Option Form → Bool
is_true_at None = false
is_true_at (Some f) = is_true f

-- arguments by their places, and optional ones by name
abbrev pub first : Forms → Option Form
first no_forms = None
first (form f fs) = Some f

abbrev pub rest : Forms → Forms
rest no_forms = no_forms
rest (form f fs) = fs

abbrev pub second : Forms → Option Form
second fs = first (rest fs)

abbrev pub third : Forms → Option Form
third fs = first (rest (rest fs))

abbrev pub count : Forms → ℕ
count no_forms = 0
count (form f fs) = suc (count fs)

abbrev pub members : NamedForms → List (List ℕ × Form)
members no_named = []
members (named k f ms) = (k, f) ∷ members ms

abbrev pub option : List ℕ → NamedForms → Option Form
option name ms = find name (members ms)
