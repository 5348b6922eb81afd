-- What a term says, with nothing of how it is kept.
use Rattle.std.specs.Prelude.{ℕ, suc, ◌+◌, List, [], ◌∷◌}
use Rattle.reql_datum.specs.Plain.{Plain}
use Rattle.reql_term.specs.declared.op.Op.{Op}

mutual
  pub data Form : Type 0 where
    literal : Plain → Form
    several : Forms → Form
    keyed : NamedForms → Form
    variable : ℕ → Form
    implicit : Form
    function : List ℕ → Form → Form
    slot : ℕ → Form
    operation : Op → Forms → NamedForms → Form

  pub data Forms : Type 0 where
    no_forms : Forms
    form : Form → Forms → Forms

  pub data NamedForms : Type 0 where
    no_named : NamedForms
    named : List ℕ → Form → NamedForms → NamedForms

-- a list of forms, and one of forms by name, as they stand in a form
abbrev pub forms_of : List Form → Forms
forms_of [] = no_forms
forms_of (f ∷ fs) = form f (forms_of fs)

abbrev pub named_of : List (List ℕ × Form) → NamedForms
named_of [] = no_named
named_of (m ∷ ms) = named m.0 m.1 (named_of ms)

-- the measure of a walk: a list is above each of its members, and a form above its lists
abbrev mutual
  pub weight : Form → ℕ
  weight (literal d) = 0
  weight (several fs) = suc (forms_weight fs)
  weight (keyed ms) = suc (named_weight ms)
  weight (variable n) = 0
  weight implicit = 0
  weight (function ids f) = suc (suc (weight f))
  weight (slot n) = 0
  weight (operation op fs ms) = suc (forms_weight fs + named_weight ms)

  pub forms_weight : Forms → ℕ
  forms_weight no_forms = 0
  forms_weight (form f fs) = suc (weight f + forms_weight fs)

  pub named_weight : NamedForms → ℕ
  named_weight no_named = 0
  named_weight (named k f ms) = suc (weight f + named_weight ms)

abbrev pub list_weight : List Form → ℕ
list_weight fs = forms_weight (forms_of fs)

abbrev pub fields_weight : List (List ℕ × Form) → ℕ
fields_weight ms = named_weight (named_of ms)
