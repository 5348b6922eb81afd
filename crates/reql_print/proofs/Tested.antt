-- The test tells just the terms that a body can hold.
use Rattle.std.proofs.Common.{◌≡◌, ℕ, List, Bool, true, false, ◌&&◌, not, is_some, refl}
use Rattle.serde_json.specs.Data as json
use Rattle.serde_json.specs.Find.{of_integer, get_member}
use Rattle.reql_datum.specs.Plain.{Plain, low, array, boolean, null, number, object, binary, time, text, high}
use Rattle.reql_json.specs.Literal.{binary_shown, time_shown}
use Rattle.reql_json.specs.Reading.{reserved}
use Rattle.reql_json.proofs.Back.{values_read_back, keeps_reading}
use Rattle.reql_term.specs.Form.{Form, literal, several, keyed, variable, implicit, function, slot, operation, Forms, no_forms, form, NamedForms, no_named, named}
use Rattle.reql_term.specs.Table.{number_of, fits}
use Rattle.reql_term.specs.declared.op.Op.{Op}
use Rattle.reql_term.specs.declared.op.Op.TheVariants as op
use Rattle.reql_read.specs.Shape.{kind_of}
use Rattle.reql_read.specs.Spelling.{spelled_named, count_of, takes_all, IsLiteral, IsHeld, AreHeld, AreNamedHeld}
use Rattle.reql_print.specs.Laws.{TellsHeld}
use Rattle.reql_print.specs.Printed.{is_literal, has_form, is_taken, are_distinct, is_free, is_held, are_held, are_named_held}
use Rattle.reql_print.proofs.Distinct.{distinct_true, distinct_is}

both : (a b : Bool) → (a && b) ≡ true → (a ≡ true) × (b ≡ true)
both true true h = (refl, refl)
both true false h = cc
both false b h = cc

no : (b : Bool) → not b ≡ true → b ≡ false
no true h = cc
no false h = refl

-- ---- literals

literal_is : (p : Plain) → is_literal p ≡ true → IsLiteral p
literal_is low h = cc
literal_is (array vs) h = cc
literal_is (boolean b) h = refl
literal_is null h = refl
literal_is (number z) h = values_read_back (number z) (json.number (of_integer z)) refl h
literal_is (object ms) h = cc
literal_is (binary s) h = values_read_back (binary s) (binary_shown s) refl h
literal_is (time t) h = values_read_back (time t) (time_shown t) refl h
literal_is (text s) h = refl
literal_is high h = cc

literal_true : (p : Plain) → IsLiteral p → is_literal p ≡ true
literal_true low h = cc
literal_true (array vs) h = cc
literal_true (boolean b) h = refl
literal_true null h = refl
literal_true (number z) h = (keeps_reading (json.number (of_integer z)) (number z) h).0
literal_true (object ms) h = cc
literal_true (binary s) h = (keeps_reading (binary_shown s) (binary s) h).0
literal_true (time t) h = (keeps_reading (time_shown t) (time t) h).0
literal_true (text s) h = refl
literal_true high h = cc

-- ---- operators

-- the kind of a number that has no form of its own
abbrev IsCall : Op → Type 0
IsCall o = kind_of (number_of o) ≡ kind_of (number_of op.Eq)

has_call : (o : Op) → has_form o ≡ false → IsCall o
unfolding kind_of
has_call op.MakeArray h = cc
has_call op.MakeObj h = cc
has_call op.Var h = cc
has_call op.ImplicitVar h = cc
has_call op.Func h = cc
has_call o h = refl

no_form : (o : Op) → IsCall o → has_form o ≡ false
unfolding kind_of
no_form op.MakeArray h = cc
no_form op.MakeObj h = cc
no_form op.Var h = cc
no_form op.ImplicitVar h = cc
no_form op.Func h = cc
no_form o h = refl

operation_is : (o : Op) (fs : Forms) (ms : NamedForms) → has_form o ≡ false → fits o (count_of fs) ≡ true → takes_all o ms ≡ true → AreHeld fs → AreNamedHeld ms → IsHeld (operation o fs ms)
unfolding kind_of
operation_is o fs ms free fit taken all given = (has_call o free, fit, taken, all, given)

operation_free : (o : Op) (fs : Forms) (ms : NamedForms) → IsHeld (operation o fs ms) → has_form o ≡ false
unfolding kind_of
operation_free o fs ms h = no_form o h.0

-- ---- terms

mutual
  pub held_is : (f : Form) → is_held f ≡ true → IsHeld f
  held_is (literal p) h = literal_is p h
  held_is (several fs) h = all_is fs h
  held_is (keyed ms) h = let e = both (is_free ms) (are_named_held ms) h in (no (is_some (get_member reserved (spelled_named ms))) e.0, named_is ms e.1)
  held_is (variable n) h = tt
  held_is implicit h = tt
  held_is (function ids f) h = let e = both (are_distinct ids) (is_held f) h in (distinct_is ids e.0, held_is f e.1)
  held_is (slot n) h = cc
  held_is (operation o fs ms) h =
      let e = both (is_taken o fs ms) (are_held fs && are_named_held ms) h in
      let t = both (not (has_form o)) (fits o (count_of fs) && takes_all o ms) e.0 in
      let u = both (fits o (count_of fs)) (takes_all o ms) t.1 in
      let v = both (are_held fs) (are_named_held ms) e.1 in
      operation_is o fs ms (no (has_form o) t.0) u.0 u.1 (all_is fs v.0) (named_is ms v.1)

  all_is : (fs : Forms) → are_held fs ≡ true → AreHeld fs
  all_is no_forms h = tt
  all_is (form f fs) h = let e = both (is_held f) (are_held fs) h in (held_is f e.0, all_is fs e.1)

  named_is : (ms : NamedForms) → are_named_held ms ≡ true → AreNamedHeld ms
  named_is no_named h = tt
  named_is (named k f ms) h = let e = both (is_held f) (are_named_held ms) h in (held_is f e.0, named_is ms e.1)

mutual
  pub held_true : (f : Form) → IsHeld f → is_held f ≡ true
  held_true (literal p) h = literal_true p h
  held_true (several fs) h = all_true fs h
  held_true (keyed ms) h = rw h.0 (named_true ms h.1)
  held_true (variable n) h = refl
  held_true implicit h = refl
  held_true (function ids f) h = rw (distinct_true ids h.0) (held_true f h.1)
  held_true (slot n) h = absurd h
  held_true (operation o fs ms) h = rw (operation_free o fs ms h, h.1, h.2, all_true fs h.3) (named_true ms h.4)

  all_true : (fs : Forms) → AreHeld fs → are_held fs ≡ true
  all_true no_forms h = refl
  all_true (form f fs) h = rw (held_true f h.0) (all_true fs h.1)

  named_true : (ms : NamedForms) → AreNamedHeld ms → are_named_held ms ≡ true
  named_true no_named h = refl
  named_true (named k f ms) h = rw (held_true f h.0) (named_true ms h.1)

pub tells_held : TellsHeld
tells_held f = (held_is f, held_true f)
