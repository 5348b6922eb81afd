-- A form as a tree of numbers, and back: by it a proof tells forms apart.
use Rattle.std.specs.Prelude.{◌≡◌, refl, ℕ, zero, suc, List, [], ◌∷◌}
use Rattle.std.proofs.Common.{ap}
use Rattle.std.specs.Coded.{Coded, code_by, coded_list, coded×, coded_ℕ}
use base.Stored.{Gv, gnil, gnum, gcons}
use denote.Struct.Codes.{itself}
use Rattle.reql_datum.specs.Plain.{Plain}
use Rattle.reql_datum.specs.Code.{plain_to, plain_from, plain_back}
use Rattle.reql_term.specs.declared.op.Op.{Op}
use Rattle.reql_term.specs.Form.{Form, literal, several, keyed, variable, implicit, function, slot, operation, Forms, no_forms, form, NamedForms, no_named, named}
use Rattle.reql_term.specs.OpCode.{op_at, op_back}
use Rattle.reql_term.specs.Table.{place}

abbrev numbers_to : List ℕ → Gv
numbers_to [] = gnil
numbers_to (x ∷ xs) = gcons (gnum x) (numbers_to xs)

abbrev num_from : Gv → ℕ
num_from gnil = 0
num_from (gnum n) = n
num_from (gcons a b) = 0

abbrev numbers_from : Gv → List ℕ
numbers_from gnil = []
numbers_from (gnum n) = []
numbers_from (gcons a b) = num_from a ∷ numbers_from b

numbers_back : (s : List ℕ) → numbers_from (numbers_to s) ≡ s
numbers_back [] = refl
numbers_back (x ∷ xs) = ap (λ t. x ∷ t) (numbers_back xs)

-- A form is stored as the pair of its kind and its parts; of an operation the kind holds the operator
-- and the optional arguments, and of a function the parameters with a number.
abbrev mutual
  to : Form → Gv
  to (literal d) = gcons (gnum 0) (plain_to d)
  to (several fs) = gcons (gnum 1) (forms_to fs)
  to (keyed ms) = gcons (gnum 2) (named_to ms)
  to (variable n) = gcons (gnum 3) (gnum n)
  to implicit = gnil
  to (slot n) = gcons (gnum 4) (gnum n)
  to (function ids f) = gcons (gcons (numbers_to ids) (gnum 0)) (to f)
  to (operation op fs ms) = gcons (gcons (gnum (place op)) (named_to ms)) (forms_to fs)

  forms_to : Forms → Gv
  forms_to no_forms = gnil
  forms_to (form f fs) = gcons (to f) (forms_to fs)

  named_to : NamedForms → Gv
  named_to no_named = gnil
  named_to (named k f ms) = gcons (gcons (numbers_to k) (to f)) (named_to ms)

abbrev leaf : ℕ → ℕ → Plain → Forms → NamedForms → Form
leaf zero n d fs ms = literal d
leaf (suc zero) n d fs ms = several fs
leaf (suc (suc zero)) n d fs ms = keyed ms
leaf (suc (suc (suc zero))) n d fs ms = variable n
leaf (suc (suc (suc (suc k)))) n d fs ms = slot n

abbrev branching : Gv → Gv → Forms → NamedForms → Form → Form
branching kind gnil fs ms f = operation (op_at (num_from kind)) fs ms
branching kind (gnum n) fs ms f = function (numbers_from kind) f
branching kind (gcons a b) fs ms f = operation (op_at (num_from kind)) fs ms

abbrev inner : Gv → ℕ → Plain → Forms → NamedForms → NamedForms → Form → Form
inner gnil n d fs ms opts f = f
inner (gnum k) n d fs ms opts f = leaf k n d fs ms
inner (gcons a b) n d fs ms opts f = branching a b fs opts f

abbrev mutual
  from : Gv → Form
  from gnil = implicit
  from (gnum n) = variable n
  from (gcons a b) = inner a (num_from b) (plain_from b) (forms_from b) (named_from b) (options_from a) (from b)

  forms_from : Gv → Forms
  forms_from gnil = no_forms
  forms_from (gnum n) = no_forms
  forms_from (gcons a b) = form (from a) (forms_from b)

  named_from : Gv → NamedForms
  named_from gnil = no_named
  named_from (gnum n) = no_named
  named_from (gcons a b) = member_from a (named_from b)

  member_from : Gv → NamedForms → NamedForms
  member_from gnil ms = ms
  member_from (gnum n) ms = ms
  member_from (gcons k f) ms = named (numbers_from k) (from f) ms

  options_from : Gv → NamedForms
  options_from gnil = no_named
  options_from (gnum n) = no_named
  options_from (gcons a b) = named_from b

branching_back : (op : Op) (ms : NamedForms) (f : Form) (fs gs : Forms) → named_from (named_to ms) ≡ ms → gs ≡ fs → branching (gnum (place op)) (named_to ms) gs (named_from (named_to ms)) f ≡ operation op fs ms
branching_back op no_named f fs gs same is = λ i. operation (op_back op i) (is i) (same i)
branching_back op (named k g ms) f fs gs same is = λ i. operation (op_back op i) (is i) (same i)

mutual
  pub back : (v : Form) → from (to v) ≡ v
  back (literal d) = ap literal (plain_back d)
  back (several fs) = ap several (forms_back fs)
  back (keyed ms) = ap keyed (named_back ms)
  back (variable n) = refl
  back implicit = refl
  back (slot n) = refl
  back (function ids f) = λ i. function (numbers_back ids i) (back f i)
  back (operation op fs ms) = branching_back op ms (from (forms_to fs)) fs (forms_from (forms_to fs)) (named_back ms) (forms_back fs)

  pub forms_back : (vs : Forms) → forms_from (forms_to vs) ≡ vs
  forms_back no_forms = refl
  forms_back (form f fs) = λ i. form (back f i) (forms_back fs i)

  pub named_back : (ms : NamedForms) → named_from (named_to ms) ≡ ms
  named_back no_named = refl
  named_back (named k f ms) = λ i. named (numbers_back k i) (back f i) (named_back ms i)

abbrev pub form_code : Coded Form
form_code = code_by Gv itself to from back

abbrev pub forms_code : Coded (List Form)
forms_code = coded_list form_code

abbrev pub fields_code : Coded (List (List ℕ × Form))
fields_code = coded_list (coded× (coded_list coded_ℕ) form_code)
