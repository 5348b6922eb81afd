-- The key of a GET by the places of its arguments.
use Rattle.std.proofs.Common.{◌≡◌, ℕ, suc, nat_eq, length, List, [], ◌∷◌, slice_get, true, false, Option, Some, None, refl, sym, ap, ◌∙◌, arith}
use Rattle.reql_datum.specs.Plain.{Plain}
use Rattle.reql_rules.specs.Lists.{Bytes}
use Rattle.reql_term.specs.Form.{Form, literal, several, keyed, variable, implicit, function, slot, operation, Forms, forms_of, named_of}
use Rattle.reql_term.specs.declared.op.Op.{Op}
use Rattle.reql_table_spec.specs.Followed.{arguments, is_get, closed_value, key_of_get, point_key}
use Rattle.reql_feed_read.specs.Shapes.{as_key, given, is_slot}

pub arguments_are : (fs : List Form) → arguments (forms_of fs) ≡ fs
arguments_are [] = refl
arguments_are (f ∷ fs) = ap (λ t. f ∷ t) (arguments_are fs)

abbrev got : List Form → Option Plain
got fs = given (key_of_get fs)

as_arguments : (fs : List Form) (o : Option Plain) → o ≡ got fs → o ≡ given (key_of_get (arguments (forms_of fs)))
as_arguments fs o e = e ∙ ap got (sym (arguments_are fs))

some_is : (f g : Form) → Some f ≡ Some g → f ≡ g
some_is f g e = cc

lone : (f : Form) → None ≡ got (f ∷ [])
lone (literal d) = refl
lone (several fs) = refl
lone (keyed ms) = refl
lone (variable n) = refl
lone implicit = refl
lone (function ids f) = refl
lone (slot n) = refl
lone (operation op fs ms) = refl

many : (f k j : Form) (fs : List Form) → None ≡ got (f ∷ k ∷ j ∷ fs)
many (literal d) k j fs = refl
many (several gs) k j fs = refl
many (keyed ms) k j fs = refl
many (variable n) k j fs = refl
many implicit k j fs = refl
many (function ids f) k j fs = refl
many (slot n) k j fs = refl
many (operation op gs ms) k j fs = refl

off_slot : (f : Form) (fs : List Form) → is_slot f ≡ false → None ≡ got (f ∷ fs)
off_slot (literal d) fs e = refl
off_slot (several gs) fs e = refl
off_slot (keyed ms) fs e = refl
off_slot (variable n) fs e = refl
off_slot implicit fs e = refl
off_slot (function ids f) fs e = refl
off_slot (slot n) fs e = absurd (cc (e))
off_slot (operation op gs ms) fs e = refl

on_slot : (f k : Form) → is_slot f ≡ true → key_of_get (f ∷ k ∷ []) ≡ as_key (closed_value k)
on_slot (literal d) k e = absurd (cc (e))
on_slot (several gs) k e = absurd (cc (e))
on_slot (keyed ms) k e = absurd (cc (e))
on_slot (variable n) k e = absurd (cc (e))
on_slot implicit k e = absurd (cc (e))
on_slot (function ids f) k e = absurd (cc (e))
on_slot (slot n) k e = refl
on_slot (operation op gs ms) k e = absurd (cc (e))

some_none : (f : Form) → None ≡ Some f → ⊥
some_none f e = cc

pub no_first : (fs : List Form) → None ≡ slice_get fs 0 → None ≡ given (key_of_get (arguments (forms_of fs)))
no_first [] e = refl
no_first (f ∷ fs) e = absurd (some_none f e)

pub no_second : (fs : List Form) → None ≡ slice_get fs 1 → None ≡ given (key_of_get (arguments (forms_of fs)))
no_second [] e = refl
no_second (f ∷ []) e = as_arguments (f ∷ []) None (lone f)
no_second (f ∷ k ∷ fs) e = absurd (some_none k e)

pub a_third : (fs : List Form) (j : Form) → Some j ≡ slice_get fs 2 → None ≡ given (key_of_get (arguments (forms_of fs)))
a_third [] j e = refl
a_third (f ∷ []) j e = as_arguments (f ∷ []) None (lone f)
a_third (f ∷ k ∷ []) j e = absurd (some_none j (sym e))
a_third (f ∷ k ∷ h ∷ fs) j e = as_arguments (f ∷ k ∷ h ∷ fs) None (many f k h fs)

pub no_slot : (fs : List Form) (f : Form) → Some f ≡ slice_get fs 0 → is_slot f ≡ false → None ≡ given (key_of_get (arguments (forms_of fs)))
no_slot [] f e off = refl
no_slot (g ∷ fs) f e off = as_arguments (g ∷ fs) None (off_slot g fs (ap is_slot (sym (some_is f g e)) ∙ off))

pub two : (fs : List Form) (f k : Form) (o : Option Plain) → Some f ≡ slice_get fs 0 → Some k ≡ slice_get fs 1 → None ≡ slice_get fs 2 → is_slot f ≡ true → o ≡ given (as_key (closed_value k))
    → o ≡ given (key_of_get (arguments (forms_of fs)))
two [] f k o e g h on is = absurd (some_none f (sym e))
two (x ∷ []) f k o e g h on is = absurd (some_none k (sym g))
two (x ∷ y ∷ []) f k o e g h on is =
    let first : is_slot x ≡ true = ap is_slot (sym (some_is f x e)) ∙ on in
    as_arguments (x ∷ y ∷ []) o (is ∙ ap (λ t. given (as_key (closed_value t))) (some_is k y g) ∙ ap given (sym (on_slot x y first)))
two (x ∷ y ∷ z ∷ fs) f k o e g h on is = absurd (some_none z h)

pub ruleset gets = (no_first, no_second, a_third, no_slot, two)

not_zero : (n : ℕ) → nat_eq (suc n) 0 ≡ false
not_zero n = grind arith

pub get_at : (o : Op) (fs : Forms) (ms : List (Bytes × Form)) (r : Option Plain) → nat_eq (length ms) 0 ≡ true → is_get o ≡ true → r ≡ given (key_of_get (arguments fs)) → r ≡ given (point_key None (operation o fs (named_of ms)))
get_at o fs [] r none on is = rw on is
get_at o fs (m ∷ ms) r none on is = absurd (let f : nat_eq (length (m ∷ ms)) 0 ≡ false = not_zero (length ms) in cc (none, f))

pub no_get : (o : Op) (fs : Forms) (ms : List (Bytes × Form)) → nat_eq (length ms) 0 ≡ true → is_get o ≡ false → None ≡ given (point_key None (operation o fs (named_of ms)))
no_get o fs [] none off = rw off refl
no_get o fs (m ∷ ms) none off = refl

pub named_get : (o : Op) (fs : Forms) (ms : List (Bytes × Form)) → nat_eq (length ms) 0 ≡ false → None ≡ given (point_key None (operation o fs (named_of ms)))
named_get o fs [] some = absurd (cc (some))
named_get o fs (m ∷ ms) some = refl
