-- The slot that a shape is found on is the one that it is a shape of.
use Rattle.std.proofs.Common.{◌≡◌, ℕ, nat_eq, [], Bool, true, false, ◌&&◌, ◌||◌, if◌then◌else◌, Option, Some, None, refl, ap, ◌∙◌, arith}
use Rattle.reql_term.specs.Form.{Form, literal, several, keyed, variable, implicit, function, slot, operation, Forms, no_forms, form}
use Rattle.reql_term.specs.declared.op.Op.{Op}
use Rattle.reql_term.specs.declared.op.Op.TheVariants as op
use Rattle.reql_value_spec.specs.Shapes.{is_stage, is_part}
use Rattle.reql_feed_spec.specs.Kept.{is_shape, on_shape, is_table, on_table, are_free, fields_free}
use Rattle.reql_feed_read.specs.Shapes.{slot_in, part_slot, shape_slot, stage_slot}

abbrev pub is_at : Option ℕ → ℕ → Bool
is_at None n = false
is_at (Some k) n = nat_eq k n

stage_no_part : (o : Op) → is_stage o ≡ true → is_part o ≡ false
stage_no_part op.Between h = absurd (cc (h))
stage_no_part op.GetAll h = absurd (cc (h))
stage_no_part o h = refl

and_true : (b : Bool) → b && true ≡ b
and_true true = refl
and_true false = refl

and_false : (b : Bool) → b && false ≡ false
and_false true = refl
and_false false = refl

or_false : (b : Bool) → b || false ≡ b
or_false true = refl
or_false false = refl

beside : (free : Bool) (n : ℕ) (o : Option ℕ) (is : Bool) → is ≡ is_at o n → is && free ≡ is_at (if free then o else None) n
beside true n o is e = and_true is ∙ e
beside false n o is e = and_false is

by_kinds : (s p : Bool) (n : ℕ) (a b : Option ℕ) (x y : Bool) → (s ≡ true → p ≡ false) → x ≡ is_at a n → y ≡ is_at b n
    → (s && x) || (p && y) ≡ is_at (if s then a else (if p then b else None)) n
by_kinds true true n a b x y apart e f = absurd (let t : true ≡ false = apart refl in cc (t))
by_kinds true false n a b x y apart e f = or_false x ∙ e
by_kinds false true n a b x y apart e f = f
by_kinds false false n a b x y apart e f = refl

where_free : (free : Bool) (n : ℕ) (o : Option ℕ) (is : Bool) → is ≡ is_at o n → free && is ≡ is_at (if free then o else None) n
where_free true n o is e = e
where_free false n o is e = refl

table_slots : (n : ℕ) (f : Form) → is_table n f ≡ is_at (slot_in f) n
table_slots n (slot k) = refl
table_slots n (literal d) = refl
table_slots n (several fs) = refl
table_slots n (keyed ms) = refl
table_slots n (variable id) = refl
table_slots n implicit = refl
table_slots n (function ids body) = refl
table_slots n (operation o fs ms) = refl

part_slots : (n : ℕ) (fs : Forms) → on_table n fs ≡ is_at (part_slot fs) n
part_slots n no_forms = refl
part_slots n (form f fs) = beside (are_free [] fs) n (slot_in f) (is_table n f) (table_slots n f)

mutual
  pub shape_slots : (n : ℕ) (f : Form) → is_shape n f ≡ is_at (shape_slot f) n
  shape_slots n (slot k) = refl
  shape_slots n (operation o fs ms) =
      where_free (fields_free [] ms) n (if is_stage o then stage_slot fs else (if is_part o then part_slot fs else None)) ((is_stage o && on_shape n fs) || (is_part o && on_table n fs))
      (by_kinds (is_stage o) (is_part o) n (stage_slot fs) (part_slot fs) (on_shape n fs) (on_table n fs) (stage_no_part o) (stage_slots n fs) (part_slots n fs))
  shape_slots n (literal d) = refl
  shape_slots n (several fs) = refl
  shape_slots n (keyed ms) = refl
  shape_slots n (variable id) = refl
  shape_slots n implicit = refl
  shape_slots n (function ids body) = refl

  stage_slots : (n : ℕ) (fs : Forms) → on_shape n fs ≡ is_at (stage_slot fs) n
  stage_slots n no_forms = refl
  stage_slots n (form f fs) = beside (are_free [] fs) n (shape_slot f) (is_shape n f) (shape_slots n f)

itself : (n : ℕ) → nat_eq n n ≡ true
itself n = grind arith

-- where a slot is found, the term is a shape of it; where none is found, of none
pub shape_at : (f : Form) (n : ℕ) → shape_slot f ≡ Some n → is_shape n f ≡ true
shape_at f n e = shape_slots n f ∙ ap (λ o. is_at o n) e ∙ itself n

pub no_shape : (f : Form) (n : ℕ) → shape_slot f ≡ None → is_shape n f ≡ false
no_shape f n e = shape_slots n f ∙ ap (λ o. is_at o n) e
