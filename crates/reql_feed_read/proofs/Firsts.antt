-- The first of some arguments, and an option by its name.
use Rattle.std.proofs.Common.{◌≡◌, ℕ, zero, suc, ◌<◌, List, [], ◌∷◌, drop, slice_get, true, false, Option, Some, None, codes, refl, sym, ap, ◌∙◌, arith, rules}
use Rattle.reql_datum.specs.Members.{find}
use Rattle.reql_rules.specs.Lists.{Bytes}
use Rattle.reql_term.specs.Form.{Form, weight, list_weight, fields_weight, forms_of, named_of}
use Rattle.reql_feed_spec.specs.Kept.{are_free}
use Rattle.reql_table_spec.specs.Followed.{options, index_in, literal_index, first_index, shape_index}
use Rattle.reql_feed_read.specs.Shapes.{slot_in, part_slot, shape_slot, stage_slot, agrees}

pub form_below : (fs : List Form) (i : ℕ) (f : Form) → slice_get fs i ≡ Some f → weight f < list_weight fs
form_below [] i f h = search rules
form_below (g ∷ gs) zero f h = search rules
form_below (g ∷ gs) (suc i) f h = omega (arith, form_below gs i f h)

pub field_below : (ms : List (List ℕ × Form)) (i : ℕ) (k : List ℕ) (f : Form) → slice_get ms i ≡ Some (k, f) → weight f < fields_weight ms
field_below [] i k f h = search rules
field_below (m ∷ ms) zero k f h = search rules
field_below (m ∷ ms) (suc i) k f h = omega (arith, field_below ms i k f h)

head_is : (g f : Form) (gs hs : List Form) → g ∷ gs ≡ f ∷ hs → g ≡ f
head_is g f gs hs e = cc

no_more : (fs : List Form) (f : Form) (gs : List Form) → [] ≡ f ∷ gs → ⊥
no_more fs f gs e = cc

pub part_at : (fs : List Form) (f : Form) → fs ≡ f ∷ drop 1 fs → are_free [] (forms_of (drop 1 fs)) ≡ true → slot_in f ≡ part_slot (forms_of fs)
part_at [] f e free = absurd (no_more [] f [] e)
part_at (g ∷ gs) f e free = rw free (ap slot_in (sym (head_is g f gs gs e)))

pub part_off : (fs : List Form) (f : Form) → fs ≡ f ∷ drop 1 fs → are_free [] (forms_of (drop 1 fs)) ≡ false → None ≡ part_slot (forms_of fs)
part_off [] f e free = absurd (no_more [] f [] e)
part_off (g ∷ gs) f e free = rw free refl

pub part_none : (fs : List Form) → fs ≡ [] → None ≡ part_slot (forms_of fs)
part_none fs e = rw e refl

pub stage_at : (fs : List Form) (f : Form) → fs ≡ f ∷ drop 1 fs → are_free [] (forms_of (drop 1 fs)) ≡ true → shape_slot f ≡ stage_slot (forms_of fs)
stage_at [] f e free = absurd (no_more [] f [] e)
stage_at (g ∷ gs) f e free = rw free (ap shape_slot (sym (head_is g f gs gs e)))

pub stage_off : (fs : List Form) (f : Form) → fs ≡ f ∷ drop 1 fs → are_free [] (forms_of (drop 1 fs)) ≡ false → None ≡ stage_slot (forms_of fs)
stage_off [] f e free = absurd (no_more [] f [] e)
stage_off (g ∷ gs) f e free = rw free refl

pub stage_none : (fs : List Form) → fs ≡ [] → None ≡ stage_slot (forms_of fs)
stage_none fs e = rw e refl

pub index_at : (fs : List Form) (f : Form) (asked : Option Bytes) → fs ≡ f ∷ drop 1 fs → agrees asked (shape_index f) ≡ agrees asked (first_index (forms_of fs))
index_at [] f asked e = absurd (no_more [] f [] e)
index_at (g ∷ gs) f asked e = ap (λ x. agrees asked (shape_index x)) (sym (head_is g f gs gs e))

pub index_none : (fs : List Form) (asked : Option Bytes) → fs ≡ [] → false ≡ agrees asked (first_index (forms_of fs))
index_none fs asked e = rw e refl

pub ruleset firsts = (form_below, field_below, part_at, part_off, part_none, stage_at, stage_off, stage_none, index_at, index_none)

options_are : (ms : List (Bytes × Form)) → options (named_of ms) ≡ ms
options_are [] = refl
options_are (m ∷ ms) = ap (λ t. m ∷ t) (options_are ms)

pub named_at : (ms : List (Bytes × Form)) (f : Form) (asked : Option Bytes) → Some f ≡ find (codes "index") ms → agrees asked (literal_index (Some f)) ≡ agrees asked (index_in (named_of ms))
named_at ms f asked e = ap (λ o. agrees asked (literal_index o)) (e ∙ ap (find (codes "index")) (sym (options_are ms)))

pub named_none : (ms : List (Bytes × Form)) (asked : Option Bytes) → None ≡ find (codes "index") ms → agrees asked (literal_index None) ≡ agrees asked (index_in (named_of ms))
named_none ms asked e = ap (λ o. agrees asked (literal_index o)) (e ∙ ap (find (codes "index")) (sym (options_are ms)))
