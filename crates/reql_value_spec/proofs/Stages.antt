-- Each stage gives of a sequence what it gives of its elements, in order.
use Rattle.std.proofs.Common.{◌≡◌, refl, sym, ap, ◌∙◌, Bool, true, false, List, [], ◌∷◌, ◌++◌, map, if◌then◌else◌, Option, Some, None, Ok, Err}
use Rattle.std.specs.Prelude.{codes}
use Rattle.reql_datum.specs.Answer.{Answer, ◌>>=◌, Reason, query_logic, non_existence, resource_limit, op_failed, user, no_text}
use Rattle.reql_datum.specs.Members.{find}
use Rattle.reql_datum.specs.Plain.{Plain, low, array, boolean, null, number, object, binary, time, text, high, listed}
use Rattle.reql_rules.specs.Fields.{on_objects, on_each}
use Rattle.reql_rules.specs.Lists.{each, each_joined}
use Rattle.reql_rules.specs.Mapping.{tested, passing, filter_all}
use Rattle.reql_rules.specs.Patterns.{pluck, without}
use Rattle.reql_value_spec.specs.Called.{answer_one, answer_test}
use Rattle.reql_value_spec.specs.Fields.{elements, subject_of, field_subject, having, having_one, patterns, has_fields_of, has_fields_rule, with_fields, on_subject, by_patterns, merge_rule, merged_on}
use Rattle.reql_value_spec.specs.Meant.{Meant, one, stream, selection, row, table, grouped, database, callable, Given, given, Calls, is_nothing}
use Rattle.reql_value_spec.specs.Sequenced.{like, alike, like_first, alike_first}
use Rattle.reql_value_spec.specs.Sequences.{map_rule, filter_rule, default_given, in_its_place}
use Rattle.reql_value_spec.specs.Stages.{staged_by, by_answer, mapping, going, map_stage, filter_stage, pattern_stage, merge_stage, having_stage, with_fields_stage, IsStage, StagesGoByElement}
use Rattle.reql_value_spec.specs.Wanted.{to_sequence}
use Rattle.reql_value_spec.specs.World.{World, view_at, documents_of}

abbrev ok : List Plain → Answer (List Plain)
ok a = Ok a

-- ---- a sequence is a subject of elements
ok_inside : (a b : List Plain) → ok a ≡ ok b → a ≡ b
ok_inside a b e = cc

not_ok : {G : Type 0} (e : Reason) (a : List Plain) → Err e ≡ ok a → G
not_ok e a h = absurd (cc (h))

subject_as : {A : Type 0} (a : Answer A) (f : A → List Plain) (vs : List Plain) → (a >>= λ x. Ok (f x)) ≡ Ok vs → (a >>= λ x. Ok (elements (f x))) ≡ Ok (elements vs)
subject_as (Ok x) f vs h = ap (λ us. Ok (elements us)) (ok_inside (f x) vs h)
subject_as (Err e) f vs h = not_ok e vs h

pub elements_of : (w : World) (m : Meant) (vs : List Plain) → to_sequence w m ≡ Ok vs → (subject_of w m ≡ Ok (elements vs)) × (is_nothing m ≡ false)
elements_of w (one low) vs h = not_ok _ vs h
elements_of w (one (array us)) vs h = (ap (λ xs. Ok (elements xs)) (ok_inside (listed us) vs h), refl)
elements_of w (one (boolean b)) vs h = not_ok _ vs h
elements_of w (one null) vs h = not_ok _ vs h
elements_of w (one (number n)) vs h = not_ok _ vs h
elements_of w (one (object ms)) vs h = not_ok _ vs h
elements_of w (one (binary s)) vs h = not_ok _ vs h
elements_of w (one (time t)) vs h = not_ok _ vs h
elements_of w (one (text s)) vs h = not_ok _ vs h
elements_of w (one high) vs h = not_ok _ vs h
elements_of w (stream ds) vs h = (ap (λ xs. Ok (elements xs)) (ok_inside ds vs h), refl)
elements_of w (selection n k ds) vs h = (ap (λ xs. Ok (elements xs)) (ok_inside ds vs h), refl)
elements_of w (row n k d) vs h = not_ok _ vs h
elements_of w (table n) vs h = (subject_as (view_at w n) documents_of vs h, refl)
elements_of w (grouped gs) vs h = not_ok _ vs h
elements_of w (database name) vs h = not_ok _ vs h
elements_of w callable vs h = not_ok _ vs h

field_elements : (w : World) (m : Meant) (vs : List Plain) → to_sequence w m ≡ Ok vs → field_subject w (given m) ≡ Ok (elements vs)
field_elements w m vs h = let e = elements_of w m vs h in rw (e.1, e.0) refl

-- ---- walks
pub then_ok : {A : Type 0} (a : Answer A) → (a >>= λ x. Ok x) ≡ a
then_ok (Ok x) = refl
then_ok (Err e) = refl

one_step : (a : Answer Plain) (p q : Answer (List Plain)) → p ≡ q → (a >>= λ w. p >>= λ ws. Ok (w ∷ ws)) ≡ (a >>= λ e. Ok (e ∷ [])) >>= λ ys. q >>= λ zs. Ok (ys ++ zs)
one_step (Ok x) p q e = ap (λ b. b >>= λ ws. Ok (x ∷ ws)) e
one_step (Err r) p q e = refl

pub each_as : (f : Plain → Answer Plain) (vs : List Plain) → each f vs ≡ each_joined (λ d. f d >>= λ e. Ok (e ∷ [])) vs
each_as f [] = refl
each_as f (v ∷ vs) = one_step (f v) (each f vs) (each_joined (λ d. f d >>= λ e. Ok (e ∷ [])) vs) (each_as f vs)

on_each_as : (f : Plain → Answer Plain) (vs : List Plain) → on_each f vs ≡ each_joined (λ d. on_objects f d >>= λ e. Ok (e ∷ [])) vs
on_each_as f [] = refl
on_each_as f (v ∷ vs) = one_step (on_objects f v) (on_each f vs) (each_joined (λ d. on_objects f d >>= λ e. Ok (e ∷ [])) vs) (on_each_as f vs)

-- FILTER
kept : (b : Bool) (v : Plain) (ws : List Plain) → (if b then v ∷ ws else ws) ≡ (if b then v ∷ [] else []) ++ ws
kept true v ws = refl
kept false v ws = refl

place_ok : {A : Type 0} (r : Option Reason) (x : A) → in_its_place r (Ok x) ≡ Ok x
place_ok None x = refl
place_ok (Some e) x = refl

place_err : {A B : Type 0} (r : Option Reason) (e : Reason) (k : A → Answer B) → in_its_place r (Err e) ≡ (in_its_place r (Err e) >>= k)
place_err None e k = refl
place_err (Some x) (query_logic s) k = refl
place_err (Some x) (non_existence s) k = refl
place_err (Some x) (resource_limit s) k = refl
place_err (Some x) (op_failed s) k = refl
place_err (Some x) (user s) k = refl
place_err (Some x) no_text k = refl

place_then : (r : Option Reason) (a : Answer (List Plain)) (g : List Plain → List Plain) → in_its_place r (a >>= λ ws. Ok (g ws)) ≡ (in_its_place r a >>= λ ws. Ok (g ws))
place_then r (Ok ws) g = place_ok r (g ws) ∙ ap (λ a. a >>= λ us. Ok (g us)) (sym (place_ok r ws))
place_then r (Err e) g = place_err r e (λ ws. Ok (g ws))

filter_step : (r : Option Reason) (t : Answer Bool) (v : Plain) (p q : Answer (List Plain)) → in_its_place r p ≡ q
    → in_its_place r (t >>= λ b. p >>= λ ws. Ok (if b then v ∷ ws else ws)) ≡ (in_its_place r t >>= λ b. Ok (if b then v ∷ [] else [])) >>= λ ys. q >>= λ zs. Ok (ys ++ zs)
filter_step r (Ok b) v p q e =
    place_then r p (λ ws. if b then v ∷ ws else ws)
    ∙ ap (λ a. a >>= λ ws. Ok (if b then v ∷ ws else ws)) e
    ∙ ap (λ (g : List Plain → List Plain). q >>= λ zs. Ok (g zs)) (λ i zs. kept b v zs i)
    ∙ ap (λ a. (a >>= λ c. Ok (if c then v ∷ [] else [])) >>= λ ys. q >>= λ zs. Ok (ys ++ zs)) (sym (place_ok r b))
filter_step r (Err x) v p q e = place_err r x (λ b. q >>= λ zs. Ok ((if b then v ∷ [] else []) ++ zs)) ∙ sym (apart (in_its_place r (Err x)) v q) where
  apart : (a : Answer Bool) (v : Plain) (q : Answer (List Plain)) → (a >>= λ b. Ok (if b then v ∷ [] else [])) >>= (λ ys. q >>= λ zs. Ok (ys ++ zs)) ≡ (a >>= λ b. q >>= λ zs. Ok ((if b then v ∷ [] else []) ++ zs))
  apart (Ok b) v q = refl
  apart (Err y) v q = refl

filter_as : (r : Option Reason) (test : Plain → Answer Bool) (vs : List Plain) → in_its_place r (passing test vs) ≡ each_joined (λ v. in_its_place r (test v) >>= λ b. Ok (if b then v ∷ [] else [])) vs
filter_as r test [] = place_ok r []
filter_as r test (v ∷ vs) = filter_step r (test v) v (passing test vs) (each_joined (λ v. in_its_place r (test v) >>= λ b. Ok (if b then v ∷ [] else [])) vs) (filter_as r test vs)

-- HAS_FIELDS and WITH_FIELDS
map_append : (g : Plain → Plain) (us vs : List Plain) → map g (us ++ vs) ≡ map g us ++ map g vs
map_append g [] vs = refl
map_append g (u ∷ us) vs = ap (λ xs. g u ∷ xs) (map_append g us vs)

joined_step : (g : Plain → Plain) (a p q : Answer (List Plain)) → (p >>= λ ys. Ok (map g ys)) ≡ q
    → ((a >>= λ ys. p >>= λ zs. Ok (ys ++ zs)) >>= λ ys. Ok (map g ys)) ≡ (a >>= λ ys. Ok (map g ys)) >>= λ ys. q >>= λ zs. Ok (ys ++ zs)
joined_step g (Ok ys) (Ok zs) q e = ap Ok (map_append g ys zs) ∙ ap (λ b. b >>= λ us. Ok (map g ys ++ us)) e
joined_step g (Ok ys) (Err r) q e = ap (λ b. b >>= λ us. Ok (map g ys ++ us)) e
joined_step g (Err r) p q e = refl

map_joined : (g : Plain → Plain) (f : Plain → Answer (List Plain)) (vs : List Plain) → (each_joined f vs >>= λ ys. Ok (map g ys)) ≡ each_joined (λ d. f d >>= λ ys. Ok (map g ys)) vs
map_joined g f [] = refl
map_joined g f (v ∷ vs) = joined_step g (f v) (each_joined f vs) (each_joined (λ d. f d >>= λ ys. Ok (map g ys)) vs) (map_joined g f vs)

-- ---- the stages
by_sequence : {B : Type 0} (w : World) (m : Meant) (vs : List Plain) (k : List Plain → Answer B) → to_sequence w m ≡ Ok vs → (to_sequence w m >>= k) ≡ k vs
by_sequence w m vs k h = ap (λ a. a >>= k) h

map_is : IsStage like (like_first map_rule) map_stage
map_is w calls (f ∷ []) opts m vs h =
    ap (λ a. a >>= λ ds. Ok (like m ds)) (by_sequence w m vs (each (answer_one calls f)) h ∙ each_as (answer_one calls f) vs)
map_is w calls [] opts m vs h = refl
map_is w calls (f ∷ g ∷ gs) opts m vs h = refl

filter_given : (w : World) (calls : Calls) (f : Given) (m : Meant) (vs : List Plain) (d : Answer (_ × Option Reason))
    → ((d >>= λ x. in_its_place x.1 (filter_all x.0 (answer_test calls f) vs)) >>= λ ds. Ok (alike m ds))
    ≡ (staged_by (by_answer d (λ x. going (λ v. in_its_place x.1 (tested x.0 (answer_test calls f v)) >>= λ b. Ok (if b then v ∷ [] else [])))) vs >>= λ ds. Ok (alike m ds))
filter_given w calls f m vs (Ok x) = ap (λ a. a >>= λ ds. Ok (alike m ds)) (filter_as x.1 (λ v. tested x.0 (answer_test calls f v)) vs)
filter_given w calls f m vs (Err e) = refl

filter_is : IsStage alike (alike_first filter_rule) filter_stage
filter_is w calls (f ∷ []) opts m vs h =
    ap (λ a. a >>= λ ds. Ok (alike m ds)) (by_sequence w m vs (λ ds. default_given (find (codes "default") opts) >>= λ d. in_its_place d.1 (filter_all d.0 (answer_test calls f) ds)) h)
    ∙ filter_given w calls f m vs (default_given (find (codes "default") opts))
filter_is w calls [] opts m vs h = refl
filter_is w calls (f ∷ g ∷ gs) opts m vs h = refl

by_pattern : (f : List Plain → Plain → Plain) (m : Meant) (vs : List Plain) (a : Answer (List Plain))
    → (a >>= λ ps. on_subject (λ d. Ok (f ps d)) m (elements vs)) ≡ (staged_by (by_answer a (λ ps. mapping (on_objects (λ d. Ok (f ps d))))) vs >>= λ ws. Ok (like m ws))
by_pattern f m vs (Ok ps) = ap (λ a. a >>= λ ws. Ok (like m ws)) (on_each_as (λ d. Ok (f ps d)) vs)
by_pattern f m vs (Err e) = refl

pattern_is : (f : List Plain → Plain → Plain) → IsStage like (by_patterns f) (pattern_stage f)
pattern_is f w calls gs opts m vs h =
    ap (λ a. a >>= λ s. patterns gs >>= λ ps. on_subject (λ d. Ok (f ps d)) m s) (elements_of w m vs h).0 ∙ by_pattern f m vs (patterns gs)

merge_is : IsStage like merge_rule merge_stage
merge_is w calls gs opts m vs h =
    ap (λ a. a >>= λ s. on_subject (λ d. merged_on calls d gs) m s) (elements_of w m vs h).0
    ∙ ap (λ a. a >>= λ ws. Ok (like m ws)) (on_each_as (λ d. merged_on calls d gs) vs)

by_having : (m : Meant) (vs : List Plain) (a : Answer (List Plain)) → (a >>= λ ps. has_fields_of m ps (elements vs)) ≡ (staged_by (by_answer a (λ ps. going (having_one ps))) vs >>= λ ws. Ok (like m ws))
by_having m vs (Ok ps) = refl
by_having m vs (Err e) = refl

having_is : IsStage like has_fields_rule having_stage
having_is w calls gs opts m vs h = ap (λ a. a >>= λ s. patterns gs >>= λ ps. has_fields_of m ps s) (field_elements w m vs h) ∙ by_having m vs (patterns gs)

by_with_fields : (vs : List Plain) (a : Answer (List Plain))
    → (a >>= λ ps. having ps vs >>= λ es. Ok (map (pluck ps) es)) ≡ staged_by (by_answer a (λ ps. going (λ d. having_one ps d >>= λ es. Ok (map (pluck ps) es)))) vs
by_with_fields vs (Ok ps) = map_joined (pluck ps) (having_one ps) vs
by_with_fields vs (Err e) = refl

with_fields_is : IsStage like (like_first with_fields) with_fields_stage
with_fields_is w calls gs opts m vs h =
    ap (λ a. a >>= λ ds. Ok (like m ds)) (by_sequence w m vs (λ ds. patterns gs >>= λ ps. having ps ds >>= λ es. Ok (map (pluck ps) es)) h ∙ by_with_fields vs (patterns gs))

pub go_by_element : StagesGoByElement
go_by_element = record {
  maps = map_is;
  filters = filter_is;
  plucks = pattern_is pluck;
  withouts = pattern_is without;
  merges = merge_is;
  havings = having_is;
  with_all = with_fields_is;
}
