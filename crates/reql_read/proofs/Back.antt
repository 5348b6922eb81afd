-- A term that is spelled reads back.
use Rattle.std.proofs.Common.{◌≡◌, ℕ, suc, ◌≤◌, List, [], ◌∷◌, ◌++◌, Bool, true, false, ◌&&◌, not, nat_eq, nat_le, is_some, Some, Ok, Err, refl, sym, ap, ◌∙◌, arith, append_assoc}
use Rattle.std.proofs.lemmas.Bool.Decides.{nat_tests}
use Rattle.std.proofs.lemmas.List.{append-nil}
use Rattle.serde_json.specs.Data as json
use Rattle.serde_json.specs.Find.{get_member}
use Rattle.serde_json.specs.Written.{compact_text}
use Rattle.reql_datum.specs.Plain.{Plain, low, array, boolean, null, number, object, binary, time, text, high}
use Rattle.reql_json.specs.Reading.{reserved}
use Rattle.reql_term.specs.Form.{Form, literal, several, keyed, variable, implicit, function, slot, operation, Forms, no_forms, form, NamedForms, no_named, named, forms_of, named_of}
use Rattle.reql_term.specs.Params.{IsNew, AreDistinct}
use Rattle.reql_term.specs.Table.{op_of, number_of, fits, takes}
use Rattle.reql_term.specs.declared.op.Op.{Op}
use Rattle.reql_term.specs.declared.op.Op.TheVariants as op
use Rattle.reql_term.proofs.Numbers.{numbered, byte}
use Rattle.reql_read.specs.Apart.{written}
use Rattle.reql_read.specs.Globals.{settings_of}
use Rattle.reql_read.specs.Query.{start, query, value_query}
use Rattle.reql_read.specs.Reading.{op_named, counted, all_taken, checked, read, read_all, read_named}
use Rattle.reql_read.specs.Shape.{kind_of, object_of, is_new, ids_from, term_of, shaped, shaped_all, shaped_named}
use Rattle.reql_read.specs.Spelling.{spelled_number, call, spelled_ids, one, spelled_literal, spelled, spelled_all, spelled_named, count_of, takes_all, IsHeld, AreHeld, AreNamedHeld, spelled_query, ReadsBack}
use Rattle.reql_read.specs.Written.{Written, Parts, NamedParts, names_of}
use Rattle.reql_read.specs.Written as w
use Rattle.reql_read.specs.declared.fault.ReadFault.TheVariants.{NotJson}
use Rattle.reql_read.specs.declared.globals.Settings.{Settings}
use Rattle.reql_read.specs.declared.shape.Kind.TheVariants as kind
use Rattle.reql_read.proofs.Bodies.{is_json}
use Rattle.reql_read.proofs.BodyText.{text_back, text_utf8}

-- ---- ids

same_id : (a b : ℕ) → nat_eq a b ≡ true → b ≡ a
same_id a b h = grind (arith, nat_tests)

new_by : (id b : ℕ) (same : Bool) → nat_eq b id ≡ same → (id ≡ b → ⊥) → not same ≡ true
new_by id b true is apart = absurd (apart (same_id b id is))
new_by id b false is apart = refl

-- each id of the first list is none of the second
abbrev Apart : List ℕ → List ℕ → Type 0
Apart [] ids = Unit {0}
Apart (b ∷ bs) ids = IsNew b ids × Apart bs ids

new_among : (before : List ℕ) (k : ℕ) (ks : List ℕ) → Apart before (k ∷ ks) → is_new k before ≡ true
new_among [] k ks apart = refl
new_among (b ∷ bs) k ks apart = rw (new_by k b (nat_eq b k) refl apart.0.0) (new_among bs k ks apart.1)

apart_after : (before : List ℕ) (k : ℕ) (ks : List ℕ) → Apart before (k ∷ ks) → IsNew k ks → Apart (before ++ k ∷ []) ks
apart_after [] k ks apart new = (new, tt)
apart_after (b ∷ bs) k ks apart new = (apart.0.1, apart_after bs k ks apart.1 new)

-- ids as they are written
abbrev id_parts : List ℕ → Parts
id_parts [] = w.no_parts
id_parts (n ∷ ns) = w.part (w.value (spelled_number n)) (id_parts ns)

ids_back_from : (before ids : List ℕ) → Apart before ids → AreDistinct ids → ids_from before (id_parts ids) ≡ Ok (before ++ ids)
ids_back_from before [] apart distinct = ap Ok (sym (append-nil before))
ids_back_from before (k ∷ ks) apart distinct =
    rw (new_among before k ks apart) (ids_back_from (before ++ k ∷ []) ks (apart_after before k ks apart distinct.0) distinct.1 ∙ ap Ok (append_assoc before (k ∷ []) ks))

ids_shaped : (ids : List ℕ) → shaped_all (spelled_ids ids) ≡ Ok (id_parts ids)
ids_shaped [] = refl
ids_shaped (n ∷ ns) = rw (ids_shaped ns) refl

-- ---- a term as it is written

abbrev mutual
  tree : Form → Written
  tree (literal p) = w.value (spelled_literal p)
  tree (several fs) = w.array (trees fs) []
  tree (keyed ms) = w.object (named_trees ms)
  tree (variable n) = w.variable n []
  tree implicit = w.row []
  tree (function ids f) = w.function ids [] (tree f) []
  tree (slot n) = w.value json.null
  tree (operation op fs ms) = w.call (number_of op) (trees fs) (named_trees ms)

  trees : Forms → Parts
  trees no_forms = w.no_parts
  trees (form f fs) = w.part (tree f) (trees fs)

  named_trees : NamedForms → NamedParts
  named_trees no_named = w.no_named
  named_trees (named k f ms) = w.named k (tree f) (named_trees ms)

call_shaped : (n : ℕ) (args : json.Items) (opts : json.Members) → shaped (call n args opts) ≡ written n args opts
call_shaped n json.no_items json.no_members = refl
call_shaped n (json.item d ds) json.no_members = refl
call_shaped n json.no_items (json.member k d ms) = refl
call_shaped n (json.item d ds) (json.member k e ms) = refl

-- a call of a number, by what its arguments and optional arguments are written as
call_is : (n : ℕ) (args : json.Items) (opts : json.Members) (ws : Parts) (os : NamedParts) → shaped_all args ≡ Ok ws → shaped_named opts ≡ Ok os → shaped (call n args opts) ≡ term_of (kind_of n) n ws opts os
call_is n args opts ws os all given = call_shaped n args opts ∙ rw (all, given) refl

kind_array : kind_of (number_of op.MakeArray) ≡ kind.Array
unfolding kind_of
kind_array = refl

kind_variable : kind_of (number_of op.Var) ≡ kind.Variable
unfolding kind_of
kind_variable = refl

kind_row : kind_of (number_of op.ImplicitVar) ≡ kind.Row
unfolding kind_of
kind_row = refl

kind_function : kind_of (number_of op.Func) ≡ kind.Function
unfolding kind_of
kind_function = refl

array_shaped : (args : json.Items) (ws : Parts) → shaped_all args ≡ Ok ws → shaped (call (number_of op.MakeArray) args json.no_members) ≡ Ok (w.array ws [])
array_shaped args ws all = call_is (number_of op.MakeArray) args json.no_members ws w.no_named all refl ∙ ap (λ k. term_of k (number_of op.MakeArray) ws json.no_members w.no_named) kind_array

literal_shaped : (p : Plain) → shaped (spelled_literal p) ≡ Ok (w.value (spelled_literal p))
literal_shaped null = refl
literal_shaped (boolean b) = refl
literal_shaped (number z) = refl
literal_shaped (text s) = refl
literal_shaped low = refl
literal_shaped (array vs) = refl
literal_shaped (object ms) = refl
literal_shaped (binary s) = refl
literal_shaped (time t) = refl
literal_shaped high = refl

function_shaped : (ids : List ℕ) (d : json.Data) (v : Written) → AreDistinct ids → shaped d ≡ Ok v
    → shaped (call (number_of op.Func) (json.item (call (number_of op.MakeArray) (spelled_ids ids) json.no_members) (one d)) json.no_members) ≡ Ok (w.function ids [] v [])
function_shaped ids d v distinct is =
    let ws = w.part (w.array (id_parts ids) []) (w.part v w.no_parts) in
    call_is (number_of op.Func) (json.item (call (number_of op.MakeArray) (spelled_ids ids) json.no_members) (one d)) json.no_members ws w.no_named (rw (array_shaped (spelled_ids ids) (id_parts ids) (ids_shaped ids), is) refl) refl
    ∙ ap (λ k. term_of k (number_of op.Func) ws json.no_members w.no_named) kind_function ∙ rw (ids_back_from [] ids tt distinct) refl

object_free : (ms : json.Members) (ws : NamedParts) → is_some (get_member reserved ms) ≡ false → object_of ms ws ≡ w.object ws
object_free ms ws free = rw free refl

mutual
  shapes : (f : Form) → IsHeld f → shaped (spelled f) ≡ Ok (tree f)
  shapes (literal p) h = literal_shaped p
  shapes (several fs) h = array_shaped (spelled_all fs) (trees fs) (shapes_all fs h)
  shapes (keyed ms) h = rw (shapes_named ms h.1) (ap Ok (object_free (spelled_named ms) (named_trees ms) h.0))
  shapes (variable n) h =
      call_is (number_of op.Var) (one (spelled_number n)) json.no_members (w.part (w.value (spelled_number n)) w.no_parts) w.no_named refl refl
      ∙ ap (λ k. term_of k (number_of op.Var) (w.part (w.value (spelled_number n)) w.no_parts) json.no_members w.no_named) kind_variable
  shapes implicit h = call_is (number_of op.ImplicitVar) json.no_items json.no_members w.no_parts w.no_named refl refl ∙ ap (λ k. term_of k (number_of op.ImplicitVar) w.no_parts json.no_members w.no_named) kind_row
  shapes (function ids f) h = function_shaped ids (spelled f) (tree f) h.0 (shapes f h.1)
  shapes (slot n) h = absurd h
  shapes (operation op fs ms) h =
      call_is (number_of op) (spelled_all fs) (spelled_named ms) (trees fs) (named_trees ms) (shapes_all fs h.3) (shapes_named ms h.4)
      ∙ ap (λ k. term_of k (number_of op) (trees fs) (spelled_named ms) (named_trees ms)) h.0

  shapes_all : (fs : Forms) → AreHeld fs → shaped_all (spelled_all fs) ≡ Ok (trees fs)
  shapes_all no_forms h = refl
  shapes_all (form f fs) h = rw (shapes f h.0, shapes_all fs h.1) refl

  shapes_named : (ms : NamedForms) → AreNamedHeld ms → shaped_named (spelled_named ms) ≡ Ok (named_trees ms)
  shapes_named no_named h = refl
  shapes_named (named k f ms) h = rw (shapes f h.0, shapes_named ms h.1) refl

-- ---- what is checked of it

named_by : (n : ℕ) (op : Op) → nat_le 1 n ≡ true → nat_le n 255 ≡ true → op_of n ≡ Some op → op_named n ≡ Ok op
unfolding op_named
named_by n op from1 upto is = rw (from1, upto, is) refl

right_count : (op : Op) (n : ℕ) → fits op n ≡ true → counted op n ≡ Ok tt
unfolding counted
right_count op n is = rw is refl

le_true : (a b : ℕ) → a ≤ b → nat_le a b ≡ true
le_true a b h = grind (arith, nat_tests)

both : (a b : Bool) → (a && b) ≡ true → (a ≡ true) × (b ≡ true)
both true true h = (refl, refl)
both true false h = cc
both false b h = cc

named_taken : (op : Op) (ms : NamedForms) → takes_all op ms ≡ true → all_taken op (names_of (named_trees ms)) ≡ Ok tt
named_taken op no_named h = refl
named_taken op (named k f ms) h = let e = both (takes op k) (takes_all op ms) h in rw e.0 (named_taken op ms e.1)

counts : (fs : Forms) → w.count_of (trees fs) ≡ count_of fs
counts no_forms = refl
counts (form f fs) = ap suc (counts fs)

checks : (op : Op) (fs : Forms) (ms : NamedForms) → fits op (count_of fs) ≡ true → takes_all op ms ≡ true → checked (number_of op) (w.count_of (trees fs)) (names_of (named_trees ms)) ≡ Ok op
checks op fs ms count taken =
    let bounds = byte op in
    let is = named_by (number_of op) op (le_true 1 _ bounds.0) (le_true _ 255 bounds.1) (numbered op) in
    rw (is, right_count op _ (ap (fits op) (counts fs) ∙ count), named_taken op ms taken) refl

-- ---- reading

abbrev forms_list : Forms → List Form
forms_list no_forms = []
forms_list (form f fs) = f ∷ forms_list fs

abbrev named_list : NamedForms → List (List ℕ × Form)
named_list no_named = []
named_list (named k f ms) = (k, f) ∷ named_list ms

forms_again : (fs : Forms) → forms_of (forms_list fs) ≡ fs
forms_again no_forms = refl
forms_again (form f fs) = ap (form f) (forms_again fs)

named_again : (ms : NamedForms) → named_of (named_list ms) ≡ ms
named_again no_named = refl
named_again (named k f ms) = ap (named k f) (named_again ms)

mutual
  reads : (f : Form) → IsHeld f → read (tree f) ≡ Ok f
  reads (literal p) h = rw h refl
  reads (several fs) h = rw (reads_all fs h) (ap (λ gs. Ok (several gs)) (forms_again fs))
  reads (keyed ms) h = rw (reads_named ms h.1) (ap (λ ns. Ok (keyed ns)) (named_again ms))
  reads (variable n) h = refl
  reads implicit h = refl
  reads (function ids f) h = rw (reads f h.1) refl
  reads (slot n) h = absurd h
  reads (operation op fs ms) h =
      rw (checks op fs ms h.1 h.2, reads_all fs h.3, reads_named ms h.4) (ap (λ gs. Ok (operation op gs (named_of (named_list ms)))) (forms_again fs) ∙ ap (λ ns. Ok (operation op fs ns)) (named_again ms))

  reads_all : (fs : Forms) → AreHeld fs → read_all (trees fs) ≡ Ok (forms_list fs)
  reads_all no_forms h = refl
  reads_all (form f fs) h = rw (reads f h.0, reads_all fs h.1) refl

  reads_named : (ms : NamedForms) → AreNamedHeld ms → read_named (named_trees ms) ≡ Ok (named_list ms)
  reads_named no_named h = refl
  reads_named (named k f ms) h = rw (reads f h.0, reads_named ms h.1) refl

-- ---- the whole query

query_read : (d : json.Data) (v : Written) (opts : json.Members) (f : Form) (s : Settings) → shaped d ≡ Ok v → read v ≡ Ok f → settings_of opts ≡ Ok s
    → query (json.array (json.item (spelled_number 1) (json.item d (json.item (json.object opts) json.no_items)))) ≡ Ok (start f s)
query_read d v opts f s good is set = rw (good, is, set) refl

pub reads_back : ReadsBack
reads_back f opts s h set =
    let q = spelled_query f opts in
    is_json value_query (Err NotJson) (compact_text q) q (text_utf8 q h.has_text) (text_back q h.has_text h.shallow) ∙ query_read (spelled f) (tree f) opts f s (shapes f h.held) (reads f h.held) set
