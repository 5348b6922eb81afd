-- The order of a limit feed's request, read part by part, is the one of the definition.
use Rattle.std.proofs.Common.{◌≡◌, ℕ, nat_eq, ℤ, pos, negsuc, List, [], ◌∷◌, Bool, true, false, ◌&&◌, if◌then◌else◌, Option, Some, None, Ok, Err, codes, refl, sym, ap, ◌∙◌}
use Rattle.std.specs.Ordering.{int_eq}
use Rattle.std.proofs.lemmas.Bool.Decides.{Decides-int_eq}
use borrow.Author.Tests.{eqb-true, eqb-false}
use Rattle.reql_datum.specs.Answer.{Answer, Reason, ◌>>=◌}
use Rattle.reql_datum.specs.Plain.{Plain, null, low, high, boolean, number, text, array, object, binary, time}
use Rattle.reql_rules.specs.Faults.{misplaced}
use Rattle.reql_rules.specs.Lists.{Bytes}
use Rattle.reql_rules.specs.Types.{same_text, wanted, text_in}
use Rattle.reql_term.specs.Form.{Form, literal, several, keyed, variable, implicit, function, slot, operation, Forms, no_forms, form, NamedForms, no_named, named}
use Rattle.reql_term.specs.declared.op.Op.{Op}
use Rattle.reql_term.specs.declared.op.Op.TheVariants as op
use Rattle.reql_value_spec.specs.Meant.{Options}
use Rattle.reql_value_spec.specs.Wanted.{left_is_open, right_is_open}
use Rattle.reql_feed_spec.specs.Shown.{natural, place_of}
use Rattle.reql_feed_spec.specs.Watched.{Part, between}
use Rattle.reql_table_spec.specs.Followed.{Ordered, arguments, options, closed_options, literal_name, literal_count, index_in, index_by, is_limit, is_order, is_between, bounds, part_between, part_of, direction, only_name, order_index, order_over, order_of, first_over, first_by}
use Rattle.reql_feed_read.specs.Shapes.{given, is_slot}
use Rattle.reql_feed_read.specs.Asked.{one_in, two_in, three_in, index_option, only_index, name_in, name_if, direction_in, towards, directed, pointed_in, pointed_if, names_by, bound_in, open_sides, sided, bottomed, are_taken, bounds_in, part_over, part_in, ordered_by, ordered_over, ordered_if, order_in, is_number, counts, first_two, first_in}

-- ---- names and directions
name_wanted : (e : Reason) (o : Option Bytes) → given (wanted e o) ≡ o
name_wanted e (Some n) = refl
name_wanted e None = refl

name_read : (f : Form) → given (literal_name f) ≡ name_in f
name_read (literal d) = name_wanted _ (text_in d)
name_read (several fs) = refl
name_read (keyed ms) = refl
name_read (variable n) = refl
name_read implicit = refl
name_read (function ids f) = refl
name_read (slot n) = refl
name_read (operation o fs ms) = refl

with_down : (down : Bool) (a : Answer Bytes) (o : Option Bytes) → given a ≡ o → given (a >>= λ name. Ok (name, down)) ≡ towards down o
with_down down (Ok n) o e = ap (towards down) e
with_down down (Err r) o e = ap (towards down) e

direction_read : (o : Op) → given (direction o) ≡ direction_in o
direction_read op.Asc = refl
direction_read op.Desc = refl
direction_read o = refl

only_read : (fs : Forms) → given (only_name (arguments fs)) ≡ name_if (one_in fs)
only_read no_forms = refl
only_read (form f no_forms) = name_read f
only_read (form f (form g fs)) = refl

directed_read : (a : Answer Bool) (b : Answer Bytes) (o : Option Bytes) (x : Option Bool) (f : Option Form) → given a ≡ x → given b ≡ o → o ≡ name_if f → given (a >>= λ down. b >>= λ name. Ok (name, down)) ≡ directed x f
directed_read (Ok down) b o x f e g h = with_down down b (name_if f) (g ∙ h) ∙ ap (λ t. directed t f) e
directed_read (Err r) b o x f e g h = ap (λ t. directed t f) e

pointed_read : (f : Form) → given (order_index f) ≡ pointed_in f
pointed_read (literal d) = with_down false (literal_name (literal d)) (name_in (literal d)) (name_read (literal d))
pointed_read (several fs) = refl
pointed_read (keyed ms) = refl
pointed_read (variable n) = refl
pointed_read implicit = refl
pointed_read (function ids f) = refl
pointed_read (slot n) = refl
pointed_read (operation o fs no_named) = directed_read (direction o) (only_name (arguments fs)) (name_if (one_in fs)) (direction_in o) (one_in fs) (direction_read o) (only_read fs) refl
pointed_read (operation o fs (named k f ms)) = refl

-- ---- bounds
both_sides : (l h : Plain) (a b : Answer Bool) (t : Bool)
    → given (a >>= λ lo. b >>= λ ho. if t then Ok (between l lo h ho) else Err misplaced) ≡ (if t then sided l h (given (a >>= λ lo. b >>= λ ho. Ok (lo, ho))) else None)
both_sides l h (Err r) b true = refl
both_sides l h (Err r) b false = refl
both_sides l h (Ok lo) (Err r) true = refl
both_sides l h (Ok lo) (Err r) false = refl
both_sides l h (Ok lo) (Ok ho) true = refl
both_sides l h (Ok lo) (Ok ho) false = refl

bounds_at : (a b : Answer Plain) (o : Answer Options) (t : Bool)
    → given (a >>= λ l. b >>= λ h. o >>= λ os. left_is_open os >>= λ lo. right_is_open os >>= λ ho. if t then Ok (between l lo h ho) else Err misplaced)
    ≡ (if t then bottomed (given a) (given b) (given (open_sides o)) else None)
bounds_at (Err r) b o true = refl
bounds_at (Err r) b o false = refl
bounds_at (Ok l) (Err r) o true = refl
bounds_at (Ok l) (Err r) o false = refl
bounds_at (Ok l) (Ok h) (Err r) true = refl
bounds_at (Ok l) (Ok h) (Err r) false = refl
bounds_at (Ok l) (Ok h) (Ok os) t = both_sides l h (left_is_open os) (right_is_open os) t

bounds_read : (l h : Form) (ms : List (Bytes × Form)) → given (bounds l h ms) ≡ bounds_in l h ms
bounds_read l h ms = bounds_at (bound_in l) (bound_in h) (closed_options ms) (are_taken ms)

-- ---- a part of an order
by_name : (b : Bool) (a : Answer Part) (o : Option Part) → given a ≡ o → given (if b then a else Err misplaced) ≡ (if b then o else None)
by_name true a o e = e
by_name false a o e = refl

by_index : (key name : Bytes) (i : Answer (Option Bytes)) (a : Answer Part) (o : Option Part) → given a ≡ o
    → given (i >>= λ index. if same_text (index_by key index) name then a else Err misplaced) ≡ (if names_by key name i then o else None)
by_index key name (Ok index) a o e = by_name (same_text (index_by key index) name) a o e
by_index key name (Err r) a o e = refl

over_slot : (key name : Bytes) (n : ℕ) (fs : Forms) (ms : NamedForms) → given (part_between key name (slot n ∷ arguments fs) ms) ≡ part_over key name ms (three_in (form (slot n) fs))
over_slot key name n no_forms ms = refl
over_slot key name n (form l no_forms) ms = refl
over_slot key name n (form l (form h no_forms)) ms = by_index key name (index_in ms) (bounds l h (options ms)) (bounds_in l h (options ms)) (bounds_read l h (options ms))
over_slot key name n (form l (form h (form x fs))) ms = refl

no_part : (key name : Bytes) (f : Form) (fs : Forms) (ms : NamedForms) → is_slot f ≡ false → part_over key name ms (three_in (form f fs)) ≡ None
no_part key name f no_forms ms e = refl
no_part key name f (form l no_forms) ms e = refl
no_part key name f (form l (form h no_forms)) ms e = rw e refl
no_part key name f (form l (form h (form x fs))) ms e = refl

over_read : (key name : Bytes) (fs : Forms) (ms : NamedForms) → given (part_between key name (arguments fs) ms) ≡ part_over key name ms (three_in fs)
over_read key name no_forms ms = refl
over_read key name (form (slot n) fs) ms = over_slot key name n fs ms
over_read key name (form (literal d) fs) ms = sym (no_part key name (literal d) fs ms refl)
over_read key name (form (several gs) fs) ms = sym (no_part key name (several gs) fs ms refl)
over_read key name (form (keyed ns) fs) ms = sym (no_part key name (keyed ns) fs ms refl)
over_read key name (form (variable n) fs) ms = sym (no_part key name (variable n) fs ms refl)
over_read key name (form implicit fs) ms = sym (no_part key name implicit fs ms refl)
over_read key name (form (function ids f) fs) ms = sym (no_part key name (function ids f) fs ms refl)
over_read key name (form (operation o gs ns) fs) ms = sym (no_part key name (operation o gs ns) fs ms refl)

pub part_read : (key name : Bytes) (f : Form) → given (part_of key name f) ≡ part_in key name f
part_read key name (slot n) = refl
part_read key name (operation o fs ms) = by_name (is_between o) (part_between key name (arguments fs) ms) (part_over key name ms (three_in fs)) (over_read key name fs ms)
part_read key name (literal d) = refl
part_read key name (several fs) = refl
part_read key name (keyed ms) = refl
part_read key name (variable n) = refl
part_read key name implicit = refl
part_read key name (function ids f) = refl

-- ---- an order
abbrev made : Part → Bytes × Bool → Ordered
made p i = record { part = p; name = i.0; down = i.1 }

with_part : (i : Bytes × Bool) (a : Answer Part) (o : Option Part) → given a ≡ o → given (a >>= λ part. Ok (made part i)) ≡ ordered_by i o
with_part i (Ok p) o e = ap (ordered_by i) e
with_part i (Err r) o e = ap (ordered_by i) e

over_index : (key : Bytes) (f : Form) (a : Answer (Bytes × Bool)) (o : Option (Bytes × Bool)) → given a ≡ o → given (a >>= λ i. part_of key i.0 f >>= λ part. Ok (made part i)) ≡ ordered_over key f o
over_index key f (Ok i) o e = with_part i (part_of key i.0 f) (part_in key i.0 f) (part_read key i.0 f) ∙ ap (ordered_over key f) e
over_index key f (Err r) o e = ap (ordered_over key f) e

if_index : (b : Bool) (x : Form) → given (if b then order_index x else Err misplaced) ≡ pointed_if (if b then Some x else None)
if_index true x = pointed_read x
if_index false x = refl

over_options : (key : Bytes) (f : Form) (ms : NamedForms) → given (order_over key (f ∷ []) (options ms)) ≡ ordered_over key f (pointed_if (only_index ms))
over_options key f no_named = refl
over_options key f (named k x no_named) = over_index key f (if same_text k (codes "index") then order_index x else Err misplaced) (pointed_if (index_option k x)) (if_index (same_text k (codes "index")) x)
over_options key f (named k x (named j y ms)) = refl

order_arguments : (key : Bytes) (fs : Forms) (ms : NamedForms) → given (order_over key (arguments fs) (options ms)) ≡ ordered_if key (one_in fs) (only_index ms)
order_arguments key no_forms ms = refl
order_arguments key (form f no_forms) ms = over_options key f ms
order_arguments key (form f (form g fs)) ms = refl

if_order : (b : Bool) (a : Answer Ordered) (o : Option Ordered) → given a ≡ o → given (if b then a else Err misplaced) ≡ (if b then o else None)
if_order true a o e = e
if_order false a o e = refl

order_read : (key : Bytes) (f : Form) → given (order_of key f) ≡ order_in key f
order_read key (operation o fs ms) = if_order (is_order o) (order_over key (arguments fs) (options ms)) (ordered_if key (one_in fs) (only_index ms)) (order_arguments key fs ms)
order_read key (slot n) = refl
order_read key (literal d) = refl
order_read key (several fs) = refl
order_read key (keyed ms) = refl
order_read key (variable n) = refl
order_read key implicit = refl
order_read key (function ids f) = refl

-- ---- the first so many of it
abbrev is_most : ℕ → Answer ℕ → Bool
is_most most (Ok n) = nat_eq n most
is_most most (Err r) = false

same_pos : (k most : ℕ) → pos k ≡ pos most → k ≡ most
same_pos k most e = cc

pos_read : (most k : ℕ) (b c : Bool) → nat_eq k most ≡ b → int_eq (pos k) (pos most) ≡ c → b ≡ c
pos_read most k true true e f = refl
pos_read most k false false e f = refl
pos_read most k true false e f = absurd (let g : true ≡ false = sym ((Decides-int_eq (pos k) (pos most)).1 (ap pos (eqb-true k most e))) ∙ f in cc (g))
pos_read most k false true e f = absurd (eqb-false k most e (same_pos k most ((Decides-int_eq (pos k) (pos most)).0 f)))

number_read : (most : ℕ) (n : ℤ) → is_most most (wanted misplaced (natural n)) ≡ int_eq n (pos most)
number_read most (pos k) = pos_read most k _ _ refl refl
number_read most (negsuc k) = refl

value_read : (most : ℕ) (d : Plain) → is_most most (wanted misplaced (place_of d)) ≡ is_number most d
value_read most (number n) = number_read most n
value_read most null = refl
value_read most low = refl
value_read most high = refl
value_read most (boolean b) = refl
value_read most (text s) = refl
value_read most (array vs) = refl
value_read most (object ms) = refl
value_read most (binary bs) = refl
value_read most (time t) = refl

count_read : (most : ℕ) (f : Form) → is_most most (literal_count f) ≡ counts most f
count_read most (literal d) = value_read most d
count_read most (several fs) = refl
count_read most (keyed ms) = refl
count_read most (variable n) = refl
count_read most implicit = refl
count_read most (function ids f) = refl
count_read most (slot n) = refl
count_read most (operation o fs ms) = refl

-- an order whose number is the one of the request
abbrev pub numbered : ℕ → Option (Ordered × ℕ) → Option Ordered
numbered most None = None
numbered most (Some p) = if nat_eq p.1 most then Some p.0 else None

both_read : (most : ℕ) (a : Answer Ordered) (c : Answer ℕ) (o : Option Ordered) (b : Bool) → given a ≡ o → is_most most c ≡ b → numbered most (given (a >>= λ o. c >>= λ n. Ok (o, n))) ≡ (if b then o else None)
both_read most (Ok x) (Ok n) o b e f = (λ i. if f i then e i else None)
both_read most (Ok x) (Err r) o b e f = (λ i. if f i then e i else None)
both_read most (Err r) c o true e f = e
both_read most (Err r) c o false e f = refl

first_arguments : (key : Bytes) (most : ℕ) (fs : Forms) → numbered most (given (first_over key (arguments fs))) ≡ first_two key most (two_in fs)
first_arguments key most no_forms = refl
first_arguments key most (form f no_forms) = refl
first_arguments key most (form f (form c no_forms)) = both_read most (order_of key f) (literal_count c) (order_in key f) (counts most c) (order_read key f) (count_read most c)
first_arguments key most (form f (form c (form x fs))) = refl

if_limit : (most : ℕ) (b : Bool) (a : Answer (Ordered × ℕ)) (o : Option Ordered) → numbered most (given a) ≡ o → numbered most (given (if b then a else Err misplaced)) ≡ (if b && true then o else None)
if_limit most true a o e = e
if_limit most false a o e = refl

never : (b : Bool) (o : Option Ordered) → None ≡ (if b && false then o else None)
never true o = refl
never false o = refl

pub first_read : (key : Bytes) (most : ℕ) (f : Form) → numbered most (given (first_by key f)) ≡ first_in key most f
first_read key most (operation o fs no_named) = if_limit most (is_limit o) (first_over key (arguments fs)) (first_two key most (two_in fs)) (first_arguments key most fs)
first_read key most (operation o fs (named k f ms)) = never (is_limit o) (first_two key most (two_in fs))
first_read key most (slot n) = refl
first_read key most (literal d) = refl
first_read key most (several fs) = refl
first_read key most (keyed ms) = refl
first_read key most (variable n) = refl
first_read key most implicit = refl
first_read key most (function ids f) = refl
