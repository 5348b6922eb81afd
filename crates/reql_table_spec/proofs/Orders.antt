-- What LIMIT of ORDER_BY by an index gives, for each spelling that is read.
use Rattle.std.proofs.Common.{◌≡◌, ℕ, pos, negsuc, List, [], ◌∷◌, take, Bool, true, false, if◌then◌else◌, Some, Ok, Err, refl, sym, ap, subst}
use Rattle.std.specs.List.{filter}
use Rattle.std.specs.Prelude.{codes}
use Rattle.reql_datum.specs.Answer.{◌>>=◌}
use Rattle.reql_datum.specs.Plain.{Plain, low, array, boolean, null, number, object, binary, time, text, high}
use Rattle.reql_rules.specs.Faults.{misplaced}
use Rattle.reql_rules.specs.Lists.{Bytes}
use Rattle.reql_rules.specs.Types.{same_text}
use Rattle.reql_term.specs.Form.{Form, literal, operation, Forms, no_forms, form, NamedForms, no_named, named}
use Rattle.reql_term.specs.Views.{Entry, documents_in, directed}
use Rattle.reql_term.specs.declared.op.Op.{Op}
use Rattle.reql_term.specs.declared.op.Op.TheVariants as op
use Rattle.reql_value_spec.specs.Meaning.{value, settled, sense}
use Rattle.reql_value_spec.specs.Meant.{one, selection, slice_in_order, Given, given, directed as with_direction}
use Rattle.reql_value_spec.specs.Orders.{index_given}
use Rattle.reql_value_spec.specs.Sense.{argument, index_option}
use Rattle.reql_value_spec.specs.Wanted.{to_sequence}
use Rattle.reql_value_spec.specs.World.{World, View, view_at, entries_named}
use Rattle.reql_write_spec.specs.Selecting.{slots, slots_of, slots_named}
use Rattle.reql_feed_spec.specs.Watched.{Part, lies_in}
use Rattle.reql_feed_spec.proofs.Sources.{same_names, order_of_meant, limit_given}
use Rattle.reql_table_spec.specs.Followed.{arguments, options, literal_name, literal_count, is_limit, is_order, direction, only_name, order_index, order_over, order_of, first_over, first_by, part_of, Ordered}
use Rattle.reql_table_spec.proofs.Closed.{then_ok, if_ok, same_ok, IsLikeBare, name_is}
use Rattle.reql_table_spec.proofs.Reading.{Starts, starts_on}
use Rattle.reql_table_spec.proofs.Parts.{PartGives, part_gives}

-- ---- the index of an order: a name, or ASC or DESC of one
record Directed (f : Form) (name : Bytes) (down : Bool) : Type 0 where
  index : Given
  is : (w : World) → index_option (sense f) w [] ≡ Ok index
  reads : index_given (Some index) ≡ Ok (Some (name, down))

named_up : (f : Form) (name : Bytes) → literal_name f ≡ Ok name → Directed f name false
named_up f name h = subst (λ g. Directed g name false) (sym (name_is f name h)) (record { index = given (one (text name)); is = λ w. refl; reads = refl })

by_direction : (o : Op) (down : Bool) (name : Bytes) → direction o ≡ Ok down → Directed (operation o (form (literal (text name)) no_forms) no_named) name down
by_direction op.Asc down name h = subst (Directed (operation op.Asc (form (literal (text name)) no_forms) no_named) name) (same_ok false down h)
    (record { index = with_direction false (given (one (text name))); is = λ w. refl; reads = refl })
by_direction op.Desc down name h = subst (Directed (operation op.Desc (form (literal (text name)) no_forms) no_named) name) (same_ok true down h)
    (record { index = with_direction true (given (one (text name))); is = λ w. refl; reads = refl })
by_direction o down name h = absurd (cc (h))

one_name : (o : Op) (fs : Forms) (down : Bool) (name : Bytes) → direction o ≡ Ok down → only_name (arguments fs) ≡ Ok name → Directed (operation o fs no_named) name down
one_name o no_forms down name d h = absurd (cc (h))
one_name o (form f no_forms) down name d h = subst (λ g. Directed (operation o (form g no_forms) no_named) name down) (sym (name_is f name h)) (by_direction o down name d)
one_name o (form f (form g fs)) down name d h = absurd (cc (h))

order_index_is : (f : Form) (i : Bytes × Bool) → order_index f ≡ Ok i → Directed f i.0 i.1
order_index_is (operation o fs no_named) i h =
    let d = then_ok (direction o) (λ down. only_name (arguments fs) >>= λ name. Ok (name, down)) i h in
    let n = then_ok (only_name (arguments fs)) (λ name. Ok (name, d.0)) i d.2 in
    subst (λ x. Directed (operation o fs no_named) x.0 x.1) (same_ok (n.0, d.0) i n.2) (one_name o fs d.0 n.0 d.1 n.1)
order_index_is (literal d) i h =
    let n = then_ok (literal_name (literal d)) (λ name. Ok (name, false)) i h in
    subst (λ x. Directed (literal d) x.0 x.1) (same_ok (n.0, false) i n.2) (named_up (literal d) n.0 n.1)
order_index_is f i h = absurd (cc (h))

abbrev pub in_order_of : Ordered → List Entry → List Entry
in_order_of o es = directed o.down (filter (lies_in o.part) es)

-- the order that a term is read for
pub record OrderGives (key : Bytes) (o : Ordered) (f : Form) : Type 0 where
  pub slot_is : ℕ
  pub starts : Starts slot_is (slots f)
  pub gives : (w : World) → IsLikeBare w → (v : View) → v.key ≡ key → view_at w slot_is ≡ Ok v → (es : List Entry) → entries_named v o.name ≡ Ok es
      → argument 0 (sense f) w [] ≡ Ok (given (selection slot_is slice_in_order (documents_in (in_order_of o es))))

order_gives : (key : Bytes) (f i : Form) (part : Part) (name : Bytes) (down : Bool) → PartGives key name part f → Directed i name down
    → OrderGives key (record { part = part; name = name; down = down }) (operation op.OrderBy (form f no_forms) (named (codes "index") i no_named))
order_gives key f i part name down p d = record {
  slot_is = p.slot_is;
  starts = starts_on p.slot_is (slots_of (form f no_forms)) (slots_named (named (codes "index") i no_named)) (starts_on p.slot_is (slots f) [] p.starts);
  gives = λ w like v keyed at es named.
      let s = p.gives w like v keyed at es named in
      ap (λ a. a >>= λ m. Ok (given m)) (order_of_meant w p.slot_is (sense f) (sense i) d.index name down (filter (lies_in part) es) s.meant s.rows s.is s.elements s.entries (d.is w) d.reads);
}

order_is : (o : Op) → is_order o ≡ true → op.OrderBy ≡ o
order_is op.OrderBy h = refl
order_is o h = absurd (cc (h))

order_read : (key : Bytes) (f : Form) (k : Bytes) (i : Form) (o : Ordered) → order_over key (f ∷ []) ((k, i) ∷ []) ≡ Ok o → OrderGives key o (operation op.OrderBy (form f no_forms) (named k i no_named))
order_read key f k i o h =
    let x = then_ok (if same_text k (codes "index") then order_index i else Err misplaced) (λ j. part_of key j.0 f >>= λ part. Ok (record { part = part; name = j.0; down = j.1 })) o h in
    let b = if_ok (same_text k (codes "index")) (order_index i) misplaced x.0 x.1 in
    let p = then_ok (part_of key x.0.0 f) (λ part. Ok (record { part = part; name = x.0.0; down = x.0.1 })) o x.2 in
    subst (λ j. OrderGives key o (operation op.OrderBy (form f no_forms) (named j i no_named))) (sym (same_names k (codes "index") b.0))
    (subst (λ q. OrderGives key q (operation op.OrderBy (form f no_forms) (named (codes "index") i no_named))) (same_ok (record { part = p.0; name = x.0.0; down = x.0.1 }) o p.2)
    (order_gives key f i p.0 x.0.0 x.0.1 (part_gives key x.0.0 f p.0 p.1) (order_index_is i x.0 b.1)))

order_forms : (key : Bytes) (p : Op) (fs : Forms) (ms : NamedForms) (o : Ordered) → is_order p ≡ true → order_over key (arguments fs) (options ms) ≡ Ok o → OrderGives key o (operation p fs ms)
order_forms key p (form f no_forms) (named k i no_named) o is h = subst (λ q. OrderGives key o (operation q (form f no_forms) (named k i no_named))) (order_is p is) (order_read key f k i o h)
order_forms key p (form f no_forms) no_named o is h = absurd (cc (h))
order_forms key p (form f no_forms) (named k i (named l j ms)) o is h = absurd (cc (h))
order_forms key p no_forms ms o is h = absurd (cc (h))
order_forms key p (form f (form g fs)) ms o is h = absurd (cc (h))

order_of_gives : (key : Bytes) (f : Form) (o : Ordered) → order_of key f ≡ Ok o → OrderGives key o f
order_of_gives key (operation p fs ms) o h =
    let b = if_ok (is_order p) (order_over key (arguments fs) (options ms)) misplaced o h in
    order_forms key p fs ms o b.0 b.1
order_of_gives key f o h = absurd (cc (h))

-- ---- LIMIT of it
count_in : (d : Plain) (count : ℕ) → literal_count (literal d) ≡ Ok count → d ≡ number (pos count)
count_in (number (pos n)) count h = ap (λ k. number (pos k)) (same_ok n count h)
count_in (number (negsuc n)) count h = absurd (cc (h))
count_in low count h = absurd (cc (h))
count_in (array vs) count h = absurd (cc (h))
count_in (boolean b) count h = absurd (cc (h))
count_in null count h = absurd (cc (h))
count_in (object ms) count h = absurd (cc (h))
count_in (binary bs) count h = absurd (cc (h))
count_in (time t) count h = absurd (cc (h))
count_in (text s) count h = absurd (cc (h))
count_in high count h = absurd (cc (h))

count_is : (c : Form) (count : ℕ) → literal_count c ≡ Ok count → c ≡ literal (number (pos count))
count_is (literal d) count h = ap literal (count_in d count h)
count_is c count h = absurd (cc (h))

-- the first of an order that a term is read for
pub record FirstGives (key : Bytes) (o : Ordered) (count : ℕ) (f : Form) : Type 0 where
  pub slot_is : ℕ
  pub starts : Starts slot_is (slots f)
  pub gives : (w : World) → IsLikeBare w → (v : View) → v.key ≡ key → view_at w slot_is ≡ Ok v → (es : List Entry) → entries_named v o.name ≡ Ok es
      → (value f w [] >>= to_sequence w) ≡ Ok (take count (documents_in (in_order_of o es)))

limit_gives : (key : Bytes) (f : Form) (o : Ordered) (count : ℕ) → OrderGives key o f → FirstGives key o count (operation op.Limit (form f (form (literal (number (pos count))) no_forms)) no_named)
limit_gives key f o count g = record {
  slot_is = g.slot_is;
  starts = starts_on g.slot_is (slots_of (form f (form (literal (number (pos count))) no_forms))) [] (starts_on g.slot_is (slots f) (slots_of (form (literal (number (pos count))) no_forms)) g.starts);
  gives = λ w like v keyed at es named. ap (λ a. settled a >>= to_sequence w) (limit_given w g.slot_is (sense f) (documents_in (in_order_of o es)) count (g.gives w like v keyed at es named));
}

limit_is : (o : Op) → is_limit o ≡ true → op.Limit ≡ o
limit_is op.Limit h = refl
limit_is o h = absurd (cc (h))

first_read : (key : Bytes) (f c : Form) (x : Ordered × ℕ) → first_over key (f ∷ c ∷ []) ≡ Ok x → FirstGives key x.0 x.1 (operation op.Limit (form f (form c no_forms)) no_named)
first_read key f c x h =
    let o = then_ok (order_of key f) (λ o. literal_count c >>= λ count. Ok (o, count)) x h in
    let n = then_ok (literal_count c) (λ count. Ok (o.0, count)) x o.2 in
    subst (λ y. FirstGives key y.0 y.1 (operation op.Limit (form f (form c no_forms)) no_named)) (same_ok (o.0, n.0) x n.2)
    (subst (λ d. FirstGives key o.0 n.0 (operation op.Limit (form f (form d no_forms)) no_named)) (sym (count_is c n.0 n.1)) (limit_gives key f o.0 n.0 (order_of_gives key f o.0 o.1)))

first_forms : (key : Bytes) (p : Op) (fs : Forms) (x : Ordered × ℕ) → is_limit p ≡ true → first_over key (arguments fs) ≡ Ok x → FirstGives key x.0 x.1 (operation p fs no_named)
first_forms key p (form f (form c no_forms)) x is h = subst (λ q. FirstGives key x.0 x.1 (operation q (form f (form c no_forms)) no_named)) (limit_is p is) (first_read key f c x h)
first_forms key p no_forms x is h = absurd (cc (h))
first_forms key p (form f no_forms) x is h = absurd (cc (h))
first_forms key p (form f (form c (form g fs))) x is h = absurd (cc (h))

pub first_gives : (key : Bytes) (f : Form) (x : Ordered × ℕ) → first_by key f ≡ Ok x → FirstGives key x.0 x.1 f
first_gives key (operation p fs no_named) x h =
    let b = if_ok (is_limit p) (first_over key (arguments fs)) misplaced x h in
    first_forms key p fs x b.0 b.1
first_gives key f x h = absurd (cc (h))
