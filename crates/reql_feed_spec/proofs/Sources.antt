-- What ORDER_BY by an index takes, a table or the documents between bounds, and what LIMIT of it gives, by what the arguments give.
use Rattle.std.proofs.Common.{◌≡◌, ℕ, pos, List, [], ◌∷◌, take, Bool, true, Option, Some, Ok, refl, ap, ◌∙◌}
use Rattle.std.specs.Option.{unwrap_or}
use Rattle.std.specs.Ordering.{is_eq}
use Rattle.std.specs.Prelude.{codes}
use Rattle.std.proofs.lemmas.Cmp.{tied_itself, nat_list_cmp_total}
use Rattle.reql_datum.specs.Members.{text_order}
use Rattle.reql_datum.specs.Plain.{Plain, number}
use Rattle.reql_datum.proofs.Finds.{equal_texts}
use Rattle.reql_memory.proofs.Finds.{is_equal}
use Rattle.reql_rules.specs.Lists.{Bytes}
use Rattle.reql_rules.specs.Types.{same_text}
use Rattle.reql_term.specs.Form.{literal}
use Rattle.reql_term.specs.Views.{Entry, documents_in, directed}
use Rattle.reql_term.specs.declared.op.Op.TheVariants as op
use Rattle.reql_value_spec.specs.Meaning.{sense, sense_of, table_of}
use Rattle.reql_value_spec.specs.Meant.{Meant, one, stream, selection, row, table, grouped, database, callable, Bounds, slice_between, slice_in_order, some_rows, bounded, Given, given, Options}
use Rattle.reql_value_spec.specs.Orders.{index_source, index_given, order_by}
use Rattle.reql_value_spec.specs.Sense as senses
use Rattle.reql_value_spec.specs.Sense.{Sense, plain, argument, option, index_option, strict, sorting}
use Rattle.reql_value_spec.specs.Tables.{may_bound, between_rule}
use Rattle.reql_value_spec.specs.Wanted.{to_datum, to_sequence, index_text, left_is_open, right_is_open}
use Rattle.reql_value_spec.specs.World.{World, View, view_at, documents_of, entries_named}

pub same_name : (name : Bytes) → same_text name name ≡ true
same_name name = ap is_eq (tied_itself nat_list_cmp_total name)

pub same_names : (m n : Bytes) → same_text m n ≡ true → m ≡ n
same_names m n h = equal_texts m n (is_equal (text_order m n) h)

-- a source by an index: its rows, and its entries
pub record Source (w : World) (n : ℕ) (name : Bytes) (es : List Entry) (s : Sense) : Type 0 where
  pub meant : Meant
  pub rows : List Plain
  pub is : argument 0 s w [] ≡ Ok (given meant)
  pub elements : to_sequence w meant ≡ Ok rows
  pub entries : index_source w name meant ≡ Ok (n, es)

pub table_source : (w : World) (n : ℕ) (v : View) (name : Bytes) (es : List Entry) → view_at w n ≡ Ok v → entries_named v name ≡ Ok es → Source w n name es (plain (table_of n))
table_source w n v name es at there = record { meant = table n; rows = documents_of v; is = rw at refl; elements = rw at refl; entries = rw at (rw there refl) }

-- ---- BETWEEN, by what its arguments and options give
abbrev pub bounds_of : Bytes → Plain → Bool → Plain → Bool → Bounds
bounds_of name bottom bottom_open top top_open = record { index = name; low = bottom; low_open = bottom_open; high = top; high_open = top_open }

abbrev pub slice : ℕ → Bounds → List Entry → Meant
slice n b es = selection n (slice_between b) (documents_in (bounded b es))

pub between_given : (w : World) (n : ℕ) (v : View) (l h : Sense) (xs : List (Bytes × Sense)) (ml mh : Meant) (bottom top : Plain) (os : Options) (index : Option Bytes) (bottom_open top_open : Bool) (name : Bytes) (es : List Entry)
    → view_at w n ≡ Ok v → argument 1 l w [] ≡ Ok (given ml) → to_datum ml ≡ Ok bottom → may_bound bottom ≡ true → argument 2 h w [] ≡ Ok (given mh) → to_datum mh ≡ Ok top → may_bound top ≡ true
    → senses.options option xs w [] ≡ Ok os → index_text os ≡ Ok index → left_is_open os ≡ Ok bottom_open → right_is_open os ≡ Ok top_open → unwrap_or index v.key ≡ name → entries_named v name ≡ Ok es
    → strict between_rule (plain (table_of n) ∷ l ∷ h ∷ []) xs w [] ≡ Ok (slice n (bounds_of name bottom bottom_open top top_open) es)
between_given w n v l h xs ml mh bottom top os index bottom_open top_open name es at l_is l_datum l_may h_is h_datum h_may os_are index_is low_is high_is named_so entries =
    rw at (rw l_is (rw h_is (rw os_are (rw at (rw l_datum (rw h_datum (rw l_may (rw h_may (rw index_is (rw low_is (rw high_is (rw named_so (rw entries refl)))))))))))))

pub slice_source : (w : World) (n : ℕ) (v : View) (name : Bytes) (es : List Entry) (b : Bounds) (s : Sense) → b.index ≡ name → view_at w n ≡ Ok v → entries_named v name ≡ Ok es
    → argument 0 s w [] ≡ Ok (given (slice n b es)) → Source w n name (bounded b es) s
slice_source w n v name es b s e at there is = record {
  meant = slice n b es;
  rows = documents_in (bounded b es);
  is = is;
  elements = refl;
  entries = rw (ap (λ x. same_text x name) e ∙ same_name name) (rw at (rw there refl));
}

-- ---- ORDER_BY of a source
pub order_of_meant : (w : World) (n : ℕ) (s i : Sense) (g : Given) (name : Bytes) (down : Bool) (es : List Entry) (m : Meant) (rows : List Plain) → argument 0 s w [] ≡ Ok (given m) → to_sequence w m ≡ Ok rows → index_source w name m ≡ Ok (n, es)
    → index_option i w [] ≡ Ok g → index_given (Some g) ≡ Ok (Some (name, down)) → sorting order_by (s ∷ []) ((codes "index", i) ∷ []) w [] ≡ Ok (selection n slice_in_order (documents_in (directed down es)))
order_of_meant w n s i g name down es (table k) rows is elements entries option reads = rw is (rw option (rw elements (rw reads (rw entries refl))))
order_of_meant w n s i g name down es (selection k kind ds) rows is elements entries option reads = rw is (rw option (rw reads (rw entries refl)))
order_of_meant w n s i g name down es (one d) rows is elements entries option reads = absurd (cc (entries))
order_of_meant w n s i g name down es (stream ds) rows is elements entries option reads = absurd (cc (entries))
order_of_meant w n s i g name down es (row k v d) rows is elements entries option reads = absurd (cc (entries))
order_of_meant w n s i g name down es (grouped gs) rows is elements entries option reads = absurd (cc (entries))
order_of_meant w n s i g name down es (database db) rows is elements entries option reads = absurd (cc (entries))
order_of_meant w n s i g name down es callable rows is elements entries option reads = absurd (cc (entries))

-- ---- LIMIT of it
pub limit_given : (w : World) (n : ℕ) (s : Sense) (ds : List Plain) (count : ℕ) → argument 0 s w [] ≡ Ok (given (selection n slice_in_order ds))
    → senses.value (sense_of op.Limit (s ∷ sense (literal (number (pos count))) ∷ []) []) w [] ≡ Ok (selection n some_rows (take count ds))
limit_given w n s ds count is = rw is refl
