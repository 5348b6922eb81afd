-- The terms of feeds, evaluated.
use Rattle.std.proofs.Common.{◌≡◌, ℕ, zero, suc, nat_eq, List, [], ◌∷◌, take, Option, Some, None, Ok, Bool, true, false, cond, Ordering, Less, Equal, Greater, refl, sym, ap, arith, ◌∙◌, subst}
use Rattle.std.specs.List.{filter}
use Rattle.std.specs.Ordering.{is_eq, match_ordering}
use Rattle.std.specs.Prelude.{codes, not}
use Rattle.reql_datum.specs.Answer.{◌>>=◌}
use Rattle.reql_datum.specs.Plain.{Plain, text}
use Rattle.reql_datum.specs.Order.{order}
use Rattle.reql_memory.specs.Sorted.{AreRisingBy, put_by, without_by}
use Rattle.reql_rules.specs.Lists.{Bytes}
use Rattle.reql_rules.specs.Types.{is_null}
use Rattle.reql_term.specs.Form.{literal, slot, NamedForms, no_named, named}
use Rattle.reql_term.specs.Views.{Document, Entry, documents_in, directed, primary}
use Rattle.reql_value_spec.specs.Index.{index_list}
use Rattle.reql_value_spec.specs.Meaning.{settled, sense, named_senses}
use Rattle.reql_value_spec.specs.Meant.{one, selection, slice_in_order, given, directed as with_direction, Options}
use Rattle.reql_value_spec.specs.Sense as senses
use Rattle.reql_value_spec.specs.Sense.{argument, option}
use Rattle.reql_value_spec.specs.Shapes.{over, with_documents, rows_over}
use Rattle.reql_value_spec.specs.Wanted.{to_sequence, left_is_open, right_is_open}
use Rattle.reql_value_spec.specs.World.{World, View, view_at, entries_named}
use Rattle.reql_value_spec.proofs.Shaped.{by_document}
use Rattle.reql_feed_spec.specs.Value.{Change, Selection, changed, selected}
use Rattle.reql_feed_spec.specs.Moving.{AreNoNulls, IsNoNull, BringNoNulls, MovesOne, selected_by_key}
use Rattle.reql_feed_spec.specs.Feeds.{first_of}
use Rattle.reql_feed_spec.specs.Folds.{AllFollow}
use Rattle.reql_feed_spec.proofs.Histories.{rising_changed}
use Rattle.reql_feed_spec.proofs.Moving.{indexes_move, keys_move}
use Rattle.reql_feed_spec.proofs.Sources.{Source, table_source, bounds_of, between_given, slice_source, order_of_meant, limit_given}
use Rattle.reql_feed_spec.specs.Watched.{Part, whole, between, lies_in, AreBounds, bound_name, part_term, index_term, ordered_term, first_term, PointsAreGets, RangesFollowShapes, LimitsFollowIndexes, LimitsFollowKeys, LimitsAreFirstByIndex, LimitsAreFirstByKey}

itself : (n : ℕ) → nat_eq n n ≡ true
itself n = grind arith

pub gets : PointsAreGets
gets base n t key docs is = rw (itself n) (rw (itself n) (rw is refl))

pub follow_shapes : RangesFollowShapes
follow_shapes base n t f h docs [] = tt
follow_shapes base n t f h docs (c ∷ cs) = (by_document base n t f h, follow_shapes base n t f h (changed c.0 c.1 docs) cs)

-- ---- limits
no_nulls_put : (o : Ordering) (k v : Plain) (d : Document) (ds : List Document) → is_null v ≡ false → is_null d.1 ≡ false → AreNoNulls ds → AreNoNulls (put_by order k v ds) → AreNoNulls (match_ordering o ((k, v) ∷ d ∷ ds) ((d.0, v) ∷ ds) (d ∷ put_by order k v ds))
no_nulls_put Less k v d ds n m all on = (n, (m, all))
no_nulls_put Equal k v d ds n m all on = (n, all)
no_nulls_put Greater k v d ds n m all on = (m, on)

put_no_nulls : (k v : Plain) (docs : List Document) → is_null v ≡ false → AreNoNulls docs → AreNoNulls (put_by order k v docs)
put_no_nulls k v [] n all = (n, tt)
put_no_nulls k v (d ∷ ds) n all = no_nulls_put (order k d.0) k v d ds n all.0 all.1 (put_no_nulls k v ds n all.1)

rest_no_nulls : (b : Bool) (d : Document) (ds rest : List Document) → is_null d.1 ≡ false → AreNoNulls ds → AreNoNulls rest → AreNoNulls (cond b ds (d ∷ rest))
rest_no_nulls true d ds rest m all on = all
rest_no_nulls false d ds rest m all on = (m, on)

without_no_nulls : (k : Plain) (docs : List Document) → AreNoNulls docs → AreNoNulls (without_by order k docs)
without_no_nulls k [] all = tt
without_no_nulls k (d ∷ ds) all = rest_no_nulls (is_eq (order k d.0)) d ds (without_by order k ds) all.0 all.1 (without_no_nulls k ds all.1)

pub changed_no_nulls : (k : Plain) (o : Option Plain) (docs : List Document) → IsNoNull o → AreNoNulls docs → AreNoNulls (changed k o docs)
changed_no_nulls k None docs n all = without_no_nulls k docs all
changed_no_nulls k (Some v) docs n all = put_no_nulls k v docs n all

follow_moves : (ordered : Selection) → MovesOne ordered → (n : ℕ) (docs : List Document) (cs : List Change) → AreRisingBy order docs → AreNoNulls docs → BringNoNulls cs → AllFollow (first_of n ordered) docs cs
follow_moves ordered moves n docs [] up all real = tt
follow_moves ordered moves n docs (c ∷ cs) up all real =
    (moves n docs c up all real.0, follow_moves ordered moves n (changed c.0 c.1 docs) cs (rising_changed c.0 c.1 docs up) (changed_no_nulls c.0 c.1 docs real.0 all) real.1)

pub follow_indexes : LimitsFollowIndexes
follow_indexes i within down off n docs cs up all real = follow_moves (selected i within down) (indexes_move i within down off) n docs cs up all real

pub follow_keys : LimitsFollowKeys
follow_keys within down n docs cs up all real = follow_moves (selected_by_key within down) (keys_move within down) n docs cs up all real

pub filter_all : (es : List Entry) → filter (lies_in whole) es ≡ es
filter_all [] = refl
filter_all (e ∷ es) = ap (λ t. e ∷ t) (filter_all es)

pub documents_take : (n : ℕ) (es : List Entry) → take n (documents_in es) ≡ documents_in (take n es)
documents_take zero es = refl
documents_take (suc n) [] = refl
documents_take (suc n) (e ∷ es) = ap (λ t. e.1.1 ∷ t) (documents_take n es)

-- ---- the term of a limit feed: what its source gives, then its order, where these are the entries of the name
abbrev bound_of : Bool → Plain
bound_of true = text (codes "open")
bound_of false = text (codes "closed")

bound_gives : (b : Bool) (w : World) → option (sense (bound_name b)) w [] ≡ Ok (given (one (bound_of b)))
bound_gives true w = refl
bound_gives false w = refl

abbrev between_names : Bytes → Bool → Bool → NamedForms
between_names name bottom_open top_open = named (codes "index") (literal (text name)) (named (codes "left_bound") (bound_name bottom_open) (named (codes "right_bound") (bound_name top_open) no_named))

abbrev between_options : Bytes → Bool → Bool → Options
between_options name bottom_open top_open = (codes "index", given (one (text name))) ∷ (codes "left_bound", given (one (bound_of bottom_open))) ∷ (codes "right_bound", given (one (bound_of top_open))) ∷ []

options_give : (name : Bytes) (bottom_open top_open : Bool) (w : World) → senses.options option (named_senses (between_names name bottom_open top_open)) w [] ≡ Ok (between_options name bottom_open top_open)
options_give name bottom_open top_open w = rw (bound_gives bottom_open w) (rw (bound_gives top_open w) refl)

left_is : (name : Bytes) (bottom_open top_open : Bool) → left_is_open (between_options name bottom_open top_open) ≡ Ok bottom_open
left_is name true top_open = refl
left_is name false top_open = refl

right_is : (name : Bytes) (bottom_open top_open : Bool) → right_is_open (between_options name bottom_open top_open) ≡ Ok top_open
right_is name bottom_open true = refl
right_is name bottom_open false = refl

part_source : (w : World) (n : ℕ) (v : View) (name : Bytes) (es : List Entry) (part : Part) → view_at w n ≡ Ok v → entries_named v name ≡ Ok es → AreBounds part → Source w n name (filter (lies_in part) es) (sense (part_term n name part))
part_source w n v name es whole at is bounds = subst (λ xs. Source w n name xs (sense (slot n))) (sym (filter_all es)) (table_source w n v name es at is)
part_source w n v name es (between bottom bottom_open top top_open) at is bounds =
    let given_is = between_given w n v (sense (literal bottom)) (sense (literal top)) (named_senses (between_names name bottom_open top_open)) (one bottom) (one top) bottom top (between_options name bottom_open top_open) (Some name)
    bottom_open top_open name es at refl refl (ap not bounds.0) refl refl (ap not bounds.1) (options_give name bottom_open top_open w) refl (left_is name bottom_open top_open) (right_is name bottom_open top_open) refl is in
    slice_source w n v name es (bounds_of name bottom bottom_open top top_open) (sense (part_term n name (between bottom bottom_open top top_open))) refl at is (ap (λ a. a >>= λ m. Ok (given m)) given_is)

part_ordered : (w : World) (n : ℕ) (name : Bytes) (es : List Entry) (part : Part) (down : Bool) → Source w n name es (sense (part_term n name part)) → argument 0 (sense (ordered_term n name part down)) w [] ≡ Ok (given (selection n slice_in_order (documents_in (directed down es))))
part_ordered w n name es part true s =
    ap (λ a. a >>= λ m. Ok (given m)) (order_of_meant w n (sense (part_term n name part)) (sense (index_term true name)) (with_direction true (given (one (text name)))) name true es s.meant s.rows s.is s.elements s.entries refl refl)
part_ordered w n name es part false s =
    ap (λ a. a >>= λ m. Ok (given m)) (order_of_meant w n (sense (part_term n name part)) (sense (index_term false name)) (given (one (text name))) name false es s.meant s.rows s.is s.elements s.entries refl refl)

first_in : (base : World) (n : ℕ) (t : View) (name : Bytes) (es : List Entry) (part : Part) (down : Bool) (count : ℕ) (docs : List Document) → entries_named (with_documents t docs) name ≡ Ok es → AreBounds part
    → rows_over base n t (first_term n name part down count) docs ≡ Ok (documents_in (take count (directed down (filter (lies_in part) es))))
first_in base n t name es part down count docs is bounds =
    let w : World = over base n t docs in
    let within : List Entry = filter (lies_in part) es in
    let at : view_at w n ≡ Ok (with_documents t docs) = rw (itself n) refl in
    let ordered = part_ordered w n name within part down (part_source w n (with_documents t docs) name es part at is bounds) in
    ap (λ a. settled a >>= to_sequence w) (limit_given w n (sense (ordered_term n name part down)) (documents_in (directed down within)) count ordered)
    ∙ ap (λ vs. Ok vs) (documents_take count (directed down within))

pub first_by_index : LimitsAreFirstByIndex
first_by_index base n t name i part down count docs off found bounds =
    let is : entries_named (with_documents t docs) name ≡ Ok (index_list docs i) = rw (off, found) refl in
    first_in base n t name (index_list docs i) part down count docs is bounds

pub first_by_key : LimitsAreFirstByKey
first_by_key base n t name part down count docs on bounds =
    let is : entries_named (with_documents t docs) name ≡ Ok (primary docs) = rw on refl in
    first_in base n t name (primary docs) part down count docs is bounds
