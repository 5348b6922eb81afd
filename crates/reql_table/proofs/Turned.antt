-- What lies between two keys of a tree, as the entries that it stands for.
use Rattle.std.proofs.Common.{◌≡◌, ℕ, List, [], ◌∷◌, ◌++◌, length, map, take, drop, reverse, Bool, true, false, not, ◌&&◌, cond, Option, Some, None, option_map, is_some, Result, Ok, Err, IfOk, refl, sym, ap, ◌∙◌}
use Rattle.std.proofs.lemmas.Grind.{reverse_onto}
use Rattle.std.proofs.lemmas.List.{map-append, length-reverse, append_assoc, append-nil}
use Rattle.std.specs.List.{filter}
use Rattle.reql_datum.specs.Order.{order}
use Rattle.reql_datum.specs.Plain.{Plain, low, array, boolean, null, number, object, binary, time, text, high}
use Rattle.reql_term.specs.Views.{Entry, directed, documents_in, beside, seen_beside, all_of}
use Rattle.reql_term.specs.declared.view.Entries.{Entries}
use Rattle.reql_memory.specs.declared.memory.Memory.{Memory}
use Rattle.reql_ptree.specs.Next.{is_behind}
use Rattle.reql_ptree.specs.Range.{lies_within, range_of}
use Rattle.reql_table.specs.Inside.{inside, pairs_inside, entries_inside, along, pair}
use Rattle.reql_table.specs.Keys.{entry_in}
use Rattle.reql_table.specs.Seen.{of_value}
use Rattle.reql_table.specs.declared.slice.Slice.{Slice}
use Rattle.reql_table.specs.declared.walk.Pair.{Pair}

document_at : (filed : Bool) (m : Plain × Plain) → (entry_in filed m).1.1 ≡ m.1
document_at true m = refl
document_at false m = refl

documents_back : (filed : Bool) (ms : List (Plain × Plain)) → documents_in (map (entry_in filed) ms) ≡ map (λ (m : Plain × Plain). m.1) ms
documents_back filed [] = refl
documents_back filed (m ∷ ms) = λ i. document_at filed m i ∷ documents_back filed ms i

first_last : {X : Type 0} (x : X) (xs : List X) → reverse (x ∷ xs) ≡ reverse xs ++ x ∷ []
first_last x xs = reverse_onto xs x []

map_reversed : {X Y : Type 0} (f : X → Y) (xs : List X) → map f (reverse xs) ≡ reverse (map f xs)
map_reversed f [] = refl
map_reversed f (x ∷ xs) =
    ap (map f) (first_last x xs) ∙ map-append f (reverse xs) (x ∷ []) ∙ ap (λ ys. ys ++ f x ∷ []) (map_reversed f xs) ∙ sym (first_last (f x) (map f xs))

abbrev document_in : Entry → Plain
document_in e = e.1.1

along_is : (down : Bool) (es : List Entry) → documents_in (directed down es) ≡ along down (documents_in es)
along_is true es = map_reversed document_in es
along_is false es = refl

seen : (down : Bool) (s : Slice) → documents_in (directed down (entries_inside s)) ≡ along down (inside s)
seen down s = along_is down (entries_inside s) ∙ ap (along down) (documents_back s.filed (pairs_inside s))

pub between_is : (found : Option (List Entry)) (down : Bool) (s : Slice) (items : List Plain) → found ≡ Some (directed down (entries_inside s)) → items ≡ along down (inside s) → option_map documents_in found ≡ Some items
between_is found down s items is e = rw (is, e) (ap Some (seen down s))

pub part_is : (most from : ℕ) (found : Option (List Entry)) (down : Bool) (s : Slice) (items : List Plain) → found ≡ Some (directed down (entries_inside s)) → items ≡ take most (drop from (along down (inside s)))
    → option_map (λ es. take most (drop from (documents_in es))) found ≡ Some items
part_is most from found down s items is e = rw (is, e) (ap (λ ds. Some (take most (drop from ds))) (seen down s))

along_length : (down : Bool) (ds : List Plain) → length (along down ds) ≡ length ds
along_length true ds = length-reverse ds
along_length false ds = refl

pub count_is : (found : Option (List Entry)) (down : Bool) (s : Slice) (n : ℕ) → found ≡ Some (directed down (entries_inside s)) → n ≡ length (inside s) → option_map (λ es. length (documents_in es)) found ≡ Some n
count_is found down s n is e = rw (is, e) (ap Some (ap length (seen down s) ∙ along_length down (inside s)))

pub turned_beside : (filed : Bool) (found : List Plain × List Plain) (ps qs : List Pair) (ms : List (Plain × Plain)) → found ≡ beside (map (entry_in filed) (map pair qs)) → qs ≡ reverse ps → map pair ps ≡ ms
    → found ≡ beside (directed true (map (entry_in filed) ms))
turned_beside filed found ps qs ms is e same =
    is ∙ ap (λ ns. beside (map (entry_in filed) (map pair ns))) e
    ∙ ap beside (ap (map (entry_in filed)) (map_reversed pair ps) ∙ map_reversed (entry_in filed) (map pair ps) ∙ ap (λ ns. reverse (map (entry_in filed) ns)) same)

pub turned_result : (filed down : Bool) (r : Result Entries Memory) (ps qs : List Pair) (ms : List (Plain × Plain)) → down ≡ true → IfOk r (λ e. seen_beside e ≡ beside (map (entry_in filed) (map pair qs))) → qs ≡ reverse ps → map pair ps ≡ ms
    → IfOk r (λ e. seen_beside e ≡ beside (directed down (map (entry_in filed) ms)))
turned_result filed true (Ok e) ps qs ms d h is same = turned_beside filed (seen_beside e) ps qs ms h is same
turned_result filed true (Err m) ps qs ms d h is same = tt
turned_result filed false r ps qs ms d h is same = cc

pub straight_beside : (filed : Bool) (found : List Plain × List Plain) (ps : List Pair) (ms : List (Plain × Plain)) → found ≡ beside (map (entry_in filed) (map pair ps)) → map pair ps ≡ ms
    → found ≡ beside (directed false (map (entry_in filed) ms))
straight_beside filed found ps ms is same = is ∙ ap (λ ns. beside (map (entry_in filed) ns)) same

-- the documents of one key after those of others
pub more_all : (E : Option (List Entry)) (all new : List Plain) (k : Plain) (ks : List Plain) (meant : Option (List Plain)) → option_map (λ es. all ++ documents_in (of_value k es)) E ≡ Some new
    → option_map (λ es. all ++ all_of (k ∷ ks) es) E ≡ meant → option_map (λ es. new ++ all_of ks es) E ≡ meant
more_all None all new k ks meant is e = cc
more_all (Some es) all new k ks meant is e = ap Some (ap (λ ds. ds ++ all_of ks es) (sym (inside_some is)) ∙ append_assoc all (documents_in (of_value k es)) (all_of ks es)) ∙ e
  where
    inside_some : Some (all ++ documents_in (of_value k es)) ≡ Some new → all ++ documents_in (of_value k es) ≡ new
    inside_some e = cc

pub no_more : (E : Option (List Entry)) (all : List Plain) (meant : Option (List Plain)) → is_some E ≡ true → option_map (λ es. all ++ []) E ≡ meant → meant ≡ Some all
no_more None all meant there e = cc
no_more (Some es) all meant there e = sym e ∙ ap Some (append-nil all)

pub added : (E : Option (List Entry)) (all new : List Plain) (k : Plain) (s : Slice) → option_map (of_value k) E ≡ Some (entries_inside s) → new ≡ all ++ inside s → option_map (λ es. all ++ documents_in (of_value k es)) E ≡ Some new
added None all new k s is e = cc
added (Some es) all new k s is e = ap Some (ap (λ ds. all ++ ds) (ap documents_in (inside_some is) ∙ seen false s) ∙ sym e)
  where
    inside_some : Some (of_value k es) ≡ Some (entries_inside s) → of_value k es ≡ entries_inside s
    inside_some e = cc

-- every key lies between the least and the highest
least_is : (k : Plain) → is_behind false (order low k) ≡ false
least_is low = refl
least_is (array vs) = refl
least_is (boolean b) = refl
least_is null = refl
least_is (number n) = refl
least_is (object ms) = refl
least_is (binary s) = refl
least_is (time t) = refl
least_is (text s) = refl
least_is high = refl

highest_is : (k : Plain) → is_behind true (order high k) ≡ true
highest_is low = refl
highest_is (array vs) = refl
highest_is (boolean b) = refl
highest_is null = refl
highest_is (number n) = refl
highest_is (object ms) = refl
highest_is (binary s) = refl
highest_is (time t) = refl
highest_is (text s) = refl
highest_is high = refl

pub all_kept : (ms : List (Plain × Plain)) → range_of low false high false ms ≡ map (λ (m : Plain × Plain). m.1) ms
all_kept [] = refl
all_kept (m ∷ ms) =
    (λ i. map (λ (n : Plain × Plain). n.1) (cond (not (least_is m.0 i) && highest_is m.0 i) (m ∷ filter (lies_within low false high false) ms) (filter (lies_within low false high false) ms)))
    ∙ ap (λ t. m.1 ∷ t) (all_kept ms)

pub all_lie : (ms : List (Plain × Plain)) → filter (lies_within low false high false) ms ≡ ms
all_lie [] = refl
all_lie (m ∷ ms) =
    (λ i. cond (not (least_is m.0 i) && highest_is m.0 i) (m ∷ filter (lies_within low false high false) ms) (filter (lies_within low false high false) ms))
    ∙ ap (λ t. m ∷ t) (all_lie ms)

pub all_inside : (ps : List Pair) (ms : List (Plain × Plain)) → map pair ps ≡ filter (lies_within low false high false) ms → map pair ps ≡ ms
all_inside ps ms e = e ∙ all_lie ms
