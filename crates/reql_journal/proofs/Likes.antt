-- Indexes with the same entries.
use Rattle.std.proofs.Common.{◌≡◌, List, [], ◌∷◌, Bool, true, false, cond, if◌then◌else◌, Option, Some, None, is_some, Ordering, Less, Equal, Greater, is_eq, refl, sym, ap, ◌∙◌, subst}
use Rattle.std.specs.Ordering.{match_ordering}
use Rattle.reql_datum.specs.Members.{text_order, find, put, without}
use Rattle.reql_datum.specs.Plain.{Plain}
use Rattle.reql_term.specs.Views.{Index}
use Rattle.reql_rules.specs.Lists.{Bytes}
use Rattle.reql_table_spec.specs.Indexes.{Indexes, is_there}
use Rattle.reql_table_spec.specs.Indexes as indexes
use Rattle.reql_journal.specs.Leading.{IsLikeIndex, AreLike}

pub same_index : (i : Index) → IsLikeIndex i i
same_index i = record { multi = refl; same = λ d. refl }

pub same_indexes : (ms : Indexes) → AreLike ms ms
same_indexes [] = tt
same_indexes (m ∷ ms) = ((refl, same_index m.1), same_indexes ms)

-- ---- an index more

by_order : (o : Ordering) (a b c d e f : Indexes) → AreLike a d → AreLike b e → AreLike c f → AreLike (match_ordering o a b c) (match_ordering o d e f)
by_order Less a b c d e f h i j = h
by_order Equal a b c d e f h i j = i
by_order Greater a b c d e f h i j = j

pub put_like : (name : Bytes) (i j : Index) → IsLikeIndex i j → (ms ns : Indexes) → AreLike ms ns → AreLike (put name i ms) (put name j ns)
put_like name i j same [] [] h = ((refl, same), tt)
put_like name i j same [] (n ∷ ns) h = absurd h
put_like name i j same (m ∷ ms) [] h = absurd h
put_like name i j same (m ∷ ms) (n ∷ ns) h =
    subst (λ k. AreLike (put name i (m ∷ ms)) (match_ordering (text_order name k) ((name, j) ∷ n ∷ ns) ((n.0, j) ∷ ns) (n ∷ put name j ns))) h.0.0
    (by_order (text_order name m.0) ((name, i) ∷ m ∷ ms) ((m.0, i) ∷ ms) (m ∷ put name i ms) ((name, j) ∷ n ∷ ns) ((n.0, j) ∷ ns) (n ∷ put name j ns)
    ((refl, same), h) ((h.0.0, same), h.1) (h.0, put_like name i j same ms ns h.1))

-- ---- one less

by_test : (b : Bool) (a c d f : Indexes) → AreLike a d → AreLike c f → AreLike (cond b a c) (cond b d f)
by_test true a c d f h i = h
by_test false a c d f h i = i

pub without_like : (name : Bytes) (ms ns : Indexes) → AreLike ms ns → AreLike (without name ms) (without name ns)
without_like name [] [] h = tt
without_like name [] (n ∷ ns) h = absurd h
without_like name (m ∷ ms) [] h = absurd h
without_like name (m ∷ ms) (n ∷ ns) h =
    subst (λ k. AreLike (without name (m ∷ ms)) (cond (is_eq (text_order name k)) ns (n ∷ without name ns))) h.0.0
    (by_test (is_eq (text_order name m.0)) ms (m ∷ without name ms) ns (n ∷ without name ns) h.1 (h.0, without_like name ms ns h.1))

-- ---- the index of a name

abbrev pub FindLike : Option Index → Option Index → Type 0
FindLike None None = Unit {0}
FindLike (Some i) (Some j) = IsLikeIndex i j
FindLike None (Some j) = ⊥
FindLike (Some i) None = ⊥

by_found : (b : Bool) (a c d f : Option Index) → FindLike a d → FindLike c f → FindLike (cond b a c) (cond b d f)
by_found true a c d f h i = h
by_found false a c d f h i = i

pub find_like : (name : Bytes) (ms ns : Indexes) → AreLike ms ns → FindLike (find name ms) (find name ns)
find_like name [] [] h = tt
find_like name [] (n ∷ ns) h = absurd h
find_like name (m ∷ ms) [] h = absurd h
find_like name (m ∷ ms) (n ∷ ns) h =
    subst (λ k. FindLike (find name (m ∷ ms)) (cond (is_eq (text_order name k)) (Some n.1) (find name ns))) h.0.0
    (by_found (is_eq (text_order name m.0)) (Some m.1) (find name ms) (Some n.1) (find name ns) h.0.1 (find_like name ms ns h.1))

there_by : (a b : Option Index) → FindLike a b → is_some a ≡ is_some b
there_by None None h = refl
there_by (Some i) (Some j) h = refl
there_by None (Some j) h = absurd h
there_by (Some i) None h = absurd h

pub there_like : (name : Bytes) (ms ns : Indexes) → AreLike ms ns → is_there name ms ≡ is_there name ns
there_like name ms ns h = there_by (find name ms) (find name ns) (find_like name ms ns h)

-- ---- one of another name

renamed_by : (old new : Bytes) (a b : Option Index) (ms ns : Indexes) → FindLike a b → AreLike ms ns → AreLike (indexes.renamed old new a ms) (indexes.renamed old new b ns)
renamed_by old new None None ms ns found h = h
renamed_by old new (Some i) (Some j) ms ns found h = put_like new i j found (without old ms) (without old ns) (without_like old ms ns h)
renamed_by old new None (Some j) ms ns found h = absurd found
renamed_by old new (Some i) None ms ns found h = absurd found

pub renamed_like : (old new : Bytes) (ms ns : Indexes) → AreLike ms ns → AreLike (indexes.renamed old new (find old ms) ms) (indexes.renamed old new (find old ns) ns)
renamed_like old new ms ns h = renamed_by old new (find old ms) (find old ns) ms ns (find_like old ms ns h) h

-- ---- without an index that isn't there

absent_by : (b : Bool) (m : Bytes × Index) (ms rest : Indexes) (o : Option Index) → is_some (cond b (Some m.1) o) ≡ false → (is_some o ≡ false → rest ≡ ms) → cond b ms (m ∷ rest) ≡ m ∷ ms
absent_by true m ms rest o h same = absurd (let g : true ≡ false = h in cc)
absent_by false m ms rest o h same = ap (λ l. m ∷ l) (same h)

pub without_absent : (name : Bytes) (ms : Indexes) → is_there name ms ≡ false → without name ms ≡ ms
without_absent name [] h = refl
without_absent name (m ∷ ms) h = absent_by (is_eq (text_order name m.0)) m ms (without name ms) (find name ms) h (without_absent name ms)
