-- The list of a table's indexes, with one put in, taken out or renamed.
use Rattle.std.proofs.Common.{◌≡◌, ℕ, zero, suc, ◌<◌, List, [], ◌∷◌, length, get_or, set, map, Option, Some, None, option_map, Result, Ok, Err, IfOk, refl, sym, ap, ◌∙◌, subst, Equal}
use Rattle.std.specs.List.{AllByRecursion, insert, remove}
use Rattle.std.specs.List.Sorted.{IsStrictlySortedBy}
use Rattle.std.specs.Map.{keys_of}
use Rattle.std.proofs.lemmas.Cmp.{nat_list_cmp_total}
use Rattle.reql_memory.specs.Sorted.{AreRisingBy, IsHitBy, IsGapBy}
use Rattle.reql_memory.specs.declared.memory.Memory.{Memory}
use Rattle.reql_memory.proofs.Held.{held_set, held_insert, held_remove}
use Rattle.reql_memory.proofs.Mapped.{find_map, put_map, without_map}
use Rattle.reql_memory.proofs.Sorted.{rising_put, rising_without, find_gap, without_gap}
use Rattle.reql_datum.proofs.Order.{text_says}
use Rattle.reql_datum.specs.Members.{AreRising, find, put, without, text_order}
use Rattle.reql_datum.specs.Order.{order}
use Rattle.reql_rules.specs.Lists.{Bytes}
use Rattle.reql_term.specs.Views.{Document, Index}
use Rattle.reql_write_spec.specs.Treated.{Changed, changed}
use Rattle.reql_table.specs.Edits.{renamed, key_at, seen_if, turned}
use Rattle.reql_table.specs.Seen.{Numbered, Standing, unnumbered, numbered, numbered_of, indexes_of, AreNumbered, IsFiled, Keeps}
use Rattle.reql_table.specs.declared.filed.FiledIndex.{FiledIndex}
use Rattle.reql_table.specs.declared.refile.Turn.{Turn}
use Rattle.reql_table.proofs.Coming.{rises}

-- ---- without the numbers of trees
abbrev told : Numbered → Index
told v = v.1

abbrev same : Bytes → Bytes
same name = name

pub put_unnumbered : (name : Bytes) (v : Numbered) (ms : List (Bytes × Numbered)) → unnumbered (put name v ms) ≡ put name v.1 (unnumbered ms)
put_unnumbered name v ms = sym (put_map text_order text_order same told (λ j k. refl) name v ms)

pub without_unnumbered : (name : Bytes) (ms : List (Bytes × Numbered)) → unnumbered (without name ms) ≡ without name (unnumbered ms)
without_unnumbered name ms = sym (without_map text_order text_order same told (λ j k. refl) name ms)

find_unnumbered : (name : Bytes) (ms : List (Bytes × Numbered)) → find name (unnumbered ms) ≡ option_map told (find name ms)
find_unnumbered name ms = find_map text_order text_order same told (λ j k. refl) name ms

moved_at : (old new : Bytes) (found : Option Numbered) (ms : List (Bytes × Numbered)) → unnumbered (renamed old new found ms) ≡ renamed old new (option_map told found) (unnumbered ms)
moved_at old new None ms = refl
moved_at old new (Some v) ms = put_unnumbered new v (without old ms) ∙ ap (put new v.1) (without_unnumbered old ms)

pub renamed_unnumbered : (old new : Bytes) (ms : List (Bytes × Numbered)) → unnumbered (renamed old new (find old ms) ms) ≡ renamed old new (find old (unnumbered ms)) (unnumbered ms)
renamed_unnumbered old new ms = moved_at old new (find old ms) ms ∙ ap (λ o. renamed old new o (unnumbered ms)) (sym (find_unnumbered old ms))

-- ---- what a table keeps
pub keeps_those : (docs new : List Document) (is js : List FiledIndex) → new ≡ docs → js ≡ is → AreRisingBy order docs → AreRising (map numbered is) → AllByRecursion (IsFiled docs) is
    → (next : ℕ) → AreNumbered (map numbered is) next → Keeps new js next
keeps_those docs new is js e f up names filed next numbers =
    subst (λ ds. Keeps ds js next) (sym e) (subst (λ is. Keeps docs is next) (sym f) (record { documents_rise = up; names_rise = names; filed = filed; numbers = numbers }))

-- without indexes, after a change
pub keeps_none : (x : Changed) (docs : List Document) (is : List FiledIndex) (ms : List (Bytes × Numbered)) (next : ℕ) → AreRisingBy order docs → map numbered is ≡ ms → is ≡ [] → AreNumbered ms next → Keeps (changed docs x) [] next
unfolding IsStrictlySortedBy
keeps_none x docs is ms next up e none numbers = record {
  documents_rise = rises x.key x.new docs up;
  names_rise = tt;
  filed = tt;
  numbers = subst (λ ns. AreNumbered ns next) (sym e ∙ ap (map numbered) none) numbers;
}

pub keeps_turned : (t : Turn) (docs new : List Document) (is rest js : List FiledIndex) → new ≡ turned t docs → js ≡ rest → map numbered rest ≡ map numbered is → AreRisingBy order docs → AreRising (map numbered is)
    → AllByRecursion (IsFiled (turned t docs)) rest → (ms : List (Bytes × Numbered)) (next : ℕ) → map numbered is ≡ ms → AreNumbered ms next → Keeps new js next
keeps_turned t docs new is rest js e f g up names filed ms next h numbers =
    keeps_those (turned t docs) new rest js e f (rises (key_at t) (seen_if t.new) docs up) (subst AreRising (sym g) names) filed next (subst (λ ms. AreNumbered ms next) (sym (g ∙ h)) numbers)

-- ---- an index in the place of the one of its name
text_exact : (s t : Bytes) → text_order s t ≡ Equal → s ≡ t
text_exact s t e = let same : s ≡ t = text_says s t Equal (sym e) in same

hit_name : (is : List FiledIndex) (k : Bytes) (i : ℕ) (x : FiledIndex) → IsHitBy text_order (keys_of (map numbered is)) k i → x ≡ get_or is i x → text_order k x.def.name ≡ Equal
hit_name [] k i x hit here = absurd hit
hit_name (j ∷ js) k zero x hit here = subst (λ (y : FiledIndex). text_order k y.def.name ≡ Equal) (sym here) hit
hit_name (j ∷ js) k (suc i) x hit here = hit_name js k i x hit.1 here

pub put_hit : (is : List FiledIndex) (i : ℕ) (x y : FiledIndex) → IsHitBy text_order (keys_of (map numbered is)) y.def.name i → i < length is → x ≡ get_or is i x
    → map numbered (set is i y) ≡ put y.def.name (numbered y).1 (map numbered is)
put_hit is i x y hit lt here =
    held_set text_order nat_list_cmp_total numbered is y.def.name i x y hit lt here (text_exact y.def.name x.def.name (hit_name is y.def.name i x hit here))

pub put_gap : (is : List FiledIndex) (i : ℕ) (y : FiledIndex) → IsGapBy text_order (keys_of (map numbered is)) y.def.name i → map numbered (insert is i y) ≡ put y.def.name (numbered y).1 (map numbered is)
put_gap is i y gap = held_insert text_order nat_list_cmp_total numbered is i y gap

pub out_hit : (is : List FiledIndex) (k : Bytes) (i : ℕ) → IsHitBy text_order (keys_of (map numbered is)) k i → map numbered (remove is i) ≡ without k (map numbered is)
out_hit is k i hit = held_remove text_order nat_list_cmp_total numbered is k i hit

pub out_gap : (is : List FiledIndex) (k : Bytes) (i : ℕ) → AreRising (map numbered is) → IsGapBy text_order (keys_of (map numbered is)) k i → map numbered is ≡ without k (map numbered is)
out_gap is k i up gap = sym (without_gap text_order nat_list_cmp_total (map numbered is) k (find_gap text_order nat_list_cmp_total (map numbered is) k i up gap))

pub put_rises : (name : Bytes) (v : Numbered) (ms ns : List (Bytes × Numbered)) → ns ≡ put name v ms → AreRising ms → AreRising ns
put_rises name v ms ns e up = subst AreRising (sym e) (rising_put text_order nat_list_cmp_total name v ms up)

pub out_rises : (name : Bytes) (ms ns : List (Bytes × Numbered)) → ns ≡ without name ms → AreRising ms → AreRising ns
out_rises name ms ns e up = subst AreRising (sym e) (rising_without text_order nat_list_cmp_total name ms up)

-- ---- an index that moved to another name
pub moved_indexes : (r : Result Standing Memory) (s : Standing) (old new : Bytes) (v : Numbered) → Some v ≡ find old (numbered_of s) → IfOk r (λ t. numbered_of t ≡ put new v (without old (numbered_of s)))
    → IfOk r (λ t. indexes_of t ≡ renamed old new (find old (indexes_of s)) (indexes_of s))
moved_indexes (Ok t) s old new v found h =
    ap unnumbered h ∙ ap (λ (o : Option Numbered). unnumbered (renamed old new o (numbered_of s))) found ∙ renamed_unnumbered old new (numbered_of s)
moved_indexes (Err e) s old new v found h = h
