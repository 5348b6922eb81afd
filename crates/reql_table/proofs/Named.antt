-- The index of a name, as a look finds it, and what a table knows of an index that is there.
use Rattle.std.proofs.Common.{◌≡◌, List, [], ◌∷◌, map, Some, refl, sym, ap, subst}
use Rattle.std.specs.List.{AllByRecursion}
use Rattle.std.specs.Map.{keys_of}
use Rattle.reql_memory.specs.Sorted.{AreRisingBy}
use Rattle.reql_datum.specs.Members.{AreRising, find}
use Rattle.reql_datum.specs.Order.{order}
use Rattle.reql_datum.specs.Plain.{text}
use Rattle.reql_term.specs.Views.{Document, Index, index_of, AreInOrder, AreOf}
use Rattle.reql_value_spec.specs.Index.{index_list}
use Rattle.reql_value_spec.proofs.IndexLists.{in_order}
use Rattle.reql_rules.specs.Lists.{Bytes}
use Rattle.reql_table.specs.Seen.{Numbered, Standing, unnumbered, documents_of, indexes_of, entries_at, numbered, IsFiled}
use Rattle.reql_table.specs.declared.filed.FiledIndex.{FiledIndex}

abbrev named : FiledIndex → Bytes × Index
named i = (i.def.name, index_of i.def)

-- names without the numbers of trees
pub keys_kept : (ms : List (Bytes × Numbered)) → keys_of (unnumbered ms) ≡ keys_of ms
keys_kept [] = refl
keys_kept (m ∷ ms) = ap (λ t. m.0 ∷ t) (keys_kept ms)

pub names_rise : (ms : List (Bytes × Numbered)) → AreRising ms → AreRising (unnumbered ms)
names_rise ms up = rw (keys_kept ms) up

pub names_seen : (is : List FiledIndex) → map (λ (m : Bytes × Index). text m.0) (unnumbered (map numbered is)) ≡ map (λ (i : FiledIndex). text i.def.name) is
names_seen [] = refl
names_seen (i ∷ is) = ap (λ t. text i.def.name ∷ t) (names_seen is)

-- ---- an index that is there
there_list : (t : Standing) (name : Bytes) (i : Index) → find name (indexes_of t) ≡ Some i → entries_at t name ≡ index_list (documents_of t) i
there_list t name i is = rw is refl

pub there_order : (t : Standing) (name : Bytes) (i : Index) → AreRisingBy order (documents_of t) → find name (indexes_of t) ≡ Some i → AreInOrder (entries_at t name)
there_order t name i up is = subst AreInOrder (sym (there_list t name i is)) (in_order (documents_of t) i up).0

pub there_held : (t : Standing) (name : Bytes) (i : Index) → AreRisingBy order (documents_of t) → find name (indexes_of t) ≡ Some i → AreOf (documents_of t) (entries_at t name)
there_held t name i up is = subst (AreOf (documents_of t)) (sym (there_list t name i is)) (in_order (documents_of t) i up).1

-- each index from a place on is filed
pub filed_on : (docs : List Document) (i : FiledIndex) (is js : List FiledIndex) → js ≡ i ∷ is → AllByRecursion (IsFiled docs) js → IsFiled docs i × AllByRecursion (IsFiled docs) is
filed_on docs i is js e all = let a : AllByRecursion (IsFiled docs) (i ∷ is) = subst (AllByRecursion (IsFiled docs)) e all in a
