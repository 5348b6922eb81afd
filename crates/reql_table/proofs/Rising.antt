-- The keys of an index's tree rise.
use Rattle.std.proofs.Common.{◌≡◌, List, [], ◌∷◌, refl, sym, ap, ◌∙◌, subst, Ordering, Less, Equal, Greater}
use Rattle.std.specs.List.{AllByRecursion}
use Rattle.std.specs.List.Sorted.{IsStrictlySortedBy}
use Rattle.std.specs.Map.{keys_of}
use Rattle.std.specs.Ordering.{ordering_then}
use Rattle.reql_memory.specs.Sorted.{AreRisingBy}
use Rattle.reql_datum.specs.Order.{order}
use Rattle.reql_datum.specs.Plain.{Plain}
use Rattle.reql_term.specs.Views.{Document, Entry, entry_order, AreInOrder, index_of}
use Rattle.reql_value_spec.specs.Index.{index_list}
use Rattle.reql_value_spec.proofs.IndexLists.{in_order}
use Rattle.reql_ptree.specs.Pairs.{AreRising}
use Rattle.reql_table.specs.Keys.{key_of, pairs_of}
use Rattle.reql_table.specs.Seen.{IsFiled}
use Rattle.reql_table.specs.declared.filed.FiledIndex.{FiledIndex}

then_none : (o : Ordering) → ordering_then o Equal ≡ o
then_none Less = refl
then_none Equal = refl
then_none Greater = refl

pub key_order : (e f : Entry) → order (key_of e) (key_of f) ≡ entry_order e f
key_order e f = ap (ordering_then (order e.0 f.0)) (then_none (order e.1.0 f.1.0))

above_all : (e : Entry) (es : List Entry) → AllByRecursion (λ f. entry_order e f ≡ Less) es → AllByRecursion (λ y. order (key_of e) y ≡ Less) (keys_of (pairs_of es))
above_all e [] h = tt
above_all e (f ∷ es) h = (key_order e f ∙ h.0, above_all e es h.1)

pub pairs_rise : (es : List Entry) → AreInOrder es → AreRising (pairs_of es)
unfolding IsStrictlySortedBy
pairs_rise [] h = tt
pairs_rise (e ∷ es) h = (above_all e es h.0, pairs_rise es h.1)

pub filed_rising : (docs : List Document) (i : FiledIndex) (ms : List (Plain × Plain)) → AreRisingBy order docs → IsFiled docs i → ms ≡ i.entries → AreRising ms
filed_rising docs i ms up filed e = subst AreRising (sym (e ∙ filed)) (pairs_rise (index_list docs (index_of i.def)) (in_order docs (index_of i.def) up).0)
