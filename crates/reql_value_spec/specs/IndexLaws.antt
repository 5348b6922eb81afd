-- The index lists of a plain table are as a table that is read tells its indexes: in order, no entry twice, each of a document that is there.
use Rattle.std.specs.Prelude.{List}
use Rattle.reql_memory.specs.Sorted.{AreRisingBy}
use Rattle.reql_datum.specs.Order.{order}
use Rattle.reql_term.specs.Views.{Document, Index, AreInOrder, AreOf}
use Rattle.reql_value_spec.specs.Index.{index_list}

abbrev pub IndexListsAreInOrder : Type 0
IndexListsAreInOrder = (docs : List Document) (i : Index) → AreRisingBy order docs → AreInOrder (index_list docs i) × AreOf docs (index_list docs i)
