-- The names of operators in chained text: those of RethinkDB's JavaScript driver.
use Rattle.std.specs.Prelude.{ℕ, List, [], ◌∷◌, ◌++◌, codes, Option, Some, None, if◌then◌else◌}
use Rattle.std.specs.Str.{bytes_eq}
use Rattle.reql_term.specs.declared.op.Op.{Op}
use Rattle.reql_term.specs.declared.op.Op.TheVariants as op
use Rattle.reql_chain.specs.declared.names.Named.{Named}

-- a row of the table that is searched
abbrev pub row_of : Named → List ℕ × Op
row_of n = (n.name.now, n.op)

-- each operator that is called by a name
abbrev pub names : List (List ℕ × Op)
names =
    (codes "error", op.Error) ∷
    (codes "eq", op.Eq) ∷
    (codes "ne", op.Ne) ∷
    (codes "lt", op.Lt) ∷
    (codes "le", op.Le) ∷
    (codes "gt", op.Gt) ∷
    (codes "ge", op.Ge) ∷
    (codes "not", op.Not) ∷
    (codes "add", op.Add) ∷
    (codes "sub", op.Sub) ∷
    (codes "mul", op.Mul) ∷
    (codes "div", op.Div) ∷
    (codes "mod", op.Mod) ∷
    (codes "coerceTo", op.CoerceTo) ∷
    (codes "typeOf", op.TypeOf) ∷
    (codes "do", op.Funcall) ∷
    (codes "branch", op.Branch) ∷
    (codes "or", op.Or) ∷
    (codes "and", op.And) ∷
    (codes "default", op.Default) ∷
    (codes "literal", op.Literal) ∷
    (codes "append", op.Append) ∷
    (codes "prepend", op.Prepend) ∷
    (codes "slice", op.Slice) ∷
    (codes "getField", op.GetField) ∷
    (codes "bracket", op.Bracket) ∷
    (codes "hasFields", op.HasFields) ∷
    (codes "pluck", op.Pluck) ∷
    (codes "without", op.Without) ∷
    (codes "withFields", op.WithFields) ∷
    (codes "merge", op.Merge) ∷
    (codes "insertAt", op.InsertAt) ∷
    (codes "deleteAt", op.DeleteAt) ∷
    (codes "changeAt", op.ChangeAt) ∷
    (codes "spliceAt", op.SpliceAt) ∷
    (codes "setInsert", op.SetInsert) ∷
    (codes "setUnion", op.SetUnion) ∷
    (codes "setIntersection", op.SetIntersection) ∷
    (codes "setDifference", op.SetDifference) ∷
    (codes "difference", op.Difference) ∷
    (codes "keys", op.Keys) ∷
    (codes "values", op.Values) ∷
    (codes "object", op.Object) ∷
    (codes "reduce", op.Reduce) ∷
    (codes "map", op.Map) ∷
    (codes "filter", op.Filter) ∷
    (codes "concatMap", op.ConcatMap) ∷
    (codes "orderBy", op.OrderBy) ∷
    (codes "asc", op.Asc) ∷
    (codes "desc", op.Desc) ∷
    (codes "distinct", op.Distinct) ∷
    (codes "count", op.Count) ∷
    (codes "union", op.Union) ∷
    (codes "nth", op.Nth) ∷
    (codes "skip", op.Skip) ∷
    (codes "limit", op.Limit) ∷
    (codes "isEmpty", op.IsEmpty) ∷
    (codes "offsetsOf", op.OffsetsOf) ∷
    (codes "contains", op.Contains) ∷
    (codes "range", op.Range) ∷
    (codes "innerJoin", op.InnerJoin) ∷
    (codes "outerJoin", op.OuterJoin) ∷
    (codes "eqJoin", op.EqJoin) ∷
    (codes "zip", op.Zip) ∷
    (codes "group", op.Group) ∷
    (codes "ungroup", op.Ungroup) ∷
    (codes "sum", op.Sum) ∷
    (codes "avg", op.Avg) ∷
    (codes "min", op.Min) ∷
    (codes "max", op.Max) ∷
    (codes "db", op.Db) ∷
    (codes "table", op.Table) ∷
    (codes "get", op.Get) ∷
    (codes "getAll", op.GetAll) ∷
    (codes "between", op.Between) ∷
    (codes "insert", op.Insert) ∷
    (codes "update", op.Update) ∷
    (codes "replace", op.Replace) ∷
    (codes "delete", op.Delete) ∷
    (codes "forEach", op.ForEach) ∷
    (codes "dbCreate", op.DbCreate) ∷
    (codes "dbDrop", op.DbDrop) ∷
    (codes "dbList", op.DbList) ∷
    (codes "tableCreate", op.TableCreate) ∷
    (codes "tableDrop", op.TableDrop) ∷
    (codes "tableList", op.TableList) ∷
    (codes "indexCreate", op.IndexCreate) ∷
    (codes "indexDrop", op.IndexDrop) ∷
    (codes "indexRename", op.IndexRename) ∷
    (codes "indexList", op.IndexList) ∷
    (codes "indexStatus", op.IndexStatus) ∷
    (codes "indexWait", op.IndexWait) ∷
    (codes "info", op.Info) ∷
    (codes "config", op.Config) ∷
    (codes "status", op.Status) ∷
    (codes "sync", op.Sync) ∷
    (codes "changes", op.Changes) ∷
    (codes "epochTime", op.EpochTime) ∷
    (codes "toEpochTime", op.ToEpochTime) ∷
    (codes "now", op.Now) ∷
    []

-- the operator of the first row with a name
abbrev pub op_in : List (List ℕ × Op) → List ℕ → Option Op
op_in [] name = None
op_in (row ∷ rows) name = if bytes_eq row.0 name then Some row.1 else op_in rows name

unfoldable pub op_named : List ℕ → Option Op
op_named name = op_in names name
