-- The operators of ReQL, as `ql2.proto` numbers them and the ReQL API reference gives their arguments.
use Rattle.std.specs.Prelude.{ℕ, List, [], ◌∷◌, Option, Some, None, if◌then◌else◌, nat_eq, nat_le, ◌%◌, codes, Bool, true, false, ◌&&◌, ◌||◌}
use Rattle.std.specs.Ordering.{is_eq}
use denote.Enum.Declared.{tag_of}
use Rattle.reql_datum.specs.Members.{text_order}
use Rattle.reql_term.specs.contracts.op.Op.{the_type}
use Rattle.reql_term.specs.declared.op.Op.{Op}
use Rattle.reql_term.specs.declared.op.Op.TheVariants as op
use Rattle.reql_term.specs.declared.role.Way.{Way}
use Rattle.reql_term.specs.declared.role.Way.TheVariants as way
use Rattle.reql_term.specs.declared.role.Naming.{Naming}
use Rattle.reql_term.specs.declared.role.Naming.TheVariants as naming
use Rattle.reql_term.specs.declared.role.Task.{Task}
use Rattle.reql_term.specs.declared.role.Task.TheVariants as task
use Rattle.reql_term.specs.declared.table.Parity.{Parity}
use Rattle.reql_term.specs.declared.table.Parity.TheVariants as parity

-- the names of optional arguments: any, or those of a list
pub data Names : Type 0 where
  any_name : Names
  only : List (List ℕ) → Names

abbrev pub none : Names
none = only []

-- An operator's number on the wire, the least and the most arguments that it takes (None: any number), whether they
-- have to be odd or even, and its optional arguments.
pub record Line : Type 0 where
  pub number : ℕ
  pub least : ℕ
  pub most : Option ℕ
  pub parity : Parity
  pub options : Names

abbrev pub line : ℕ → ℕ → Option ℕ → Parity → Names → Line
line number least most parity options = record { number = number; least = least; most = most; parity = parity; options = options }

abbrev pub line_of : Op → Line
line_of op.MakeArray = line 2 0 None parity.Any none
line_of op.MakeObj = line 3 0 (Some 0) parity.Any any_name
line_of op.Var = line 10 1 (Some 1) parity.Any none
line_of op.Error = line 12 0 (Some 1) parity.Any none
line_of op.ImplicitVar = line 13 0 (Some 0) parity.Any none
line_of op.Eq = line 17 1 None parity.Any none
line_of op.Ne = line 18 1 None parity.Any none
line_of op.Lt = line 19 1 None parity.Any none
line_of op.Le = line 20 1 None parity.Any none
line_of op.Gt = line 21 1 None parity.Any none
line_of op.Ge = line 22 1 None parity.Any none
line_of op.Not = line 23 1 (Some 1) parity.Any none
line_of op.Add = line 24 1 None parity.Any none
line_of op.Sub = line 25 1 None parity.Any none
line_of op.Mul = line 26 1 None parity.Any none
line_of op.Div = line 27 1 None parity.Any none
line_of op.Mod = line 28 2 (Some 2) parity.Any none
line_of op.CoerceTo = line 51 2 (Some 2) parity.Any none
line_of op.TypeOf = line 52 1 (Some 1) parity.Any none
line_of op.Funcall = line 64 1 None parity.Any none
line_of op.Branch = line 65 3 None parity.Odd none
line_of op.Or = line 66 0 None parity.Any none
line_of op.And = line 67 0 None parity.Any none
line_of op.Func = line 69 2 (Some 2) parity.Any none
line_of op.Default = line 92 2 (Some 2) parity.Any none
line_of op.Literal = line 137 0 (Some 1) parity.Any none
line_of op.Minval = line 180 0 (Some 0) parity.Any none
line_of op.Maxval = line 181 0 (Some 0) parity.Any none
line_of op.Append = line 29 2 (Some 2) parity.Any none
line_of op.Prepend = line 80 2 (Some 2) parity.Any none
line_of op.Slice = line 30 2 (Some 3) parity.Any (only (codes "left_bound" ∷ codes "right_bound" ∷ []))
line_of op.GetField = line 31 2 (Some 2) parity.Any none
line_of op.Bracket = line 170 2 (Some 2) parity.Any none
line_of op.HasFields = line 32 2 None parity.Any none
line_of op.Pluck = line 33 2 None parity.Any none
line_of op.Without = line 34 2 None parity.Any none
line_of op.WithFields = line 96 2 None parity.Any none
line_of op.Merge = line 35 2 None parity.Any none
line_of op.InsertAt = line 82 3 (Some 3) parity.Any none
line_of op.DeleteAt = line 83 2 (Some 3) parity.Any none
line_of op.ChangeAt = line 84 3 (Some 3) parity.Any none
line_of op.SpliceAt = line 85 3 (Some 3) parity.Any none
line_of op.SetInsert = line 88 2 (Some 2) parity.Any none
line_of op.SetUnion = line 90 2 (Some 2) parity.Any none
line_of op.SetIntersection = line 89 2 (Some 2) parity.Any none
line_of op.SetDifference = line 91 2 (Some 2) parity.Any none
line_of op.Difference = line 95 2 (Some 2) parity.Any none
line_of op.Keys = line 94 1 (Some 1) parity.Any none
line_of op.Values = line 186 1 (Some 1) parity.Any none
line_of op.Object = line 143 0 None parity.Even none
line_of op.Reduce = line 37 2 (Some 2) parity.Any none
line_of op.Map = line 38 2 (Some 2) parity.Any none
line_of op.Filter = line 39 2 (Some 2) parity.Any (only (codes "default" ∷ []))
line_of op.ConcatMap = line 40 2 (Some 2) parity.Any none
line_of op.OrderBy = line 41 1 None parity.Any (only (codes "index" ∷ []))
line_of op.Asc = line 73 1 (Some 1) parity.Any none
line_of op.Desc = line 74 1 (Some 1) parity.Any none
line_of op.Distinct = line 42 1 (Some 1) parity.Any (only (codes "index" ∷ []))
line_of op.Count = line 43 1 (Some 2) parity.Any none
line_of op.Union = line 44 1 None parity.Any (only (codes "interleave" ∷ []))
line_of op.Nth = line 45 2 (Some 2) parity.Any none
line_of op.Skip = line 70 2 (Some 2) parity.Any none
line_of op.Limit = line 71 2 (Some 2) parity.Any none
line_of op.IsEmpty = line 86 1 (Some 1) parity.Any none
line_of op.OffsetsOf = line 87 2 (Some 2) parity.Any none
line_of op.Contains = line 93 2 None parity.Any none
line_of op.Range = line 173 1 (Some 2) parity.Any none
line_of op.InnerJoin = line 48 3 (Some 3) parity.Any none
line_of op.OuterJoin = line 49 3 (Some 3) parity.Any none
line_of op.EqJoin = line 50 3 (Some 3) parity.Any (only (codes "index" ∷ []))
line_of op.Zip = line 72 1 (Some 1) parity.Any none
line_of op.Group = line 144 1 None parity.Any (only (codes "index" ∷ []))
line_of op.Ungroup = line 150 1 (Some 1) parity.Any none
line_of op.Sum = line 145 1 (Some 2) parity.Any none
line_of op.Avg = line 146 1 (Some 2) parity.Any none
line_of op.Min = line 147 1 (Some 2) parity.Any none
line_of op.Max = line 148 1 (Some 2) parity.Any none
line_of op.Db = line 14 1 (Some 1) parity.Any none
line_of op.Table = line 15 1 (Some 2) parity.Any (only (codes "read_mode" ∷ codes "use_outdated" ∷ codes "identifier_format" ∷ []))
line_of op.Get = line 16 2 (Some 2) parity.Any none
line_of op.GetAll = line 78 1 None parity.Any (only (codes "index" ∷ []))
line_of op.Between = line 182 3 (Some 3) parity.Any (only (codes "index" ∷ codes "left_bound" ∷ codes "right_bound" ∷ []))
line_of op.Insert = line 56 2 (Some 2) parity.Any (only (codes "conflict" ∷ codes "return_changes" ∷ codes "durability" ∷ []))
line_of op.Update = line 53 2 (Some 2) parity.Any (only (codes "return_changes" ∷ codes "durability" ∷ []))
line_of op.Replace = line 55 2 (Some 2) parity.Any (only (codes "return_changes" ∷ codes "durability" ∷ []))
line_of op.Delete = line 54 1 (Some 1) parity.Any (only (codes "return_changes" ∷ codes "durability" ∷ []))
line_of op.ForEach = line 68 2 (Some 2) parity.Any none
line_of op.DbCreate = line 57 1 (Some 1) parity.Any none
line_of op.DbDrop = line 58 1 (Some 1) parity.Any none
line_of op.DbList = line 59 0 (Some 0) parity.Any none
line_of op.TableCreate = line 60 1 (Some 2) parity.Any (only (codes "primary_key" ∷ codes "durability" ∷ []))
line_of op.TableDrop = line 61 1 (Some 2) parity.Any none
line_of op.TableList = line 62 0 (Some 1) parity.Any none
line_of op.IndexCreate = line 75 2 (Some 3) parity.Any (only (codes "multi" ∷ []))
line_of op.IndexDrop = line 76 2 (Some 2) parity.Any none
line_of op.IndexRename = line 156 3 (Some 3) parity.Any (only (codes "overwrite" ∷ []))
line_of op.IndexList = line 77 1 (Some 1) parity.Any none
line_of op.IndexStatus = line 139 1 None parity.Any none
line_of op.IndexWait = line 140 1 None parity.Any none
line_of op.Info = line 79 1 (Some 1) parity.Any none
line_of op.Config = line 174 1 (Some 1) parity.Any none
line_of op.Status = line 175 1 (Some 1) parity.Any none
line_of op.Sync = line 138 1 (Some 1) parity.Any none
line_of op.Changes = line 152 1 (Some 1) parity.Any (only (codes "squash" ∷ codes "changefeed_queue_size" ∷ codes "include_initial" ∷ codes "include_states" ∷ codes "include_offsets" ∷ codes "include_types" ∷ []))
line_of op.EpochTime = line 101 1 (Some 1) parity.Any none
line_of op.ToEpochTime = line 102 1 (Some 1) parity.Any none
line_of op.Now = line 103 0 (Some 0) parity.Any none

abbrev pub every_op : List Op
every_op = op.MakeArray ∷ op.MakeObj ∷ op.Var ∷ op.Error ∷ op.ImplicitVar ∷ op.Eq ∷ op.Ne ∷ op.Lt ∷ op.Le ∷
    op.Gt ∷ op.Ge ∷ op.Not ∷ op.Add ∷ op.Sub ∷ op.Mul ∷ op.Div ∷ op.Mod ∷ op.CoerceTo ∷ op.TypeOf ∷
    op.Funcall ∷ op.Branch ∷ op.Or ∷ op.And ∷ op.Func ∷ op.Default ∷ op.Literal ∷ op.Minval ∷
    op.Maxval ∷ op.Append ∷ op.Prepend ∷ op.Slice ∷ op.GetField ∷ op.Bracket ∷ op.HasFields ∷
    op.Pluck ∷ op.Without ∷ op.WithFields ∷ op.Merge ∷ op.InsertAt ∷ op.DeleteAt ∷ op.ChangeAt ∷
    op.SpliceAt ∷ op.SetInsert ∷ op.SetUnion ∷ op.SetIntersection ∷ op.SetDifference ∷ op.Difference
    ∷ op.Keys ∷ op.Values ∷ op.Object ∷ op.Reduce ∷ op.Map ∷ op.Filter ∷ op.ConcatMap ∷ op.OrderBy ∷
    op.Asc ∷ op.Desc ∷ op.Distinct ∷ op.Count ∷ op.Union ∷ op.Nth ∷ op.Skip ∷ op.Limit ∷ op.IsEmpty
    ∷ op.OffsetsOf ∷ op.Contains ∷ op.Range ∷ op.InnerJoin ∷ op.OuterJoin ∷ op.EqJoin ∷ op.Zip ∷
    op.Group ∷ op.Ungroup ∷ op.Sum ∷ op.Avg ∷ op.Min ∷ op.Max ∷ op.Db ∷ op.Table ∷ op.Get ∷
    op.GetAll ∷ op.Between ∷ op.Insert ∷ op.Update ∷ op.Replace ∷ op.Delete ∷ op.ForEach ∷
    op.DbCreate ∷ op.DbDrop ∷ op.DbList ∷ op.TableCreate ∷ op.TableDrop ∷ op.TableList ∷
    op.IndexCreate ∷ op.IndexDrop ∷ op.IndexRename ∷ op.IndexList ∷ op.IndexStatus ∷ op.IndexWait ∷
    op.Info ∷ op.Config ∷ op.Status ∷ op.Sync ∷ op.Changes ∷ op.EpochTime ∷ op.ToEpochTime ∷ op.Now
    ∷ []

-- the place of an operator in the order in which they are declared
abbrev pub place : Op → ℕ
place op = tag_of the_type op

abbrev pub number_of : Op → ℕ
number_of op = (line_of op).number

abbrev pub least_of : Op → ℕ
least_of op = (line_of op).least

abbrev pub most_of : Op → Option ℕ
most_of op = (line_of op).most

-- the operator that has a number
abbrev pub find_op : List Op → ℕ → Option Op
find_op [] n = None
find_op (o ∷ os) n = if nat_eq (number_of o) n then Some o else find_op os n

abbrev pub op_of : ℕ → Option Op
op_of n = find_op every_op n

-- whether a count is right
abbrev pub at_most : ℕ → Option ℕ → Bool
at_most n None = true
at_most n (Some most) = nat_le n most

abbrev pub has_parity : ℕ → Parity → Bool
has_parity n parity.Any = true
has_parity n parity.Odd = nat_eq (n % 2) 1
has_parity n parity.Even = nat_eq (n % 2) 0

abbrev pub fits : Op → ℕ → Bool
fits op n = nat_le (least_of op) n && (at_most n (most_of op) && has_parity n (line_of op).parity)

-- whether a name is that of one of its optional arguments
abbrev pub is_among : List (List ℕ) → List ℕ → Bool
is_among [] name = false
is_among (k ∷ ks) name = is_eq (text_order k name) || is_among ks name

abbrev pub has_option : Names → List ℕ → Bool
has_option any_name name = true
has_option (only ks) name = is_among ks name

abbrev pub takes : Op → List ℕ → Bool
takes op name = has_option (line_of op).options name

-- how its arguments are taken
abbrev pub way_of : Op → Way
way_of op.OrderBy = way.Sorting
way_of op.Filter = way.Filtering
way_of op.Ungroup = way.Whole
way_of op.Or = way.UntilTrue
way_of op.And = way.UntilFalse
way_of op.Branch = way.Branching
way_of op.Default = way.Defaulting
way_of op.Asc = way.Rising
way_of op.Desc = way.Falling
way_of op.Error = way.Raising
way_of o = way.Strict

-- what it names by literal texts
abbrev pub naming_of : Op → Naming
naming_of op.Db = naming.Database
naming_of op.Table = naming.Table
naming_of op.DbList = naming.Databases
naming_of op.TableList = naming.Tables
naming_of op.DbCreate = naming.CommandDatabase
naming_of op.DbDrop = naming.CommandDatabase
naming_of op.TableCreate = naming.CommandTable
naming_of op.TableDrop = naming.CommandTable
naming_of op.IndexCreate = naming.Index
naming_of op.IndexDrop = naming.Index
naming_of op.IndexRename = naming.TwoIndexes
naming_of o = naming.Nothing

-- what it asks for at the root of a request
abbrev pub task_of : Op → Task
task_of op.Branch = task.Branch
task_of op.ForEach = task.ForEach
task_of op.Insert = task.Write
task_of op.Update = task.Write
task_of op.Replace = task.Write
task_of op.Delete = task.Write
task_of op.DbCreate = task.Catalogue
task_of op.DbDrop = task.Catalogue
task_of op.TableCreate = task.Catalogue
task_of op.TableDrop = task.Catalogue
task_of op.IndexCreate = task.Index
task_of op.IndexDrop = task.Index
task_of op.IndexRename = task.Index
task_of op.Sync = task.Sync
task_of op.Changes = task.Feed
task_of o = task.Value
