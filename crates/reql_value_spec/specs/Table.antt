-- The rule of each operator, in the order of reql_term's table of operators.
use Rattle.std.specs.Prelude.{take, drop, true, false, Err}
use Rattle.reql_datum.specs.Plain.{low, high}
use Rattle.reql_term.specs.declared.op.Op.{Op}
use Rattle.reql_term.specs.declared.op.Op.TheVariants as op
use Rattle.reql_rules.specs.Faults.{misplaced}
use Rattle.reql_rules.specs.Patterns.{pluck, without}
use Rattle.reql_rules.specs.declared.words.Arith.TheVariants as arith
use Rattle.reql_rules.specs.declared.words.Relate.TheVariants as relation
use Rattle.reql_rules.specs.declared.words.Edit.TheVariants as edit
use Rattle.reql_rules.specs.declared.words.SetOp.TheVariants as set
use Rattle.reql_rules.specs.declared.words.Total.TheVariants as total
use Rattle.reql_value_spec.specs.Meant.{Rule}
use Rattle.reql_value_spec.specs.Sequenced.{datum, array, streamed, in_groups, like_first, alike_first}
use Rattle.reql_value_spec.specs.Scalars.{make_array, raise, funcall, type_of, literal, constant, comparison, negation, arithmetic, epoch_time, to_epoch_time}
use Rattle.reql_value_spec.specs.Coercions.{coerce_to}
use Rattle.reql_value_spec.specs.Arrays.{end_edit, place_edit, delete_at, splice_at, set_insert, set_operation}
use Rattle.reql_value_spec.specs.Fields.{get_field_rule, nth_rule, bracket, has_fields_rule, with_fields, by_patterns, merge_rule, keys_rule, values_rule, object_rule}
use Rattle.reql_value_spec.specs.Sequences.{reduce_rule, map_rule, concat_map, filter_rule, count_rule, union_rule, slice_rule, counted_part, is_empty, offsets_of, contains, range_rule}
use Rattle.reql_value_spec.specs.Orders.{order_by, distinct_rule}
use Rattle.reql_value_spec.specs.Groups.{group_rule, ungroup_rule, total_rule}
use Rattle.reql_value_spec.specs.Joins.{join_rule, eq_join, zip_rule}
use Rattle.reql_value_spec.specs.Tables.{get_rule, get_all_rule, between_rule, index_list_rule, index_statuses, db_rule, told, info_of, config_of, status_rule}

-- terms that are no values, or that have a form of their own
abbrev pub no_rule : Rule
no_rule w calls gs opts = Err misplaced

abbrev pub rule_of : Op → Rule
rule_of op.MakeArray = array make_array
rule_of op.MakeObj = no_rule
rule_of op.Var = no_rule
rule_of op.Error = datum raise
rule_of op.ImplicitVar = no_rule
rule_of op.Eq = datum (comparison relation.Eq)
rule_of op.Ne = datum (comparison relation.Ne)
rule_of op.Lt = datum (comparison relation.Lt)
rule_of op.Le = datum (comparison relation.Le)
rule_of op.Gt = datum (comparison relation.Gt)
rule_of op.Ge = datum (comparison relation.Ge)
rule_of op.Not = datum negation
rule_of op.Add = datum (arithmetic arith.Add)
rule_of op.Sub = datum (arithmetic arith.Sub)
rule_of op.Mul = datum (arithmetic arith.Mul)
rule_of op.Div = datum (arithmetic arith.Div)
rule_of op.Mod = datum (arithmetic arith.Mod)
rule_of op.CoerceTo = datum coerce_to
rule_of op.TypeOf = datum type_of
rule_of op.Funcall = funcall
rule_of op.Branch = no_rule
rule_of op.Or = no_rule
rule_of op.And = no_rule
rule_of op.Func = no_rule
rule_of op.Default = no_rule
rule_of op.Literal = datum literal
rule_of op.Minval = datum (constant low)
rule_of op.Maxval = datum (constant high)
rule_of op.Append = array (end_edit edit.Append)
rule_of op.Prepend = array (end_edit edit.Prepend)
rule_of op.Slice = alike_first slice_rule
rule_of op.GetField = get_field_rule
rule_of op.Bracket = bracket
rule_of op.HasFields = has_fields_rule
rule_of op.Pluck = by_patterns pluck
rule_of op.Without = by_patterns without
rule_of op.WithFields = like_first with_fields
rule_of op.Merge = merge_rule
rule_of op.InsertAt = array (place_edit edit.InsertAt)
rule_of op.DeleteAt = array delete_at
rule_of op.ChangeAt = array (place_edit edit.ChangeAt)
rule_of op.SpliceAt = array splice_at
rule_of op.SetInsert = array set_insert
rule_of op.SetUnion = array (set_operation set.SetUnion)
rule_of op.SetIntersection = array (set_operation set.SetIntersection)
rule_of op.SetDifference = array (set_operation set.SetDifference)
rule_of op.Difference = array (set_operation set.Difference)
rule_of op.Keys = datum keys_rule
rule_of op.Values = datum values_rule
rule_of op.Object = datum object_rule
rule_of op.Reduce = datum reduce_rule
rule_of op.Map = like_first map_rule
rule_of op.Filter = alike_first filter_rule
rule_of op.ConcatMap = like_first concat_map
rule_of op.OrderBy = order_by
rule_of op.Asc = no_rule
rule_of op.Desc = no_rule
rule_of op.Distinct = distinct_rule
rule_of op.Count = datum count_rule
rule_of op.Union = union_rule
rule_of op.Nth = datum nth_rule
rule_of op.Skip = alike_first (counted_part drop)
rule_of op.Limit = alike_first (counted_part take)
rule_of op.IsEmpty = datum is_empty
rule_of op.OffsetsOf = like_first offsets_of
rule_of op.Contains = datum contains
rule_of op.Range = streamed range_rule
rule_of op.InnerJoin = like_first (join_rule false)
rule_of op.OuterJoin = like_first (join_rule true)
rule_of op.EqJoin = like_first eq_join
rule_of op.Zip = like_first zip_rule
rule_of op.Group = in_groups group_rule
rule_of op.Ungroup = array ungroup_rule
rule_of op.Sum = datum (total_rule total.Sum)
rule_of op.Avg = datum (total_rule total.Avg)
rule_of op.Min = datum (total_rule total.Min)
rule_of op.Max = datum (total_rule total.Max)
rule_of op.Db = db_rule
rule_of op.Table = no_rule
rule_of op.Get = get_rule
rule_of op.GetAll = get_all_rule
rule_of op.Between = between_rule
rule_of op.Insert = no_rule
rule_of op.Update = no_rule
rule_of op.Replace = no_rule
rule_of op.Delete = no_rule
rule_of op.ForEach = no_rule
rule_of op.DbCreate = no_rule
rule_of op.DbDrop = no_rule
rule_of op.DbList = no_rule
rule_of op.TableCreate = no_rule
rule_of op.TableDrop = no_rule
rule_of op.TableList = no_rule
rule_of op.IndexCreate = no_rule
rule_of op.IndexDrop = no_rule
rule_of op.IndexRename = no_rule
rule_of op.IndexList = array index_list_rule
rule_of op.IndexStatus = array index_statuses
rule_of op.IndexWait = array index_statuses
rule_of op.Info = datum (told info_of)
rule_of op.Config = datum (told config_of)
rule_of op.Status = datum status_rule
rule_of op.Sync = no_rule
rule_of op.Changes = no_rule
rule_of op.EpochTime = datum epoch_time
rule_of op.ToEpochTime = datum to_epoch_time
rule_of op.Now = no_rule
