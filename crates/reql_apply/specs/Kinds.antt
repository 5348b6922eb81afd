-- The rules of the operators, by kinds of operators.
use Rattle.std.specs.Prelude.{take, drop, true, false}
use Rattle.reql_datum.specs.Plain.{low, high}
use Rattle.reql_value_spec.specs.Arrays.{end_edit, place_edit, delete_at, splice_at, set_insert, set_operation}
use Rattle.reql_value_spec.specs.Coercions.{coerce_to}
use Rattle.reql_value_spec.specs.Meant.{Rule}
use Rattle.reql_value_spec.specs.Scalars.{make_array, raise, funcall, type_of, literal, constant, comparison, negation, arithmetic, epoch_time, to_epoch_time}
use Rattle.reql_value_spec.specs.Sequenced.{datum, array, streamed, in_groups, like_first, alike_first}
use Rattle.reql_value_spec.specs.Sequences.{reduce_rule, map_rule, concat_map, filter_rule, count_rule, slice_rule, counted_part, is_empty, offsets_of, contains, union_rule, range_rule}
use Rattle.reql_value_spec.specs.Orders.{order_by, distinct_rule}
use Rattle.reql_value_spec.specs.Groups.{group_rule, ungroup_rule, total_rule}
use Rattle.reql_value_spec.specs.Joins.{join_rule, eq_join, zip_rule}
use Rattle.reql_value_spec.specs.Fields.{get_field_rule, nth_rule, bracket, has_fields_rule, with_fields, by_patterns, merge_rule, keys_rule, values_rule, object_rule}
use Rattle.reql_rules.specs.Patterns.{pluck, without}
use Rattle.reql_value_spec.specs.Tables.{get_rule, get_all_rule, between_rule, index_list_rule, index_statuses, db_rule, told, info_of, config_of, status_rule}
use Rattle.reql_value_spec.specs.Table.{no_rule}
use Rattle.reql_apply.specs.declared.kinds.Kind.{Kind}
use Rattle.reql_apply.specs.declared.kinds.Kind.TheVariants as k
use Rattle.reql_apply.specs.declared.kinds.Scalar.{Scalar}
use Rattle.reql_apply.specs.declared.kinds.Scalar.TheVariants as s
use Rattle.reql_apply.specs.declared.kinds.OnArray.{OnArray}
use Rattle.reql_apply.specs.declared.kinds.OnArray.TheVariants as a
use Rattle.reql_apply.specs.declared.kinds.OnFields.{OnFields}
use Rattle.reql_apply.specs.declared.kinds.OnFields.TheVariants as f
use Rattle.reql_apply.specs.declared.kinds.OnTable.{OnTable}
use Rattle.reql_apply.specs.declared.kinds.OnTable.TheVariants as t
use Rattle.reql_apply.specs.declared.kinds.OnSequence.{OnSequence}
use Rattle.reql_apply.specs.declared.kinds.OnSequence.TheVariants as q
use Rattle.reql_apply.specs.declared.kinds.OnPart.{OnPart}
use Rattle.reql_apply.specs.declared.kinds.OnPart.TheVariants as p
use Rattle.reql_apply.specs.declared.kinds.OnGroups.{OnGroups}
use Rattle.reql_apply.specs.declared.kinds.OnGroups.TheVariants as g

abbrev pub scalar_rule : Scalar → Rule
scalar_rule s.MakeArray = array make_array
scalar_rule s.Error = datum raise
scalar_rule (s.Comparison op) = datum (comparison op)
scalar_rule s.Not = datum negation
scalar_rule (s.Arithmetic op) = datum (arithmetic op)
scalar_rule s.CoerceTo = datum coerce_to
scalar_rule s.TypeOf = datum type_of
scalar_rule s.Funcall = funcall
scalar_rule s.Literal = datum literal
scalar_rule s.Minval = datum (constant low)
scalar_rule s.Maxval = datum (constant high)
scalar_rule s.EpochTime = datum epoch_time
scalar_rule s.ToEpochTime = datum to_epoch_time

abbrev pub array_rule : OnArray → Rule
array_rule (a.AtEnd op) = array (end_edit op)
array_rule (a.AtPlace op) = array (place_edit op)
array_rule a.DeleteAt = array delete_at
array_rule a.SpliceAt = array splice_at
array_rule a.SetInsert = array set_insert
array_rule (a.AsSets op) = array (set_operation op)

abbrev pub fields_rule : OnFields → Rule
fields_rule f.GetField = get_field_rule
fields_rule f.Bracket = bracket
fields_rule f.HasFields = has_fields_rule
fields_rule f.Pluck = by_patterns pluck
fields_rule f.Without = by_patterns without
fields_rule f.WithFields = like_first with_fields
fields_rule f.Merge = merge_rule
fields_rule f.Keys = datum keys_rule
fields_rule f.Values = datum values_rule
fields_rule f.Object = datum object_rule

abbrev pub table_rule : OnTable → Rule
table_rule t.Db = db_rule
table_rule t.Get = get_rule
table_rule t.GetAll = get_all_rule
table_rule t.Between = between_rule
table_rule t.IndexList = array index_list_rule
table_rule t.IndexStatuses = array index_statuses
table_rule t.Info = datum (told info_of)
table_rule t.Config = datum (told config_of)
table_rule t.Status = datum status_rule

abbrev pub sequence_rule : OnSequence → Rule
sequence_rule q.Reduce = datum reduce_rule
sequence_rule q.Map = like_first map_rule
sequence_rule q.ConcatMap = like_first concat_map
sequence_rule q.Filter = alike_first filter_rule
sequence_rule q.OrderBy = order_by
sequence_rule q.OffsetsOf = like_first offsets_of
sequence_rule q.Count = datum count_rule
sequence_rule q.Contains = datum contains

abbrev pub part_rule : OnPart → Rule
part_rule p.Union = union_rule
part_rule p.Slice = alike_first slice_rule
part_rule p.Skip = alike_first (counted_part drop)
part_rule p.Limit = alike_first (counted_part take)
part_rule p.Nth = datum nth_rule
part_rule p.IsEmpty = datum is_empty
part_rule p.Distinct = distinct_rule
part_rule p.Range = streamed range_rule

abbrev pub groups_rule : OnGroups → Rule
groups_rule (g.Total op) = datum (total_rule op)
groups_rule g.Group = in_groups group_rule
groups_rule g.Ungroup = array ungroup_rule
groups_rule g.InnerJoin = like_first (join_rule false)
groups_rule g.OuterJoin = like_first (join_rule true)
groups_rule g.EqJoin = like_first eq_join
groups_rule g.Zip = like_first zip_rule

abbrev pub kind_rule : Kind → Rule
kind_rule (k.Scalar op) = scalar_rule op
kind_rule (k.OnArray op) = array_rule op
kind_rule (k.OnFields op) = fields_rule op
kind_rule (k.OnTable op) = table_rule op
kind_rule (k.OnSequence op) = sequence_rule op
kind_rule (k.OnPart op) = part_rule op
kind_rule (k.OnGroups op) = groups_rule op
kind_rule k.Misplaced = no_rule
