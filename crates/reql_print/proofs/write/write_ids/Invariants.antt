use Rattle.std.proofs.Common.{◌≡◌, ◌++◌, drop, false}
use Rattle.serde_json.specs.Written.{items_text}
use Rattle.reql_read.specs.Spelling.{spelled_ids}
use Rattle.reql_print.proofs.write.write_ids.Given as goal

abbrev pub invariant-loop-id : goal.invariant-loop-id
invariant-loop-id l = l.out.items ++ items_text l.later (spelled_ids (drop l.id-index l.ids)) ≡ l.initial.out.items ++ items_text false (spelled_ids l.ids)
