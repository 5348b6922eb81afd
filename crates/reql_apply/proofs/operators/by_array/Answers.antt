use Rattle.reql_operand.specs.Seen.{all_chosen}
use Rattle.reql_apply.proofs.operators.by_array.Goals as goal

pub returns-in-AtEnd : goal.returns-in-AtEnd
returns-in-AtEnd c w calls = rw c.in-AtEnd.is (c.array.ensures w _ (c.end_edit.ensures w calls (all_chosen w c.args.opts.now)))

pub returns-in-AtPlace : goal.returns-in-AtPlace
returns-in-AtPlace c w calls = rw c.in-AtPlace.is (c.array-in-AtPlace.ensures w _ (c.place_edit.ensures w calls (all_chosen w c.args.opts.now)))

pub returns-in-DeleteAt : goal.returns-in-DeleteAt
returns-in-DeleteAt c w calls = rw c.in-DeleteAt.is (c.array-in-DeleteAt.ensures w _ (c.delete_at.ensures w calls (all_chosen w c.args.opts.now)))

pub returns-in-SpliceAt : goal.returns-in-SpliceAt
returns-in-SpliceAt c w calls = rw c.in-SpliceAt.is (c.array-in-SpliceAt.ensures w _ (c.splice_at.ensures w calls (all_chosen w c.args.opts.now)))

pub returns-in-SetInsert : goal.returns-in-SetInsert
returns-in-SetInsert c w calls = rw c.in-SetInsert.is (c.array-in-SetInsert.ensures w _ (c.set_insert.ensures w calls (all_chosen w c.args.opts.now)))

pub returns-in-AsSets : goal.returns-in-AsSets
returns-in-AsSets c w calls = rw c.in-AsSets.is (c.array-in-AsSets.ensures w _ (c.set_operation.ensures w calls (all_chosen w c.args.opts.now)))
