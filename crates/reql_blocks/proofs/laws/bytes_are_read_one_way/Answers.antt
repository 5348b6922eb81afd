use Rattle.reql_blocks.proofs.Once.{stands_once, whole_or_damaged, damaged_once}
use Rattle.reql_blocks.proofs.laws.bytes_are_read_one_way.Goals as goal

pub returns-clause-once : goal.returns-clause-once
returns-clause-once c = stands_once

pub returns-clause-whole : goal.returns-clause-whole
returns-clause-whole c = whole_or_damaged

pub returns-clause-damaged : goal.returns-clause-damaged
returns-clause-damaged c = damaged_once
