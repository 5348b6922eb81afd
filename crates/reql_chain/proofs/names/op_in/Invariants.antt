use Rattle.std.proofs.Common.{◌≡◌, map, drop}
use Rattle.reql_chain.specs.Names.{op_in, row_of}
use Rattle.reql_chain.proofs.names.op_in.Given as goal

abbrev pub invariant-loop-row : goal.invariant-loop-row
invariant-loop-row l = op_in (map row_of (drop l.row-index l.rows)) l.name ≡ op_in (map row_of l.rows) l.name
