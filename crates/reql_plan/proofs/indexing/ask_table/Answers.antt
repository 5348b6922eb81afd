use Rattle.reql_plan.proofs.indexing.ask_table.Goals as goal

pub returns : goal.returns
returns g c = rw (c.in_ok-points.ensures, c.cmd_of-cmd.ensures, c.in_ok-copy.ensures) at c.asks.ensures
