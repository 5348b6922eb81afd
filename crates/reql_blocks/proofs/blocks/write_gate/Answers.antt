use Rattle.std.proofs.Common.{◌++◌, [], ◌∷◌}
use Rattle.reql_disk.proofs.Crashes.{goes_sync, ends_sync, of_going}
use Rattle.reql_blocks.specs.Format.{StandsFor, Awaits}
use Rattle.reql_blocks.proofs.Going.{goes_gate, gate_seen}
use Rattle.reql_blocks.proofs.blocks.write_gate.Goals as goal

pub returns-in_err-write_at-clause-goes : goal.returns-in_err-write_at-clause-goes
returns-in_err-write_at-clause-goes g c bodies body past is g0 = goes_gate bodies body past _ _ _ _ is c.requires.lies c.write_at.ensures.writes g0

pub returns-in_err-sync-clause-goes : goal.returns-in_err-sync-clause-goes
returns-in_err-sync-clause-goes g c bodies body past is g0 =
    let g1 = goes_gate bodies body past _ _ _ _ is c.requires.lies c.write_at.ensures.writes g0 in
    goes_sync (Awaits bodies body) past _ _ _ c.sync.ensures g1

pub returns-clause-goes : goal.returns-clause-goes
returns-clause-goes g c bodies body past is g0 =
    let g1 = goes_gate bodies body past _ _ _ _ is c.requires.lies c.write_at.ensures.writes g0 in
    goes_sync (Awaits bodies body) past _ _ _ c.sync.ensures g1

pub returns-clause-opened : goal.returns-clause-opened
returns-clause-opened g c bodies body past is g0 =
    let g1 = goes_gate bodies body past _ _ _ _ is c.requires.lies c.write_at.ensures.writes g0 in
    let reads = gate_seen bodies body _ _ c.args.gate is c.in_ok-write_at.ensures.writes (of_going (Awaits bodies body) (Awaits bodies body) past _ g0) in
    ends_sync (Awaits bodies body) (StandsFor (bodies ++ body ∷ [])) past _ _ c.in_ok-sync.ensures reads g1
