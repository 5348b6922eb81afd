use Rattle.std.proofs.Common.{arith, [], ◌∷◌}
use Rattle.reql_disk.proofs.Crashes.{long_write, long_sync, goes_sync, ends_sync, of_going, reaches}
use Rattle.reql_blocks.specs.Format.{StandsFor, Awaits}
use Rattle.reql_blocks.proofs.Going.{goes_behind, size_reaches, body_reaches, block_seen}
use Rattle.reql_blocks.proofs.blocks.write_block.Goals as goal

pub returns-in_err-write_at-clause-goes : goal.returns-in_err-write_at-clause-goes
returns-in_err-write_at-clause-goes g c bodies past is g0 = goes_behind bodies past _ _ _ _ _ (omega (arith, is)) c.requires.lies c.write_at.ensures.writes g0

pub returns-in_err-write_at-2-clause-goes : goal.returns-in_err-write_at-2-clause-goes
returns-in_err-write_at-2-clause-goes g c bodies past is g0 =
    let at1 = size_reaches _ _ c.args.gate _ c.args.body.now c.size_bytes-size.ensures c.requires.lies c.in_ok-write_at.ensures.writes in
    let g1 = goes_behind bodies past _ _ _ _ _ (omega (arith, is)) c.requires.lies c.write_at.ensures.writes g0 in
    goes_behind bodies past _ _ _ _ _ (omega (arith, is)) at1 c.write_at-2.ensures.writes g1

pub returns-in_err-write_at-3-clause-goes : goal.returns-in_err-write_at-3-clause-goes
returns-in_err-write_at-3-clause-goes g c bodies past is g0 =
    let at1 = size_reaches _ _ c.args.gate _ c.args.body.now c.size_bytes-size.ensures c.requires.lies c.in_ok-write_at.ensures.writes in
    let at2 = body_reaches _ _ c.args.gate c.args.next c.args.body.now c.requires.next at1 c.in_ok-write_at-2.ensures.writes in
    let g1 = goes_behind bodies past _ _ _ _ _ (omega (arith, is)) c.requires.lies c.write_at.ensures.writes g0 in
    let g2 = goes_behind bodies past _ _ _ _ _ (omega (arith, is)) at1 c.write_at-2.ensures.writes g1 in
    goes_behind bodies past _ _ c.args.next (0 ∷ []) c.write_at-3.result (omega (arith, is, c.requires.next)) at2 c.write_at-3.ensures.writes g2

pub returns-in_err-sync-clause-goes : goal.returns-in_err-sync-clause-goes
returns-in_err-sync-clause-goes g c bodies past is g0 =
    let at1 = size_reaches _ _ c.args.gate _ c.args.body.now c.size_bytes-size.ensures c.requires.lies c.in_ok-write_at.ensures.writes in
    let at2 = body_reaches _ _ c.args.gate c.args.next c.args.body.now c.requires.next at1 c.in_ok-write_at-2.ensures.writes in
    let g1 = goes_behind bodies past _ _ _ _ _ (omega (arith, is)) c.requires.lies c.write_at.ensures.writes g0 in
    let g2 = goes_behind bodies past _ _ _ _ _ (omega (arith, is)) at1 c.write_at-2.ensures.writes g1 in
    let g3 = goes_behind bodies past _ _ c.args.next (0 ∷ []) c.write_at-3.result (omega (arith, is, c.requires.next)) at2 c.write_at-3.ensures.writes g2 in
    goes_sync (StandsFor bodies) past _ _ _ c.sync.ensures g3

pub returns-clause-goes : goal.returns-clause-goes
returns-clause-goes g c bodies past is g0 =
    let at1 = size_reaches _ _ c.args.gate _ c.args.body.now c.size_bytes-size.ensures c.requires.lies c.in_ok-write_at.ensures.writes in
    let at2 = body_reaches _ _ c.args.gate c.args.next c.args.body.now c.requires.next at1 c.in_ok-write_at-2.ensures.writes in
    let g1 = goes_behind bodies past _ _ _ _ _ (omega (arith, is)) c.requires.lies c.write_at.ensures.writes g0 in
    let g2 = goes_behind bodies past _ _ _ _ _ (omega (arith, is)) at1 c.write_at-2.ensures.writes g1 in
    let g3 = goes_behind bodies past _ _ c.args.next (0 ∷ []) c.write_at-3.result (omega (arith, is, c.requires.next)) at2 c.write_at-3.ensures.writes g2 in
    goes_sync (StandsFor bodies) past _ _ _ c.sync.ensures g3

pub returns-clause-staged : goal.returns-clause-staged
returns-clause-staged g c bodies past is g0 =
    let at1 = size_reaches _ _ c.args.gate _ c.args.body.now c.size_bytes-size.ensures c.requires.lies c.in_ok-write_at.ensures.writes in
    let at2 = body_reaches _ _ c.args.gate c.args.next c.args.body.now c.requires.next at1 c.in_ok-write_at-2.ensures.writes in
    let g1 = goes_behind bodies past _ _ _ _ _ (omega (arith, is)) c.requires.lies c.write_at.ensures.writes g0 in
    let g2 = goes_behind bodies past _ _ _ _ _ (omega (arith, is)) at1 c.write_at-2.ensures.writes g1 in
    let g3 = goes_behind bodies past _ _ c.args.next (0 ∷ []) c.write_at-3.result (omega (arith, is, c.requires.next)) at2 c.write_at-3.ensures.writes g2 in
    let reads = block_seen bodies _ _ _ _ c.args.gate c.args.next _ c.args.body.now is c.requires.next c.size_bytes-size.ensures (omega arith) c.in_ok-write_at.ensures.writes c.in_ok-write_at-2.ensures.writes c.in_ok-write_at-3.ensures.writes (of_going (StandsFor bodies) (StandsFor bodies) past _ g0) in
    ends_sync (StandsFor bodies) (Awaits bodies c.args.body.now) past _ _ c.in_ok-sync.ensures reads g3

pub returns-in_err-sync-clause-kept : goal.returns-in_err-sync-clause-kept
returns-in_err-sync-clause-kept g c =
    let at1 = size_reaches _ _ c.args.gate _ c.args.body.now c.size_bytes-size.ensures c.requires.lies c.in_ok-write_at.ensures.writes in
    let at2 = body_reaches _ _ c.args.gate c.args.next c.args.body.now c.requires.next at1 c.in_ok-write_at-2.ensures.writes in
    let l1 = long_write _ _ _ _ _ _ c.requires.lies c.write_at.ensures.writes c.requires.lies in
    let l2 = long_write _ _ _ _ _ _ at1 c.write_at-2.ensures.writes l1 in
    let l3 = long_write (g.D.Disk.told c.write_at-2.new.self) (g.D.Disk.told c.write_at-3.new.self) _ c.args.next (0 ∷ []) c.write_at-3.result at2 c.write_at-3.ensures.writes l2 in
    long_sync _ _ _ _ c.sync.ensures l3

pub returns-clause-kept : goal.returns-clause-kept
returns-clause-kept g c =
    let at1 = size_reaches _ _ c.args.gate _ c.args.body.now c.size_bytes-size.ensures c.requires.lies c.in_ok-write_at.ensures.writes in
    let at2 = body_reaches _ _ c.args.gate c.args.next c.args.body.now c.requires.next at1 c.in_ok-write_at-2.ensures.writes in
    let l1 = long_write _ _ _ _ _ _ c.requires.lies c.write_at.ensures.writes c.requires.lies in
    let l2 = long_write _ _ _ _ _ _ at1 c.write_at-2.ensures.writes l1 in
    let l3 = long_write (g.D.Disk.told c.write_at-2.new.self) (g.D.Disk.told c.write_at-3.new.self) _ c.args.next (0 ∷ []) c.write_at-3.result at2 c.write_at-3.ensures.writes l2 in
    long_sync _ _ _ _ c.sync.ensures l3

pub returns-clause-reached : goal.returns-clause-reached
returns-clause-reached g c =
    let at1 = size_reaches _ _ c.args.gate _ c.args.body.now c.size_bytes-size.ensures c.requires.lies c.in_ok-write_at.ensures.writes in
    let at2 = body_reaches _ _ c.args.gate c.args.next c.args.body.now c.requires.next at1 c.in_ok-write_at-2.ensures.writes in
    long_sync _ _ _ _ c.sync.ensures (reaches _ _ c.args.next (0 ∷ []) at2 c.in_ok-write_at-3.ensures.writes)
