use Rattle.std.proofs.Common.{refl, arith}
use Rattle.reql_serve.proofs.Grouped.{all_same, all_then, all_seats_on}
use Rattle.reql_serve.proofs.group.serve_in_turns.Goals as goal

pub returns-then-all_over-clause-served : goal.returns-then-all_over-clause-served
returns-then-all_over-clause-served g c = all_same _ _ _ _ _ _ _ _ _ _ c.args.workers.now c.args.sittings.now

pub loop-init : goal.loop-init
loop-init g c = (refl, refl, refl, all_same _ _ _ _ _ _ _ _ _ _ c.args.workers.now c.args.sittings.now)

pub serve_at-requires-clause-seats : goal.serve_at-requires-clause-seats
serve_at-requires-clause-seats g c =
    let i = c.loop.invariant in
    all_seats_on _ _ _ _ _ _ _ _ _ _ c.args.workers.now c.loop.workers c.args.sittings.now c.loop.sittings i.0 c.requires.seats i.3

pub loop-preserved-then-not-serve_at : goal.loop-preserved-then-not-serve_at
loop-preserved-then-not-serve_at g c =
    let i = c.loop.invariant in
    let s = c.serve_at in (
      omega (arith, s.auto.workers, i.0),
      omega (arith, s.auto.sittings, i.1),
      omega (arith, s.auto.buf, i.2),
      all_then _ _ _ _ _ _ _ _ _ _ c.args.workers.now c.loop.workers c.serve_at.new.workers c.args.sittings.now c.loop.sittings c.serve_at.new.sittings i.0 i.3 c.serve_at.ensures,
    )

pub loop-preserved : goal.loop-preserved
loop-preserved g c =
    let i = c.loop.invariant in
    let s = c.serve_at in (
      omega (arith, s.auto.workers, i.0),
      omega (arith, s.auto.sittings, i.1),
      omega (arith, s.auto.buf, i.2),
      all_then _ _ _ _ _ _ _ _ _ _ c.args.workers.now c.loop.workers c.serve_at.new.workers c.args.sittings.now c.loop.sittings c.serve_at.new.sittings i.0 i.3 c.serve_at.ensures,
    )

pub returns-then-all_over-2-clause-served : goal.returns-then-all_over-2-clause-served
returns-then-all_over-2-clause-served g c =
    let i = c.loop.invariant in
    all_then _ _ _ _ _ _ _ _ _ _ c.args.workers.now c.loop.workers c.serve_at.new.workers c.args.sittings.now c.loop.sittings c.serve_at.new.sittings i.0 i.3 c.serve_at.ensures
