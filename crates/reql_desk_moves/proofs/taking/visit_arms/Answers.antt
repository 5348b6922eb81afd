use Rattle.std.proofs.Common.{◌∷◌, [], refl, sym, ap, subst, ◌∙◌, length, arith, length-append}
use Rattle.reql_desk_moves.proofs.Visits.{visit_begins, visit_next, visit_took, visit_denied, visit_all, visit_want, as_seen, took_as_seen}
use Rattle.reql_desk_moves.proofs.taking.visit_arms.Goals as goal

pub returns-then-arms-eq0-clause-visited : goal.returns-then-arms-eq0-clause-visited
returns-then-arms-eq0-clause-visited g c = λ k b f e s n. visit_want k g.C.Engine.some_state _ b f

pub returns-in_default-clause-visited : goal.returns-in_default-clause-visited
returns-in_default-clause-visited g c = λ k b f e s n. visit_want k g.C.Engine.some_state _ b f

pub loop-at-init : goal.loop-at-init
loop-at-init g c = (
  c.requires.of_this_hall,
  ap length c.in-Ok.ensures.none,
  c.in-Ok.ensures.room,
  λ k b f e s n. as_seen k g.C.Engine.some_state _ _ b f c.args.arms.now 0 [] _ (sym c.in-Ok.ensures.none) (visit_begins k g.C.Engine.some_state _ b f c.args.arms.now s c.if-arms-eq0.false),
)

pub loop-at-preserved : goal.loop-at-preserved
loop-at-preserved g c = (
  c.take_arm.ensures.of_this_hall,
  omega (arith, ap length c.push_reserved.ensures.items, length-append c.loop-at.points.items (c.in-Nothing.point ∷ []), c.loop-at.invariant.1),
  omega (arith, c.push_reserved.ensures.capacity, c.loop-at.invariant.2),
  λ k b f e s n. as_seen k g.C.Engine.some_state _ _ b f c.args.arms.now _ _ _ (sym c.push_reserved.ensures.items)
      (visit_next k g.C.Engine.some_state _ _ _ b f c.args.arms.now c.loop-at.at c.index-arms-at.result c.args.batch c.in-Nothing.point c.loop-at.points.items e n c.loop-at-test.true c.index-arms-at.is (c.loop-at.invariant.3 k b f e s n) c.in-Nothing.ensures.took),
)

pub returns-in-Denied-clause-visited : goal.returns-in-Denied-clause-visited
returns-in-Denied-clause-visited g c = λ k b f e s n.
    visit_denied k g.C.Engine.some_state _ _ _ b f c.args.arms.now c.loop-at.at c.index-arms-at.result c.args.batch c.loop-at.points.items e n c.loop-at-test.true c.index-arms-at.is (c.loop-at.invariant.3 k b f e s n) c.in-Denied.ensures.took

pub returns-in-Answered-clause-visited : goal.returns-in-Answered-clause-visited
returns-in-Answered-clause-visited g c = λ k b f e s n.
    took_as_seen k g.C.Engine.some_state _ _ b f c.loop-at.at c.in-Answered.reply _ _ (sym c.push_reserved-in-Answered.ensures.items ∙ sym c.from_vec.ensures)
    (visit_took k g.C.Engine.some_state _ _ _ b f c.args.arms.now c.loop-at.at c.index-arms-at.result c.args.batch c.in-Answered.reply c.in-Answered.point c.loop-at.points.items e s n c.loop-at-test.true c.index-arms-at.is (c.loop-at.invariant.3 k b f e s n) c.in-Answered.ensures.took)

pub returns-clause-visited : goal.returns-clause-visited
returns-clause-visited g c = λ k b f e s n. visit_all k g.C.Engine.some_state _ _ b f c.args.arms.now c.loop-at.at c.loop-at.points.items c.loop-at-test.false (c.loop-at.invariant.3 k b f e s n)
