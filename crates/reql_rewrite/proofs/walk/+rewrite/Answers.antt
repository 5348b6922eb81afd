use Rattle.std.proofs.Common.{refl}
use Rattle.reql_rewrite.proofs.Steps.{kept_all, set_all, kept_named, put_named}
use Rattle.reql_rewrite.proofs.walk.+rewrite.Goals as goal
use Rattle.reql_rewrite.proofs.walk.+rewrite.Goals.{changed_all-then-not-stays+in_ok-other+in-Some-2+in_ok-with_term, changed_all-then-not-stays+in_ok-other+in_default-2, changed_all-else-not-stays}
use Rattle.reql_rewrite.proofs.walk.+rewrite.Goals.{changed_named-then-not-stays+in_ok-other+in-Some-2+in_ok-with_field, changed_named-then-not-stays+in_ok-other+in_default-2, changed_named-else-not-stays}

pub changed_all-loop-term-preserved : goal.changed_all-loop-term-preserved
changed_all-loop-term-preserved g t c = elim c.if-not-stays.branch [
  | changed_all-then-not-stays+in_ok-other+in-Some-2+in_ok-with_term w ↦ set_all (g.R.Rule.rule c.args.rule.now) _ _ _ _ _ _ c.loop-term.invariant c.in-Some.ensures.rest (rw w.in-Some-2.is at w.in_ok-other.ensures) (rw w.done-is w.in_ok-with_term.ensures)
  | changed_all-then-not-stays+in_ok-other+in_default-2 w ↦ kept_all (g.R.Rule.rule c.args.rule.now) _ _ _ _ _ c.loop-term.invariant c.in-Some.ensures.rest (rw w.in_default-2.is at w.in_ok-other.ensures) (rw w.done-is refl)
  | changed_all-else-not-stays w ↦ kept_all (g.R.Rule.rule c.args.rule.now) _ _ _ _ _ c.loop-term.invariant c.in-Some.ensures.rest (c.stays.ensures w.if-not-stays.false) (rw w.done-is refl)
]

pub changed_named-loop-name-preserved : goal.changed_named-loop-name-preserved
changed_named-loop-name-preserved g t c = elim c.if-not-stays.branch [
  | changed_named-then-not-stays+in_ok-other+in-Some-2+in_ok-with_field w ↦ put_named (g.R.Rule.rule c.args.rule.now) _ _ _ _ _ _ _ c.loop-name.invariant c.in-Some.ensures.rising c.in-Some.ensures.rest (rw w.in-Some-2.is at w.in_ok-other.ensures) (rw w.done-is w.in_ok-with_field.ensures)
  | changed_named-then-not-stays+in_ok-other+in_default-2 w ↦ kept_named (g.R.Rule.rule c.args.rule.now) _ _ _ _ _ _ c.loop-name.invariant c.in-Some.ensures.rest (rw w.in_default-2.is at w.in_ok-other.ensures) (rw w.done-is refl)
  | changed_named-else-not-stays w ↦ kept_named (g.R.Rule.rule c.args.rule.now) _ _ _ _ _ _ c.loop-name.invariant c.in-Some.ensures.rest (c.stays.ensures w.if-not-stays.false) (rw w.done-is refl)
]
