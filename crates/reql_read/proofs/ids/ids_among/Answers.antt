use Rattle.std.proofs.Common.{◌≡◌, ◌++◌, ◌∷◌, [], ℕ, not, true}
use Rattle.std.specs.BTreeSet.{contains}
use Rattle.std.specs.Ordering.{nat_cmp}
use Rattle.reql_read.specs.Shape.{is_new}
use Rattle.reql_read.proofs.NewIds.{new_of, fresh, seen_step, ids_step}
use Rattle.reql_read.proofs.ids.ids_among.Goals as goal

pub push-requires : goal.push-requires
push-requires c =
    let first : is_new c.in_ok-id.id c.loop-item.ids ≡ true = fresh _ _ _ c.if-not-branch.false c.in_ok-insert.ensures.added (c.loop-item.invariant.seen c.in_ok-id.id) in
    record { new = new_of c.in_ok-id.id c.loop-item.ids first }

pub loop-item-preserved : goal.loop-item-preserved
loop-item-preserved c =
    let first : is_new c.in_ok-id.id c.loop-item.ids ≡ true = fresh _ _ _ c.if-not-branch.false c.in_ok-insert.ensures.added (c.loop-item.invariant.seen c.in_ok-id.id) in
    let added = c.in_ok-push.ensures.ids in
    let step : (x : ℕ) → contains nat_cmp c.insert.new.self x ≡ not (is_new x (c.loop-item.ids ++ c.in_ok-id.id ∷ [])) =
    λ x. seen_step c.loop-item.ids c.in_ok-id.id x _ _ ((c.in_ok-insert.ensures.updates).0 x) (c.loop-item.invariant.seen x) in
    record {
      rest = ids_step _ c.args.items.now c.loop-item.item-index c.item-item.result c.in_ok-id.id c.loop-item.ids c.push.new.self c.loop-item.invariant.rest c.loop-item-test.true c.item-item.is c.in_ok-id.ensures first added;
      seen = λ x. rw added (step x);
    }
