use Rattle.std.proofs.Common.{rules, ◌≡◌, ◌∷◌, length, ap, sym, ◌∙◌, arith}
use Rattle.std.specs.Vec.Iter.{into_iter_items}
use Rattle.reql_serve.proofs.Seating.{seats_none, seats_more, seats_posts, seats_desks, seats_shares, shares_are, zip_of, room_for}
use Rattle.reql_serve.proofs.seats.seat_all.Goals as goal

pub push_reserved-requires : goal.push_reserved-requires
push_reserved-requires g c =
    let i = c.loop-post.invariant in
    room_for _ _ _ _ _ c.in-Some.post c.loop-post.workers.items _ _ i.0.whole c.in-Some.ensures.steps.0 i.1 i.0.at_posts (omega (arith, c.loop-post.workers.ok))

pub loop-post-init : goal.loop-post-init
loop-post-init g c = (seats_none _ _ _ _ _ _ _ _ (search rules) (search rules), search rules, search rules)

pub loop-post-preserved : goal.loop-post-preserved
loop-post-preserved g c =
    let at = c.loop-post in
    let x = c.in-Some.post in
    let steps : into_iter_items at.post-iterator ≡ x ∷ into_iter_items c.next.new.self = c.in-Some.ensures.steps.0 in (
      seats_more _ _ _ _ _ _ _ _ _ _ _ _ x _ c.in-Some-next.desk _ c.seat.result _ at.invariant.0 steps c.in-Some-next.ensures.items c.push_reserved.ensures.items (search rules) (c.seat.ensures.door, c.seat.ensures.outside) c.seat.ensures.desk (c.seat.ensures.left ∙ c.share-most.ensures) c.seat.ensures.unused,
      search rules,
      omega (arith, at.invariant.2, c.in-Some.ensures.steps.1, ap length steps),
    )

pub returns-clause-posts : goal.returns-clause-posts
returns-clause-posts g c =
    let i = c.loop-post.invariant in
    zip_of _ _ _ _ (seats_posts _ _ _ _ _ _ _ _ _ _ _ i.0 (sym i.2 ∙ c.in-None.ensures.steps.0)) c.into_iter-post-iterator.ensures.into_iter_gives.0

pub returns-clause-desks : goal.returns-clause-desks
returns-clause-desks g c =
    let i = c.loop-post.invariant in
    zip_of _ _ _ _ (seats_desks _ _ _ _ _ _ _ _ _ _ _ i.0 (sym i.2 ∙ c.in-None.ensures.steps.0)) (search rules)

pub returns-clause-shares : goal.returns-clause-shares
returns-clause-shares g c =
    let i = c.loop-post.invariant in
    shares_are _ _ _ _ _ (seats_shares _ _ _ _ _ _ _ _ _ _ _ i.0 (sym i.2 ∙ c.in-None.ensures.steps.0)) (omega (arith, c.len-count.ensures, c.args.posts.ok)) (ap length c.into_iter-post-iterator.ensures.into_iter_gives.0)
