use Rattle.std.proofs.Common.{◌≡◌, ◌≤◌, length, refl, subst, ◌∙◌, arith}
use Rattle.reql_datum.specs.View.{plain}
use Rattle.reql_ptree.specs.Side.{side_pairs}
use Rattle.reql_ptree.specs.Tall.{least}
use Rattle.reql_ptree.proofs.Changed.{first_of}
use Rattle.reql_ptree.proofs.InPlace.{opened, size_left, size_chunk, size_right}
use Rattle.reql_ptree.proofs.RemoveInPlace.{shorter, left_out, right_out, here_out, node_out, fits_left, fits_chunk, fits_right}
use Rattle.reql_ptree.proofs.remove_in_place.+side_remove_in.Goals as goal

pub resized-side-inside-requires-clause-fits : goal.resized-side-inside-requires-clause-fits
resized-side-inside-requires-clause-fits g t c =
    let at = opened c.side.invariant.0 c.in-Some.is c.in-Some-get_mut.ensures.value in
    let whole : side_pairs c.side.inside.node ≡ c.args.side.now.0 = first_of c.side.view_is ∙ first_of c.own_side.ensures in
    let less = shorter (plain c.args.key.now) c.chunk_remove_in-done.result c.chunk_remove_in-done.new.chunk c.in-Some-get_mut.node.now.chunk c.chunk_remove_in-done.ensures.pairs in
    fits_chunk at c.side.inside.size c.len-before.result c.len.result c.side.invariant.1 (omega (arith, c.side.ranges)) c.len-before.ensures (omega (arith, c.len.ensures, less))

pub invariant_of-side-in-Here : goal.invariant_of-side-in-Here
invariant_of-side-in-Here g t c =
    let at = opened c.side.invariant.0 c.in-Some.is c.in-Some-get_mut.ensures.value in (
      node_out (plain c.args.key.now) at c.chunk_remove_in-done.result c.in-Some-get_mut.node.now.left.0 c.chunk_remove_in-done.new.chunk c.in-Some-get_mut.node.now.right.0 c.in-Some-get_mut.node.now.left.1 c.in-Some-get_mut.node.now.right.1
          (here_out (plain c.args.key.now) at c.chunk_remove_in-done.result c.chunk_remove_in-done.new.chunk c.in-Here.ensures.turn c.chunk_remove_in-done.ensures.pairs)
          c.chunk_remove_in-done.ensures.chunk refl refl at.node.left_grown at.node.right_grown,
      size_chunk at c.side.inside.size c.len-before.result c.len.result c.side.invariant.1 c.resized-side-inside.result c.chunk_remove_in-done.new.chunk c.len-before.ensures c.len.ensures c.resized-side-inside.ensures,
    )

pub returns-in-Here-clause-pairs : goal.returns-in-Here-clause-pairs
returns-in-Here-clause-pairs g t c =
    let at = opened c.side.invariant.0 c.in-Some.is c.in-Some-get_mut.ensures.value in
    let whole : side_pairs c.side.inside.node ≡ c.args.side.now.0 = first_of c.side.view_is ∙ first_of c.own_side.ensures in
    rw (← whole) (here_out (plain c.args.key.now) at c.chunk_remove_in-done.result c.chunk_remove_in-done.new.chunk c.in-Here.ensures.turn c.chunk_remove_in-done.ensures.pairs)

pub resized-side-inside-requires-in-Left-clause-fits : goal.resized-side-inside-requires-in-Left-clause-fits
resized-side-inside-requires-in-Left-clause-fits g t c =
    let at = opened c.side.invariant.0 c.in-Some.is c.in-Some-get_mut.ensures.value in
    let whole : side_pairs c.side.inside.node ≡ c.args.side.now.0 = first_of c.side.view_is ∙ first_of c.own_side.ensures in
    let less = shorter (plain c.args.key.now) c.side_remove_in-done.result c.side_remove_in-done.new.side.0 c.in-Some-get_mut.node.now.left.0 c.side_remove_in-done.ensures.pairs in
    fits_left at c.side.inside.size c.len-before-in-Left.result c.len-in-Left.result c.side.invariant.1 (omega (arith, c.side.ranges)) c.len-before-in-Left.ensures (omega (arith, c.len-in-Left.ensures, less))

pub invariant_of-side-in-Left : goal.invariant_of-side-in-Left
invariant_of-side-in-Left g t c =
    let at = opened c.side.invariant.0 c.in-Some.is c.in-Some-get_mut.ensures.value in (
      node_out (plain c.args.key.now) at c.side_remove_in-done.result c.side_remove_in-done.new.side.0 c.in-Some-get_mut.node.now.chunk c.in-Some-get_mut.node.now.right.0 c.side_remove_in-done.new.side.1 c.in-Some-get_mut.node.now.right.1
          (left_out (plain c.args.key.now) at c.side_remove_in-done.result c.side_remove_in-done.new.side.0 c.in-Left.ensures.turn c.side_remove_in-done.ensures.pairs)
          at.node.chunk_is c.side_remove_in-done.ensures.height refl (subst (λ h. least h ≤ length c.side_remove_in-done.new.side.0) c.side_remove_in-done.ensures.height c.height-facts.ensures.grown) at.node.right_grown,
      size_left at c.side.inside.size c.len-before-in-Left.result c.len-in-Left.result c.side.invariant.1 c.resized-side-inside-in-Left.result c.side_remove_in-done.new.side.0 c.len-before-in-Left.ensures c.len-in-Left.ensures c.resized-side-inside-in-Left.ensures,
    )

pub returns-in-Left-clause-pairs : goal.returns-in-Left-clause-pairs
returns-in-Left-clause-pairs g t c =
    let at = opened c.side.invariant.0 c.in-Some.is c.in-Some-get_mut.ensures.value in
    let whole : side_pairs c.side.inside.node ≡ c.args.side.now.0 = first_of c.side.view_is ∙ first_of c.own_side.ensures in
    rw (← whole) (left_out (plain c.args.key.now) at c.side_remove_in-done.result c.side_remove_in-done.new.side.0 c.in-Left.ensures.turn c.side_remove_in-done.ensures.pairs)

pub resized-side-inside-requires-in-Right-clause-fits : goal.resized-side-inside-requires-in-Right-clause-fits
resized-side-inside-requires-in-Right-clause-fits g t c =
    let at = opened c.side.invariant.0 c.in-Some.is c.in-Some-get_mut.ensures.value in
    let whole : side_pairs c.side.inside.node ≡ c.args.side.now.0 = first_of c.side.view_is ∙ first_of c.own_side.ensures in
    let less = shorter (plain c.args.key.now) c.side_remove_in-done-in-Right.result c.side_remove_in-done-in-Right.new.side.0 c.in-Some-get_mut.node.now.right.0 c.side_remove_in-done-in-Right.ensures.pairs in
    fits_right at c.side.inside.size c.len-before-in-Right.result c.len-in-Right.result c.side.invariant.1 (omega (arith, c.side.ranges)) c.len-before-in-Right.ensures (omega (arith, c.len-in-Right.ensures, less))

pub invariant_of-side-in-Right : goal.invariant_of-side-in-Right
invariant_of-side-in-Right g t c =
    let at = opened c.side.invariant.0 c.in-Some.is c.in-Some-get_mut.ensures.value in (
      node_out (plain c.args.key.now) at c.side_remove_in-done-in-Right.result c.in-Some-get_mut.node.now.left.0 c.in-Some-get_mut.node.now.chunk c.side_remove_in-done-in-Right.new.side.0 c.in-Some-get_mut.node.now.left.1 c.side_remove_in-done-in-Right.new.side.1
          (right_out (plain c.args.key.now) at c.side_remove_in-done-in-Right.result c.side_remove_in-done-in-Right.new.side.0 c.in-Right.ensures.turn c.side_remove_in-done-in-Right.ensures.pairs)
          at.node.chunk_is refl c.side_remove_in-done-in-Right.ensures.height at.node.left_grown (subst (λ h. least h ≤ length c.side_remove_in-done-in-Right.new.side.0) c.side_remove_in-done-in-Right.ensures.height c.height-facts-in-Right.ensures.grown),
      size_right at c.side.inside.size c.len-before-in-Right.result c.len-in-Right.result c.side.invariant.1 c.resized-side-inside-in-Right.result c.side_remove_in-done-in-Right.new.side.0 c.len-before-in-Right.ensures c.len-in-Right.ensures c.resized-side-inside-in-Right.ensures,
    )

pub returns-in-Right-clause-pairs : goal.returns-in-Right-clause-pairs
returns-in-Right-clause-pairs g t c =
    let at = opened c.side.invariant.0 c.in-Some.is c.in-Some-get_mut.ensures.value in
    let whole : side_pairs c.side.inside.node ≡ c.args.side.now.0 = first_of c.side.view_is ∙ first_of c.own_side.ensures in
    rw (← whole) (right_out (plain c.args.key.now) at c.side_remove_in-done-in-Right.result c.side_remove_in-done-in-Right.new.side.0 c.in-Right.ensures.turn c.side_remove_in-done-in-Right.ensures.pairs)
