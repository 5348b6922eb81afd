use Rattle.std.proofs.Common.{◌≡◌, length, true, false, refl, sym, ap, ◌∙◌, subst, arith}
use Rattle.reql_datum.specs.View.{plain}
use Rattle.reql_ptree.specs.Fall.{is_put, Reaches, Fallen}
use Rattle.reql_ptree.specs.Side.{side_pairs}
use Rattle.reql_ptree.proofs.Changed.{first_of}
use Rattle.reql_ptree.proofs.Falls.{put_of, fallen_of, fallen_left, reached_chunk, turn_right, turn_back, back_now, size_back}
use Rattle.reql_ptree.proofs.InPlace.{opened, longer, longer_one, left_now, right_now, here_now, node_now, size_left, size_chunk, size_right, fits_left, fits_chunk, fits_right, has_room}
use Rattle.reql_ptree.proofs.in_place.+side_fall.Goals as goal

pub resized-side-inside-requires-clause-fits : goal.resized-side-inside-requires-clause-fits
resized-side-inside-requires-clause-fits g t c =
    let at = opened c.side.invariant.0 c.in-Some.is c.in-Some-get_mut.ensures.value in
    let whole : side_pairs c.side.inside.node ≡ c.args.side.now.0 = first_of c.side.view_is ∙ first_of c.own_side.ensures in
    let room = has_room c.side.inside.size c.len.result c.if-len-eq18446744073709551615.false (c.len.ensures ∙ sym (c.side.invariant.1 ∙ ap length whole)) (omega (arith, c.side.ranges)) in
    let more = longer_one (plain c.args.key.now) (plain c.args.value.now) c.chunk_put_in-done.result c.chunk_put_in-done.new.chunk c.in-Some-get_mut.node.now.chunk c.chunk_put_in-done.ensures.pairs in
    fits_chunk at c.side.inside.size c.len-before.result c.len-in-Here.result c.side.invariant.1 room c.len-before.ensures (omega (arith, c.len-in-Here.ensures, more))

pub invariant_of-side-in-Here : goal.invariant_of-side-in-Here
invariant_of-side-in-Here g t c =
    let at = opened c.side.invariant.0 c.in-Some.is c.in-Some-get_mut.ensures.value in (
      node_now (plain c.args.key.now) (plain c.args.value.now) at c.chunk_put_in-done.result c.in-Some-get_mut.node.now.left.0 c.chunk_put_in-done.new.chunk c.in-Some-get_mut.node.now.right.0 c.in-Some-get_mut.node.now.left.1 c.in-Some-get_mut.node.now.right.1
          (here_now (plain c.args.key.now) (plain c.args.value.now) at c.chunk_put_in-done.result c.chunk_put_in-done.new.chunk c.in-Here.ensures.0 c.chunk_put_in-done.ensures.pairs)
          c.chunk_put_in-done.ensures.chunk refl refl (omega arith) (omega arith),
      size_chunk at c.side.inside.size c.len-before.result c.len-in-Here.result c.side.invariant.1 c.resized-side-inside.result c.chunk_put_in-done.new.chunk c.len-before.ensures c.len-in-Here.ensures c.resized-side-inside.ensures,
    )

pub returns-in-Here-clause-pairs : goal.returns-in-Here-clause-pairs
returns-in-Here-clause-pairs g t c =
    let at = opened c.side.invariant.0 c.in-Some.is c.in-Some-get_mut.ensures.value in
    let whole : side_pairs c.side.inside.node ≡ c.args.side.now.0 = first_of c.side.view_is ∙ first_of c.own_side.ensures in
    rw (put_of c.chunk_put_in-done.result c.fell_of.result c.fell_of.ensures, ← whole) (here_now (plain c.args.key.now) (plain c.args.value.now) at c.chunk_put_in-done.result c.chunk_put_in-done.new.chunk c.in-Here.ensures.0 c.chunk_put_in-done.ensures.pairs)

pub returns-in-Here-clause-fallen : goal.returns-in-Here-clause-fallen
returns-in-Here-clause-fallen g t c =
    let at = opened c.side.invariant.0 c.in-Some.is c.in-Some-get_mut.ensures.value in
    let whole : side_pairs c.side.inside.node ≡ c.args.side.now.0 = first_of c.side.view_is ∙ first_of c.own_side.ensures in
    subst (λ ms. Fallen (plain c.args.key.now) c.args.least ms c.fell_of.result) whole (fallen_of (plain c.args.key.now) c.args.least (side_pairs c.side.inside.node) c.chunk_put_in-done.result c.fell_of.result c.fell_of.ensures (λ e. reached_chunk (plain c.args.key.now) at (c.in-Here.ensures.1 e)))

pub resized-side-inside-requires-in-Left-clause-fits : goal.resized-side-inside-requires-in-Left-clause-fits
resized-side-inside-requires-in-Left-clause-fits g t c =
    let at = opened c.side.invariant.0 c.in-Some.is c.in-Some-get_mut.ensures.value in
    let whole : side_pairs c.side.inside.node ≡ c.args.side.now.0 = first_of c.side.view_is ∙ first_of c.own_side.ensures in
    let room = has_room c.side.inside.size c.len.result c.if-len-eq18446744073709551615.false (c.len.ensures ∙ sym (c.side.invariant.1 ∙ ap length whole)) (omega (arith, c.side.ranges)) in
    let more = longer_one (plain c.args.key.now) (plain c.args.value.now) (is_put c.side_fall-fell.result) c.side_fall-fell.new.side.0 c.in-Some-get_mut.node.now.left.0 c.side_fall-fell.ensures.pairs in
    fits_left at c.side.inside.size c.len-before-in-Left.result c.len-in-Left.result c.side.invariant.1 room c.len-before-in-Left.ensures (omega (arith, c.len-in-Left.ensures, more))

pub invariant_of-side-in-Left : goal.invariant_of-side-in-Left
invariant_of-side-in-Left g t c =
    let at = opened c.side.invariant.0 c.in-Some.is c.in-Some-get_mut.ensures.value in (
      node_now (plain c.args.key.now) (plain c.args.value.now) at (is_put c.side_fall-fell.result) c.side_fall-fell.new.side.0 c.in-Some-get_mut.node.now.chunk c.in-Some-get_mut.node.now.right.0 c.side_fall-fell.new.side.1 c.in-Some-get_mut.node.now.right.1
          (left_now (plain c.args.key.now) (plain c.args.value.now) at (is_put c.side_fall-fell.result) c.side_fall-fell.new.side.0 c.in-Left.ensures c.side_fall-fell.ensures.pairs)
          at.node.chunk_is c.side_fall-fell.ensures.height refl (longer (plain c.args.key.now) (plain c.args.value.now) (is_put c.side_fall-fell.result) c.side_fall-fell.new.side.0 c.in-Some-get_mut.node.now.left.0 c.side_fall-fell.ensures.pairs) (omega arith),
      size_left at c.side.inside.size c.len-before-in-Left.result c.len-in-Left.result c.side.invariant.1 c.resized-side-inside-in-Left.result c.side_fall-fell.new.side.0 c.len-before-in-Left.ensures c.len-in-Left.ensures c.resized-side-inside-in-Left.ensures,
    )

pub returns-in-Left-clause-pairs : goal.returns-in-Left-clause-pairs
returns-in-Left-clause-pairs g t c =
    let at = opened c.side.invariant.0 c.in-Some.is c.in-Some-get_mut.ensures.value in
    let whole : side_pairs c.side.inside.node ≡ c.args.side.now.0 = first_of c.side.view_is ∙ first_of c.own_side.ensures in
    rw (← whole) (left_now (plain c.args.key.now) (plain c.args.value.now) at (is_put c.side_fall-fell.result) c.side_fall-fell.new.side.0 c.in-Left.ensures c.side_fall-fell.ensures.pairs)

pub returns-in-Left-clause-fallen : goal.returns-in-Left-clause-fallen
returns-in-Left-clause-fallen g t c =
    let at = opened c.side.invariant.0 c.in-Some.is c.in-Some-get_mut.ensures.value in
    let whole : side_pairs c.side.inside.node ≡ c.args.side.now.0 = first_of c.side.view_is ∙ first_of c.own_side.ensures in
    subst (λ ms. Fallen (plain c.args.key.now) c.args.least ms c.side_fall-fell.result) whole (fallen_left (plain c.args.key.now) at c.args.least c.side_fall-fell.result c.in-Left.ensures c.side_fall-fell.ensures.fallen)

pub resized-side-inside-requires-in-Put-clause-fits : goal.resized-side-inside-requires-in-Put-clause-fits
resized-side-inside-requires-in-Put-clause-fits g t c =
    let at = opened c.side.invariant.0 c.in-Some.is c.in-Some-get_mut.ensures.value in
    let whole : side_pairs c.side.inside.node ≡ c.args.side.now.0 = first_of c.side.view_is ∙ first_of c.own_side.ensures in
    let room = has_room c.side.inside.size c.len.result c.if-len-eq18446744073709551615.false (c.len.ensures ∙ sym (c.side.invariant.1 ∙ ap length whole)) (omega (arith, c.side.ranges)) in
    let more = longer_one (plain c.args.key.now) (plain c.args.value.now) true c.side_fall.new.side.0 c.in-Some-get_mut.node.now.right.0 c.in-Put.ensures.pairs in
    fits_right at c.side.inside.size c.len-before-in-Right.result c.len-in-Put.result c.side.invariant.1 room c.len-before-in-Right.ensures (omega (arith, c.len-in-Put.ensures, more))

pub invariant_of-side-in-Put : goal.invariant_of-side-in-Put
invariant_of-side-in-Put g t c =
    let at = opened c.side.invariant.0 c.in-Some.is c.in-Some-get_mut.ensures.value in (
      node_now (plain c.args.key.now) (plain c.args.value.now) at true c.in-Some-get_mut.node.now.left.0 c.in-Some-get_mut.node.now.chunk c.side_fall.new.side.0 c.in-Some-get_mut.node.now.left.1 c.side_fall.new.side.1
          (right_now (plain c.args.key.now) (plain c.args.value.now) at true c.side_fall.new.side.0 (turn_right (plain c.args.key.now) at (c.in-Put.ensures.fallen refl)) c.in-Put.ensures.pairs)
          at.node.chunk_is refl c.side_fall.ensures.height (omega arith) (longer (plain c.args.key.now) (plain c.args.value.now) true c.side_fall.new.side.0 c.in-Some-get_mut.node.now.right.0 c.in-Put.ensures.pairs),
      size_right at c.side.inside.size c.len-before-in-Right.result c.len-in-Put.result c.side.invariant.1 c.resized-side-inside-in-Put.result c.side_fall.new.side.0 c.len-before-in-Right.ensures c.len-in-Put.ensures c.resized-side-inside-in-Put.ensures,
    )

pub returns-in-Put-clause-pairs : goal.returns-in-Put-clause-pairs
returns-in-Put-clause-pairs g t c =
    let at = opened c.side.invariant.0 c.in-Some.is c.in-Some-get_mut.ensures.value in
    let whole : side_pairs c.side.inside.node ≡ c.args.side.now.0 = first_of c.side.view_is ∙ first_of c.own_side.ensures in
    rw (← whole) (right_now (plain c.args.key.now) (plain c.args.value.now) at true c.side_fall.new.side.0 (turn_right (plain c.args.key.now) at (c.in-Put.ensures.fallen refl)) c.in-Put.ensures.pairs)

pub returns-in-Put-clause-fallen : goal.returns-in-Put-clause-fallen
returns-in-Put-clause-fallen g t c =
    let at = opened c.side.invariant.0 c.in-Some.is c.in-Some-get_mut.ensures.value in
    let whole : side_pairs c.side.inside.node ≡ c.args.side.now.0 = first_of c.side.view_is ∙ first_of c.own_side.ensures in
    λ _. subst (Reaches (plain c.args.key.now)) whole (reached_chunk (plain c.args.key.now) at c.in-Right.ensures)

pub resized-side-inside-requires-in-Before-clause-fits : goal.resized-side-inside-requires-in-Before-clause-fits
resized-side-inside-requires-in-Before-clause-fits g t c =
    let at = opened c.side.invariant.0 c.in-Some.is c.in-Some-get_mut.ensures.value in
    let whole : side_pairs c.side.inside.node ≡ c.args.side.now.0 = first_of c.side.view_is ∙ first_of c.own_side.ensures in
    let room = has_room c.side.inside.size c.len.result c.if-len-eq18446744073709551615.false (c.len.ensures ∙ sym (c.side.invariant.1 ∙ ap length whole)) (omega (arith, c.side.ranges)) in
    let more = longer_one (plain c.args.key.now) (plain c.args.value.now) c.chunk_put_in-done-in-Before.result c.chunk_put_in-done-in-Before.new.chunk c.in-Some-get_mut.node.now.chunk c.chunk_put_in-done-in-Before.ensures.pairs in
    fits_chunk at c.side.inside.size c.len-before-in-Before.result c.len-in-Before.result c.side.invariant.1 room c.len-before-in-Before.ensures (omega (arith, c.len-in-Before.ensures, more))

pub invariant_of-side-in-Before : goal.invariant_of-side-in-Before
invariant_of-side-in-Before g t c =
    let at = opened c.side.invariant.0 c.in-Some.is c.in-Some-get_mut.ensures.value in (
      node_now (plain c.args.key.now) (plain c.args.value.now) at c.chunk_put_in-done-in-Before.result c.in-Some-get_mut.node.now.left.0 c.chunk_put_in-done-in-Before.new.chunk c.side_fall.new.side.0 c.in-Some-get_mut.node.now.left.1 c.side_fall.new.side.1
          (back_now (plain c.args.key.now) at (plain c.args.value.now) c.chunk_put_in-done-in-Before.result c.chunk_put_in-done-in-Before.new.chunk c.side_fall.new.side.0 c.in-Before.ensures.pairs (turn_back (plain c.args.key.now) at c.in-Right.ensures c.in-Before.ensures.fallen) c.chunk_put_in-done-in-Before.ensures.pairs)
          c.chunk_put_in-done-in-Before.ensures.chunk refl c.side_fall.ensures.height (omega arith) (longer (plain c.args.key.now) (plain c.args.value.now) false c.side_fall.new.side.0 c.in-Some-get_mut.node.now.right.0 c.in-Before.ensures.pairs),
      size_back c.resized-side-inside-in-Before.result c.in-Some-get_mut.node.now.left.0 c.chunk_put_in-done-in-Before.new.chunk c.in-Some-get_mut.node.now.right.0 c.side_fall.new.side.0 c.in-Before.ensures.pairs
          (size_chunk at c.side.inside.size c.len-before-in-Before.result c.len-in-Before.result c.side.invariant.1 c.resized-side-inside-in-Before.result c.chunk_put_in-done-in-Before.new.chunk c.len-before-in-Before.ensures c.len-in-Before.ensures c.resized-side-inside-in-Before.ensures),
    )

pub returns-in-Before-clause-pairs : goal.returns-in-Before-clause-pairs
returns-in-Before-clause-pairs g t c =
    let at = opened c.side.invariant.0 c.in-Some.is c.in-Some-get_mut.ensures.value in
    let whole : side_pairs c.side.inside.node ≡ c.args.side.now.0 = first_of c.side.view_is ∙ first_of c.own_side.ensures in
    rw (put_of c.chunk_put_in-done-in-Before.result c.fell_of-in-Before.result c.fell_of-in-Before.ensures, ← whole) (back_now (plain c.args.key.now) at (plain c.args.value.now) c.chunk_put_in-done-in-Before.result c.chunk_put_in-done-in-Before.new.chunk c.side_fall.new.side.0 c.in-Before.ensures.pairs (turn_back (plain c.args.key.now) at c.in-Right.ensures c.in-Before.ensures.fallen) c.chunk_put_in-done-in-Before.ensures.pairs)

pub returns-in-Before-clause-fallen : goal.returns-in-Before-clause-fallen
returns-in-Before-clause-fallen g t c =
    let at = opened c.side.invariant.0 c.in-Some.is c.in-Some-get_mut.ensures.value in
    let whole : side_pairs c.side.inside.node ≡ c.args.side.now.0 = first_of c.side.view_is ∙ first_of c.own_side.ensures in
    subst (λ ms. Fallen (plain c.args.key.now) c.args.least ms c.fell_of-in-Before.result) whole (fallen_of (plain c.args.key.now) c.args.least (side_pairs c.side.inside.node) c.chunk_put_in-done-in-Before.result c.fell_of-in-Before.result c.fell_of-in-Before.ensures (λ _. reached_chunk (plain c.args.key.now) at c.in-Right.ensures))
