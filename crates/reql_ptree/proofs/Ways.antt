-- A way down a tree, step by step.
use Rattle.std.proofs.Common.{◌≡◌, ℕ, ◌+◌, ◌-◌, ◌<◌, ◌≤◌, List, [], ◌∷◌, ◌++◌, length, Bool, true, false, refl, sym, ap, ◌∙◌, subst, arith, length-append, append_assoc}
use Rattle.reql_datum.specs.Plain.{Plain}
use Rattle.reql_datum.specs.Order.{order}
use Rattle.reql_ptree.specs.Pairs.{Opens}
use Rattle.reql_ptree.specs.Next.{is_behind}
use Rattle.reql_ptree.specs.Side.{IsNodeOf, node_pairs}
use Rattle.reql_ptree.specs.Tall.{least}
use Rattle.reql_ptree.specs.Way.{IsWay}
use Rattle.reql_ptree.proofs.Tall.{least_node}
use Rattle.reql_ptree.specs.declared.side.Node.{Node}

append_end : (ms : List (Plain × Plain)) → ms ++ [] ≡ ms
append_end [] = refl
append_end (m ∷ ms) = ap (λ t. m ∷ t) (append_end ms)

pub way_start : (k : Plain) (at : Bool) (all : List (Plain × Plain)) (height : ℕ) → IsWay k at all [] all [] height height 0
way_start k at all height = record {
  before = [];
  after = [];
  is = sym (append_end all);
  below_opens = tt;
  none_below = λ _. refl;
  above_opens = tt;
  none_above = λ _. refl;
  passed_is = refl;
  low = omega arith;
  room = omega arith;
  chunk_room = λ h. absurd (omega arith);
}

-- what one key is asked, where the first key is known apart
pub opens_at : (P : Plain → Type 0) (k : Plain) (ms : List (Plain × Plain)) → Opens (λ x. x ≡ k) ms → P k → Opens P ms
opens_at P k [] is h = tt
opens_at P k (m ∷ ms) is h = subst P (sym is) h

right_is : (before below l c r rest : List (Plain × Plain)) → before ++ (below ++ ((l ++ (c ++ r)) ++ rest)) ≡ (before ++ (below ++ l)) ++ (c ++ (r ++ rest))
right_is before below l c r rest = rw (append_assoc l (c ++ r) rest, append_assoc c r rest, append_assoc before (below ++ l) (c ++ (r ++ rest)), append_assoc below l (c ++ (r ++ rest))) refl

left_is : (before below l c r rest : List (Plain × Plain)) → before ++ (below ++ ((l ++ (c ++ r)) ++ rest)) ≡ before ++ (below ++ (l ++ (c ++ (r ++ rest))))
left_is before below l c r rest = rw (append_assoc l (c ++ r) rest, append_assoc c r rest) refl

module _ {k : Plain} {at : Bool} {all below above : List (Plain × Plain)} {height passed : ℕ} {d : List (Plain × Plain) × ℕ} {n : Node} (way : IsWay k at all below d.0 above height d.1 passed) (node : IsNodeOf d n) where
  sizes : (least d.1 ≤ least n.left.1 + least n.right.1 + 1) × (length d.0 ≡ length n.left.0 + length n.chunk + length n.right.0)
  sizes =
      let e : length d.0 ≡ length (node_pairs n) = ap length node.pairs in
      (least_node d.1 n.left.1 n.right.1 node.node.high node.node.even, omega (arith, e, length-append n.left.0 (n.chunk ++ n.right.0), length-append n.chunk n.right.0))

  pub way_right : (first : Plain) → Opens (λ x. x ≡ first) n.chunk → is_behind at (order k first) ≡ true → IsWay k at all n.chunk n.right.0 above height n.right.1 (passed + (length d.0 - length n.right.0))
  way_right first first_is h =
      let s = sizes in
      let room : least height + length d.0 ≤ length all + least d.1 = way.room in
      let left : least n.left.1 ≤ length n.left.0 = node.node.left_grown in
      let right : least n.right.1 ≤ length n.right.0 = node.node.right_grown in
      let some : 0 < length n.chunk = node.node.chunk_is.some in
      record {
        before = way.before ++ (below ++ n.left.0);
        after = way.after;
        is = way.is ∙ ap (λ ms. way.before ++ (below ++ (ms ++ (above ++ way.after)))) node.pairs ∙ right_is way.before below n.left.0 n.chunk n.right.0 (above ++ way.after);
        below_opens = opens_at (λ x. is_behind at (order k x) ≡ true) first n.chunk first_is h;
        none_below = λ none. absurd (omega arith);
        above_opens = way.above_opens;
        none_above = way.none_above;
        passed_is = omega (arith, way.passed_is, s.1, length-append way.before (below ++ n.left.0), length-append below n.left.0);
        low = omega (arith, way.low, node.node.high);
        room = omega (arith, s);
        chunk_room = λ _. (omega (arith, way.low, node.node.high), omega (arith, s));
      }

  pub way_left : (first : Plain) → Opens (λ x. x ≡ first) n.chunk → is_behind at (order k first) ≡ false → IsWay k at all below n.left.0 n.chunk height n.left.1 passed
  way_left first first_is h =
      let s = sizes in
      let room : least height + length d.0 ≤ length all + least d.1 = way.room in
      let left : least n.left.1 ≤ length n.left.0 = node.node.left_grown in
      let right : least n.right.1 ≤ length n.right.0 = node.node.right_grown in
      let some : 0 < length n.chunk = node.node.chunk_is.some in
      record {
        before = way.before;
        after = n.right.0 ++ (above ++ way.after);
        is = way.is ∙ ap (λ ms. way.before ++ (below ++ (ms ++ (above ++ way.after)))) node.pairs ∙ left_is way.before below n.left.0 n.chunk n.right.0 (above ++ way.after);
        below_opens = way.below_opens;
        none_below = way.none_below;
        above_opens = opens_at (λ x. is_behind at (order k x) ≡ false) first n.chunk first_is h;
        none_above = λ none. absurd (omega arith);
        passed_is = way.passed_is;
        low = omega (arith, way.low, node.node.high);
        room = omega (arith, s);
        chunk_room = way.chunk_room;
      }

  pub right_less : length n.right.0 ≤ length d.0
  right_less = omega (arith, sizes)

  pub passed_fits : passed + length d.0 ≤ length all
  passed_fits = omega (arith, way.passed_is, ap length way.is, length-append way.before (below ++ (d.0 ++ (above ++ way.after))), length-append below (d.0 ++ (above ++ way.after)), length-append d.0 (above ++ way.after))
