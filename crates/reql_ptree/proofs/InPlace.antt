-- What holds of a chunk and of a node after a pair came in where it stands.
use Rattle.std.proofs.Common.{◌≡◌, ℕ, zero, suc, ◌+◌, ◌<◌, ◌≤◌, List, [], ◌∷◌, ◌++◌, length, map, ◌-◌, inl, inr, length-append, Option, Some, Ordering, Less, Equal, Greater, Bool, true, false, if◌then◌else◌, refl, sym, ap, ◌∙◌, subst, arith}
use Rattle.std.specs.List.{insert}
use Rattle.std.specs.Map.{keys_of}
use Rattle.std.proofs.lemmas.Bool.{cases_lt}
use Rattle.std.proofs.lemmas.List.{length-map}
use Rattle.reql_datum.specs.Plain.{Plain}
use Rattle.reql_datum.specs.Order.{order}
use Rattle.reql_datum.specs.Total.{order_total}
use Rattle.reql_memory.specs.Sorted.{IsHitBy, IsGapBy}
use Rattle.reql_datum.specs.View.{plain}
use Rattle.reql_memory.proofs.Sorted.{rising_put}
use Rattle.reql_memory.proofs.Held.{held_insert}
use Rattle.reql_ptree.specs.Chunk.{pair, IsChunk, IsHeld}
use Rattle.reql_ptree.specs.Pairs.{AreRising, Opens, put}
use Rattle.reql_ptree.specs.declared.chunk.Pair.{Pair}
use Rattle.std.specs.Ordering.{match_ordering}
use Rattle.std.specs.declared.sync.Arc.{Arc}
use Rattle.std.specs.declared.alloc.Global.{Global}
use Rattle.reql_ptree.specs.Side.{side_pairs, IsNode, IsBalanced, IsNodeOf}
use Rattle.reql_ptree.specs.Tall.{digits, tall, least}
use Rattle.reql_ptree.specs.Turn.{AllBelow, OpensAbove}
use Rattle.reql_ptree.proofs.Changed.{put_in_left, put_in_right}
use Rattle.reql_ptree.proofs.Sides.{node_of}
use Rattle.reql_ptree.proofs.Tall.{reach}
use Rattle.reql_ptree.proofs.Turns.{put_chunk}
use Rattle.reql_ptree.specs.declared.side.Node.{Node}

pub inserted : (rs new : List Pair) (i : ℕ) (y : Pair) (k v : Plain) → pair y ≡ (k, v) → IsGapBy order (keys_of (map pair rs)) k i → new ≡ insert rs i y → map pair new ≡ put k v (map pair rs)
inserted rs new i y k v e gap is =
    let a : plain y.key ≡ k = ap (λ (m : Plain × Plain). m.0) e in
    let b : plain y.value ≡ v = ap (λ (m : Plain × Plain). m.1) e in
    let g : IsGapBy order (keys_of (map pair rs)) (plain y.key) i = subst (λ t. IsGapBy order (keys_of (map pair rs)) t i) (sym a) gap in
    let p : put (plain y.key) (plain y.value) (map pair rs) ≡ put k v (map pair rs) = ap (λ t. put t (plain y.value) (map pair rs)) a ∙ ap (λ t. put k t (map pair rs)) b in
    ap (map pair) is ∙ (held_insert order order_total pair rs i y g ∙ p)

module _ (f k v : Plain) where
  opens_later : (ms : List (Plain × Plain)) (i : ℕ) → 0 < i → IsGapBy order (keys_of ms) k i → Opens (λ x. x ≡ f) ms → Opens (λ x. x ≡ f) (put k v ms)
  opens_later [] zero some gap h = absurd (omega arith)
  opens_later [] (suc i) some gap h = absurd gap
  opens_later (m ∷ ms) zero some gap h = absurd (omega arith)
  opens_later (m ∷ ms) (suc i) some gap h = rw gap.0 h

  opens_hit : (ms : List (Plain × Plain)) (i : ℕ) → IsHitBy order (keys_of ms) k i → Opens (λ x. x ≡ f) ms → Opens (λ x. x ≡ f) (put k v ms)
  opens_hit [] i hit h = absurd hit
  opens_hit (m ∷ ms) zero hit h = rw hit h
  opens_hit (m ∷ ms) (suc i) hit h = rw hit.0 h

opens_here : (k v : Plain) (ms : List (Plain × Plain)) → IsGapBy order (keys_of ms) k 0 → Opens (λ x. x ≡ k) (put k v ms)
opens_here k v [] gap = refl
opens_here k v (m ∷ ms) gap = rw gap refl

-- a chunk with a pair put in is one, if its length is right
chunk_with : (k v : Plain) (rs new : List Pair) → IsChunk (map pair rs) → map pair new ≡ put k v (map pair rs) → length rs ≤ length new → length new ≤ 15 → IsChunk (map pair new)
chunk_with k v rs new is e some few =
    record {
      rising = subst AreRising (sym e) (rising_put order order_total k v (map pair rs) is.rising);
      some = omega (arith, is.some, length-map rs pair, length-map new pair);
      few = omega (arith, length-map new pair);
    }

module _ (f k v : Plain) (rs new : List Pair) (held : IsHeld f (map pair rs)) where
  pub held_hit : (i : ℕ) → map pair new ≡ put k v (map pair rs) → length new ≡ length rs → IsHitBy order (keys_of (map pair rs)) k i → IsHeld f (map pair new)
  held_hit i e same hit =
      record {
        chunk = chunk_with k v rs new held.chunk e (omega arith) (omega (arith, held.chunk.few, length-map rs pair));
        first_is = subst (Opens (λ x. x ≡ f)) (sym e) (opens_hit f k v (map pair rs) i hit held.first_is);
      }

  pub held_here : map pair new ≡ put k v (map pair rs) → length rs < 15 → length rs ≤ length new → length new ≤ length rs + 1 → IsGapBy order (keys_of (map pair rs)) k 0 → IsHeld k (map pair new)
  held_here e few some one gap =
      record {
        chunk = chunk_with k v rs new held.chunk e some (omega arith);
        first_is = subst (Opens (λ x. x ≡ k)) (sym e) (opens_here k v (map pair rs) gap);
      }

  pub held_later : (i : ℕ) (done : Bool) → map pair new ≡ (if done then put k v (map pair rs) else map pair rs) → length rs < 15 → length rs ≤ length new → length new ≤ length rs + 1 → 0 < i → IsGapBy order (keys_of (map pair rs)) k i → IsHeld f (map pair new)
  held_later i true e few some one later gap =
      record {
        chunk = chunk_with k v rs new held.chunk e some (omega arith);
        first_is = subst (Opens (λ x. x ≡ f)) (sym e) (opens_later f k v (map pair rs) i later gap held.first_is);
      }
  held_later i false e few some one later gap = subst (IsHeld f) (sym e) held

-- an opened side is its node, which is lent out
pub opened : {o : Option (Arc Node Global)} {height : ℕ} {a : Arc Node Global} {n : Node} → IsBalanced o height → o ≡ Some a → n ≡ a.value → IsNodeOf (side_pairs o, height) n
opened {o} {height} {a} {n} is some lent = subst (IsNodeOf (side_pairs o, height)) (sym lent) (node_of refl is some)

grows_at : (o : Ordering) (k v : Plain) (m : Plain × Plain) (ms rest : List (Plain × Plain)) → length ms ≤ length rest → suc (length ms) ≤ length (match_ordering o ((k, v) ∷ m ∷ ms) ((m.0, v) ∷ ms) (m ∷ rest))
grows_at Less k v m ms rest h = omega arith
grows_at Equal k v m ms rest h = omega arith
grows_at Greater k v m ms rest h = omega (arith, h)

grows : (k v : Plain) (ms : List (Plain × Plain)) → length ms ≤ length (put k v ms)
grows k v [] = omega arith
grows k v (m ∷ ms) = grows_at (order k m.0) k v m ms (put k v ms) (grows k v ms)

pub longer : (k v : Plain) (done : Bool) (l' l : List (Plain × Plain)) → l' ≡ (if done then put k v l else l) → length l ≤ length l'
longer k v true l' l e = rw e (grows k v l)
longer k v false l' l e = rw e (omega arith)

module _ (k v : Plain) {d : List (Plain × Plain) × ℕ} {n : Node} (at : IsNodeOf d n) where
  pub left_now : (done : Bool) (l' : List (Plain × Plain)) → OpensAbove k (n.chunk ++ n.right.0) → l' ≡ (if done then put k v n.left.0 else n.left.0) → l' ++ (n.chunk ++ n.right.0) ≡ (if done then put k v d.0 else d.0)
  left_now true l' turn e = ap (λ t. t ++ (n.chunk ++ n.right.0)) e ∙ put_in_left k at v turn
  left_now false l' turn e = ap (λ t. t ++ (n.chunk ++ n.right.0)) e ∙ sym at.pairs

  pub right_now : (done : Bool) (r' : List (Plain × Plain)) → AllBelow k n.left.0 × AllBelow k n.chunk → r' ≡ (if done then put k v n.right.0 else n.right.0) → n.left.0 ++ (n.chunk ++ r') ≡ (if done then put k v d.0 else d.0)
  right_now true r' turn e = ap (λ t. n.left.0 ++ (n.chunk ++ t)) e ∙ put_in_right k at v turn
  right_now false r' turn e = ap (λ t. n.left.0 ++ (n.chunk ++ t)) e ∙ sym at.pairs

  pub here_now : (done : Bool) (c' : List (Plain × Plain)) → AllBelow k n.left.0 × OpensAbove k n.right.0 → c' ≡ (if done then put k v n.chunk else n.chunk) → n.left.0 ++ (c' ++ n.right.0) ≡ (if done then put k v d.0 else d.0)
  here_now true c' turn e = ap (λ t. n.left.0 ++ (t ++ n.right.0)) e ∙ (sym (put_chunk k n.left.0 n.chunk n.right.0 v turn) ∙ ap (put k v) (sym at.pairs))
  here_now false c' turn e = ap (λ t. n.left.0 ++ (t ++ n.right.0)) e ∙ sym at.pairs

  rising_now : (done : Bool) → AreRising (if done then put k v d.0 else d.0)
  rising_now true = rising_put order order_total k v d.0 (subst AreRising (sym at.pairs) at.node.rising)
  rising_now false = subst AreRising (sym at.pairs) at.node.rising

  -- a node whose list is put into and whose parts only grow is a node still
  pub node_now : (done : Bool) (l c r : List (Plain × Plain)) (lh rh : ℕ) → l ++ (c ++ r) ≡ (if done then put k v d.0 else d.0) → IsChunk c → lh ≡ n.left.1 → rh ≡ n.right.1 → length n.left.0 ≤ length l → length n.right.0 ≤ length r
      → IsNode l c r lh rh d.1
  node_now done l c r lh rh e is a b more more' =
      rw (a, b) (record {
        rising = subst AreRising (sym e) (rising_now done);
        chunk_is = is;
        high = at.node.high;
        even = at.node.even;
        left_grown = omega (arith, at.node.left_grown, more);
        right_grown = omega (arith, at.node.right_grown, more');
      })

pub reach_one : (h n : ℕ) → 0 < h → least h ≤ n → h + 1 ≤ tall n
unfolding digits
reach_one h n some room = let r : h + digits 1 ≤ tall n = reach h 1 n some (omega arith) (omega arith) (omega arith) in omega (arith, r)

grows_one_at : (o : Ordering) (k v : Plain) (m : Plain × Plain) (ms rest : List (Plain × Plain)) → length rest ≤ length ms + 1 → length (match_ordering o ((k, v) ∷ m ∷ ms) ((m.0, v) ∷ ms) (m ∷ rest)) ≤ length ms + 2
grows_one_at Less k v m ms rest h = omega arith
grows_one_at Equal k v m ms rest h = omega arith
grows_one_at Greater k v m ms rest h = omega (arith, h)

grows_one : (k v : Plain) (ms : List (Plain × Plain)) → length (put k v ms) ≤ length ms + 1
grows_one k v [] = omega arith
grows_one k v (m ∷ ms) = omega (arith, grows_one_at (order k m.0) k v m ms (put k v ms) (grows_one k v ms))

pub longer_one : (k v : Plain) (done : Bool) (l' l : List (Plain × Plain)) → l' ≡ (if done then put k v l else l) → length l' ≤ length l + 1
longer_one k v true l' l e = rw e (grows_one k v l)
longer_one k v false l' l e = rw e (omega arith)

-- the size of a node one of whose parts becomes another
module _ {d : List (Plain × Plain) × ℕ} {n : Node} (at : IsNodeOf d n) (size before after : ℕ) (is : size ≡ length d.0) where
  whole : length d.0 ≡ length n.left.0 + length n.chunk + length n.right.0
  whole = omega (arith, ap length at.pairs, length-append n.left.0 (n.chunk ++ n.right.0), length-append n.chunk n.right.0)

  pub size_left : (new : ℕ) (l : List (Plain × Plain)) → before ≡ length n.left.0 → after ≡ length l → new ≡ size - before + after → new ≡ length (l ++ (n.chunk ++ n.right.0))
  size_left new l b a e = omega (arith, whole, is, b, a, e, length-append l (n.chunk ++ n.right.0), length-append n.chunk n.right.0)

  pub size_chunk : (new : ℕ) (c : List (Plain × Plain)) → before ≡ length n.chunk → after ≡ length c → new ≡ size - before + after → new ≡ length (n.left.0 ++ (c ++ n.right.0))
  size_chunk new c b a e = omega (arith, whole, is, b, a, e, length-append n.left.0 (c ++ n.right.0), length-append c n.right.0)

  pub size_right : (new : ℕ) (r : List (Plain × Plain)) → before ≡ length n.right.0 → after ≡ length r → new ≡ size - before + after → new ≡ length (n.left.0 ++ (n.chunk ++ r))
  size_right new r b a e = omega (arith, whole, is, b, a, e, length-append n.left.0 (n.chunk ++ r), length-append n.chunk r)

  -- with room for one more
  module _ (room : size < 18446744073709551615) where
    pub fits_left : before ≡ length n.left.0 → after ≤ length n.left.0 + 1 → size - before + after < 18446744073709551616
    fits_left b a = omega (arith, whole, is, b, a, room)

    pub fits_chunk : before ≡ length n.chunk → after ≤ length n.chunk + 1 → size - before + after < 18446744073709551616
    fits_chunk b a = omega (arith, whole, is, b, a, room)

    pub fits_right : before ≡ length n.right.0 → after ≤ length n.right.0 + 1 → size - before + after < 18446744073709551616
    fits_right b a = omega (arith, whole, is, b, a, room)

pub has_room : (size n : ℕ) → (n ≡ 18446744073709551615 → ⊥) → n ≡ size → size < 18446744073709551616 → size < 18446744073709551615
has_room size n not e fits =
    elim (cases_lt size 18446744073709551615) [
      | inl less ↦ less
      | inr more ↦ absurd (not (omega arith))
    ]
