-- A node with a pair put in or left out, as its parts and as a whole.
use Rattle.std.proofs.Common.{◌≡◌, ℕ, List, [], ◌++◌, Option, Some, None, Result, Ok, Err, IfOk, refl, sym, ap, ◌∙◌, subst, append_assoc}
use Rattle.std.proofs.lemmas.List.{append-nil}
use Rattle.reql_datum.specs.Plain.{Plain}
use Rattle.reql_datum.specs.Order.{order}
use Rattle.reql_datum.specs.Total.{order_total}
use Rattle.reql_memory.proofs.Sorted.{rising_put, rising_without}
use Rattle.reql_ptree.specs.Pairs.{AreRising, put, without}
use Rattle.reql_ptree.specs.Side.{IsNodeOf}
use Rattle.reql_ptree.specs.Halves.{high_pairs}
use Rattle.reql_ptree.specs.Turn.{AllBelow, OpensAbove}
use Rattle.reql_ptree.proofs.Rising.{rising_back}
use Rattle.reql_ptree.proofs.Turns.{put_left, put_chunk, put_right, without_left, without_chunk, without_right}
use Rattle.reql_ptree.specs.declared.side.Node.{Node}

-- three parts, each equal to another
pub three : {l l' m m' r r' : List (Plain × Plain)} → l' ≡ l → m' ≡ m → r' ≡ r → l' ++ (m' ++ r') ≡ l ++ (m ++ r)
three {l} {l'} {m} {m'} {r} {r'} a b c = rw (a, b, c) refl

pub three_up : {l l' m m' r r' : List (Plain × Plain)} → l' ≡ l → m' ≡ m → r' ≡ r → AreRising (l ++ (m ++ r)) → AreRising (l' ++ (m' ++ r'))
three_up a b c up = subst AreRising (sym (three a b c)) up

pub first_of : {d e : List (Plain × Plain) × ℕ} → d ≡ e → d.0 ≡ e.0
first_of is = ap (λ (v : List (Plain × Plain) × ℕ). v.0) is

-- what a last call gave, by an equal list
pub ok_pairs : {E : Type 0} (r : Result (List (Plain × Plain) × ℕ) E) (xs ys : List (Plain × Plain)) → IfOk r (λ side. side.0 ≡ xs) → xs ≡ ys → IfOk r (λ side. side.0 ≡ ys)
ok_pairs (Ok side) xs ys h e = h ∙ e
ok_pairs (Err why) xs ys h e = tt

module _ (k : Plain) {d : List (Plain × Plain) × ℕ} {n : Node} (at : IsNodeOf d n) where
  up : AreRising d.0
  up = subst AreRising (sym at.pairs) at.node.rising

  module _ (v : Plain) where
    pub put_in_left : OpensAbove k (n.chunk ++ n.right.0) → put k v n.left.0 ++ (n.chunk ++ n.right.0) ≡ put k v d.0
    put_in_left turn = sym (ap (put k v) at.pairs ∙ put_left k n.left.0 n.chunk n.right.0 v turn)

    pub put_in_right : AllBelow k n.left.0 × AllBelow k n.chunk → n.left.0 ++ (n.chunk ++ put k v n.right.0) ≡ put k v d.0
    put_in_right turn = sym (ap (put k v) at.pairs ∙ put_right k n.left.0 n.chunk n.right.0 v turn)

    pub put_left_up : OpensAbove k (n.chunk ++ n.right.0) → AreRising (put k v n.left.0 ++ (n.chunk ++ n.right.0))
    put_left_up turn = subst AreRising (sym (put_in_left turn)) (rising_put order order_total k v d.0 up)

    pub put_right_up : AllBelow k n.left.0 × AllBelow k n.chunk → AreRising (n.left.0 ++ (n.chunk ++ put k v n.right.0))
    put_right_up turn = subst AreRising (sym (put_in_right turn)) (rising_put order order_total k v d.0 up)

  pub without_in_left : OpensAbove k (n.chunk ++ n.right.0) → without k n.left.0 ++ (n.chunk ++ n.right.0) ≡ without k d.0
  without_in_left turn = sym (ap (without k) at.pairs ∙ without_left k n.left.0 n.chunk n.right.0 at.node.rising turn)

  pub without_in_right : AllBelow k n.left.0 × AllBelow k n.chunk → n.left.0 ++ (n.chunk ++ without k n.right.0) ≡ without k d.0
  without_in_right turn = sym (ap (without k) at.pairs ∙ without_right k n.left.0 n.chunk n.right.0 turn)

  pub without_left_up : OpensAbove k (n.chunk ++ n.right.0) → AreRising (without k n.left.0 ++ (n.chunk ++ n.right.0))
  without_left_up turn = subst AreRising (sym (without_in_left turn)) (rising_without order order_total k d.0 up)

  pub without_right_up : AllBelow k n.left.0 × AllBelow k n.chunk → AreRising (n.left.0 ++ (n.chunk ++ without k n.right.0))
  without_right_up turn = subst AreRising (sym (without_in_right turn)) (rising_without order order_total k d.0 up)

-- a pair that comes into the chunk of a node, which is then one chunk or two
module _ (k v : Plain) (l c r low : List (Plain × Plain)) (high : Option (List (Plain × Plain))) (up : AreRising (l ++ (c ++ r))) (turn : AllBelow k l × OpensAbove k r) (is : low ++ high_pairs high ≡ put k v c) where
  pub here_none : high ≡ None → l ++ (low ++ r) ≡ put k v (l ++ (c ++ r))
  here_none none =
      let e : low ≡ put k v c = sym (append-nil low) ∙ (subst (λ (o : Option (List (Plain × Plain))). low ++ high_pairs o ≡ put k v c) none is) in
      sym (put_chunk k l c r v turn ∙ ap (λ t. l ++ (t ++ r)) (sym e))

  pub here_some : (h : List (Plain × Plain)) → high ≡ Some h → l ++ (low ++ (h ++ r)) ≡ put k v (l ++ (c ++ r))
  here_some h some =
      let e : low ++ h ≡ put k v c = subst (λ (o : Option (List (Plain × Plain))). low ++ high_pairs o ≡ put k v c) some is in
      sym (put_chunk k l c r v turn ∙ ap (λ t. l ++ (t ++ r)) (sym e) ∙ ap (λ t. l ++ t) (append_assoc low h r))

  pub here_none_up : high ≡ None → AreRising (l ++ (low ++ r))
  here_none_up none = subst AreRising (sym (here_none none)) (rising_put order order_total k v (l ++ (c ++ r)) up)

  pub here_some_up : (h : List (Plain × Plain)) → high ≡ Some h → AreRising (l ++ (low ++ (h ++ r)))
  here_some_up h some = subst AreRising (sym (here_some h some)) (rising_put order order_total k v (l ++ (c ++ r)) up)

  pub high_up : (h : List (Plain × Plain)) → high ≡ Some h → AreRising (h ++ r)
  high_up h some = rising_back low (h ++ r) (rising_back l (low ++ (h ++ r)) (here_some_up h some))

-- a key that leaves the chunk of a node, of which nothing may be left
module _ (k : Plain) (l c r : List (Plain × Plain)) (rest : Option (List (Plain × Plain))) (up : AreRising (l ++ (c ++ r))) (turn : AllBelow k l × OpensAbove k r) (is : high_pairs rest ≡ without k c) where
  pub left_some : (m : List (Plain × Plain)) → rest ≡ Some m → l ++ (m ++ r) ≡ without k (l ++ (c ++ r))
  left_some m some =
      let e : m ≡ without k c = subst (λ (o : Option (List (Plain × Plain))). high_pairs o ≡ without k c) some is in
      sym (without_chunk k l c r up turn ∙ ap (λ t. l ++ (t ++ r)) (sym e))

  pub left_none : rest ≡ None → l ++ r ≡ without k (l ++ (c ++ r))
  left_none none =
      let e : [] ≡ without k c = subst (λ (o : Option (List (Plain × Plain))). high_pairs o ≡ without k c) none is in
      sym (without_chunk k l c r up turn ∙ ap (λ t. l ++ (t ++ r)) (sym e))

  pub left_some_up : (m : List (Plain × Plain)) → rest ≡ Some m → AreRising (l ++ (m ++ r))
  left_some_up m some = subst AreRising (sym (left_some m some)) (rising_without order order_total k (l ++ (c ++ r)) up)

  pub left_none_up : rest ≡ None → AreRising (l ++ r)
  left_none_up none = subst AreRising (sym (left_none none)) (rising_without order order_total k (l ++ (c ++ r)) up)
