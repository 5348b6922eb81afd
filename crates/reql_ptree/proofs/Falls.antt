-- Where a pair falls to, and what the node then holds.
use Rattle.std.proofs.Common.{◌≡◌, ℕ, ◌<◌, List, [], ◌∷◌, ◌++◌, length, Bool, true, false, if◌then◌else◌, Greater, refl, sym, ap, ◌∙◌, subst, arith, append_assoc}
use Rattle.reql_datum.specs.Plain.{Plain}
use Rattle.reql_datum.specs.Order.{order}
use Rattle.reql_ptree.specs.Fall.{Reaches, is_put, fell_of, Fallen}
use Rattle.reql_ptree.specs.Next.{is_behind}
use Rattle.reql_ptree.specs.Pairs.{AreRising, Opens, put}
use Rattle.reql_ptree.specs.Side.{IsNodeOf}
use Rattle.reql_ptree.specs.Turn.{AllBelow, OpensAbove}
use Rattle.reql_ptree.specs.declared.fall.Fell.{Fell}
use Rattle.reql_ptree.specs.declared.fall.Fell.TheVariants.{Put, Kept, Before}
use Rattle.reql_ptree.specs.declared.side.Node.{Node}
use Rattle.reql_ptree.proofs.InPlace.{here_now}
use Rattle.reql_ptree.proofs.Parts.{reached_all}
use Rattle.reql_ptree.proofs.Rising.{all_front, all_back}

-- a chunk whose first key isn't above k
pub reaches_first : (k first : Plain) (c : List (Plain × Plain)) → 0 < length c → Opens (λ x. x ≡ first) c → is_behind true (order k first) ≡ true → Reaches k c
reaches_first k first [] some is h = absurd (omega arith)
reaches_first k first (m ∷ ms) some is h = subst (λ x. is_behind true (order k x) ≡ true) (sym is) h

reaches_some : (k : Plain) (b : List (Plain × Plain)) → Reaches k b → 0 < length b
reaches_some k [] h = absurd h
reaches_some k (m ∷ ms) h = omega arith

reaches_opens : (k : Plain) (b : List (Plain × Plain)) → Reaches k b → Opens (λ x. is_behind true (order k x) ≡ true) b
reaches_opens k [] h = absurd h
reaches_opens k (m ∷ ms) h = h

-- what comes before a part that k reaches is below k
reaches_past : (k : Plain) (a b : List (Plain × Plain)) → AreRising (a ++ b) → Reaches k b → AllBelow k a
reaches_past k a b up h = reached_all k a b up (reaches_some k b h) (reaches_opens k b h)

reaches_below : (k : Plain) (a b : List (Plain × Plain)) → AllBelow k a → Reaches k b → Reaches k (a ++ b)
reaches_below k [] b all h = h
reaches_below k (m ∷ ms) b all h = rw (all.0) refl

-- what k reaches in a part it reaches in the whole
reaches_in : (k : Plain) (a b : List (Plain × Plain)) → AreRising (a ++ b) → Reaches k b → Reaches k (a ++ b)
reaches_in k a b up h = reaches_below k a b (reaches_past k a b up h) h

reaches_more : (k : Plain) (a b : List (Plain × Plain)) → Reaches k a → Reaches k (a ++ b)
reaches_more k [] b h = absurd h
reaches_more k (m ∷ ms) b h = h

-- where k reaches the last of three parts, it is above both others
past_two : (k : Plain) (a b c : List (Plain × Plain)) → AreRising (a ++ (b ++ c)) → Reaches k c → AllBelow k a × AllBelow k b
past_two k a b c up h =
    let all : AllBelow k (a ++ b) = reaches_past k (a ++ b) c (subst AreRising (sym (append_assoc a b c)) up) h in
    (all_front (λ x. order k x ≡ Greater) a b all, all_back (λ x. order k x ≡ Greater) a b all)

-- a key below the first of two parts, or of what follows where that is empty, is below both
opens_both : (k : Plain) (a b : List (Plain × Plain)) → OpensAbove k a → OpensAbove k b → OpensAbove k (a ++ b)
opens_both k [] b h h' = h'
opens_both k (m ∷ ms) b h h' = h

-- what came of a pair that a chunk was handed
pub put_of : (done : Bool) (fell : Fell) → fell ≡ fell_of done → is_put fell ≡ done
put_of true fell e = ap is_put e
put_of false fell e = ap is_put e

fallen_done : (k : Plain) (least : Bool) (ms : List (Plain × Plain)) (done : Bool) → (least ≡ false → Reaches k ms) → Fallen k least ms (fell_of done)
fallen_done k least ms true h = h
fallen_done k least ms false h = tt

pub fallen_of : (k : Plain) (least : Bool) (ms : List (Plain × Plain)) (done : Bool) (fell : Fell) → fell ≡ fell_of done → (least ≡ false → Reaches k ms) → Fallen k least ms fell
fallen_of k least ms done fell e h = subst (Fallen k least ms) (sym e) (fallen_done k least ms done h)

-- the size of a node whose right side is as it was
pub size_back : (new : ℕ) (l c r r' : List (Plain × Plain)) → r' ≡ r → new ≡ length (l ++ (c ++ r)) → new ≡ length (l ++ (c ++ r'))
size_back new l c r r' e is = is ∙ ap (λ t. length (l ++ (c ++ t))) (sym e)

module _ (k : Plain) {d : List (Plain × Plain) × ℕ} {n : Node} (at : IsNodeOf d n) where
  below_left : Reaches k n.chunk → AllBelow k n.left.0
  below_left h = reaches_past k n.left.0 (n.chunk ++ n.right.0) at.node.rising (reaches_more k n.chunk n.right.0 h)

  -- what is known after a look at a node is known of the side
  pub fallen_left : (least : Bool) (fell : Fell) → OpensAbove k (n.chunk ++ n.right.0) → Fallen k least n.left.0 fell → Fallen k least d.0 fell
  fallen_left least Put turn h = λ e. subst (Reaches k) (sym at.pairs) (reaches_more k n.left.0 (n.chunk ++ n.right.0) (h e))
  fallen_left least Kept turn h = tt
  fallen_left least Before turn h = subst (OpensAbove k) (sym at.pairs) (opens_both k n.left.0 (n.chunk ++ n.right.0) h turn)

  pub reached_chunk : Reaches k n.chunk → Reaches k d.0
  reached_chunk h = subst (Reaches k) (sym at.pairs) (reaches_in k n.left.0 (n.chunk ++ n.right.0) at.node.rising (reaches_more k n.chunk n.right.0 h))

  pub turn_right : Reaches k n.right.0 → AllBelow k n.left.0 × AllBelow k n.chunk
  turn_right h = past_two k n.left.0 n.chunk n.right.0 at.node.rising h

  pub turn_back : Reaches k n.chunk → OpensAbove k n.right.0 → AllBelow k n.left.0 × OpensAbove k n.right.0
  turn_back h above = (below_left h, above)

  -- the pairs of a node whose right side is as it was, and whose chunk may have been put into
  pub back_now : (v : Plain) (done : Bool) (c' r' : List (Plain × Plain)) → r' ≡ n.right.0 → AllBelow k n.left.0 × OpensAbove k n.right.0 → c' ≡ (if done then put k v n.chunk else n.chunk) → n.left.0 ++ (c' ++ r') ≡ (if done then put k v d.0 else d.0)
  back_now v done c' r' e turn is = ap (λ t. n.left.0 ++ (c' ++ t)) e ∙ here_now k v at done c' turn is
