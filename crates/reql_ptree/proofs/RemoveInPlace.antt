-- What holds of a chunk and of a node after a key left where it stands.
use Rattle.std.proofs.Common.{◌≡◌, ℕ, zero, suc, ◌+◌, ◌-◌, ◌<◌, ◌≤◌, List, [], ◌∷◌, ◌++◌, length, length-append, get_or, map, Bool, true, false, nat_lt, cond, is_eq, if◌then◌else◌, sym, ap, ◌∙◌, subst, arith}
use Rattle.std.specs.List.{remove}
use Rattle.std.specs.Map.{keys_of}
use Rattle.std.proofs.lemmas.List.{length-map}
use Rattle.reql_datum.specs.Plain.{Plain}
use Rattle.reql_datum.specs.Order.{order}
use Rattle.reql_datum.specs.Total.{order_total}
use Rattle.reql_memory.specs.Sorted.{IsHitBy}
use Rattle.reql_datum.specs.View.{plain}
use Rattle.reql_memory.proofs.Sorted.{rising_without}
use Rattle.reql_memory.proofs.Held.{held_remove}
use Rattle.reql_ptree.specs.Chunk.{pair, IsChunk, IsHeld}
use Rattle.reql_ptree.specs.Pairs.{AreRising, Opens, without}
use Rattle.reql_ptree.specs.declared.chunk.Pair.{Pair}
use Rattle.reql_ptree.specs.Side.{IsNode, IsNodeOf}
use Rattle.reql_ptree.specs.Tall.{least}
use Rattle.reql_ptree.specs.Turn.{AllBelow, OpensAbove}
use Rattle.reql_ptree.proofs.Changed.{without_in_left, without_in_right}
use Rattle.reql_ptree.proofs.Turns.{without_chunk}
use Rattle.reql_ptree.specs.declared.side.Node.{Node}

pub dropped : (rs new : List Pair) (i : ℕ) (k : Plain) → IsHitBy order (keys_of (map pair rs)) k i → new ≡ remove rs i → map pair new ≡ without k (map pair rs)
dropped rs new i k hit is = ap (map pair) is ∙ held_remove order order_total pair rs k i hit

pub length_remove : {A : Type 0} (xs : List A) (i : ℕ) → i < length xs → length (remove xs i) + 1 ≡ length xs
length_remove [] i l = absurd (omega arith)
length_remove (x ∷ xs) zero l = omega arith
length_remove (x ∷ xs) (suc i) l = omega (arith, length_remove xs i (omega arith))

module _ (f k : Plain) where
  opens_later : (ms : List (Plain × Plain)) (i : ℕ) → 0 < i → IsHitBy order (keys_of ms) k i → Opens (λ x. x ≡ f) ms → Opens (λ x. x ≡ f) (without k ms)
  opens_later [] i some hit h = absurd hit
  opens_later (m ∷ ms) zero some hit h = absurd (omega arith)
  opens_later (m ∷ ms) (suc i) some hit h = rw hit.0 h

pub has_two : (n : ℕ) → true ≡ nat_lt 1 n → 1 < n
has_two zero h = absurd (cc)
has_two (suc zero) h = absurd (cc)
has_two (suc (suc n)) h = omega arith

opens_next : (k : Plain) (rs : List Pair) (x : Pair) → 1 < length rs → x ≡ get_or rs 1 x → IsHitBy order (keys_of (map pair rs)) k 0 → Opens (λ t. t ≡ plain x.key) (without k (map pair rs))
opens_next k [] x two is hit = absurd hit
opens_next k (r ∷ []) x two is hit = absurd (omega arith)
opens_next k (r ∷ s ∷ rs) x two is hit = let e : x ≡ s = is in rw hit (ap (λ (p : Pair). plain p.key) (sym e))

module _ (k : Plain) (rs new : List Pair) (is : IsChunk (map pair rs)) (two : 1 < length rs) (e : map pair new ≡ without k (map pair rs)) (one : length new + 1 ≡ length rs) where
  chunk_left : IsChunk (map pair new)
  chunk_left =
      record {
        rising = subst AreRising (sym e) (rising_without order order_total k (map pair rs) is.rising);
        some = omega (arith, length-map new pair);
        few = omega (arith, is.few, length-map rs pair, length-map new pair);
      }

  pub held_later : (f : Plain) (i : ℕ) → Opens (λ x. x ≡ f) (map pair rs) → 0 < i → IsHitBy order (keys_of (map pair rs)) k i → IsHeld f (map pair new)
  held_later f i h some hit = record { chunk = chunk_left; first_is = subst (Opens (λ x. x ≡ f)) (sym e) (opens_later f k (map pair rs) i some hit h) }

  pub held_next : (x : Pair) → x ≡ get_or rs 1 x → IsHitBy order (keys_of (map pair rs)) k 0 → IsHeld (plain x.key) (map pair new)
  held_next x there hit = record { chunk = chunk_left; first_is = subst (Opens (λ t. t ≡ plain x.key)) (sym e) (opens_next k rs x two there hit) }

shorter_at : (b : Bool) (m : Plain × Plain) (ms rest : List (Plain × Plain)) → length rest ≤ length ms → length (cond b ms (m ∷ rest)) ≤ suc (length ms)
shorter_at true m ms rest h = omega arith
shorter_at false m ms rest h = omega (arith, h)

fewer : (k : Plain) (ms : List (Plain × Plain)) → length (without k ms) ≤ length ms
fewer k [] = omega arith
fewer k (m ∷ ms) = shorter_at (is_eq (order k m.0)) m ms (without k ms) (fewer k ms)

pub shorter : (k : Plain) (done : Bool) (l' l : List (Plain × Plain)) → l' ≡ (if done then without k l else l) → length l' ≤ length l
shorter k true l' l e = rw e (fewer k l)
shorter k false l' l e = rw e (omega arith)

module _ (k : Plain) {d : List (Plain × Plain) × ℕ} {n : Node} (at : IsNodeOf d n) where
  pub left_out : (done : Bool) (l' : List (Plain × Plain)) → OpensAbove k (n.chunk ++ n.right.0) → l' ≡ (if done then without k n.left.0 else n.left.0) → l' ++ (n.chunk ++ n.right.0) ≡ (if done then without k d.0 else d.0)
  left_out true l' turn e = ap (λ t. t ++ (n.chunk ++ n.right.0)) e ∙ without_in_left k at turn
  left_out false l' turn e = ap (λ t. t ++ (n.chunk ++ n.right.0)) e ∙ sym at.pairs

  pub right_out : (done : Bool) (r' : List (Plain × Plain)) → AllBelow k n.left.0 × AllBelow k n.chunk → r' ≡ (if done then without k n.right.0 else n.right.0) → n.left.0 ++ (n.chunk ++ r') ≡ (if done then without k d.0 else d.0)
  right_out true r' turn e = ap (λ t. n.left.0 ++ (n.chunk ++ t)) e ∙ without_in_right k at turn
  right_out false r' turn e = ap (λ t. n.left.0 ++ (n.chunk ++ t)) e ∙ sym at.pairs

  pub here_out : (done : Bool) (c' : List (Plain × Plain)) → AllBelow k n.left.0 × OpensAbove k n.right.0 → c' ≡ (if done then without k n.chunk else n.chunk) → n.left.0 ++ (c' ++ n.right.0) ≡ (if done then without k d.0 else d.0)
  here_out true c' turn e = ap (λ t. n.left.0 ++ (t ++ n.right.0)) e ∙ (sym (without_chunk k n.left.0 n.chunk n.right.0 at.node.rising turn) ∙ ap (without k) (sym at.pairs))
  here_out false c' turn e = ap (λ t. n.left.0 ++ (t ++ n.right.0)) e ∙ sym at.pairs

  rising_out : (done : Bool) → AreRising (if done then without k d.0 else d.0)
  rising_out true = rising_without order order_total k d.0 (subst AreRising (sym at.pairs) at.node.rising)
  rising_out false = subst AreRising (sym at.pairs) at.node.rising

  -- a node from whose list a key is left out, and whose parts are as long as their heights need, is a node still
  pub node_out : (done : Bool) (l c r : List (Plain × Plain)) (lh rh : ℕ) → l ++ (c ++ r) ≡ (if done then without k d.0 else d.0) → IsChunk c → lh ≡ n.left.1 → rh ≡ n.right.1 → least n.left.1 ≤ length l → least n.right.1 ≤ length r
      → IsNode l c r lh rh d.1
  node_out done l c r lh rh e is a b grown grown' =
      rw (a, b) (record {
        rising = subst AreRising (sym e) (rising_out done);
        chunk_is = is;
        high = at.node.high;
        even = at.node.even;
        left_grown = grown;
        right_grown = grown';
      })

-- a size where a part gets no longer
module _ {d : List (Plain × Plain) × ℕ} {n : Node} (at : IsNodeOf d n) (size before after : ℕ) (is : size ≡ length d.0) (fits : size < 18446744073709551616) where
  whole : length d.0 ≡ length n.left.0 + length n.chunk + length n.right.0
  whole = omega (arith, ap length at.pairs, length-append n.left.0 (n.chunk ++ n.right.0), length-append n.chunk n.right.0)

  pub fits_left : before ≡ length n.left.0 → after ≤ length n.left.0 → size - before + after < 18446744073709551616
  fits_left b a = omega (arith, whole, is, b, a, fits)

  pub fits_chunk : before ≡ length n.chunk → after ≤ length n.chunk → size - before + after < 18446744073709551616
  fits_chunk b a = omega (arith, whole, is, b, a, fits)

  pub fits_right : before ≡ length n.right.0 → after ≤ length n.right.0 → size - before + after < 18446744073709551616
  fits_right b a = omega (arith, whole, is, b, a, fits)
