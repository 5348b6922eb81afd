use Rattle.std.proofs.Common.{◌≡◌, ℕ, ◌+◌, ◌-◌, ◌^◌, ◌<◌, min, zero-add, ◌≤◌, zero, suc, List, [], ◌++◌, Option, Some, None, Bool, refl, sym, ap, ◌∙◌, append_assoc, append-nil, arith, add-zero, subst, length, take, drop, length-drop}
use Rattle.std.proofs.lemmas.List.{take-append-drop, length-take-le}
use Rattle.std.proofs.Math.Seq.{take-length, take-append-add}
use Rattle.reql_outside.specs.Tape.{Tape, grown, counted, Moves, recv_failed, send_failed}

-- nothing further
pub still : (bytes : Option (List ℕ)) → bytes ≡ grown bytes []
still None = refl
still (Some bytes) = ap Some (sym (append-nil bytes))

pub grown_twice : (bytes : Option (List ℕ)) (a b : List ℕ) → grown (grown bytes a) b ≡ grown bytes (a ++ b)
grown_twice None a b = refl
grown_twice (Some bytes) a b = ap Some (append_assoc bytes a b)

pub counted_some : (old n : ℕ) → 0 < n → counted old n ≡ min (old + n) (2 ^ 64 - 1)
counted_some old zero h = absurd (omega arith)
counted_some old (suc n) h = refl

pub counted_twice : (old m n : ℕ) → counted (counted old m) n ≡ counted old (m + n)
counted_twice old zero n = rw (zero-add n) refl
counted_twice old (suc m) zero = rw (add-zero (suc m)) refl
counted_twice old (suc m) (suc n) = omega (arith, counted_some old (suc m + suc n) (omega arith))

pub moves_on : (a b c : Tape) (h s h' s' : List ℕ) (i j : ℕ) (o o' : Bool) → Moves a b h s i o → Moves b c h' s' j o' → Moves a c (h ++ h') (s ++ s') (i + j) o'
moves_on a b c h s h' s' i j o o' p q = record {
  given = q.given ∙ ap (λ x. grown x h') p.given ∙ grown_twice a.given h h';
  sent = q.sent ∙ ap (λ x. grown x s') p.sent ∙ grown_twice a.sent s s';
  idle = q.idle ∙ ap (λ x. counted x j) p.idle ∙ counted_twice a.idles i j;
  ended = q.ended;
  faults_in = q.faults_in ∙ p.faults_in;
  faults_out = q.faults_out ∙ p.faults_out;
}

-- a fault that comes after a move is a fault before it
pub recv_failed_first : (a b : Tape) (h s : List ℕ) (i : ℕ) (o : Bool) → Moves a b h s i o → Moves (recv_failed a) (recv_failed b) h s i o
recv_failed_first a b h s i o p = record {
  given = p.given;
  sent = p.sent;
  idle = p.idle;
  ended = p.ended;
  faults_in = ap (λ n. counted n 1) p.faults_in;
  faults_out = p.faults_out;
}

pub send_failed_first : (a b : Tape) (h s : List ℕ) (i : ℕ) (o : Bool) → Moves a b h s i o → Moves (send_failed a) (send_failed b) h s i o
send_failed_first a b h s i o p = record {
  given = p.given;
  sent = p.sent;
  idle = p.idle;
  ended = p.ended;
  faults_in = p.faults_in;
  faults_out = ap (λ n. counted n 1) p.faults_out;
}

pub moves_next : (a b c : Tape) (h s h' s' : List ℕ) (i j : ℕ) → Moves a b h s i a.over → Moves b c h' s' j b.over → Moves a c (h ++ h') (s ++ s') (i + j) a.over
moves_next a b c h s h' s' i j p q = subst (λ o. Moves a c (h ++ h') (s ++ s') (i + j) o) p.ended (moves_on a b c h s h' s' i j a.over b.over p q)

pub rest_whole : (p : List ℕ) (k : ℕ) → take (length p - k) (drop k p) ≡ drop k p
rest_whole p k = rw (← length-drop k p) (take-length (drop k p))

pub take_further : (p : List ℕ) (k n : ℕ) → k ≤ length p → take k p ++ take n (drop k p) ≡ take (k + n) p
take_further p k n h =
    let e : length (take k p) ≡ k = length-take-le k p h in
    sym (ap (λ x. take (k + n) x) (sym (take-append-drop k p)) ∙ subst (λ j. take (j + n) (take k p ++ drop k p) ≡ take k p ++ take n (drop k p)) e (take-append-add (take k p) (drop k p) n))

-- one send more of a piece
pub sent_more : (a b c : Tape) (p : List ℕ) (k n : ℕ) → k ≤ length p → Moves a b [] (take k p) 0 a.over → Moves b c [] (take n (take (length p - k) (drop k p))) 0 b.over → Moves a c [] (take (k + n) p) 0 a.over
sent_more a b c p k n h x y =
    let z : Moves a c [] (take k p ++ take n (take (length p - k) (drop k p))) 0 a.over = moves_next a b c [] (take k p) [] (take n (take (length p - k) (drop k p))) 0 0 x y in
    subst (λ s. Moves a c [] s 0 a.over) (ap (λ q. take k p ++ take n q) (rest_whole p k) ∙ take_further p k n h) z

-- nothing more
pub and_nothing : (a b c : Tape) (h s : List ℕ) (i : ℕ) → Moves a b h s i a.over → Moves b c [] [] 0 b.over → Moves a c h s i a.over
and_nothing a b c h s i x y = subst (λ t. Moves a c t s i a.over) (append-nil h) (subst (λ t. Moves a c (h ++ []) t i a.over) (append-nil s) (subst (λ j. Moves a c (h ++ []) (s ++ []) j a.over) (add-zero i) (moves_next a b c h s [] [] i 0 x y)))
