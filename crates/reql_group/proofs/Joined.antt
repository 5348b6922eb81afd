-- One more element of a join.
use Rattle.std.proofs.Common.{◌≡◌, refl, sym, ap, arith, Bool, true, false, if◌then◌else◌, ◌&&◌, List, [], ◌∷◌, ◌++◌, map, length, append_assoc, append-nil, Ok, Err, nat_eq}
use Rattle.std.proofs.lemmas.Bool.{eq-eqb, eqb-true}
use Rattle.std.proofs.lemmas.List.{length-append}
use Rattle.reql_datum.specs.Answer.{Answer, ◌>>=◌}
use Rattle.reql_datum.specs.Plain.{Plain}
use Rattle.reql_rules.specs.Joining.{of_left, of_both, partnered, partners}
use Rattle.reql_rules.specs.Types.{truth}
use Rattle.reql_group.specs.Joined.{pairs_after, tried_after, joined_after}

-- the pair of a first right element, in front of the others or none
front_at : (b : Bool) (l r : Plain) (pairs : List Plain) (rest : Answer (List Plain))
    → ((rest >>= λ ws. Ok (if b then r ∷ ws else ws)) >>= λ ps. Ok (pairs ++ map (of_both l) ps))
    ≡ (rest >>= λ ps. Ok ((if b then pairs ++ of_both l r ∷ [] else pairs) ++ map (of_both l) ps))
front_at true l r pairs (Ok ws) = ap Ok (sym (append_assoc pairs (of_both l r ∷ []) (map (of_both l) ws)))
front_at true l r pairs (Err e) = refl
front_at false l r pairs (Ok ws) = refl
front_at false l r pairs (Err e) = refl

step_at : (a : Answer Plain) (m : Plain → Plain → Answer Plain) (l r : Plain) (rs pairs : List Plain)
    → (((a >>= λ v. Ok (truth v)) >>= λ b. partners m l rs >>= λ ws. Ok (if b then r ∷ ws else ws)) >>= λ ps. Ok (pairs ++ map (of_both l) ps))
    ≡ ((a >>= λ v. Ok (if truth v then pairs ++ of_both l r ∷ [] else pairs)) >>= pairs_after m l rs)
step_at (Ok v) m l r rs pairs = front_at (truth v) l r pairs (partners m l rs)
step_at (Err e) m l r rs pairs = refl

pub partners_step : (m : Plain → Plain → Answer Plain) (l r : Plain) (rs pairs : List Plain)
    → pairs_after m l (r ∷ rs) pairs ≡ (tried_after m l r pairs >>= pairs_after m l rs)
partners_step m l r rs pairs = step_at (m l r) m l r rs pairs

-- a left element has no partner where no pair came
grown : (l p : Plain) (ps pairs : List Plain) → nat_eq (length (pairs ++ map (of_both l) (p ∷ ps))) (length pairs) ≡ false
grown l p ps pairs = at (nat_eq (length (pairs ++ map (of_both l) (p ∷ ps))) (length pairs)) refl where
  at : (b : Bool) → nat_eq (length (pairs ++ map (of_both l) (p ∷ ps))) (length pairs) ≡ b → nat_eq (length (pairs ++ map (of_both l) (p ∷ ps))) (length pairs) ≡ false
  at true is = absurd (let e = eqb-true (length (pairs ++ map (of_both l) (p ∷ ps))) (length pairs) is in omega (arith, e, length-append pairs (map (of_both l) (p ∷ ps))))
  at false is = is

alone_at : (outer : Bool) (l : Plain) (ps pairs all : List Plain) → all ≡ pairs ++ map (of_both l) ps
    → pairs ++ partnered outer l ps ≡ (if outer && nat_eq (length all) (length pairs) then all ++ of_left l ∷ [] else all)
alone_at true l [] pairs all e = rw (e, append-nil pairs, eq-eqb (length pairs) (length pairs) refl) refl
alone_at false l [] pairs all e = sym e
alone_at true l (p ∷ ps) pairs all e = rw (e, grown l p ps pairs) refl
alone_at false l (p ∷ ps) pairs all e = sym e

pub alone_after : (outer : Bool) (m : Plain → Plain → Answer Plain) (l : Plain) (rs pairs all : List Plain) → pairs_after m l rs pairs ≡ Ok all
    → joined_after outer m l rs pairs ≡ Ok (if outer && nat_eq (length all) (length pairs) then all ++ of_left l ∷ [] else all)
alone_after outer m l rs pairs all e = after (partners m l rs) e where
  after : (a : Answer (List Plain)) → (a >>= λ ps. Ok (pairs ++ map (of_both l) ps)) ≡ Ok all
      → (a >>= λ ps. Ok (pairs ++ partnered outer l ps)) ≡ Ok (if outer && nat_eq (length all) (length pairs) then all ++ of_left l ∷ [] else all)
  after (Ok ps) is = ap Ok (alone_at outer l ps pairs all (let f : Ok (pairs ++ map (of_both l) ps) ≡ Ok all = is in cc))
  after (Err x) is = absurd (let f : Err x ≡ Ok all = is in cc)
