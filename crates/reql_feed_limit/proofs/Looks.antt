-- What a look at a tree finds is the first of the pairs that lie that way.
use Rattle.std.proofs.Common.{◌≡◌, List, [], ◌∷◌, reverse, Bool, true, false, not, cond, Option, Some, Ordering, Less, Equal, Greater, refl, sym, ap, ◌∙◌}
use Rattle.std.specs.Prelude.{find}
use Rattle.std.specs.List.{filter}
use Rattle.std.specs.Ordering.{is_lt, is_le, ordering_reverse}
use Rattle.reql_datum.specs.Order.{order}
use Rattle.reql_datum.specs.Plain.{Plain}
use Rattle.reql_datum.specs.Total.{order_total}
use Rattle.reql_ptree.specs.Next.{is_behind, behind, next_of, prev_of}
use Rattle.reql_feed_limit.specs.Boundary.{first_of}
use Rattle.reql_feed_limit.specs.Bounds.{before}
use Rattle.reql_feed_limit.specs.Tree.{next_in, prev_in}

find_at : {X : Type 0} (b : Bool) (x : X) (rest : Option X) (ys : List X) → rest ≡ first_of ys → cond b (Some x) rest ≡ first_of (cond b (x ∷ ys) ys)
find_at true x rest ys h = refl
find_at false x rest ys h = h

find_is : {X : Type 0} (p : X → Bool) (xs : List X) → find p xs ≡ first_of (filter p xs)
find_is p [] = refl
find_is p (x ∷ xs) = find_at (p x) x (find p xs) (filter p xs) (find_is p xs)

pub filter_same : {X : Type 0} (p q : X → Bool) (xs : List X) → ((x : X) → p x ≡ q x) → filter p xs ≡ filter q xs
filter_same p q [] h = refl
filter_same p q (x ∷ xs) h = rw (h x, filter_same p q xs h) refl

above_open : (o : Ordering) → not (is_behind true o) ≡ is_lt o
above_open Less = refl
above_open Equal = refl
above_open Greater = refl

above_closed : (o : Ordering) → not (is_behind false o) ≡ is_le o
above_closed Less = refl
above_closed Equal = refl
above_closed Greater = refl

below_open : (o : Ordering) → is_behind false o ≡ is_lt (ordering_reverse o)
below_open Less = refl
below_open Equal = refl
below_open Greater = refl

below_closed : (o : Ordering) → is_behind true o ≡ is_le (ordering_reverse o)
below_closed Less = refl
below_closed Equal = refl
below_closed Greater = refl

starts : (past : Bool) (k : Plain) (m : Plain × Plain) → not (behind k past m) ≡ before past k m.0
starts true k m = above_open (order k m.0)
starts false k m = above_closed (order k m.0)

ends : (past : Bool) (k : Plain) (m : Plain × Plain) → behind k (not past) m ≡ before past m.0 k
ends true k m = below_open (order k m.0) ∙ ap is_lt (sym (order_total.antisymm m.0 k))
ends false k m = below_closed (order k m.0) ∙ ap is_le (sym (order_total.antisymm m.0 k))

pub next_is : (k : Plain) (past : Bool) (ms : List (Plain × Plain)) → next_of k past ms ≡ next_in past k ms
next_is k past ms = find_is (λ m. not (behind k past m)) ms ∙ ap first_of (filter_same (λ m. not (behind k past m)) (λ (m : Plain × Plain). before past k m.0) ms (starts past k))

pub prev_is : (k : Plain) (past : Bool) (ms : List (Plain × Plain)) → prev_of k past ms ≡ prev_in past k ms
prev_is k past ms = find_is (behind k (not past)) (reverse ms) ∙ ap first_of (filter_same (behind k (not past)) (λ (m : Plain × Plain). before past m.0 k) (reverse ms) (ends past k))
