-- Stages over lists in any order: what they give of a list without faults is what they give of each element, in some order.
use Rattle.std.proofs.Common.{◌≡◌, ◌≤◌, List, [], ◌∷◌, ◌++◌, true, Option, Some, None, Ok, Err, refl, sym, ap, ◌∙◌, arith, append_assoc, inl, inr}
use Rattle.std.specs.Prelude.{is_ok}
use Rattle.std.specs.List.{AllByRecursion, flat_map}
use Rattle.reql_datum.specs.Answer.{Answer, Reason, ◌>>=◌}
use Rattle.reql_datum.specs.Plain.{Plain}
use Rattle.reql_term.specs.Views.{Document}
use Rattle.reql_rules.specs.Lists.{each_joined}
use Rattle.reql_bag.specs.Bag.{times}
use Rattle.reql_bag.proofs.Bags.{same_or, one_itself, one_other, times_append}
use Rattle.reql_value_spec.specs.Shapes.{answered, IsByDocument}
use Rattle.reql_value_spec.specs.Stages.{Stage, unless, staged_by}

-- one stage after the other
abbrev pub staged : List Stage → List Plain → Answer (List Plain)
staged [] xs = Ok xs
staged (s ∷ ss) xs = staged_by s xs >>= staged ss

ok_inside : (a b : List Plain) (p : Answer (List Plain)) → p ≡ Ok a → p ≡ Ok b → a ≡ b
ok_inside a b p h k = cc

not_ok : (e : Reason) (a : List Plain) (p : Answer (List Plain)) → p ≡ Err e → p ≡ Ok a → Err e ≡ Ok a
not_ok e a p h k = cc

pub ok_is : (a : Answer (List Plain)) → is_ok a ≡ true → a ≡ Ok (answered a)
ok_is (Ok vs) h = refl
ok_is (Err e) h = absurd (cc (h))

-- ---- two answers, joined
abbrev pub joined : Answer (List Plain) → Answer (List Plain) → Answer (List Plain)
joined p q = p >>= λ us. q >>= λ vs. Ok (us ++ vs)

pub record Both (p q : Answer (List Plain)) (all : List Plain) : Type 0 where
  pub left : List Plain
  pub right : List Plain
  pub gave : p ≡ Ok left
  pub gives : q ≡ Ok right
  pub is : all ≡ left ++ right

both_joined : (p q : Answer (List Plain)) (a b : List Plain) → p ≡ Ok a → q ≡ Ok b → joined p q ≡ Ok (a ++ b)
both_joined p q a b h k = rw (h, k) refl

parts_joined : (p q : Answer (List Plain)) (all : List Plain) → joined p q ≡ Ok all → Both p q all
parts_joined (Ok us) (Ok vs) all h = record { left = us; right = vs; gave = refl; gives = refl; is = cc }
parts_joined (Ok us) (Err e) all h = absurd (cc (h))
parts_joined (Err e) q all h = absurd (cc (h))

-- ---- one after the other
pub record Via (p : Answer (List Plain)) (next : List Plain → Answer (List Plain)) (all : List Plain) : Type 0 where
  pub half : List Plain
  pub gave : p ≡ Ok half
  pub gives : next half ≡ Ok all

via : (p : Answer (List Plain)) (next : List Plain → Answer (List Plain)) (all : List Plain) → (p >>= next) ≡ Ok all → Via p next all
via (Ok us) next all h = record { half = us; gave = refl; gives = h }
via (Err e) next all h = absurd (cc (h))

go_via : (p : Answer (List Plain)) (next : List Plain → Answer (List Plain)) (half all : List Plain) → p ≡ Ok half → next half ≡ Ok all → (p >>= next) ≡ Ok all
go_via p next half all h k = rw h k

-- ---- a stage over a joined list
pub each_append : (f : Plain → Answer (List Plain)) (xs ys a b : List Plain) → each_joined f xs ≡ Ok a → each_joined f ys ≡ Ok b → each_joined f (xs ++ ys) ≡ Ok (a ++ b)
each_append f [] ys a b h k = let e : [] ≡ a = ok_inside [] a (each_joined f []) refl h in rw (← e) k
each_append f (x ∷ xs) ys a b h k =
    let p = parts_joined (f x) (each_joined f xs) a h in
    let rest : each_joined f (xs ++ ys) ≡ Ok (p.right ++ b) = each_append f xs ys p.right b p.gives k in
    both_joined (f x) (each_joined f (xs ++ ys)) p.left (p.right ++ b) p.gave rest
    ∙ ap (λ t. Ok t) (sym (append_assoc p.left p.right b) ∙ ap (λ t. t ++ b) (sym p.is))

pub each_split : (f : Plain → Answer (List Plain)) (xs ys all : List Plain) → each_joined f (xs ++ ys) ≡ Ok all → Both (each_joined f xs) (each_joined f ys) all
each_split f [] ys all h = record { left = []; right = all; gave = refl; gives = h; is = refl }
each_split f (x ∷ xs) ys all h =
    let p = parts_joined (f x) (each_joined f (xs ++ ys)) all h in
    let q = each_split f xs ys p.right p.gives in
    record {
      left = p.left ++ q.left;
      right = q.right;
      gave = both_joined (f x) (each_joined f xs) p.left q.left p.gave q.gave;
      gives = q.gives;
      is = p.is ∙ ap (λ t. p.left ++ t) q.is ∙ sym (append_assoc p.left q.left q.right);
    }

-- ---- with what a stage refuses
unless_append : (o : Option Reason) (p q r : Answer (List Plain)) (a b c : List Plain) → (p ≡ Ok a → q ≡ Ok b → r ≡ Ok c) → unless o p ≡ Ok a → unless o q ≡ Ok b → unless o r ≡ Ok c
unless_append None p q r a b c on h k = on h k
unless_append (Some e) p q r a b c on h k = absurd (cc (h))

unless_split : (o : Option Reason) (p q r : Answer (List Plain)) (all : List Plain) → (r ≡ Ok all → Both p q all) → unless o r ≡ Ok all → Both (unless o p) (unless o q) all
unless_split None p q r all on h = on h
unless_split (Some e) p q r all on h = absurd (cc (h))

unless_nil : (o : Option Reason) (p : Answer (List Plain)) (a : List Plain) → unless o p ≡ Ok a → unless o (Ok []) ≡ Ok []
unless_nil None p a h = refl
unless_nil (Some e) p a h = absurd (cc (h))

pub staged_append : (fs : List Stage) (xs ys a b : List Plain) → staged fs xs ≡ Ok a → staged fs ys ≡ Ok b → staged fs (xs ++ ys) ≡ Ok (a ++ b)
staged_append [] xs ys a b h k =
    let e : xs ≡ a = ok_inside xs a (Ok xs) refl h in let g : ys ≡ b = ok_inside ys b (Ok ys) refl k in rw (e, g) refl
staged_append (f ∷ fs) xs ys a b h k =
    let p = via (unless f.refuses (each_joined f.on xs)) (staged fs) a h in
    let q = via (unless f.refuses (each_joined f.on ys)) (staged fs) b k in
    let both = unless_append f.refuses (each_joined f.on xs) (each_joined f.on ys) (each_joined f.on (xs ++ ys)) p.half q.half (p.half ++ q.half) (each_append f.on xs ys p.half q.half) p.gave q.gave in
    go_via (unless f.refuses (each_joined f.on (xs ++ ys))) (staged fs) (p.half ++ q.half) (a ++ b) both (staged_append fs p.half q.half a b p.gives q.gives)

pub staged_split : (fs : List Stage) (xs ys all : List Plain) → staged fs (xs ++ ys) ≡ Ok all → Both (staged fs xs) (staged fs ys) all
staged_split [] xs ys all h = record { left = xs; right = ys; gave = refl; gives = refl; is = sym (ok_inside (xs ++ ys) all (Ok (xs ++ ys)) refl h) }
staged_split (f ∷ fs) xs ys all h =
    let p = via (unless f.refuses (each_joined f.on (xs ++ ys))) (staged fs) all h in
    let q = unless_split f.refuses (each_joined f.on xs) (each_joined f.on ys) (each_joined f.on (xs ++ ys)) p.half (each_split f.on xs ys p.half) p.gave in
    let cut : staged fs (q.left ++ q.right) ≡ Ok all = rw q.is at p.gives in
    let r = staged_split fs q.left q.right all cut in
    record {
      left = r.left;
      right = r.right;
      gave = go_via (unless f.refuses (each_joined f.on xs)) (staged fs) q.left r.left q.gave r.gave;
      gives = go_via (unless f.refuses (each_joined f.on ys)) (staged fs) q.right r.right q.gives r.gives;
      is = r.is;
    }

-- stages that refuse nothing give nothing of nothing
pub staged_nil : (fs : List Stage) (xs all : List Plain) → staged fs xs ≡ Ok all → staged fs [] ≡ Ok []
staged_nil [] xs all h = refl
staged_nil (f ∷ fs) xs all h =
    let p = via (unless f.refuses (each_joined f.on xs)) (staged fs) all h in
    go_via (unless f.refuses (Ok [])) (staged fs) [] [] (unless_nil f.refuses (each_joined f.on xs) p.half p.gave) (staged_nil fs p.half all p.gives)

nothing_at : (o : Option Reason) (next : List Plain → Answer (List Plain)) → answered (next []) ≡ [] → answered (unless o (Ok []) >>= next) ≡ []
nothing_at None next h = h
nothing_at (Some e) next h = refl

pub nothing_staged : (fs : List Stage) → answered (staged fs []) ≡ []
nothing_staged [] = refl
nothing_staged (f ∷ fs) = nothing_at f.refuses (staged fs) (nothing_staged fs)

-- ---- in any order
pub record Taken (x : Plain) (ys : List Plain) : Type 0 where
  pub front : List Plain
  pub back : List Plain
  pub is : ys ≡ front ++ x ∷ back

pub taken : (x : Plain) (ys : List Plain) → 1 ≤ times x ys → Taken x ys
taken x [] h = absurd (omega arith)
taken x (y ∷ ys) h =
    elim (same_or x y) [
      | inl e ↦ record { front = []; back = ys; is = rw e refl }
      | inr ne ↦
          (let t = taken x ys (omega (arith, one_other x y ne, h)) in record { front = y ∷ t.front; back = t.back; is = ap (λ l. y ∷ l) t.is })
    ]

-- what stages give of a list with the counts of another
pub record Gave (fs : List Stage) (xs all : List Plain) : Type 0 where
  pub mine : List Plain
  pub gave : staged fs xs ≡ Ok mine
  pub counts : (v : Plain) → times v mine ≡ times v all

none_is_nil : (ys : List Plain) → ((v : Plain) → times v [] ≡ times v ys) → [] ≡ ys
none_is_nil [] h = refl
none_is_nil (y ∷ ys) h = absurd (omega (arith, h y, one_itself y))

pub any_order : (fs : List Stage) (xs ys all : List Plain) → ((v : Plain) → times v xs ≡ times v ys) → staged fs ys ≡ Ok all → Gave fs xs all
any_order fs [] ys all h k = record { mine = all; gave = rw (none_is_nil ys h) k; counts = λ v. refl }
any_order fs (x ∷ xs) ys all h k =
    let t = taken x ys (omega (arith, h x, one_itself x)) in
    let cut : staged fs (t.front ++ x ∷ t.back) ≡ Ok all = rw t.is at k in
    let p = staged_split fs t.front (x ∷ t.back) all cut in
    let q = staged_split fs (x ∷ []) t.back p.right p.gives in
    let rest : staged fs (t.front ++ t.back) ≡ Ok (p.left ++ q.right) = staged_append fs t.front t.back p.left q.right p.gave q.gives in
    let counts : (v : Plain) → times v xs ≡ times v (t.front ++ t.back) =
    λ v. omega (arith, h v, ap (times v) t.is, times_append v t.front (x ∷ t.back), times_append v t.front t.back) in
    let g = any_order fs xs (t.front ++ t.back) (p.left ++ q.right) counts rest in
    record {
      mine = q.left ++ g.mine;
      gave = staged_append fs (x ∷ []) xs q.left g.mine q.gave g.gave;
      counts = λ v. omega (arith, times_append v q.left g.mine, g.counts v, times_append v p.left q.right, ap (times v) p.is, times_append v p.left p.right, ap (times v) q.is, times_append v q.left q.right);
    }

-- ---- document by document
-- a source gives over a table, in some order, what it gives of each document by itself
abbrev pub IsScattered : (List Document → List Plain) → Type 0
IsScattered source = (docs : List Document) (v : Plain) → times v (source docs) ≡ times v (flat_map (λ m. source (m ∷ [])) docs)

by_pieces : (fs : List Stage) (source : List Document → List Plain) → staged fs [] ≡ Ok [] → (docs : List Document) → AllByRecursion (λ m. is_ok (staged fs (source (m ∷ []))) ≡ true) docs
    → staged fs (flat_map (λ m. source (m ∷ [])) docs) ≡ Ok (flat_map (λ m. answered (staged fs (source (m ∷ [])))) docs)
by_pieces fs source nil [] all = nil
by_pieces fs source nil (d ∷ ds) all =
    staged_append fs (source (d ∷ [])) (flat_map (λ m. source (m ∷ [])) ds) (answered (staged fs (source (d ∷ [])))) (flat_map (λ m. answered (staged fs (source (m ∷ [])))) ds)
    (ok_is (staged fs (source (d ∷ []))) all.0) (by_pieces fs source nil ds all.1)

pub scattered_by_document : (fs : List Stage) (source : List Document → List Plain) → IsScattered source → IsByDocument (λ docs. staged fs (source docs))
scattered_by_document fs source by [] all v =
    let none : [] ≡ source [] = none_is_nil (source []) (λ u. sym (by [] u)) in
    ap (λ t. times v (answered (staged fs t))) (sym none) ∙ ap (times v) (nothing_staged fs)
scattered_by_document fs source by (d ∷ ds) all v =
    let nil : staged fs [] ≡ Ok [] = staged_nil fs (source (d ∷ [])) (answered (staged fs (source (d ∷ [])))) (ok_is (staged fs (source (d ∷ []))) all.0) in
    let pieces = by_pieces fs source nil (d ∷ ds) all in
    let g = any_order fs (source (d ∷ ds)) (flat_map (λ m. source (m ∷ [])) (d ∷ ds)) (flat_map (λ m. answered (staged fs (source (m ∷ [])))) (d ∷ ds)) (by (d ∷ ds)) pieces in
    ap (λ t. times v (answered t)) g.gave ∙ g.counts v
