-- Arithmetic on arguments is arithmetic on the plain values that they are, once each is of the type that is wanted.
use Rattle.std.proofs.Common.{◌≡◌, refl, sym, ap, ◌∙◌, ℤ, List, [], ◌∷◌, map, Bool, true, false, ◌++◌, Option, Some, None, option_and_then, Ok, Err, codes}
use Rattle.reql_datum.specs.Answer.{Answer, ◌>>=◌}
use Rattle.reql_datum.specs.Plain.{Plain, low, array, boolean, null, number, object, binary, time, text, high, Plains, listed}
use Rattle.reql_datum.proofs.Back.{listed_back}
use Rattle.reql_rules.specs.Lists.{Bytes, array_of, each, joined}
use Rattle.reql_rules.specs.Numbers as n
use Rattle.reql_rules.specs.Numbers.{Step, plus, minus, times, arith_of, arith}
use Rattle.reql_datum.specs.Arithmetic.{remainder, quotient}
use Rattle.reql_rules.specs.Types as types
use Rattle.reql_rules.specs.declared.words.Arith.{Arith}
use Rattle.reql_rules.specs.declared.words.Arith.TheVariants.{Add, Sub, Mul, Div, Mod}
use Rattle.reql_value_spec.specs.Meant.{Given, meant_of}
use Rattle.reql_value_spec.specs.Scalars.{time_in}
use Rattle.reql_value_spec.specs.Wanted.{wrong, seen, as_number, as_text, as_array}
use Rattle.reql_apply_scalar.specs.declared.adding.Want.{Want}
use Rattle.reql_apply_scalar.specs.declared.adding.Want.TheVariants.{Numbers, Texts, Arrays, OneTime, TwoTimes}
use Rattle.reql_apply_scalar.specs.Operands.{added_to, taken_from, want_of, after, timed, operand, operands, on_operands}

-- steps of answers
module _ {A B C : Type 0} where
  pub joined_step : (r : Answer A) (f : A → Answer B) (k : B → Answer C) → ((r >>= f) >>= k) ≡ (r >>= λ x. (f x >>= k))
  joined_step (Ok x) f k = refl
  joined_step (Err e) f k = refl

-- arguments of one type
module _ {A : Type 0} (want : Want) (wants : Given → Answer A) (back : Plain → Answer A) (make : A → Plain)
    (is : (g : Given) → operand want g ≡ (wants g >>= λ x. Ok (make x))) (stays : (x : A) → after want (make x) ≡ want) (again : (x : A) → back (make x) ≡ Ok x) where
  step : (r : Answer A) (s : Answer (List A)) (t : Answer (List Plain)) → t ≡ (s >>= λ xs. Ok (map make xs))
      → ((r >>= λ x. Ok (make x)) >>= λ d. (t >>= λ ds. Ok (d ∷ ds))) ≡ ((r >>= λ x. (s >>= λ xs. Ok (x ∷ xs))) >>= λ xs. Ok (map make xs))
  step (Err e) s t h = refl
  step (Ok x) (Err e) t h = rw h refl
  step (Ok x) (Ok xs) t h = rw h refl

  on_step : (r : Answer A) (gs : List Given) → ((r >>= λ x. Ok (make x)) >>= λ d. (operands (after want d) gs >>= λ ds. Ok (d ∷ ds))) ≡ ((r >>= λ x. Ok (make x)) >>= λ d. (operands want gs >>= λ ds. Ok (d ∷ ds)))
  on_step (Err e) gs = refl
  on_step (Ok x) gs = ap (λ w. operands w gs >>= λ ds. Ok (make x ∷ ds)) (stays x)

  pub made : (gs : List Given) → operands want gs ≡ (each wants gs >>= λ xs. Ok (map make xs))
  made [] = refl
  made (g ∷ gs) =
      ap (λ r. r >>= λ d. (operands (after want d) gs >>= λ ds. Ok (d ∷ ds))) (is g)
      ∙ on_step (wants g) gs ∙ step (wants g) (each wants gs) (operands want gs) (made gs)

  pub read_again : (xs : List A) → each back (map make xs) ≡ Ok xs
  read_again [] = refl
  read_again (x ∷ xs) = ap (λ r. r >>= λ y. (each back (map make xs) >>= λ ys. Ok (y ∷ ys))) (again x) ∙ ap (λ r. r >>= λ ys. Ok (x ∷ ys)) (read_again xs)

  read_on : (r : Answer (List A)) (k : List A → Answer Plain) → (r >>= k) ≡ ((r >>= λ xs. Ok (map make xs)) >>= λ ds. (each back ds >>= k))
  read_on (Err e) k = refl
  read_on (Ok xs) k = ap (λ r. r >>= k) (sym (read_again xs))

  pub same_each : (gs : List Given) (k : List A → Answer Plain) → (each wants gs >>= k) ≡ (operands want gs >>= λ ds. (each back ds >>= k))
  same_each gs k = read_on (each wants gs) k ∙ ap (λ r. r >>= λ ds. (each back ds >>= k)) (sym (made gs))

-- numbers
numbers_each : (gs : List Given) (k : List ℤ → Answer Plain) → (each as_number gs >>= k) ≡ (operands Numbers gs >>= λ ds. (each types.as_number ds >>= k))
numbers_each = same_each Numbers as_number types.as_number number (λ g. refl) (λ x. refl) (λ x. refl)

texts_each : (gs : List Given) (k : List Bytes → Answer Plain) → (each as_text gs >>= k) ≡ (operands Texts gs >>= λ ds. (each types.as_text ds >>= k))
texts_each = same_each Texts as_text types.as_text text (λ g. refl) (λ x. refl) (λ x. refl)

arrays_each : (gs : List Given) (k : List (List Plain) → Answer Plain) → (each as_array gs >>= k) ≡ (operands Arrays gs >>= λ ds. (each types.as_items ds >>= k))
arrays_each = same_each Arrays as_array types.as_items array_of (λ g. refl) (λ x. refl) (λ vs. ap Ok (listed_back vs))

-- of the first argument, and of those after it
first_step : (d : Plain) (r : Answer (List Plain)) (k : List Plain → Answer Plain) → ((r >>= λ ds. Ok (d ∷ ds)) >>= k) ≡ (r >>= λ ds. k (d ∷ ds))
first_step d r k = joined_step r (λ ds. Ok (d ∷ ds)) k

-- f is arithmetic by numbers where the first is a number
module _ (f : List Plain → Answer Plain) (op : Step) (is : (m : ℤ) (ds : List Plain) → f (number m ∷ ds) ≡ n.by_numbers Some types.as_number types.as_text types.as_items op (number m ∷ ds)) where
  numbers_rest : (m : ℤ) (r : Answer (List ℤ)) (t : Answer (List Plain)) → t ≡ (r >>= λ ms. Ok (map number ms))
      → ((r >>= λ ms. Ok (m ∷ ms)) >>= λ ns. (n.run_all op ns >>= λ k. Ok (number k))) ≡ ((t >>= λ ds. Ok (number m ∷ ds)) >>= f)
  numbers_rest m (Err e) t h = rw h refl
  numbers_rest m (Ok ms) t h =
      let again : each types.as_number (map number ms) ≡ Ok ms = read_again Numbers as_number types.as_number number (λ g. refl) (λ x. refl) (λ x. refl) ms in
      rw h (sym (is m (map number ms) ∙ ap (λ r. ((r >>= λ ys. Ok (m ∷ ys)) >>= λ ns. (n.run_all op ns >>= λ k. Ok (number k)))) again))

  numbers_from : (r : Answer ℤ) (gs : List Given)
      → ((r >>= λ m. (each as_number gs >>= λ ms. Ok (m ∷ ms))) >>= λ ns. (n.run_all op ns >>= λ k. Ok (number k)))
      ≡ (((r >>= λ m. Ok (number m)) >>= λ d. (operands (after Numbers d) gs >>= λ ds. Ok (d ∷ ds))) >>= f)
  numbers_from (Err e) gs = refl
  numbers_from (Ok m) gs = numbers_rest m (each as_number gs) (operands Numbers gs) (made Numbers as_number types.as_number number (λ g. refl) (λ x. refl) (λ x. refl) gs)

  by_numbers_first : (g : Given) (gs : List Given) → n.by_numbers seen as_number as_text as_array op (g ∷ gs) ≡ (operands Numbers (g ∷ gs) >>= f)
  by_numbers_first g gs = numbers_from (as_number g) gs

-- ADD
text_is : (g : Given) (s : Bytes) → seen g ≡ Some (text s) → as_text g ≡ Ok s
text_is g s h = ap (λ v. types.wanted (wrong (codes "STRING") (meant_of g)) (option_and_then types.text_in v)) h

array_is : (g : Given) (us : Plains) → seen g ≡ Some (array us) → as_array g ≡ Ok (listed us)
array_is g us h = ap (λ v. types.wanted (wrong (codes "ARRAY") (meant_of g)) (option_and_then types.items_in v)) h

adds : (g : Given) (gs : List Given) → n.by_numbers seen as_number as_text as_array plus (g ∷ gs) ≡ (operands Numbers (g ∷ gs) >>= arith Add)
adds = by_numbers_first (arith Add) plus (λ m ds. refl)

add_same : (v : Option Plain) (g : Given) (gs : List Given) → seen g ≡ v → n.add_to seen as_number as_text as_array v g gs ≡ (operands (added_to v) (g ∷ gs) >>= arith Add)
add_same (Some (text s)) g gs h =
    texts_each gs (λ ts. Ok (text (s ++ joined ts))) ∙ sym (first_step (text s) (operands Texts gs) (arith Add))
    ∙ sym (ap (λ r. ((r >>= λ s. Ok (text s)) >>= λ d. (operands (after Texts d) gs >>= λ ds. Ok (d ∷ ds))) >>= arith Add) (text_is g s h))
add_same (Some (array us)) g gs h =
    arrays_each gs (λ ls. Ok (array_of (listed us ++ joined ls)))
    ∙ ap (λ vs. operands Arrays gs >>= λ ds. (each types.as_items ds >>= λ ls. Ok (array_of (vs ++ joined ls)))) (sym (listed_back (listed us)))
    ∙ sym (first_step (array_of (listed us)) (operands Arrays gs) (arith Add))
    ∙ sym (ap (λ r. ((r >>= λ vs. Ok (array_of vs)) >>= λ d. (operands (after Arrays d) gs >>= λ ds. Ok (d ∷ ds))) >>= arith Add) (array_is g us h))
add_same (Some (time t)) g gs h =
    numbers_each gs (λ ns. (n.run plus t.0 ns >>= λ m. Ok (time (m, t.1)))) ∙ sym (first_step (time t) (operands Numbers gs) (arith Add))
    ∙ sym (ap (λ v. (timed (option_and_then time_in v) (as_number g) >>= λ d. (operands (after OneTime d) gs >>= λ ds. Ok (d ∷ ds))) >>= arith Add) h)
add_same (Some low) g gs h = adds g gs
add_same (Some (boolean b)) g gs h = adds g gs
add_same (Some null) g gs h = adds g gs
add_same (Some (number m)) g gs h = adds g gs
add_same (Some (object ms)) g gs h = adds g gs
add_same (Some (binary s)) g gs h = adds g gs
add_same (Some high) g gs h = adds g gs
add_same None g gs h = adds g gs

-- SUB
abbrev plainly : ℤ → Answer (Bool × ℤ)
plainly m = Ok (false, m)

abbrev timed_seconds : Option (ℤ × ℤ) → Answer ℤ → Answer (Bool × ℤ)
timed_seconds (Some t) a = Ok (false, t.0)
timed_seconds None a = a >>= λ m. Ok (true, m)

seconds_as : (g : Given) (v : Option Plain) → n.seconds_in seen as_number as_text as_array true g v ≡ timed_seconds (option_and_then time_in v) (as_number g)
seconds_as g (Some (time t)) = refl
seconds_as g (Some low) = refl
seconds_as g (Some (array vs)) = refl
seconds_as g (Some (boolean b)) = refl
seconds_as g (Some null) = refl
seconds_as g (Some (number m)) = refl
seconds_as g (Some (object ms)) = refl
seconds_as g (Some (binary s)) = refl
seconds_as g (Some (text s)) = refl
seconds_as g (Some high) = refl
seconds_as g None = refl

abbrev taken_of : Bool → List Plain → Answer (Bool × List ℤ)
taken_of b ds = n.taken Some types.as_number types.as_text types.as_items b ds

abbrev taken_on : ℤ → Bool × List ℤ → Answer (Bool × List ℤ)
taken_on x rest = Ok (rest.0, x ∷ rest.1)

cons_taken : (b c : Bool) (d : Plain) (x : ℤ) → ((ds : List Plain) → taken_of b (d ∷ ds) ≡ (taken_of c ds >>= taken_on x)) → (a : Answer (Bool × List ℤ)) (t : Answer (List Plain)) → a ≡ (t >>= taken_of c)
    → (a >>= taken_on x) ≡ ((t >>= λ ds. Ok (d ∷ ds)) >>= taken_of b)
cons_taken b c d x is a (Err e) h = rw h refl
cons_taken b c d x is a (Ok ds) h = rw h (sym (is ds))

taken_steps : (o : Option (ℤ × ℤ)) (a : Answer ℤ) (gs : List Given)
    → n.taken seen as_number as_text as_array true gs ≡ (operands OneTime gs >>= taken_of true) → n.taken seen as_number as_text as_array false gs ≡ (operands Numbers gs >>= taken_of false)
    → (timed_seconds o a >>= λ s. (n.taken seen as_number as_text as_array s.0 gs >>= taken_on s.1)) ≡ ((timed o a >>= λ d. (operands (after OneTime d) gs >>= λ ds. Ok (d ∷ ds))) >>= taken_of true)
taken_steps (Some t) a gs one none = cons_taken true false (time t) t.0 (λ ds. refl) (n.taken seen as_number as_text as_array false gs) (operands Numbers gs) none
taken_steps None (Err e) gs one none = refl
taken_steps None (Ok m) gs one none = cons_taken true true (number m) m (λ ds. refl) (n.taken seen as_number as_text as_array true gs) (operands OneTime gs) one

no_more_steps : (a : Answer ℤ) (gs : List Given) → n.taken seen as_number as_text as_array false gs ≡ (operands Numbers gs >>= taken_of false)
    → ((a >>= plainly) >>= λ s. (n.taken seen as_number as_text as_array s.0 gs >>= taken_on s.1)) ≡ (((a >>= λ m. Ok (number m)) >>= λ d. (operands (after Numbers d) gs >>= λ ds. Ok (d ∷ ds))) >>= taken_of false)
no_more_steps (Err e) gs none = refl
no_more_steps (Ok m) gs none = cons_taken false false (number m) m (λ ds. refl) (n.taken seen as_number as_text as_array false gs) (operands Numbers gs) none

taken_numbers : (gs : List Given) → n.taken seen as_number as_text as_array false gs ≡ (operands Numbers gs >>= taken_of false)
taken_numbers [] = refl
taken_numbers (g ∷ gs) = no_more_steps (as_number g) gs (taken_numbers gs)

taken_times : (gs : List Given) → n.taken seen as_number as_text as_array true gs ≡ (operands OneTime gs >>= taken_of true)
taken_times [] = refl
taken_times (g ∷ gs) =
    ap (λ r. r >>= λ s. (n.taken seen as_number as_text as_array s.0 gs >>= taken_on s.1)) (seconds_as g (seen g))
    ∙ taken_steps (option_and_then time_in (seen g)) (as_number g) gs (taken_times gs) (taken_numbers gs)

subs : (g : Given) (gs : List Given) → n.by_numbers seen as_number as_text as_array minus (g ∷ gs) ≡ (operands Numbers (g ∷ gs) >>= arith Sub)
subs = by_numbers_first (arith Sub) minus (λ m ds. refl)

abbrev seconds_left : ℤ × ℤ → Bool × List ℤ → Answer Plain
seconds_left t s = n.run minus t.0 s.1 >>= λ m. Ok (n.time_or_number s.0 m t.1)

take_same : (v : Option Plain) (g : Given) (gs : List Given) → seen g ≡ v → n.take_from seen as_number as_text as_array v g gs ≡ (operands (taken_from v) (g ∷ gs) >>= arith Sub)
take_same (Some (time t)) g gs h =
    ap (λ r. r >>= seconds_left t) (taken_times gs) ∙ joined_step (operands OneTime gs) (taken_of true) (seconds_left t) ∙ sym (first_step (time t) (operands OneTime gs) (arith Sub))
    ∙ sym (ap (λ v. (timed (option_and_then time_in v) (as_number g) >>= λ d. (operands (after TwoTimes d) gs >>= λ ds. Ok (d ∷ ds))) >>= arith Sub) h)
take_same (Some low) g gs h = subs g gs
take_same (Some (array vs)) g gs h = subs g gs
take_same (Some (boolean b)) g gs h = subs g gs
take_same (Some null) g gs h = subs g gs
take_same (Some (number m)) g gs h = subs g gs
take_same (Some (object ms)) g gs h = subs g gs
take_same (Some (binary s)) g gs h = subs g gs
take_same (Some (text s)) g gs h = subs g gs
take_same (Some high) g gs h = subs g gs
take_same None g gs h = subs g gs

pub operated : (op : Arith) (gs : List Given) → arith_of seen as_number as_text as_array op gs ≡ on_operands op gs
operated Add [] = refl
operated Sub [] = refl
operated Mul [] = refl
operated Div [] = refl
operated Mod [] = refl
operated Add (g ∷ gs) = add_same (seen g) g gs refl
operated Sub (g ∷ gs) = take_same (seen g) g gs refl
operated Mul (g ∷ gs) = by_numbers_first (arith Mul) times (λ m ds. refl) g gs
operated Div (g ∷ gs) = by_numbers_first (arith Div) quotient (λ m ds. refl) g gs
operated Mod (g ∷ gs) = by_numbers_first (arith Mod) remainder (λ m ds. refl) g gs
