-- The tables of a hall that nobody has used: they are good, and no feed is open on them.
use Rattle.std.proofs.Common.{◌≡◌, ◌<◌, All, ap, arith, get_or, length, ℕ, zero, suc, List, [], ◌∷◌, map, replicate, slice_index_or, refl, sym, subst}
use Rattle.std.specs.List.Sorted.{IsStrictlySortedBy}
use Rattle.reql_shared.specs.Sight.{Object, Sight, unused as unused_pass}
use Rattle.reql_hall.specs.Rooms.{Rooms, pass, unused_desk}
use Rattle.reql_catalog.specs.declared.catalog.Catalog.{Catalog}
use Rattle.reql_table_spec.specs.Laws.{AreGood}
use Rattle.reql_table_spec.specs.Machine.{State, machine, unused}
use Rattle.reql_table_spec.specs.declared.command.Order.{Order}
use Rattle.reql_desk_moves.specs.Acting.{AtDesk}

abbrev desk : Rooms State Catalog → AtDesk
desk hall = unused_desk hall 0

-- where a pass on an engine begins is where the engine does
start_at : (os : List (Object State)) (number : ℕ) (d : Sight Order State) (t : ℕ)
    → (slice_index_or (map (λ (o : Object State). unused_pass o number) os) t d).object.start ≡ slice_index_or (map (λ (o : Object State). o.start) os) t d.object.start
start_at [] number d t = refl
start_at (o ∷ os) number d zero = refl
start_at (o ∷ os) number d (suc t) = start_at os number d t

one_of : (P : State → Type 0) (n : ℕ) (u d : State) (t : ℕ) → P u → P d → P (slice_index_or (replicate n u) t d)
one_of P zero u d t pu pd = pd
one_of P (suc n) u d zero pu pd = pu
one_of P (suc n) u d (suc t) pu pd = one_of P n u d t pu pd

pub at_start : (P : State → Type 0) (hall : Rooms State Catalog) (n most keeps : ℕ) (t : ℕ) → map (λ (o : Object State). o.start) hall.slots ≡ replicate n (unused most keeps)
    → P (unused most keeps) → P (unused 0 0) → P (pass (unused 0 0) (desk hall) t).object.start
at_start P hall n most keeps t is pu pd =
    subst P (sym (start_at hall.slots 0 _ t)) (subst (λ ss. P (slice_index_or ss t (unused 0 0))) (sym is) (one_of P n (unused most keeps) (unused 0 0) t pu pd))

good : (most keeps : ℕ) → AreGood (unused most keeps).table.docs
unfolding IsStrictlySortedBy
good most keeps = record { rising = tt; real = tt }

pub are_good : (hall : Rooms State Catalog) (n most keeps t : ℕ) → map (λ (o : Object State). o.start) hall.slots ≡ replicate n (unused most keeps)
    → AreGood (pass (unused 0 0) (desk hall) t).object.start.table.docs
are_good hall n most keeps t is = at_start (λ s. AreGood s.table.docs) hall n most keeps t is (good most keeps) (good 0 0)

pub no_feeds : (hall : Rooms State Catalog) (n most keeps t : ℕ) → map (λ (o : Object State). o.start) hall.slots ≡ replicate n (unused most keeps)
    → (pass (unused 0 0) (desk hall) t).object.start.table.feeds ≡ []
no_feeds hall n most keeps t is = at_start (λ s. s.table.feeds ≡ []) hall n most keeps t is refl refl

head_or : {A : Type 0} → A → List A → A
head_or d [] = d
head_or d (x ∷ xs) = x

tail_of : {A : Type 0} → List A → List A
tail_of [] = []
tail_of (x ∷ xs) = xs

each : {A B : Type 0} (P : B → Type 0) (f : A → B) (u : B) → P u → (xs : List A) (n : ℕ) → map f xs ≡ replicate n u → (i : ℕ) (d : A) → i < length xs → P (f (get_or xs i d))
unfolding head_or tail_of
each P f u pu [] n e i d lt = absurd (omega (arith, lt))
each P f u pu (x ∷ xs) zero e i d lt = absurd (omega (arith, ap length e))
each P f u pu (x ∷ xs) (suc n) e zero d lt = subst P (sym (ap (head_or u) e)) pu
each P f u pu (x ∷ xs) (suc n) e (suc i) d lt = each P f u pu xs n (ap tail_of e) i d (omega (arith, lt))

-- engines that nobody has used are at place 0
pub all_unused : {A : Type 0} (f : A → State) (most keeps : ℕ) (xs : List A) (n : ℕ) → map f xs ≡ replicate n (unused most keeps) → All (λ x. machine.place (f x) ≡ 0) xs
all_unused f most keeps xs n e = λ i d lt. each (λ s. machine.place s ≡ 0) f (unused most keeps) refl xs n e i d lt
