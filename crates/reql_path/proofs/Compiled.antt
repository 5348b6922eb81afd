-- What was built of gathered names stands for the patterns.
use Rattle.std.proofs.Common.{◌≡◌, ◌≤◌, List, [], ◌∷◌, ◌++◌, Bool, true, false, ◌&&◌, ◌||◌, cond, Option, Some, Result, Ok, Err, IfOk, is_eq, refl, sym, ap, ◌∙◌, arith, append-nil, append_assoc}
use Rattle.std.specs.Map.{keys_of}
use Rattle.std.proofs.lemmas.Cmp.{nat_list_cmp_total}
use Rattle.reql_memory.proofs.Sorted.{put_next}
use Rattle.reql_memory.proofs.Joined.{rising_front}
use Rattle.reql_datum.specs.Members.{AreRising, text_order, find, put}
use Rattle.reql_datum.specs.Plain.{Plain, low, array, boolean, null, number, object, binary, time, text, high, items_of, items_depth, pairs_of}
use Rattle.reql_rules.specs.Lists.{Bytes, object_of}
use Rattle.reql_rules.specs.Patterns.{is_true, part_of_all}
use Rattle.reql_path.specs.Normal.{is_normal, are_normal, member_part, Compiles}
use Rattle.reql_path.specs.Named.{wanted_part, part_there, named_part, reach, reach_all, Gathers, StandsFor, AllStandFor}
use Rattle.reql_path.proofs.Alike.{PartsAlike, alike_parts, member_there, part_found, object_part}
use Rattle.reql_path.specs.declared.gathering.Wanted.{Wanted}
use Rattle.reql_path.specs.declared.gathering.Wanted.TheVariants.{Whole, Inside}

-- an object of the one form isn't true
pub normal_not_true : (v : Plain) → is_normal v ≡ true → is_true v ≡ false
normal_not_true low h = refl
normal_not_true (array vs) h = refl
normal_not_true (boolean true) h = cc
normal_not_true (boolean false) h = refl
normal_not_true null h = refl
normal_not_true (number n) h = refl
normal_not_true (object ms) h = refl
normal_not_true (binary s) h = refl
normal_not_true (time t) h = refl
normal_not_true (text s) h = refl
normal_not_true high h = refl

or_true : (a b : Bool) → b ≡ true → (a || b) ≡ true
or_true true b h = refl
or_true false b h = h

pub member_normal : (w : Wanted) (v : Plain) → StandsFor w v → (is_true v || is_normal v) ≡ true
member_normal Whole v h = rw h refl
member_normal (Inside ps) v h = or_true (is_true v) (is_normal v) h.normal

both_true : (a b : Bool) → a ≡ true → b ≡ true → (a && b) ≡ true
both_true a b h k = rw h k

all_normal : (ws : List (Bytes × Wanted)) (ms : List (Bytes × Plain)) → AllStandFor ws ms → are_normal (pairs_of ms) ≡ true
all_normal [] [] h = refl
all_normal [] (m ∷ ms) h = absurd h
all_normal (w ∷ ws) [] h = absurd h
all_normal (w ∷ ws) (m ∷ ms) h = both_true (is_true m.1 || is_normal m.1) (are_normal (pairs_of ms)) (member_normal w.1 m.1 h.1) (all_normal ws ms h.2)

same_keys : (ws : List (Bytes × Wanted)) (ms : List (Bytes × Plain)) → AllStandFor ws ms → keys_of ms ≡ keys_of ws
same_keys [] [] h = refl
same_keys [] (m ∷ ms) h = absurd h
same_keys (w ∷ ws) [] h = absurd h
same_keys (w ∷ ws) (m ∷ ms) h = λ i. h.0 i ∷ same_keys ws ms h.2 i

part_alike : (w : Wanted) (v : Plain) → StandsFor w v → PartsAlike (wanted_part w) (member_part v)
part_alike Whole v h = rw h tt
part_alike (Inside ps) v h = rw (normal_not_true v h.normal) h.alike

find_at : (b : Bool) (w : Wanted) (v : Plain) (o : Option Wanted) (q : Option Plain) → StandsFor w v → PartsAlike (part_there o) (member_there q) → PartsAlike (part_there (cond b (Some w) o)) (member_there (cond b (Some v) q))
find_at true w v o q h rest = part_alike w v h
find_at false w v o q h rest = rest

pub found_alike : (k : Bytes) (ws : List (Bytes × Wanted)) (ms : List (Bytes × Plain)) → AllStandFor ws ms → PartsAlike (named_part k ws) (member_there (find k ms))
found_alike k [] [] h = tt
found_alike k [] (m ∷ ms) h = absurd h
found_alike k (w ∷ ws) [] h = absurd h
found_alike k (w ∷ ws) (m ∷ ms) h = rw (h.0) (find_at (is_eq (text_order k w.0)) w.1 m.1 (find k ws) (find k ms) h.1 (found_alike k ws ms h.2))

pub rising_stand : (ws : List (Bytes × Wanted)) (ms : List (Bytes × Plain)) → AllStandFor ws ms → AreRising ws → AreRising ms
rising_stand ws ms h up = rw (same_keys ws ms h) up

-- ---- the patterns, what was gathered of them, and what was built of that
pub compiles_built : (ps : List Plain) (ws : List (Bytes × Wanted)) (ms : List (Bytes × Plain)) → Gathers [] ws (λ k. part_of_all k ps) (items_depth (items_of ps)) → AreRising ws → AllStandFor ws ms → Compiles ps (object_of ms)
compiles_built ps ws ms g up h =
    let rising : AreRising ms = rising_stand ws ms h up in
    record {
      normal = all_normal ws ms h;
      alike = alike_parts ps (object_of ms ∷ [])
          (λ k. rw (← (g.parts k), object_part k ms ∙ part_found k ms rising) (found_alike k ws ms h));
    }

-- ---- the loop
pub record Builds (done : List (Bytes × Plain)) (rest all : List (Bytes × Wanted)) : Type 0 where
  pub front : List (Bytes × Wanted)
  pub adds_up : front ++ rest ≡ all
  pub stand : AllStandFor front done
  pub rising : AreRising all
  pub bound : reach_all rest ≤ reach_all all

pub builds_start : (all : List (Bytes × Wanted)) → AreRising all → Builds [] all all
builds_start all up = record { front = []; adds_up = refl; stand = tt; rising = up; bound = omega arith }

stand_more : (ws : List (Bytes × Wanted)) (ms : List (Bytes × Plain)) (k : Bytes) (w : Wanted) (v : Plain) → AllStandFor ws ms → StandsFor w v → AllStandFor (ws ++ (k, w) ∷ []) (ms ++ (k, v) ∷ [])
stand_more [] [] k w v h on = (refl, on, tt)
stand_more [] (m ∷ ms) k w v h on = absurd h
stand_more (u ∷ ws) [] k w v h on = absurd h
stand_more (u ∷ ws) (m ∷ ms) k w v h on = (h.0, h.1, stand_more ws ms k w v h.2 on)

pub builds_next : (done : List (Bytes × Plain)) (rest later all : List (Bytes × Wanted)) (k : Bytes) (w : Wanted) (v : Plain) → rest ≡ (k, w) ∷ later → StandsFor w v → Builds done rest all → Builds (put k v done) later all
builds_next done rest later all k w v is on b =
    let joined : (b.front ++ (k, w) ∷ []) ++ later ≡ all = append_assoc b.front ((k, w) ∷ []) later ∙ ap (λ t. b.front ++ t) (sym is) ∙ b.adds_up in
    let stands : AllStandFor (b.front ++ (k, w) ∷ []) (done ++ (k, v) ∷ []) = stand_more b.front done k w v b.stand on in
    let up : AreRising (b.front ++ (k, w) ∷ []) = rising_front text_order nat_list_cmp_total (b.front ++ (k, w) ∷ []) later (rw joined b.rising) in
    let last : put k v done ≡ done ++ (k, v) ∷ [] = put_next text_order nat_list_cmp_total done [] k v (rising_stand (b.front ++ (k, w) ∷ []) (done ++ (k, v) ∷ []) stands up) in
    let below : reach_all ((k, w) ∷ later) ≤ reach_all all = rw is at b.bound in
    record { front = b.front ++ (k, w) ∷ []; adds_up = joined; stand = rw last stands; rising = b.rising; bound = omega (arith, below) }

pub builds_below : (done : List (Bytes × Plain)) (rest later all : List (Bytes × Wanted)) (k : Bytes) (w : Wanted) → rest ≡ (k, w) ∷ later → Builds done rest all → reach w ≤ reach_all all
builds_below done rest later all k w is b =
    let below : reach_all ((k, w) ∷ later) ≤ reach_all all = rw is at b.bound in
    omega (arith, below)

pub builds_end : (done : List (Bytes × Plain)) (rest all : List (Bytes × Wanted)) → rest ≡ [] → Builds done rest all → AllStandFor all done
builds_end done rest all is b =
    let e : b.front ≡ all = sym (append-nil b.front) ∙ ap (λ t. b.front ++ t) (sym is) ∙ b.adds_up in
    rw (← e) b.stand

pub ok_with : {A E : Type 0} (r : Result A E) (P Q : A → Type 0) → ((x : A) → P x → Q x) → IfOk r P → IfOk r Q
ok_with (Ok x) P Q f h = f x h
ok_with (Err e) P Q f h = tt
