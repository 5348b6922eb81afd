-- Pushes and Takes of a queue, seen in the record of a feed.
use Rattle.std.proofs.Common.{◌≡◌, ℕ, List, [], ◌∷◌, ◌++◌, length, cond, nat_lt, nat_eq, Bool, true, false, ◌||◌, not, refl, sym, ap, ◌∙◌}
use Rattle.std.proofs.lemmas.List.{take-append-drop, take-map, drop-map, length-map, map-append, append-nil}
use Rattle.reql_table_machine_spec.specs.Feeds.{Feed, push, push_all, dropping, is_none_queued}
use Rattle.reql_queue.specs.Queued.{Queued, pushed, left_by, emptied, given_back, is_none}
use Rattle.reql_queue.specs.Queued as queued
use Rattle.reql_queue.specs.Record.{all_pushed, one_shown, all_shown, queueing, PushesAreOfTheRecord, TakesAreOfTheRecord, GivenBackIsAsBefore}

-- a feed with these items and counts
abbrev of_items : {K I : Type 0} → Feed K I → List (ℕ × I) → ℕ → ℕ → Feed K I
of_items f items skipped last = record f { queue = items; skipped = skipped; last = last }

module _ {T I K : Type 0} (shown : T → I) (f : Feed K I) where
  step : (q : Queued T) (p : ℕ × T) (b : Bool) (items : List (ℕ × T))
      → cond b (of_items f (all_shown shown items ++ (p.0, shown p.1) ∷ []) q.skipped q.last) (dropping (queueing shown q f) (all_shown shown items) (p.0, shown p.1))
      ≡ queueing shown (cond b (record q { items = items ++ p ∷ [] }) (queued.dropping q items p)) f
  step q p true items = cc (map-append (one_shown shown) items (p ∷ []))
  step q p false [] = refl
  step q p false (o ∷ rest) = cc (map-append (one_shown shown) rest (p ∷ []))

  one_pushed : (q : Queued T) (p : ℕ × T) → push q.size (queueing shown q f) (p.0, shown p.1) ≡ queueing shown (pushed p q) f
  one_pushed q p = rw (length-map q.items (one_shown shown)) (step q p (nat_lt (length q.items) q.size) q.items)

  same_size : (q : Queued T) (p : ℕ × T) (b : Bool) (items : List (ℕ × T)) → (cond b (record q { items = q.items ++ p ∷ [] }) (queued.dropping q items p)).size ≡ q.size
  same_size q p true items = refl
  same_size q p false [] = refl
  same_size q p false (o ∷ rest) = refl

  all_of_them : (items : List (ℕ × T)) (q : Queued T) → push_all q.size (queueing shown q f) (all_shown shown items) ≡ queueing shown (all_pushed items q) f
  all_of_them [] q = refl
  all_of_them (p ∷ ps) q =
      let size : (pushed p q).size ≡ q.size = same_size q p (nat_lt (length q.items) q.size) q.items in
      let rest = all_of_them ps (pushed p q) in
      ap (λ (t : Feed K I). push_all q.size t (all_shown shown ps)) (one_pushed q p)
      ∙ (ap (λ (n : ℕ). push_all n (queueing shown (pushed p q) f) (all_shown shown ps)) (sym size) ∙ rest)

pub pushes : (T I K : Type 0) → PushesAreOfTheRecord T I K
pushes T I K shown f q items = all_of_them shown f items q

none_shown : {T I : Type 0} (shown : T → I) (items : List (ℕ × T)) → is_none_queued (all_shown shown items) ≡ is_none items
none_shown shown [] = refl
none_shown shown (p ∷ ps) = refl

pub takes : (T I K : Type 0) → TakesAreOfTheRecord T I K
takes T I K shown f q max =
    let given = take-map (one_shown shown) max q.items in
    let left = drop-map (one_shown shown) max q.items in
    let none = none_shown shown q.items in
    (given, ap (λ (t : List (ℕ × I)). of_items f t 0 q.last) left, refl, ap (λ (b : Bool). not (nat_eq q.skipped 0) || not b) none)

pub back : (T : Type 0) → GivenBackIsAsBefore T
back T q max = (ap (λ (t : List (ℕ × T)). record q { items = t }) (take-append-drop max q.items), ap (λ (t : List (ℕ × T)). record q { items = t }) (append-nil q.items))
