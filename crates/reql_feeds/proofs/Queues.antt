-- Items that are queued in an entry, seen in the record of its feed.
use Rattle.std.proofs.Common.{◌≡◌, ℕ, suc, List, [], ◌∷◌, ◌++◌, length, map, cond, Bool, true, false, nat_eq, nat_lt, refl, sym, ap, ◌∙◌, arith}
use Rattle.reql_datum.specs.Plain.{Plain}
use Rattle.reql_datum.specs.View.{plain}
use Rattle.reql_datum.specs.declared.datum.Datum.{Datum}
use Rattle.reql_queue.specs.Queued.{Queued, pushed}
use Rattle.reql_queue.specs.Queued as queued
use Rattle.reql_table_spec.specs.Table.{Held}
use Rattle.reql_queue.specs.Record.{all_pushed, all_shown, queueing}
use Rattle.reql_queue.proofs.Records.{pushes}
use Rattle.reql_table_machine_spec.specs.Feeds.{Feed, push, push_all, dropping}
use Rattle.reql_feeds.specs.Keeps.{at_least_one, IsSized}
use Rattle.reql_feeds.specs.Record.{record_of}
use Rattle.reql_feeds.specs.Seen.{seen, sized}
use Rattle.reql_feeds.specs.declared.entry.Entry.{Entry}
use Rattle.reql_feeds.specs.Told.{stamped}
use Rattle.reql_squash.specs.Told.{items_seen}

short : (n : ℕ) → nat_lt (suc n) 1 ≡ false
short n = grind arith

none_below : (n : ℕ) → nat_lt n 0 ≡ false
none_below n = grind arith

pub shown_stamped : (stamp : ℕ) (items : List Datum) → all_shown plain (stamped stamp items) ≡ stamped stamp (map plain items)
shown_stamped stamp [] = refl
shown_stamped stamp (i ∷ is) = ap (λ t. (stamp, plain i) ∷ t) (shown_stamped stamp is)

-- a size of 0 counts as 1
module _ {K : Type 0} where
  one_push : (f : Feed K Plain) (q : List (ℕ × Plain)) (p : ℕ × Plain) → cond (nat_lt (length q) 1) (record f { queue = q ++ p ∷ [] }) (dropping f q p) ≡ cond (nat_lt (length q) 0) (record f { queue = q ++ p ∷ [] }) (dropping f q p)
  one_push f [] p = refl
  one_push f (o ∷ q) p = rw (short (length q), none_below (suc (length q))) refl

  pushes_one : (ps : List (ℕ × Plain)) (f : Feed K Plain) → push_all 1 f ps ≡ push_all 0 f ps
  pushes_one [] f = refl
  pushes_one (p ∷ ps) f = ap (λ (g : Feed K Plain). push_all 1 g ps) (one_push f f.queue p) ∙ pushes_one ps (push 0 f p)

  sized_at : (b : Bool) (n : ℕ) (f : Feed K Plain) (ps : List (ℕ × Plain)) → nat_eq n 0 ≡ b → push_all (cond b 1 n) f ps ≡ push_all n f ps
  sized_at true n f ps e = let z : n ≡ 0 = grind (arith, e) in rw z (pushes_one ps f)
  sized_at false n f ps e = refl

  pub size_counts : (n : ℕ) (f : Feed K Plain) (ps : List (ℕ × Plain)) → push_all (at_least_one n) f ps ≡ push_all n f ps
  size_counts n f ps = sized_at (nat_eq n 0) n f ps refl

  -- a record with a queue, after items came into the queue
  pub queued_record : (f : Feed K Plain) (q r : Queued Datum) (size stamp : ℕ) (items : List Datum) → q.size ≡ at_least_one size → r ≡ all_pushed (stamped stamp items) q
      → queueing plain r f ≡ push_all size (queueing plain q f) (stamped stamp (map plain items))
  queued_record f q r size stamp items e is =
      ap (λ (t : Queued Datum). queueing plain t f) is
      ∙ (sym (pushes Datum Plain K plain f q (stamped stamp items))
      ∙ (ap (λ l. push_all q.size (queueing plain q f) l) (shown_stamped stamp items)
      ∙ (ap (λ n. push_all n (queueing plain q f) (stamped stamp (map plain items))) e
      ∙ size_counts size (queueing plain q f) (stamped stamp (map plain items)))))

  pub committed_record : (f : Feed K Plain) (q r : Queued Datum) (size : ℕ) (items : List (ℕ × Datum)) → q.size ≡ at_least_one size → r ≡ all_pushed items q → queueing plain r f ≡ push_all size (queueing plain q f) (items_seen items)
  committed_record f q r size items e is =
      ap (λ (t : Queued Datum). queueing plain t f) is
      ∙ (sym (pushes Datum Plain K plain f q items)
      ∙ (ap (λ n. push_all n (queueing plain q f) (items_seen items)) e
      ∙ size_counts size (queueing plain q f) (items_seen items)))

module _ {T : Type 0} where
  size_at : (b : Bool) (q : Queued T) (p : ℕ × T) (items : List (ℕ × T)) → (cond b (record q { items = q.items ++ p ∷ [] }) (queued.dropping q items p)).size ≡ q.size
  size_at true q p items = refl
  size_at false q p [] = refl
  size_at false q p (o ∷ rest) = refl

  pub size_stays : (ps : List (ℕ × T)) (q : Queued T) → (all_pushed ps q).size ≡ q.size
  size_stays [] q = refl
  size_stays (p ∷ ps) q = size_stays ps (pushed p q) ∙ size_at (nat_lt (length q.items) q.size) q p q.items

module _ {F : Type 0} (held : F → Held) where
  -- an entry whose feed followed and whose queue took items
  pub installed_record : (e : Entry F) (k : F) (r : Queued Datum) (stamp : ℕ) (items more : List Datum) → IsSized held (sized e) → held k ≡ held e.kept → more ≡ items → r ≡ all_pushed (stamped stamp more) e.queue
      → record_of held (seen (record { owner = e.owner; number = e.number; opened = e.opened; kept = k; queue = r })) ≡ push_all (held e.kept).spec.size (record_of held (seen e)) (stamped stamp (map plain items))
  installed_record e k r stamp items more size asked same is =
      ap (λ (h : Held). queueing plain r (record (record_of held (seen e)) { kept = h })) asked
      ∙ queued_record (record_of held (seen e)) e.queue r (held e.kept).spec.size stamp items size (is ∙ ap (λ l. all_pushed (stamped stamp l) e.queue) same)

  -- an entry that became what its shadow says
  pub committed_seen : (e : Entry F) (k : F) (r : Queued Datum) (items : List (ℕ × Datum)) → IsSized held (sized e) → held k ≡ held e.kept → r ≡ all_pushed items e.queue
      → seen (record { owner = e.owner; number = e.number; opened = e.opened; kept = k; queue = r }) ≡ push_all (held k).spec.size (record (seen e) { kept = k }) (items_seen items)
  committed_seen e k r items size asked is =
      committed_record (record (seen e) { kept = k }) e.queue r (held k).spec.size items (size ∙ ap (λ (h : Held). at_least_one h.spec.size) (sym asked)) is
