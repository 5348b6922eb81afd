-- What the calls on open feeds are to the machine of tables.
use Rattle.std.proofs.Common.{◌≡◌, List, [], ◌∷◌, map, Bool, true, false, if◌then◌else◌, Option, Some, None, Equal, is_eq, refl, sym, ap, subst, ◌∙◌}
use Rattle.std.proofs.lemmas.Cmp.{tied_back}
use Rattle.reql_datum.specs.Order.{order}
use Rattle.reql_datum.specs.Plain.{Plain}
use Rattle.reql_datum.specs.Total.{order_total}
use Rattle.reql_datum.proofs.Laws.{equal_is}
use Rattle.reql_memory.specs.Sorted.{AreRisingBy, find_by}
use Rattle.reql_memory.proofs.Finds.{find_put, find_without, is_equal}
use Rattle.reql_memory.proofs.Same.{same_found}
use Rattle.reql_memory.proofs.Sorted.{rising_put, rising_without}
use Rattle.reql_term.specs.Views.{Document}
use Rattle.reql_table_spec.specs.Table.{feeding}
use Rattle.reql_table_machine_spec.specs.Feeds.{after_change, notice}
use Rattle.reql_write_spec.specs.Treated.{Changed}
use Rattle.reql_feed_spec.specs.Value.{changed}
use Rattle.reql_feeds.specs.Laws.{ChangesLead, OneChangeIsTold, ChangesGoOn, SubscribesOpen, TakesGive}
use Rattle.reql_feeds.specs.Turn.{done, undone}

pub one_change : OneChangeIsTold
one_change most t x after is = ap (λ (docs : List Document). map (notice (feeding 0) docs t.stamp x) t.feeds) (sym is)

pub changes_go_on : ChangesGoOn
changes_go_on most t [] x = refl
changes_go_on most t (y ∷ xs) x = changes_go_on most (after_change (feeding most) t y) xs x

pub subscribes_open : SubscribesOpen
subscribes_open most t by spec h is room = rw (is, room) refl

pub takes_give : TakesGive
takes_give most t by feed max f is some = rw (is, some) refl

-- ---- a change that is undone

exact : (j k : Plain) → order j k ≡ Equal → j ≡ k
exact j k e = (equal_is j k).0 e

rises : (key : Plain) (o : Option Plain) (docs : List Document) → AreRisingBy order docs → AreRisingBy order (changed key o docs)
rises key None docs up = rising_without order order_total key docs up
rises key (Some v) docs up = rising_put order order_total key v docs up

-- what is found after a change
after_it : Option Plain → Bool → Option Plain → Option Plain
after_it o b there = if b then o else there

swap_test : (q k : Plain) (b c : Bool) → is_eq (order q k) ≡ b → is_eq (order k q) ≡ c → c ≡ b
swap_test q k true true e f = refl
swap_test q k true false e f =
    let back : is_eq (order k q) ≡ true = rw (tied_back order_total q k (is_equal (order q k) e)) refl in
    sym f ∙ back
swap_test q k false true e f =
    let back : is_eq (order q k) ≡ true = rw (tied_back order_total k q (is_equal (order k q) f)) refl in
    sym back ∙ e
swap_test q k false false e f = refl

found_after : (key : Plain) (o : Option Plain) (docs : List Document) (q : Plain) → AreRisingBy order docs → find_by order q (changed key o docs) ≡ after_it o (is_eq (order q key)) (find_by order q docs)
unfolding after_it
found_after key None docs q up = find_without order order_total docs key q up ∙ ap (λ b. if b then None else find_by order q docs) (swap_test q key (is_eq (order q key)) (is_eq (order key q)) refl refl)
found_after key (Some v) docs q up = find_put order order_total docs key v q

same_after : (b : Bool) (old new there : Option Plain) → (b ≡ true → there ≡ old) → after_it old b (after_it new b there) ≡ there
unfolding after_it
same_after true old new there h = sym (h refl)
same_after false old new there h = refl

found_old : (x : Changed) (docs : List Document) (q : Plain) → find_by order x.key docs ≡ x.old → is_eq (order q x.key) ≡ true → find_by order q docs ≡ x.old
found_old x docs q h e = let same : q ≡ x.key = exact q x.key (is_equal (order q x.key) e) in rw same h

back : (x : Changed) (docs : List Document) → AreRisingBy order docs → find_by order x.key docs ≡ x.old → undone x (done x docs) ≡ docs
back x docs up h =
    let there = rises x.key x.new docs up in
    same_found order order_total exact (undone x (done x docs)) docs (rises x.key x.old (done x docs) there) up (λ q.
    found_after x.key x.old (done x docs) q there
    ∙ (ap (after_it x.old (is_eq (order q x.key))) (found_after x.key x.new docs q up)
    ∙ same_after (is_eq (order q x.key)) x.old x.new (find_by order q docs) (found_old x docs q h)))

pub changes_lead : ChangesLead
changes_lead x docs up h =
    let e = back x docs up h in (
      record {
        rising = subst (AreRisingBy order) (sym e) up;
        found = ap (find_by order x.key) e ∙ h;
        leads = ap (done x) e;
      },
      e,
    )
