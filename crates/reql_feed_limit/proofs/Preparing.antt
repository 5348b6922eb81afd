-- What a feed prepares is the difference of its value before a change and its value after it.
use Rattle.std.proofs.Common.{◌≡◌, ℕ, ◌<◌, List, length, Option, Some, None, refl, sym}
use Rattle.reql_datum.specs.Plain.{Plain}
use Rattle.reql_write_spec.specs.Treated.{Changed as Change}
use Rattle.reql_feed_limit.specs.Selection.{Element, Limit, value, selection, facing}
use Rattle.reql_feed_limit.specs.Items.{Item}
use Rattle.reql_feed_limit.specs.Differs.{Differs}
use Rattle.reql_feed_limit.specs.Edits.{with_gone, Hits, Keyed}
use Rattle.reql_feed_limit.specs.Boundary.{coming, next_after, Convex}
use Rattle.reql_feed_limit.specs.Stands.{Stands, Follows, going, arriving}
use Rattle.reql_feed_limit.proofs.Standing.{stands_turn, stands_follows}
use Rattle.reql_feed_limit.specs.Deciding.{Stays, Exchanges, Leaves}

module _ (l : Limit) (keyed : Keyed l.spot) (es : List Element) (c : Change) (after : List (Plain × Plain)) (s : Stands l es c after) where
  pub stays_differs : (o : Option Element) (i : Item) → with_gone (facing l.descending) (going l c) es ≡ es → o ≡ coming (facing l.descending) l.size es (arriving l c) → Stays l.descending l.size es o i → Differs es (value l after) i
  stays_differs o i same comes stays =
      stays (going l c) (arriving l c) (next_after (facing l.descending) es (selection l after)) (value l after) (stands_turn l keyed es c after s) same (sym comes)

  exchange_at : (gone : Option Plain) → going l c ≡ gone → (from : ℕ) (e : Element) (i : Item) → Hits (facing l.descending) gone es from → Some e ≡ coming (facing l.descending) l.size es (arriving l c) → Exchanges l.descending es from e i → Differs es (value l after) i
  exchange_at None is from e i hit comes exchanges = absurd hit
  exchange_at (Some g) is from e i hit comes exchanges =
      exchanges l.size g (going l c) (arriving l c) (next_after (facing l.descending) es (selection l after)) (value l after) (stands_turn l keyed es c after s) is hit (sym comes)

  pub exchange_differs : (from : ℕ) (e : Element) (i : Item) → Hits (facing l.descending) (going l c) es from → Some e ≡ coming (facing l.descending) l.size es (arriving l c) → Exchanges l.descending es from e i → Differs es (value l after) i
  exchange_differs from e i hit comes exchanges = exchange_at (going l c) refl from e i hit comes exchanges

  leave_at : Convex l.within → (gone : Option Plain) → going l c ≡ gone → (from : ℕ) (o : Option Element) (i : Item) (d : Element) → Hits (facing l.descending) gone es from → from < length es → None ≡ coming (facing l.descending) l.size es (arriving l c) → Follows l es after o → Leaves es from o i → Differs es (value l after) i
  leave_at convex None is from o i d hit lt away follows leaves = absurd hit
  leave_at convex (Some g) is from o i d hit lt away follows leaves =
      leaves l.descending l.size g (going l c) (arriving l c) (next_after (facing l.descending) es (selection l after)) (value l after) (stands_turn l keyed es c after s) is hit (sym away)
      (stands_follows l keyed es c after s convex o follows from lt d)

  pub leave_differs : Convex l.within → (from : ℕ) (o : Option Element) (i : Item) (d : Element) → Hits (facing l.descending) (going l c) es from → from < length es → None ≡ coming (facing l.descending) l.size es (arriving l c) → Follows l es after o → Leaves es from o i → Differs es (value l after) i
  leave_differs convex from o i d hit lt away follows leaves = leave_at convex (going l c) refl from o i d hit lt away follows leaves
