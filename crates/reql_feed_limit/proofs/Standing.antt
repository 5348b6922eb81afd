-- What follows from a feed's elements at a change of its table.
use Rattle.std.proofs.Common.{◌≡◌, ℕ, suc, ◌+◌, ◌-◌, ◌<◌, ◌≤◌, nat_lt, List, length, get_or, if◌then◌else◌, Option, Some, None, sym, ap, ◌∙◌, arith, inl, inr}
use Rattle.std.proofs.lemmas.Bool.{cases_lt, lt-ltb, le-ltb}
use Rattle.std.proofs.lemmas.List.Edits.{length-insert}
use Rattle.std.proofs.lemmas.List.{length-take}
use Rattle.reql_datum.specs.Plain.{Plain}
use Rattle.reql_datum.specs.Order.{order}
use Rattle.reql_memory.specs.Sorted.{AreRisingBy, find_by}
use Rattle.reql_write_spec.specs.Treated.{Changed as Change}
use Rattle.reql_feed_limit.specs.Selection.{Element, Limit, value, selection, changed, facing, turned, index_list}
use Rattle.reql_feed_limit.specs.Items.{Item, Placed, item, deleted, inserted, folded}
use Rattle.reql_feed_limit.specs.Differs.{Differs, Fits}
use Rattle.reql_feed_limit.specs.Edits.{pair_at, element_at, Keyed}
use Rattle.reql_feed_limit.specs.Boundary.{kept, kept_element, neighbour, next_after, next_value, coming, Convex, Turn}
use Rattle.reql_feed_limit.specs.Stands.{Stands, IsWithin, Installs, Follows, going, arriving}
use Rattle.reql_feed_limit.proofs.Items.{item_is, differs_folds, undone}
use Rattle.reql_feed_limit.proofs.Law.{facing_strict, turn, rising_selection, rising_take}
use Rattle.reql_feed_limit.proofs.Next.{next_found}
use Rattle.reql_feed_limit.proofs.Folds.{own_place, value_folds}

module _ (l : Limit) (keyed : Keyed l.spot) (es : List Element) (c : Change) (after : List (Plain × Plain)) (s : Stands l es c after) where
  -- the turn from the elements to the value after the change
  pub stands_turn : Turn (facing l.descending) l.size (kept l.within (pair_at l.spot c.key c.old)) (kept_element l.within (element_at l.spot c.key c.new)) (next_after (facing l.descending) es (selection l after)) es (value l after)
  stands_turn = rw (s.held, s.changes) (turn l keyed c s.docs s.rising s.old)

  pub stands_rising : AreRisingBy (facing l.descending) es
  stands_rising = rw (s.held) (rising_take (facing l.descending) (facing_strict l.descending) l.size (selection l s.docs) (rising_selection l s.docs))

  -- a difference is the item
  pub stands_item : (i : Item) → Differs es (value l after) i → i ≡ item es (value l after)
  stands_item i by = let t = stands_turn in sym (item_is (facing l.descending) (facing_strict l.descending) es (value l after) i t.rising t.rising_after by)

  within_left : (o : Option Placed) (core : List Element) → es ≡ inserted o core → Fits o core → IsWithin o (length es)
  within_left None core is fits = tt
  within_left (Some p) core is fits = let long = length-insert core p.0 p.1 fits in omega (arith, ap length is)

  within_came : (o : Option Placed) (core gone : List Element) → gone ≡ core → Fits o core → IsWithin o (length gone + 1)
  within_came None core gone is fits = tt
  within_came (Some p) core gone is fits = omega (arith, ap length is)

  pub stands_installs : (i : Item) → Differs es (value l after) i → Installs l.size es i
  stands_installs i by = record {
    left_within = within_left i.left by.core by.old by.left_fits;
    came_within = within_came i.came by.core (deleted i.left es) (ap (deleted i.left) by.old ∙ undone i.left by.core by.left_fits) by.came_fits;
    fits = omega (arith, ap length (differs_folds es (value l after) i by), length-take l.size (selection l after));
  }

  full_at : Convex l.within → (o : Option Element) → Follows l es after o → (k : ℕ) (b : Element) → suc k ≡ length es → get_or es k b ≡ b → l.size ≤ length es → next_after (facing l.descending) es (selection l after) ≡ o
  full_at convex o f k b more own enough =
      ap (λ t. next_after (facing l.descending) t (selection l after)) s.held ∙ next_found l convex s.docs after b k (rw s.held at more) (rw s.held at own) ∙ sym (f.full enough k b more own)

  full_next : Convex l.within → (o : Option Element) → Follows l es after o → (i : ℕ) → i < length es → (d : Element) → l.size ≤ length es → next_after (facing l.descending) es (selection l after) ≡ o
  full_next convex o f i lt d enough = full_at convex o f (length es - 1) (get_or es (length es - 1) d) (omega arith) (own_place es (length es - 1) d (omega arith)) enough

  -- what follows is what the turn asks for
  pub stands_follows : Convex l.within → (o : Option Element) → Follows l es after o → (i : ℕ) → i < length es → (d : Element) → (if nat_lt (length es) l.size then None else next_after (facing l.descending) es (selection l after)) ≡ o
  stands_follows convex o f i lt d =
      elim (cases_lt (length es) l.size) [
        | inl few ↦ rw (lt-ltb (length es) l.size few) (sym (f.short few))
        | inr enough ↦ rw (le-ltb (length es) l.size enough) (full_next convex o f i lt d enough)
      ]

-- the boundary law
pub boundary_tells : (l : Limit) (c : Change) (docs : List (Plain × Plain)) → Keyed l.spot → Convex l.within → AreRisingBy order docs → find_by order c.key docs ≡ c.old → (k : ℕ) (b : Element) → suc k ≡ length (value l docs) → get_or (value l docs) k b ≡ b
    → value l (changed c docs) ≡ next_value (facing l.descending) l.size (going l c) (coming (facing l.descending) l.size (value l docs) (arriving l c))
    (if nat_lt (length (value l docs)) l.size then None else kept_element l.within (neighbour (facing l.descending) b.0 (turned l.descending (index_list l.spot (changed c docs))))) (value l docs)
boundary_tells l c docs keyed convex up is k b more own =
    (turn l keyed c docs up is).after
    ∙ ap (λ o. next_value (facing l.descending) l.size (going l c) (coming (facing l.descending) l.size (value l docs) (arriving l c)) (if nat_lt (length (value l docs)) l.size then None else o) (value l docs))
    (next_found l convex docs (changed c docs) b k more own)

-- elements that fold the item are the value after the change
pub stands_folds : (l : Limit) → Keyed l.spot → (es : List Element) (c : Change) (after : List (Plain × Plain)) → Stands l es c after → folded (item es (value l after)) es ≡ value l after
stands_folds l keyed es c after s = rw (s.held, s.changes) (value_folds l keyed c s.docs s.rising s.old)
