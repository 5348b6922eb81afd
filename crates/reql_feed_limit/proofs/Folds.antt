-- After any change of one document there is one difference, and its item folds the old value into the new one.
use Rattle.std.proofs.Common.{◌≡◌, ℕ, zero, suc, ◌<◌, ◌≤◌, nat_lt, List, [], ◌∷◌, length, get_or, Bool, true, false, if◌then◌else◌, Option, Some, None, Ordering, Less, Equal, Greater, refl, ap, ◌∙◌, arith, inl, inr, ◌⊎◌}
use Rattle.std.specs.Map.{keys_of}
use Rattle.std.proofs.lemmas.Bool.{cases_lt, lt-ltb}
use Rattle.reql_datum.specs.Plain.{Plain}
use Rattle.reql_datum.specs.Order.{order}
use Rattle.reql_memory.specs.Sorted.{AreRisingBy, find_by, IsHitBy, IsGapBy}
use Rattle.reql_memory.proofs.Sorted.{find_gap}
use Rattle.reql_write_spec.specs.Treated.{Changed as Change}
use Rattle.reql_feed_limit.specs.Selection.{Element, Limit, facing, selection, value, changed}
use Rattle.reql_feed_limit.specs.Items.{Item, item, folded}
use Rattle.reql_feed_limit.specs.Differs.{Differs}
use Rattle.reql_feed_limit.specs.Edits.{with_gone, pair_at, element_at, Keyed}
use Rattle.reql_feed_limit.specs.Boundary.{coming, next_after, kept, kept_element, Turn}
use Rattle.reql_feed_limit.proofs.Maps.{Strict}
use Rattle.reql_feed_limit.proofs.Edits.{without_none}
use Rattle.reql_feed_limit.proofs.Items.{item_is, differs_folds}
use Rattle.reql_feed_limit.proofs.Law.{facing_strict, turn}
use Rattle.reql_feed_limit.proofs.Cases.{not_hit, full_some, step_none, step_new, step_push, step_left, step_next, step_moved, step_over, gap_within}

none_either : (b : Bool) (o : Option Element) → o ≡ None → (if b then None else o) ≡ None
none_either true o h = refl
none_either false o h = h

pub own_place : (es : List Element) (i : ℕ) (d : Element) → i < length es → get_or es i (get_or es i d) ≡ get_or es i d
own_place [] i d lt = absurd (omega arith)
own_place (e ∷ es) zero d lt = refl
own_place (e ∷ es) (suc i) d lt = own_place es i d (omega arith)

module _ (cmp : Plain → Plain → Ordering) (strict : Strict cmp) where
  locate_at : (o : Ordering) (k : Plain) (e : Element) (es : List Element) → cmp k e.0 ≡ o
      → ((i : ℕ) × IsHitBy cmp (keys_of es) k i × (i < length es)) ⊎ ((i : ℕ) × IsGapBy cmp (keys_of es) k i)
      → ((i : ℕ) × IsHitBy cmp (keys_of (e ∷ es)) k i × (i < length (e ∷ es))) ⊎ ((i : ℕ) × IsGapBy cmp (keys_of (e ∷ es)) k i)
  locate_at Less k e es is on = inr (0, is)
  locate_at Equal k e es is on = inl (0, is, omega arith)
  locate_at Greater k e es is (inl (i, hit, lt)) = inl (suc i, (is, hit), omega arith)
  locate_at Greater k e es is (inr (i, gap)) = inr (suc i, (is, gap))

  -- a key stands at a place, or would stand at one
  locate : (es : List Element) (k : Plain) → ((i : ℕ) × IsHitBy cmp (keys_of es) k i × (i < length es)) ⊎ ((i : ℕ) × IsGapBy cmp (keys_of es) k i)
  locate [] k = inr (0, tt)
  locate (e ∷ es) k = locate_at (cmp k e.0) k e es refl (locate es k)

  module _ (size : ℕ) (gone : Option Plain) (come next : Option Element) (es vs : List Element) (t : Turn cmp size gone come next es vs) where
    enters_full : (c : Element) (j n : ℕ) → n ≡ length es → size ≤ length es → coming cmp size es come ≡ Some c → with_gone cmp gone es ≡ es → IsGapBy cmp (keys_of es) c.0 j → (i : Item) × Differs es vs i
    enters_full c j zero is le comes same gap = absurd (full_some cmp size es come c le comes (omega arith))
    enters_full c j (suc k) is le comes same gap =
        (record { left = Some (k, get_or es k c); came = Some (j, c) }, step_push cmp strict size gone come next es vs t c (get_or es k c) j k same comes le is gap (own_place es k c (omega arith)))

    enters : (c : Element) → coming cmp size es come ≡ Some c → with_gone cmp gone es ≡ es → ((i : ℕ) × IsHitBy cmp (keys_of es) c.0 i × (i < length es)) ⊎ ((i : ℕ) × IsGapBy cmp (keys_of es) c.0 i) → (i : Item) × Differs es vs i
    enters c comes same (inl (i, hit, lt)) = absurd (not_hit cmp strict size gone come next es vs t c i comes same hit)
    enters c comes same (inr (j, gap)) =
        elim (cases_lt (length es) size) [
          | inl few ↦ (record { left = None; came = Some (j, c) }, step_new cmp strict size gone come next es vs t c j same comes few gap (gap_within cmp strict es c.0 j gap))
          | inr full ↦ enters_full c j (length es) refl full comes same gap
        ]

    follows_full : (g : Plain) (i k : ℕ) (e : Element) → k ≡ length es → coming cmp size es come ≡ None → gone ≡ Some g → IsHitBy cmp (keys_of es) g i → i < length es → size ≤ length es → next ≡ Some e → (i : Item) × Differs es vs i
    follows_full g i zero e is away goes hit lt le on = absurd (omega arith)
    follows_full g i (suc k) e is away goes hit lt le on =
        (record { left = Some (i, get_or es i e); came = Some (k, e) }, step_next cmp strict size gone come next es vs t g (get_or es i e) e i k goes hit lt (own_place es i e lt) away le is on)

    follows_none : (g : Plain) (i : ℕ) → coming cmp size es come ≡ None → gone ≡ Some g → IsHitBy cmp (keys_of es) g i → i < length es → (if nat_lt (length es) size then None else next) ≡ None → (i : Item) × Differs es vs i
    follows_none g i away goes hit lt none =
        (record { left = Some (i, get_or es i (g, g)); came = None }, step_left cmp strict size gone come next es vs t g (get_or es i (g, g)) i goes hit lt (own_place es i (g, g) lt) away none)

    follows : (g : Plain) (i : ℕ) → coming cmp size es come ≡ None → gone ≡ Some g → IsHitBy cmp (keys_of es) g i → i < length es → (o : Option Element) → next ≡ o → (i : Item) × Differs es vs i
    follows g i away goes hit lt None on = follows_none g i away goes hit lt (none_either (nat_lt (length es) size) next on)
    follows g i away goes hit lt (Some e) on =
        elim (cases_lt (length es) size) [
          | inl few ↦ follows_none g i away goes hit lt (rw (lt-ltb (length es) size few) refl)
          | inr full ↦ follows_full g i (length es) e refl away goes hit lt full on
        ]

    moves : (c : Element) (g : Plain) (i : ℕ) → coming cmp size es come ≡ Some c → gone ≡ Some g → IsHitBy cmp (keys_of es) g i → i < length es → ((i : ℕ) × IsHitBy cmp (keys_of es) c.0 i × (i < length es)) ⊎ ((i : ℕ) × IsGapBy cmp (keys_of es) c.0 i) → (i : Item) × Differs es vs i
    moves c g i comes goes hit lt (inl (k, there, _)) =
        (_, step_over cmp strict size gone come next es vs t g (get_or es i c) c i k goes hit lt (own_place es i c lt) comes there)
    moves c g i comes goes hit lt (inr (k, gap)) =
        (_, step_moved cmp strict size gone come next es vs t g (get_or es i c) c i k goes hit lt (own_place es i c lt) comes gap)

    stays : (o : Option Element) → coming cmp size es come ≡ o → with_gone cmp gone es ≡ es → (i : Item) × Differs es vs i
    stays None away same = (record { left = None; came = None }, step_none cmp strict size gone come next es vs t same away)
    stays (Some c) comes same = enters c comes same (locate es c.0)

    leaves : (o : Option Element) (g : Plain) (i : ℕ) → coming cmp size es come ≡ o → gone ≡ Some g → IsHitBy cmp (keys_of es) g i → i < length es → (i : Item) × Differs es vs i
    leaves None g i away goes hit lt = follows g i away goes hit lt next refl
    leaves (Some c) g i comes goes hit lt = moves c g i comes goes hit lt (locate es c.0)

    gone_some : (g : Plain) → gone ≡ Some g → ((i : ℕ) × IsHitBy cmp (keys_of es) g i × (i < length es)) ⊎ ((i : ℕ) × IsGapBy cmp (keys_of es) g i) → (i : Item) × Differs es vs i
    gone_some g goes (inl (i, hit, lt)) = leaves (coming cmp size es come) g i refl goes hit lt
    gone_some g goes (inr (i, gap)) = stays (coming cmp size es come) refl (rw goes (without_none cmp strict es g (find_gap cmp strict.total es g i t.rising gap)))

    gone_at : (o : Option Plain) → gone ≡ o → (i : Item) × Differs es vs i
    gone_at None goes = stays (coming cmp size es come) refl (rw goes refl)
    gone_at (Some g) goes = gone_some g goes (locate es g)

    -- there is one difference
    pub one_difference : (i : Item) × Differs es vs i
    one_difference = gone_at gone refl

    pub turn_folds : folded (item es vs) es ≡ vs
    turn_folds =
        let is = item_is cmp strict es vs one_difference.0 t.rising t.rising_after one_difference.1 in
        ap (λ i. folded i es) is ∙ differs_folds es vs one_difference.0 one_difference.1

-- the item of a change folds the value before it into the value after it
pub value_folds : (l : Limit) → Keyed l.spot → (c : Change) (docs : List (Plain × Plain)) → AreRisingBy order docs → find_by order c.key docs ≡ c.old
    → folded (item (value l docs) (value l (changed c docs))) (value l docs) ≡ value l (changed c docs)
value_folds l keyed c docs up is =
    turn_folds (facing l.descending) (facing_strict l.descending) l.size (kept l.within (pair_at l.spot c.key c.old)) (kept_element l.within (element_at l.spot c.key c.new)) (next_after (facing l.descending) (value l docs) (selection l (changed c docs))) (value l docs) (value l (changed c docs)) (turn l keyed c docs up is)
