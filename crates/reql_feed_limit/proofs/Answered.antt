-- Each kind of step is the difference of the two values.
use Rattle.std.proofs.Common.{◌≡◌, ℕ, zero, suc, ◌-◌, ◌<◌, ◌≤◌, nat_lt, List, [], ◌∷◌, length, get_or, Bool, true, false, if◌then◌else◌, Option, Some, None, is_eq, refl, sym, ap, ◌∙◌, subst, arith}
use Rattle.std.specs.Map.{keys_of}
use Rattle.std.proofs.lemmas.Bool.{ltb-false}
use Rattle.reql_datum.specs.Plain.{Plain}
use Rattle.reql_datum.specs.Order.{order}
use Rattle.reql_memory.specs.Sorted.{find_by, IsHitBy, IsGapBy}
use Rattle.reql_feed_limit.specs.Selection.{Element, facing}
use Rattle.reql_feed_limit.specs.Items.{Item}
use Rattle.reql_feed_limit.specs.Differs.{Differs}
use Rattle.reql_feed_limit.specs.Edits.{with_gone}
use Rattle.reql_feed_limit.specs.Boundary.{coming, Turn}
use Rattle.reql_feed_limit.proofs.Law.{facing_strict}
use Rattle.reql_feed_limit.proofs.Cases.{gap_within, absent_here, full_some, step_none, step_new, step_push, step_left, step_next, step_moved, step_over}
use Rattle.reql_feed_limit.specs.Deciding.{Moves, Arrives, Exchanges, Leaves, Stays}

-- a difference told by an equal item
as_item : {es vs : List Element} {i j : Item} → i ≡ j → Differs es vs j → Differs es vs i
as_item {es} {vs} e by = let P : Item → Type 0 = λ k. Differs es vs k in subst P (sym e) by

get_either : (es : List Element) (i : ℕ) (x y : Element) → i < length es → get_or es i x ≡ get_or es i y
get_either [] i x y lt = absurd (omega arith)
get_either (e ∷ es) zero x y lt = refl
get_either (e ∷ es) (suc i) x y lt = get_either es i x y (omega arith)

module _ (d : Bool) where
  missing : (size : ℕ) (gone : Option Plain) (come next : Option Element) (es vs : List Element) → Turn (facing d) size gone come next es vs → (c : Element) → with_gone (facing d) gone es ≡ es → coming (facing d) size es come ≡ Some c → find_by (facing d) c.0 es ≡ None
  missing size gone come next es vs t c same comes =
      ap (find_by (facing d) c.0) (sym same) ∙ absent_here (facing d) (facing_strict d) size gone come next es vs t c comes

  pub arrive_new : (size : ℕ) (es : List Element) (c : Element) (j : ℕ) → length es < size → (find_by (facing d) c.0 es ≡ None → IsGapBy (facing d) (keys_of es) c.0 j) → Arrives d size es c (record { left = None; came = Some (j, c) })
  arrive_new size es c j few gap gone come next vs t same comes =
      let there = gap (missing size gone come next es vs t c same comes) in
      step_new (facing d) (facing_strict d) size gone come next es vs t c j same comes few there (gap_within (facing d) (facing_strict d) es c.0 j there)

  pub arrive_none : (size : ℕ) (es : List Element) (c : Element) (i : Item) → size ≤ length es → length es ≡ 0 → Arrives d size es c i
  arrive_none size es c i full none gone come next vs t same comes = absurd (full_some (facing d) size es come c full comes none)

  pub arrive_push : (size : ℕ) (es : List Element) (c : Element) (j k : ℕ) (i : Item) → size ≤ length es → suc k ≡ length es → (find_by (facing d) c.0 es ≡ None → IsGapBy (facing d) (keys_of es) c.0 j) → Moves es k j c i → Arrives d size es c i
  arrive_push size es c j k i full more gap moved gone come next vs t same comes =
      let there = gap (missing size gone come next es vs t c same comes) in
      as_item (moved.2) (step_push (facing d) (facing_strict d) size gone come next es vs t c moved.0 j k same comes full more there moved.1)

  pub exchange_moved : (es : List Element) (from k : ℕ) (c : Element) (i : Item) → from < length es → IsGapBy (facing d) (keys_of es) c.0 k → Moves es from (if nat_lt from k then k - 1 else k) c i → Exchanges d es from c i
  exchange_moved es from k c i lt gap moved size g gone come next vs t goes hit comes =
      as_item (moved.2) (step_moved (facing d) (facing_strict d) size gone come next es vs t g moved.0 c from k goes hit lt moved.1 comes gap)

  pub exchange_same : (es : List Element) (from k : ℕ) (x c : Element) → from < length es → get_or es from x ≡ x → IsHitBy (facing d) (keys_of es) c.0 k → is_eq (order x.1 c.1) ≡ true → Exchanges d es from c (record { left = None; came = None })
  exchange_same es from k x c lt is there tie size g gone come next vs t goes hit comes =
      rw tie at (step_over (facing d) (facing_strict d) size gone come next es vs t g x c from k goes hit lt is comes there)

  pub exchange_over : (es : List Element) (from k : ℕ) (x c : Element) (i : Item) → from < length es → get_or es from x ≡ x → IsHitBy (facing d) (keys_of es) c.0 k → is_eq (order x.1 c.1) ≡ false → Moves es from from c i → Exchanges d es from c i
  exchange_over es from k x c i lt is there tie moved size g gone come next vs t goes hit comes =
      let same : moved.0 ≡ x = sym (moved.1) ∙ get_either es from moved.0 x lt ∙ is in
      as_item (moved.2) (rw (ap (λ (e : Element). is_eq (order e.1 c.1)) same ∙ tie) at (step_over (facing d) (facing_strict d) size gone come next es vs t g moved.0 c from k goes hit lt moved.1 comes there))

pub leave_none : (es : List Element) (from : ℕ) (x : Element) → from < length es → get_or es from x ≡ x → Leaves es from None (record { left = Some (from, x); came = None })
leave_none es from x lt is d size g gone come next vs t goes hit away none = step_left (facing d) (facing_strict d) size gone come next es vs t g x from goes hit lt is away none

follows_at : (b : Bool) (next : Option Element) (e : Element) → (if b then None else next) ≡ Some e → (b ≡ false) × (next ≡ Some e)
follows_at true next e h = let f : None ≡ Some e = h in cc
follows_at false next e h = (refl, h)

pub leave_next : (es : List Element) (from : ℕ) (e : Element) (i : Item) → from < length es → Moves es from (length es - 1) e i → Leaves es from (Some e) i
leave_next es from e i lt moved d size g gone come next vs t goes hit away on =
    let both = follows_at (nat_lt (length es) size) next e on in
    as_item (moved.2) (step_next (facing d) (facing_strict d) size gone come next es vs t g moved.0 e from (length es - 1) goes hit lt moved.1 away (ltb-false (length es) size both.0) (omega arith) both.1)

pub stay_none : (d : Bool) (size : ℕ) (es : List Element) (o : Option Element) (i : Item) → o ≡ None → i ≡ record { left = None; came = None } → Stays d size es o i
stay_none d size es o i none nothing gone come next vs t same comes =
    as_item nothing (step_none (facing d) (facing_strict d) size gone come next es vs t same (comes ∙ none))
