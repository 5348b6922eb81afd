-- Requests as they are planned are read for what they mean.
use Rattle.std.proofs.Common.{◌≡◌, ℕ, nat_eq, List, [], ◌∷◌, ◌++◌, Ok, Bool, true, false, ◌&&◌, ◌||◌, refl, ap, ◌⊎◌, inl, inr, arith}
use Rattle.std.proofs.lemmas.Bool.{eqb-true}
use Rattle.reql_rules.specs.Lists.{Bytes}
use Rattle.reql_term.specs.Form.{Form, literal, several, keyed, variable, implicit, function, slot, operation, Forms, no_forms, form}
use Rattle.reql_value_spec.specs.Shapes.{is_stage, is_part}
use Rattle.reql_write_spec.specs.Selecting.{slots, slots_of, slots_named}
use Rattle.reql_feed_spec.specs.Kept.{by_shape, is_shape, on_shape, is_table, on_table, are_free, fields_free}
use Rattle.reql_feed_spec.specs.Watched.{Part, whole, between, AreBounds, first_term, part_term}
use Rattle.reql_feed_spec.proofs.Sources.{same_name}
use Rattle.reql_table_spec.specs.Followed.{first_slot, part_of, first_by, Ordered}
use Rattle.reql_table_spec.specs.Reading.{PointsAreRead, RangesAreRead, NamedRangesAreRead, LimitsAreRead, LimitsByKeyAreRead}

pub itself : (n : ℕ) → nat_eq n n ≡ true
itself n = grind arith

pub points : PointsAreRead
points s indexes n key h = rw h refl

-- ---- the one slot of a shape stands first
pub both : (a b : Bool) → a && b ≡ true → (a ≡ true) × (b ≡ true)
both true b h = (refl, h)
both false b h = absurd (cc (h))

either : (a b : Bool) → a || b ≡ true → (a ≡ true) ⊎ (b ≡ true)
either true b h = inl refl
either false b h = inr h

abbrev pub Starts : ℕ → List ℕ → Type 0
Starts n ns = (rest : List ℕ) × (ns ≡ n ∷ rest)

pub starts_on : (n : ℕ) (xs ys : List ℕ) → Starts n xs → Starts n (xs ++ ys)
starts_on n xs ys s = (s.0 ++ ys, ap (λ z. z ++ ys) s.1)

table_starts : (n : ℕ) (f : Form) → is_table n f ≡ true → Starts n (slots f)
table_starts n (slot k) h = ([], ap (λ z. z ∷ []) (eqb-true k n h))
table_starts n (literal d) h = absurd (cc (h))
table_starts n (several fs) h = absurd (cc (h))
table_starts n (keyed ms) h = absurd (cc (h))
table_starts n (variable id) h = absurd (cc (h))
table_starts n implicit h = absurd (cc (h))
table_starts n (function ids body) h = absurd (cc (h))
table_starts n (operation o fs ms) h = absurd (cc (h))

part_starts : (n : ℕ) (fs : Forms) → on_table n fs ≡ true → Starts n (slots_of fs)
part_starts n no_forms h = absurd (cc (h))
part_starts n (form f fs) h = starts_on n (slots f) (slots_of fs) (table_starts n f (both (is_table n f) (are_free [] fs) h).0)

mutual
  shape_starts : (n : ℕ) (f : Form) → is_shape n f ≡ true → Starts n (slots f)
  shape_starts n (slot k) h = ([], ap (λ z. z ∷ []) (eqb-true k n h))
  shape_starts n (operation o fs ms) h =
      let p = both (fields_free [] ms) ((is_stage o && on_shape n fs) || (is_part o && on_table n fs)) h in
      starts_on n (slots_of fs) (slots_named ms) (elim (either (is_stage o && on_shape n fs) (is_part o && on_table n fs) p.1) [
        | inl q ↦ stage_starts n fs (both (is_stage o) (on_shape n fs) q).1
        | inr q ↦ part_starts n fs (both (is_part o) (on_table n fs) q).1
      ])
  shape_starts n (literal d) h = absurd (cc (h))
  shape_starts n (several fs) h = absurd (cc (h))
  shape_starts n (keyed ms) h = absurd (cc (h))
  shape_starts n (variable id) h = absurd (cc (h))
  shape_starts n implicit h = absurd (cc (h))
  shape_starts n (function ids body) h = absurd (cc (h))

  stage_starts : (n : ℕ) (fs : Forms) → on_shape n fs ≡ true → Starts n (slots_of fs)
  stage_starts n no_forms h = absurd (cc (h))
  stage_starts n (form f fs) h = starts_on n (slots f) (slots_of fs) (shape_starts n f (both (is_shape n f) (are_free [] fs) h).0)

pub first_of : (n : ℕ) (ns : List ℕ) → Starts n ns → first_slot ns ≡ n
first_of n ns s = ap first_slot s.1

pub ranges : RangesAreRead
ranges s indexes n f is none = rw none (ap (λ k. by_shape s.key indexes k f) (first_of n (slots f) (shape_starts n f is)))

pub named_ranges : NamedRangesAreRead
named_ranges s indexes n f name is some = rw some (rw (same_name name) (ap (λ k. by_shape s.key indexes k f) (first_of n (slots f) (shape_starts n f is))))

-- ---- limits: the part, then the order, then the number
part_read : (key : Bytes) (n : ℕ) (name : Bytes) (part : Part) → AreBounds part → part_of key name (part_term n name part) ≡ Ok part
part_read key n name whole b = refl
part_read key n name (between bottom true top true) b = rw (same_name name) (rw b.0 (rw b.1 refl))
part_read key n name (between bottom true top false) b = rw (same_name name) (rw b.0 (rw b.1 refl))
part_read key n name (between bottom false top true) b = rw (same_name name) (rw b.0 (rw b.1 refl))
part_read key n name (between bottom false top false) b = rw (same_name name) (rw b.0 (rw b.1 refl))

abbrev order_read : Bytes → Part → Bool → Ordered
order_read name part down = record { part = part; name = name; down = down }

first_read : (key : Bytes) (n : ℕ) (name : Bytes) (part : Part) (down : Bool) (count : ℕ) → AreBounds part → first_by key (first_term n name part down count) ≡ Ok (order_read name part down, count)
first_read key n name part true count b = rw (part_read key n name part b) refl
first_read key n name part false count b = rw (part_read key n name part b) refl

pub limits : LimitsAreRead
limits s indexes n name i part down count off found b = rw (first_read s.key n name part down count b) (rw (itself count) (rw (same_name name) (rw off (rw found refl))))

pub limits_by_key : LimitsByKeyAreRead
limits_by_key s indexes n name part down count on b = rw (first_read s.key n name part down count b) (rw (itself count) (rw (same_name name) (rw on refl)))
