-- The boundary of a value that is full, and the next element beyond it.
use Rattle.std.specs.Prelude.{◌≡◌, ℕ, nat_lt, ◌≤◌, take, length, ◌++◌, Bool, true, not, ◌&&◌, List, [], ◌∷◌, Option, Some, None, if◌then◌else◌}
use Rattle.std.specs.List.{filter}
use Rattle.std.specs.Ordering.{is_lt}
use Rattle.std.specs.declared.cmp.Ordering.{Ordering}
use Rattle.std.specs.declared.cmp.Ordering.TheVariants.{Less}
use Rattle.reql_datum.specs.Plain.{Plain}
use Rattle.reql_datum.specs.Order.{order}
use Rattle.reql_feed_limit.specs.Selection.{Element}
use Rattle.reql_memory.specs.Sorted.{AreRisingBy, find_by}
use Rattle.reql_feed_limit.specs.Edits.{edited, with_gone}

-- whether a pair comes after all of a list
abbrev pub after_all : (Plain → Plain → Ordering) → List Element → Plain → Bool
after_all cmp [] p = true
after_all cmp (e ∷ es) p = is_lt (cmp e.0 p) && after_all cmp es p

abbrev pub first_of : {X : Type 0} → List X → Option X
first_of [] = None
first_of (x ∷ xs) = Some x

-- the next element of a list after all of a value
abbrev pub next_after : (Plain → Plain → Ordering) → List Element → List Element → Option Element
next_after cmp es all = first_of (filter (λ e. after_all cmp es e.0) all)

-- the element, unless it comes after all of a value
abbrev pub near : (Plain → Plain → Ordering) → List Element → Option Element → Option Element
near cmp es None = None
near cmp es (Some c) = if after_all cmp es c.0 then None else Some c

abbrev pub listed : {X : Type 0} → Option X → List X
listed None = []
listed (Some x) = x ∷ []

-- a pair, and an element, where it lies between the bounds
abbrev pub kept : (Plain → Bool) → Option Plain → Option Plain
kept within None = None
kept within (Some p) = if within p then Some p else None

abbrev pub kept_element : (Plain → Bool) → Option Element → Option Element
kept_element within None = None
kept_element within (Some e) = if within e.0 then Some e else None

-- what lies between two pairs that are between the bounds is between them too
pub record Convex (within : Plain → Bool) : Type 0 where
  pub between : (a b c : Plain) → order a b ≡ Less → order b c ≡ Less → within a ≡ true → within c ≡ true → within b ≡ true

-- the value after a change, told by the value before it: what of it is left and came near, and one more that follows
abbrev pub next_value : (Plain → Plain → Ordering) → ℕ → Option Plain → Option Element → Option Element → List Element → List Element
next_value cmp size gone come next es = take size (edited cmp gone come es ++ listed next)

-- where the value has room, whatever comes is near
abbrev pub coming : (Plain → Plain → Ordering) → ℕ → List Element → Option Element → Option Element
coming cmp size es come = if nat_lt (length es) size then come else near cmp es come

-- the next element of an ordered list after a pair
abbrev pub neighbour : (Plain → Plain → Ordering) → Plain → List Element → Option Element
neighbour cmp b es = first_of (filter (λ e. is_lt (cmp b e.0)) es)

-- nothing stands under the pair that comes once the other has gone
abbrev pub Fresh : (Plain → Plain → Ordering) → Option Plain → Option Element → List Element → Type 0
Fresh cmp g None es = Unit {0}
Fresh cmp g (Some c) es = find_by cmp c.0 (with_gone cmp g es) ≡ None

-- what follows comes after all of the value
abbrev pub Later : (Plain → Plain → Ordering) → Option Element → List Element → Type 0
Later cmp None es = Unit {0}
Later cmp (Some e) es = after_all cmp es e.0 ≡ true

-- a value and the value after a change by which a pair goes and an element comes
pub record Turn (cmp : Plain → Plain → Ordering) (size : ℕ) (gone : Option Plain) (come next : Option Element) (es vs : List Element) : Type 0 where
  pub rising : AreRisingBy cmp es
  pub rising_after : AreRisingBy cmp vs
  pub few : length es ≤ size
  pub fresh : Fresh cmp gone come es
  pub later : Later cmp next es
  pub after : vs ≡ next_value cmp size gone (coming cmp size es come) (if nat_lt (length es) size then None else next) es

-- whether an element's pair comes after a pair, and before the best one so far
abbrev pub is_nearer : (Plain → Plain → Ordering) → Plain → Plain → Option Element → Bool
is_nearer cmp b p None = is_lt (cmp b p)
is_nearer cmp b p (Some best) = is_lt (cmp b p) && not (is_lt (cmp best.0 p))

-- of an element and the best one so far, the first after a pair
abbrev pub nearer : (Plain → Plain → Ordering) → Plain → Option Element → Option Element → Option Element
nearer cmp b None best = best
nearer cmp b (Some e) best = if is_nearer cmp b e.0 best then Some e else best
