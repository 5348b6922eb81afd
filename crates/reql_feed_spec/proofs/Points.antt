-- What a point feed sees of a change.
use Rattle.std.proofs.Common.{◌≡◌, List, Option, Some, None, Bool, true, false, if◌then◌else◌, refl, ap, ◌∙◌, inl, inr}
use Rattle.reql_datum.specs.Plain.{Plain}
use Rattle.reql_datum.specs.Order.{order}
use Rattle.reql_datum.specs.Total.{order_total}
use Rattle.reql_memory.specs.Sorted.{AreRisingBy, find_by, put_by, without_by}
use Rattle.reql_memory.proofs.Finds as finds
use Rattle.reql_rules.specs.Types.{same}
use Rattle.reql_term.specs.Views.{Document}
use Rattle.reql_bag.proofs.Bags.{same_itself, same_or}
use Rattle.reql_feed_spec.specs.Shown.{or_null}
use Rattle.reql_feed_spec.specs.Value.{changed, point_value}

pub same_flip : (a b : Plain) → same a b ≡ false → same b a ≡ false
same_flip a b off = elim (same_or b a) [ inl e ↦ absurd (let t : same a b ≡ true = rw e (same_itself a) in cc (t, off)) | inr ne ↦ ne ]

flip_at : (a b : Bool) (x y : Plain) → same x y ≡ a → same y x ≡ b → a ≡ b
flip_at true true x y h k = refl
flip_at true false x y h k = absurd (let t : same x y ≡ false = same_flip y x k in cc (t, h))
flip_at false true x y h k = absurd (let t : same y x ≡ false = same_flip x y h in cc (t, k))
flip_at false false x y h k = refl

pub find_put : (ms : List Document) (k v q : Plain) → find_by order q (put_by order k v ms) ≡ (if same q k then Some v else find_by order q ms)
find_put = finds.find_put order order_total

pub find_without : (ms : List Document) (k q : Plain) → AreRisingBy order ms → find_by order q (without_by order k ms) ≡ (if same q k then None else find_by order q ms)
find_without ms k q up = finds.find_without order order_total ms k q up ∙ ap (λ b. if b then None else find_by order q ms) (flip_at (same k q) (same q k) k q refl refl)

found_at : (b : Bool) (v : Plain) (found : Option Plain) → or_null (if b then Some v else found) ≡ (if b then v else or_null found)
found_at true v found = refl
found_at false v found = refl

lost_at : (b : Bool) (found : Option Plain) → or_null (if b then None else found) ≡ (if b then or_null None else or_null found)
lost_at true found = refl
lost_at false found = refl

pub point_after : (key k : Plain) (new : Option Plain) (docs : List Document) → AreRisingBy order docs → point_value key (changed k new docs) ≡ (if same key k then or_null new else point_value key docs)
point_after key k None docs up = ap or_null (find_without docs k key up) ∙ lost_at (same key k) (find_by order key docs)
point_after key k (Some v) docs up = ap or_null (find_put docs k v key) ∙ found_at (same key k) v (find_by order key docs)
