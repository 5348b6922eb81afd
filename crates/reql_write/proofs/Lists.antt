-- What is listed, one after another.
use Rattle.std.proofs.Common.{◌≡◌, refl, ap, ◌∙◌, Bool, true, false, if◌then◌else◌, List, [], ◌∷◌, ◌++◌, map, codes}
use Rattle.std.specs.List.{filter}
use Rattle.reql_datum.specs.Members.{put}
use Rattle.reql_datum.specs.Plain.{Plain}
use Rattle.reql_write_spec.specs.Treated.{Treated, inserted, replaced, deleted, unchanged, skipped, failed, shown}
use Rattle.reql_write_spec.specs.Write.{is_change}
use Rattle.reql_write.specs.Listing.{AreNamed, is_wanted}
use Rattle.reql_write.specs.declared.listing.Labels.{Labels}

lists_by : (b : Bool) (f : Treated → Plain) (t : Treated) (ts : List Treated) → map f (if b then t ∷ ts else ts) ≡ map f (if b then t ∷ [] else []) ++ map f ts
lists_by true f t ts = refl
lists_by false f t ts = refl

pub lists_on : (f : Treated → Plain) (test : Treated → Bool) (t : Treated) (ts : List Treated) → map f (filter test (t ∷ ts)) ≡ map f (filter test (t ∷ [])) ++ map f (filter test ts)
lists_on f test t ts = lists_by (test t) f t (filter test ts)

all_wanted : (ts : List Treated) → filter (is_wanted true) ts ≡ ts
all_wanted [] = refl
all_wanted (inserted key new ∷ ts) = ap (λ us. inserted key new ∷ us) (all_wanted ts)
all_wanted (replaced key old new ∷ ts) = ap (λ us. replaced key old new ∷ us) (all_wanted ts)
all_wanted (deleted key old ∷ ts) = ap (λ us. deleted key old ∷ us) (all_wanted ts)
all_wanted (unchanged d ∷ ts) = ap (λ us. unchanged d ∷ us) (all_wanted ts)
all_wanted (skipped ∷ ts) = ap (λ us. skipped ∷ us) (all_wanted ts)
all_wanted (failed why old ∷ ts) = ap (λ us. failed why old ∷ us) (all_wanted ts)

pub always_listed : (items : List Plain) (ts : List Treated) → items ≡ map shown (filter (is_wanted true) ts) → items ≡ map shown ts
always_listed items ts h = h ∙ ap (map shown) (all_wanted ts)

pub changes_wanted : (ts : List Treated) → filter (is_wanted false) ts ≡ filter is_change ts
changes_wanted [] = refl
changes_wanted (inserted key new ∷ ts) = ap (λ us. inserted key new ∷ us) (changes_wanted ts)
changes_wanted (replaced key old new ∷ ts) = ap (λ us. replaced key old new ∷ us) (changes_wanted ts)
changes_wanted (deleted key old ∷ ts) = ap (λ us. deleted key old ∷ us) (changes_wanted ts)
changes_wanted (unchanged d ∷ ts) = changes_wanted ts
changes_wanted (skipped ∷ ts) = changes_wanted ts
changes_wanted (failed why old ∷ ts) = changes_wanted ts

-- an object by its names
pub two_put : (l : Labels) (new old : Plain) → AreNamed l → put l.old old (put l.new new []) ≡ (codes "new_val", new) ∷ (codes "old_val", old) ∷ []
two_put l new old h = rw (h.new, h.old) refl

pub error_put : (l : Labels) (why new old : Plain) → AreNamed l → put l.error why ((codes "new_val", new) ∷ (codes "old_val", old) ∷ []) ≡ (codes "error", why) ∷ (codes "new_val", new) ∷ (codes "old_val", old) ∷ []
error_put l why new old h = rw h.error refl
