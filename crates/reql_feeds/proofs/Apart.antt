-- A change of another document than the one that a feed looks at.
use Rattle.std.proofs.Common.{◌≡◌, List, [], map, Bool, true, false, not, Option, Some, None, if◌then◌else◌, refl, sym, ap, ◌∙◌}
use Rattle.reql_datum.specs.Plain.{Plain}
use Rattle.reql_rules.specs.Types.{same}
use Rattle.reql_bag.proofs.Bags.{same_itself}
use Rattle.reql_term.specs.Views.{Document}
use Rattle.reql_feed_spec.specs.Feeds.{one_key, queued_as, differences, squashes}
use Rattle.reql_feed_spec.specs.Items.{point_items}
use Rattle.reql_feed_spec.specs.Shown.{or_null}
use Rattle.reql_feed_spec.specs.Value.{changed, point_value}
use Rattle.reql_feed_spec.proofs.Points.{point_after}
use Rattle.reql_table_spec.specs.Table.{Held, feed_of}
use Rattle.reql_write_spec.specs.Treated.{Changed}
use Rattle.reql_feeds.specs.Only.{IsNothing, IsOfOne, is_other}
use Rattle.reql_feeds.specs.Turn.{undone, due, Leads}

-- ---- a point feed
nothing_new : (v w : Plain) → w ≡ v → point_items v w ≡ []
nothing_new v w e = ap (point_items v) e ∙ rw (same_itself v) refl

point_stays : (key : Plain) (x : Changed) (docs : List Document) (b : Bool) → same key x.key ≡ b → b ≡ false → point_value key (changed x.key x.new docs) ≡ (if same key x.key then or_null x.new else point_value key docs)
    → point_value key (changed x.key x.new docs) ≡ point_value key docs
point_stays key x docs b is off found = found ∙ ap (λ c. if c then or_null x.new else point_value key docs) (is ∙ off)

-- a change of another document is nothing to the feed of a key
pub apart_due : (h : Held) (key : Plain) → (feed_of h).watch ≡ one_key key → (x : Changed) (after : List Document) → Leads x after → same key x.key ≡ false → due h x after ≡ []
apart_due h key is x after leads off =
    let docs = undone x after in
    let there = point_stays key x docs (same key x.key) refl off (point_after key x.key x.new docs leads.rising) in
    ap (λ w. map (queued_as w (squashes (feed_of h)) (feed_of h).shows x.key) (differences w docs (changed x.key x.new docs))) is
    ∙ ap (map (queued_as (one_key key) (squashes (feed_of h)) (feed_of h).shows x.key)) (nothing_new (point_value key docs) (point_value key (changed x.key x.new docs)) there)

-- ---- a feed of any kind
apart : (b : Bool) → not b ≡ true → b ≡ false
apart true e = sym e
apart false e = refl

module _ {F : Type 0} (held : F → Held) (fits : F → List Document → Type 0) (only : F → Option Plain) (law : (f : F) (key : Plain) → only f ≡ Some key → IsOfOne held fits f key) where
  other_at : (o : Option Plain) (f : F) (x : Changed) (after : List Document) → only f ≡ o → is_other o x.key ≡ true → Leads x after → fits f (undone x after) → IsNothing held fits f x after
  other_at None f x after is other leads fit = absurd (cc)
  other_at (Some key) f x after is other leads fit = law f key is x after leads fit (apart (same key x.key) other)

  pub passed_over : (f : F) (x : Changed) (after : List Document) (b : Bool) → b ≡ is_other (only f) x.key → b ≡ true → Leads x after → fits f (undone x after) → IsNothing held fits f x after
  passed_over f x after b is so leads fit = other_at (only f) f x after refl (sym is ∙ so) leads fit
