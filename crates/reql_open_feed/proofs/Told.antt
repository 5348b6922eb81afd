-- What a limit feed with its request is told of a change.
use Rattle.std.proofs.Common.{◌≡◌, List, [], map, Bool, true, false, ◌||◌, Option, Some, None, refl, sym, ap, ◌∙◌}
use Rattle.std.specs.Prelude.{is_some}
use Rattle.reql_datum.specs.Plain.{Plain}
use Rattle.reql_term.specs.Views.{Document}
use Rattle.reql_feed_spec.specs.Feeds.{Watch, first_of, queued_as, squashes, differences, queued}
use Rattle.reql_feed_spec.specs.Items.{Difference, limit_items}
use Rattle.reql_feed_spec.specs.Shown.{Shows as Printed, shown}
use Rattle.reql_table_spec.specs.Table.{Held, feed_of}
use Rattle.reql_write_spec.specs.Treated.{Changed}
use Rattle.reql_feed_limit.specs.Asked.{IsOf}
use Rattle.reql_feed_limit.specs.Feed.{Feed, Shows, told}
use Rattle.reql_feed_limit.specs.Items.{Item, Placed, folded}
use Rattle.reql_feed_limit.specs.Order.{first_in}
use Rattle.reql_feed_limit.specs.Selection.{Element}
use Rattle.reql_feeds.specs.Turn.{undone, done, due, Leads}
use Rattle.reql_open_feed.specs.First.{Comes}

-- ---- a step that changes nothing
still_left : (o p : Option Placed) → false ≡ (is_some o || is_some p) → o ≡ None
still_left None p e = refl
still_left (Some x) p e = absurd (let f : false ≡ true = e in cc)

still_came : (o p : Option Placed) → false ≡ (is_some o || is_some p) → p ≡ None
still_came None None e = refl
still_came None (Some y) e = absurd (let f : false ≡ true = e in cc)
still_came (Some x) p e = absurd (let f : false ≡ true = e in cc)

still_is : (i : Item) → false ≡ (is_some i.left || is_some i.came) → i ≡ record { left = None; came = None }
still_is i e = (λ j. record { left = still_left i.left i.came e j; came = still_came i.left i.came e j })

pub still_told : (s : Printed) (i : Item) → false ≡ (is_some i.left || is_some i.came) → [] ≡ map (shown s) (told i)
still_told s i e = sym (ap (λ x. map (shown s) (told x)) (still_is i e))

pub still_folded : (i : Item) → false ≡ (is_some i.left || is_some i.came) → (es : List Element) → folded i es ≡ es
still_folded i e es = ap (λ x. folded x es) (still_is i e)

pub still_shows : (f : Feed) (i : Item) (docs : List Document) → folded i f.elements ≡ f.elements → Comes f i docs → Shows f docs
still_shows f i docs same comes = sym same ∙ comes

-- ---- what is queued
queued_by : (w : Watch) (squashed : Bool) (s : Printed) (key : Plain) (n : _) (o : _) → w ≡ first_of n o → (before after : List Document) → map (queued_as w squashed s key) (differences w before after) ≡ map (shown s) (differences w before after)
queued_by w squashed s key n o is before after = rw is refl

module _ (h : Held) (x : Changed) (after : List Document) where
  pub none_due : IsOf None h → [] ≡ due h x after
  none_due is = sym (ap (λ w. map (queued_as w (squashes (feed_of h)) (feed_of h).shows x.key) (differences w (undone x after) (done x (undone x after)))) is)

  pub first_due : (f : Feed) (ds : List Difference) (r : List Plain) → IsOf (Some f) h → Leads x after → ds ≡ limit_items (first_in f.order (undone x after)) (first_in f.order after)
      → r ≡ map (shown (record { offsets = h.spec.offsets; types = h.spec.types })) ds → r ≡ due h x after
  first_due f ds r is leads told queued =
      queued
      ∙ ap (map (shown (feed_of h).shows)) (told ∙ ap (λ d. limit_items (first_in f.order (undone x after)) (first_in f.order d)) (sym leads.leads))
      ∙ sym (ap (λ w. map (queued_as w (squashes (feed_of h)) (feed_of h).shows x.key) (differences w (undone x after) (done x (undone x after)))) is.0)
