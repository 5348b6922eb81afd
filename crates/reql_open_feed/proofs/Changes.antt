-- What a change is to a feed of one document or of a range.
use Rattle.std.proofs.Common.{◌≡◌, nat_eq, List, [], ◌∷◌, length, true, Option, None, refl, sym, ◌∙◌, subst, arith}
use borrow.Author.Tests.{eqb-true}
use Rattle.reql_datum.specs.Order.{order}
use Rattle.reql_datum.specs.Plain.{Plain}
use Rattle.reql_memory.specs.Sorted.{AreRisingBy, find_by}
use Rattle.reql_term.specs.Views.{Document}
use Rattle.reql_feed_spec.specs.Feeds.{queued}
use Rattle.reql_table_spec.specs.Table.{Held, feed_of}
use Rattle.reql_write_spec.specs.Treated.{Changed}
use Rattle.reql_feed_limit.specs.declared.element.LimitStep.{LimitStep}
use Rattle.reql_feeds.specs.Turn.{undone, due, Leads}
use Rattle.reql_open_feed.specs.Open.{Brings, Installs}
use Rattle.reql_open_feed.specs.declared.feed.OpenFeed.TheVariants as feeds

pub none_of : (items : List Plain) → true ≡ nat_eq (length items) 0 → [] ≡ items
none_of [] e = refl
none_of (x ∷ xs) e = let none = eqb-true (length (x ∷ xs)) 0 (sym e) in absurd (omega (arith, none))

pub range_due : (h : Held) (x : Changed) (after : List Document) (r items : List Plain) → Leads x after → r ≡ items
    → ((docs : List Document) → AreRisingBy order docs → find_by order x.key docs ≡ x.old → items ≡ queued (feed_of h) docs (x.key, x.new)) → r ≡ due h x after
range_due h x after r items leads same told = same ∙ told (undone x after) leads.rising leads.found

pub range_installs : (h : Held) (s : Option LimitStep) → s ≡ None → Installs (feeds.Range h) s
range_installs h s e = subst (Installs (feeds.Range h)) (sym e) tt

pub range_brings : (h : Held) (s : Option LimitStep) (docs : List Document) → s ≡ None → Brings (feeds.Range h) s docs
range_brings h s docs e = subst (λ x. Brings (feeds.Range h) x docs) (sym e) tt
