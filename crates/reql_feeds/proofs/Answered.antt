-- What was prepared of a feed, with room for its items.
use Rattle.std.proofs.Common.{◌≡◌, List, length, Option, Some, None, IfSome, IfNone, refl, sym}
use Rattle.reql_table_spec.specs.Table.{Held}
use Rattle.reql_queue.specs.Queued.{IsRoomFor}
use Rattle.reql_term.specs.Views.{Document}
use Rattle.reql_write_spec.specs.Treated.{Changed}
use Rattle.reql_feeds.specs.Items.{items_in}
use Rattle.reql_feeds.specs.Told.{IsAnswered}
use Rattle.reql_feeds.specs.Turn.{due}
use Rattle.reql_feeds.specs.declared.entry.Entry.{Entry}
use Rattle.reql_feeds.specs.declared.prepared.Prepared.{Prepared}

module _ {F S : Type 0} (held : F → Held) (fits : F → List Document → Type 0) (installs : F → S → Type 0) (brings : F → S → List Document → Type 0) (x : Changed) (after : List Document) where
  pub answered : (e : Entry F) (r : Option (Prepared S)) → items_in r ≡ due (held e.kept) x after → IfNone r (fits e.kept after) → IfSome r (λ (p : Prepared S). installs e.kept p.step)
      → IfSome r (λ (p : Prepared S). brings e.kept p.step after) → ((p : Prepared S) → r ≡ Some p → IsRoomFor (length p.items) e.queue) → IsAnswered held fits installs brings x after e r
  answered e None items stays step comes room = record { none = sym items; stays = stays }
  answered e (Some p) items stays step comes room = record { items = items; step = step; comes = comes; room = room p refl }
