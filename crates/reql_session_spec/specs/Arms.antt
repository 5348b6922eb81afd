-- No two feeds that a session has open share an arm.
use Rattle.std.specs.Prelude.{◌≡◌, true, List, ◌++◌}
use Rattle.reql_session_spec.specs.Books.{all_arms}
use Rattle.reql_session_spec.specs.Tasks.{Talk}
use Rattle.reql_session_spec.specs.Minding.{are_apart}
use Rattle.reql_session_spec.specs.Session.{Event, Mach, fresh, Run}
use Rattle.reql_session_spec.specs.Explained.{DeskShare, Life, Explained}

module _ {PL : Type 0} (k : Talk PL) where
  -- Along the events of an explained session, the arms of all feeds that are open at one time are apart, by their slots and numbers: no feed has an arm twice, and
  -- no two feeds have one in common. So what a table queues for a feed in the books, and a Take gives, is of one of these feeds, and an Unsubscribe closes no other
  -- of them. (Feeds of two desks are apart by their owners, and those of one table by their numbers.)
  abbrev pub ArmsAreApart : Type 0
  ArmsAreApart = (share : DeskShare) (life : Life) (x : Explained k share life) (before after : List Event) (m : Mach PL)
      → x.events ≡ before ++ after → Run k fresh before m → are_apart (all_arms m.books) ≡ true
