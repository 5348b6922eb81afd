-- A change of another document is nothing to the feed of one.
use Rattle.std.proofs.Common.{◌≡◌, Option, Some, None, ap}
use Rattle.reql_datum.specs.Plain.{Plain}
use Rattle.reql_feed_spec.specs.Feeds.{Watch, one_key, all_given, first_of, nothing}
use Rattle.reql_table_spec.specs.Table.{feed_of}
use Rattle.reql_feeds.specs.Only.{IsOfOne}
use Rattle.reql_feeds.proofs.Apart.{apart_due}
use Rattle.reql_feed_range.specs.Feed.{watched_key}
use Rattle.reql_open_feed.specs.Open.{held_in, Fits, only_in}
use Rattle.reql_open_feed.specs.declared.feed.OpenFeed.{OpenFeed}
use Rattle.reql_open_feed.specs.declared.feed.OpenFeed.TheVariants as feeds

one_watched : (w : Watch) (key : Plain) → watched_key w ≡ Some key → w ≡ one_key key
one_watched (one_key k) key is = let some : Some k ≡ Some key = is in let same : k ≡ key = cc in ap one_key same
one_watched (all_given shape) key is = absurd (let none : None ≡ Some key = is in cc)
one_watched (first_of n selection) key is = absurd (let none : None ≡ Some key = is in cc)
one_watched (nothing kind) key is = absurd (let none : None ≡ Some key = is in cc)

pub alone : (f : OpenFeed) (key : Plain) → only_in f ≡ Some key → IsOfOne held_in Fits f key
alone (feeds.Range h) key is = λ x after leads fit off. record { none = apart_due h key (one_watched (feed_of h).watch key is) x after leads off; stays = tt }
alone (feeds.First f) key is = absurd (let none : None ≡ Some key = is in cc)
