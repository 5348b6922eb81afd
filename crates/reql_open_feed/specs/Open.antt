-- A feed of any kind as it is kept.
use Rattle.std.specs.Prelude.{List, Option, Some, None}
use Rattle.reql_datum.specs.Plain.{Plain}
use Rattle.reql_term.specs.Views.{Document}
use Rattle.reql_table_spec.specs.Table.{Held, feed_of}
use Rattle.reql_table.specs.Seen.{Standing}
use Rattle.reql_feed_range.specs.Feed.{watched_key}
use Rattle.reql_feed_limit.specs.Seen.{seen_step}
use Rattle.reql_feed_limit.specs.declared.element.LimitStep.{LimitStep}
use Rattle.reql_open_feed.specs.First.{FirstFits, FirstReads, FirstInstalls, FirstBrings}
use Rattle.reql_open_feed.specs.declared.feed.OpenFeed.{OpenFeed}
use Rattle.reql_open_feed.specs.declared.feed.OpenFeed.TheVariants as feeds

abbrev pub held_in : OpenFeed → Held
held_in (feeds.Range h) = h
held_in (feeds.First f) = f.held

-- a feed of one document or of a range remembers no documents and looks for nothing
abbrev pub Fits : OpenFeed → List Document → Type 0
Fits (feeds.Range h) docs = Unit {0}
Fits (feeds.First f) docs = FirstFits f.feed docs

abbrev pub Reads : OpenFeed → Standing → Type 0
Reads (feeds.Range h) t = Unit {0}
Reads (feeds.First f) t = FirstReads f.feed t

-- a feed of one document looks at that alone
abbrev pub only_in : OpenFeed → Option Plain
only_in (feeds.Range h) = watched_key (feed_of h).watch
only_in (feeds.First f) = None

-- a step of the elements of a limit feed
abbrev pub StepInstalls : OpenFeed → LimitStep → Type 0
StepInstalls (feeds.Range h) s = ⊥
StepInstalls (feeds.First f) s = FirstInstalls f.feed (seen_step s)

abbrev pub StepBrings : OpenFeed → LimitStep → List Document → Type 0
StepBrings (feeds.Range h) s docs = ⊥
StepBrings (feeds.First f) s docs = FirstBrings f.feed (seen_step s) docs

-- no step leaves a feed as it is
abbrev pub Installs : OpenFeed → Option LimitStep → Type 0
Installs f None = Unit {0}
Installs f (Some s) = StepInstalls f s

abbrev pub Brings : OpenFeed → Option LimitStep → List Document → Type 0
Brings f None docs = Fits f docs
Brings f (Some s) docs = StepBrings f s docs
