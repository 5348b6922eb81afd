-- What each kind of feed owes the machine that keeps its queue: its items fold to its value, one change after another or joined.
use Rattle.std.specs.Prelude.{◌≡◌, ◌<◌, ◌≤◌, ℕ, List, [], ◌∷◌, Bool, true, false}
use Rattle.std.specs.List.{AllByRecursion}
use Rattle.reql_datum.specs.Order.{order}
use Rattle.reql_datum.specs.Plain.{Plain}
use Rattle.reql_memory.specs.Sorted.{AreRisingBy}
use Rattle.reql_term.specs.Views.{Document}
use Rattle.reql_value_spec.specs.Shapes.{IsByDocument}
use Rattle.reql_feed_spec.specs.Value.{Change, changed, limit_value}
use Rattle.reql_feed_spec.specs.Moves.{IsOneMove}
use Rattle.reql_feed_spec.specs.Feeds.{Watch, one_key, all_given, first_of, nothing, Feed, squashes, queued, changed_by, appended, bare, net, kind_of, value, fold}
use Rattle.reql_feed_spec.specs.declared.kind.FeedKind.{FeedKind}

-- what is followed is one of the shapes of feeds: a range goes by document, a change of a limit moves one element at most
abbrev pub MayFollow : Watch → List Document → Change → Type 0
MayFollow (one_key key) docs c = Unit {0}
MayFollow (all_given shape) docs c = IsByDocument shape
MayFollow (first_of n selection) docs c = IsOneMove (limit_value n selection docs) (limit_value n selection (changed c.0 c.1 docs))
MayFollow (nothing kind) docs c = Unit {0}

abbrev pub AllFollow : Watch → List Document → List Change → Type 0
AllFollow w docs [] = Unit {0}
AllFollow w docs (c ∷ cs) = MayFollow w docs c × AllFollow w (changed c.0 c.1 docs) cs

-- after a change the documents rise as before
abbrev pub ChangesKeepOrder : Type 0
ChangesKeepOrder = (docs : List Document) (c : Change) → AreRisingBy order docs → AreRisingBy order (changed c.0 c.1 docs)

-- the items of one change fold over the value before it to the value after it
abbrev pub OneChangeFolds : Type 0
OneChangeFolds = (f : Feed) (docs : List Document) (c : Change) → squashes f ≡ false → MayFollow f.watch docs c → fold f (value f docs) (queued f docs c) ≡ value f (changed c.0 c.1 docs)

-- what joins a queue folds over the value before its changes to the value after them
abbrev pub JoinedChangesFold : Type 0
JoinedChangesFold = (f : Feed) (docs : List Document) (n : ℕ) (cs : List Change) → squashes f ≡ true → AreRisingBy order docs → AllFollow f.watch docs cs
    → fold f (value f docs) (bare (net (kind_of f.watch) f.shows.types (appended f docs n cs))) ≡ value f (changed_by docs cs)

-- nothing joins to nothing, and what joins a queue has stamps from it
abbrev pub NothingJoinsToNothing : Type 0
NothingJoinsToNothing = (kind : FeedKind) (types : Bool) → net kind types [] ≡ []

abbrev pub JoinedStampsStayAbove : Type 0
JoinedStampsStayAbove = (kind : FeedKind) (types : Bool) (n : ℕ) (items : List (ℕ × Plain)) → AllByRecursion (λ (i : ℕ × Plain). n < i.0) items → AllByRecursion (λ (i : ℕ × Plain). n < i.0) (net kind types items)

abbrev pub JoinedStampsStayBelow : Type 0
JoinedStampsStayBelow = (kind : FeedKind) (types : Bool) (n : ℕ) (items : List (ℕ × Plain)) → AllByRecursion (λ (i : ℕ × Plain). i.0 ≤ n) items → AllByRecursion (λ (i : ℕ × Plain). i.0 ≤ n) (net kind types items)
