-- What a START is answered whose plan came to a feed, and what is open then.
use Rattle.std.specs.Prelude.{◌≡◌, ◌⊎◌, ℕ, Bool, true, false, List, [], take, drop, Some}
use Rattle.std.specs.List.{AllByRecursion}
use Rattle.reql_session_spec.specs.Requests.{Arm, Shown, Feed, Answer, Internal, Batch, points_from, stamped}
use Rattle.reql_session_spec.specs.Books.{Open, Books, feed_of}
use Rattle.reql_session_spec.specs.Tasks.{Talk, batch_size, is_long, fitted}
use Rattle.reql_session_spec.specs.Session.{Event, Say, Mach, fresh, Step, Run, PlanEnds}
use Rattle.reql_session_spec.specs.Continuing.{IsWithin, IsFree, WasWanted}

module _ {PL : Type 0} (k : Talk PL) where
  -- the feed that a plan came to, with what is left behind its first batch
  abbrev pub feed_from : (m n : Mach PL) → PlanEnds k m n → List Arm → List ℕ → List Shown → Open
  feed_from m n s arms notes items = record { token = s.token; arms = arms; left = drop (batch_size k s.plan) items; batch = batch_size k s.plan; notes = notes }

  -- its first batch, which may have no items, with the points of what the plan found
  abbrev pub first_batch : (m n : Mach PL) → PlanEnds k m n → List ℕ → List Shown → Answer
  first_batch m n s notes items = Batch notes (take (batch_size k s.plan) items) (Some (stamped m.books.names (points_from [] s.found)))

  -- Where a plan comes to its end with a feed, the next answer, with no turn, visit or frame before it, has the plan's token. It is
  -- the first batch, and when it was sent whole the feed is open with all its arms; or the fault of a first batch that is too long;
  -- or INTERNAL, where memory was wanted. With it the plan's task is over.
  abbrev pub EachBegins : Type 0
  EachBegins = (before : List Event) (m x y z : Mach PL) (s : PlanEnds k m x) (arms : List Arm) (notes : List ℕ) (items : List Shown) (es : List Event) (t : ℕ) (a : Answer) (whole : Bool)
      → Run k fresh before m → s.to ≡ Feed arms notes items → Run k x es y → AllByRecursion IsWithin es → Step k y (Say t a whole) z
      → (t ≡ s.token) × IsFree z.doing × (b : Books) × (whole ≡ true → z.books ≡ b)
      × (((a ≡ fitted k (first_batch m x s notes items)) × (is_long k (first_batch m x s notes items) ≡ false → feed_of s.token b.feeds ≡ Some (feed_from m x s arms notes items)))
      ⊎ ((a ≡ Internal) × WasWanted es))
