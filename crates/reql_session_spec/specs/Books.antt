-- What a session keeps between its tasks: its cursors, its feeds, and who waits.
use Rattle.std.specs.Prelude.{ℕ, nat_eq, List, [], ◌∷◌, ◌++◌, ◌+◌, map, filter, flat_map, length, Bool, false, not, cond, ◌||◌, Option, Some, None, is_some}
use Rattle.reql_datum.specs.Plain.{Plain}
use Rattle.reql_session_spec.specs.Requests.{Arm, Shown}

-- an open cursor: its token, the items left, and the size of its batches
pub record Cursor : Type 0 where
  pub token : ℕ
  pub rest : List Plain
  pub batch : ℕ

-- an open feed: its token, its arms, the printed items left, of its opening or of a queue, the size of its batches, and its notes
pub record Open : Type 0 where
  pub token : ℕ
  pub arms : List Arm
  pub left : List Shown
  pub batch : ℕ
  pub notes : List ℕ

-- the open cursors, the open feeds in the order of opening, the tokens that wait in order, and the place of the catalogue seen last
pub record Books : Type 0 where
  pub cursors : List Cursor
  pub feeds : List Open
  pub waiting : List ℕ
  pub names : ℕ

abbrev pub has_token : ℕ → List ℕ → Bool
has_token token [] = false
has_token token (t ∷ ts) = nat_eq t token || has_token token ts

abbrev pub without : ℕ → List ℕ → List ℕ
without token ts = filter (λ t. not (nat_eq t token)) ts

abbrev pub no_books : Books
no_books = record { cursors = []; feeds = []; waiting = []; names = 0 }

abbrev pub cursor_of : ℕ → List Cursor → Option Cursor
cursor_of token [] = None
cursor_of token (c ∷ cs) = cond (nat_eq c.token token) (Some c) (cursor_of token cs)

abbrev pub feed_of : ℕ → List Open → Option Open
feed_of token [] = None
feed_of token (f ∷ fs) = cond (nat_eq f.token token) (Some f) (feed_of token fs)

abbrev pub is_open : ℕ → Books → Bool
is_open token b = is_some (cursor_of token b.cursors) || is_some (feed_of token b.feeds)

-- how many cursors and feeds are open
abbrev pub opened : Books → ℕ
opened b = length b.cursors + length b.feeds

-- the token has nothing open any more, and no longer waits
abbrev pub closed : ℕ → Books → Books
closed token b = record b {
  cursors = filter (λ c. not (nat_eq c.token token)) b.cursors;
  feeds = filter (λ f. not (nat_eq f.token token)) b.feeds;
  waiting = without token b.waiting;
}

-- a cursor or a feed goes on with these items left
abbrev pub with_rest : ℕ → List Plain → Books → Books
with_rest token rest b = record b { cursors = map (λ c. cond (nat_eq c.token token) (record c { rest = rest }) c) b.cursors }

abbrev pub with_left : ℕ → List Shown → Books → Books
with_left token left b = record b { feeds = map (λ f. cond (nat_eq f.token token) (record f { left = left }) f) b.feeds }

abbrev pub with_cursor : Cursor → Books → Books
with_cursor c b = record b { cursors = b.cursors ++ c ∷ [] }

abbrev pub with_feed : Open → Books → Books
with_feed f b = record b { feeds = b.feeds ++ f ∷ [] }

abbrev pub waits : ℕ → Books → Books
waits token b = record b { waiting = b.waiting ++ token ∷ [] }

abbrev pub saw_names : ℕ → Books → Books
saw_names place b = record b { names = place }

-- the arms of all open feeds, in the order of opening
abbrev pub all_arms : Books → List Arm
all_arms b = flat_map (λ (f : Open). f.arms) b.feeds
