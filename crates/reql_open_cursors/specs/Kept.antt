-- A shelf as the books of a session.
use Rattle.std.specs.Prelude.{ℕ, ◌+◌, List, length, map, min, drop, Vec}
use Rattle.std.specs.Global.{Global}
use Rattle.reql_session_spec.specs.Books as story
use Rattle.reql_session_spec.specs.Requests.{Arm, Shown}
use Rattle.reql_session_api.specs.declared.answered.Shown as told
use Rattle.reql_session_api.specs.Meant.{arms_of, shown_of}
use Rattle.reql_open_cursors.specs.declared.open.Cursor.{Cursor}
use Rattle.reql_open_cursors.specs.declared.open.Open.{Open}
use Rattle.reql_open_cursors.specs.declared.shelf.Shelf.{Shelf}

abbrev pub cursor_kept : Cursor → story.Cursor
cursor_kept c = record { token = c.token; rest = drop c.from c.items; batch = c.batch }

-- items of a feed with these arms, from a place on
abbrev pub items_left : List Arm → List told.Shown → ℕ → List Shown
items_left arms items from = map (shown_of arms) (drop from items)

abbrev pub feed_kept : Open → story.Open
feed_kept f = record { token = f.token; arms = arms_of f.arms.items; left = items_left (arms_of f.arms.items) f.items.items f.from; batch = f.batch; notes = f.notes }

abbrev pub books_of : Shelf → story.Books
books_of s = record { cursors = map cursor_kept s.cursors.items; feeds = map feed_kept s.feeds.items; waiting = s.waiting.items; names = s.names }

-- the first ones that are left are told
abbrev pub cursor_on : Cursor → Cursor
cursor_on c = record c { from = min (c.from + c.batch) (length c.items) }

abbrev pub feed_on : Open → Open
feed_on f = record f { from = min (f.from + f.batch) (length f.items.items) }

-- other items are left, from a place on
abbrev pub feed_at : Vec told.Shown Global → ℕ → Open → Open
feed_at items from f = record f { items = items; from = from }
