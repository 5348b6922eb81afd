-- A session as its program has it: its link, its clock and its dice, its desk, and what it remembers.
use Rattle.std.specs.Prelude.{◌≡◌, ◌≢◌, ℕ, ℤ, ◌+◌, true, List, [], ◌∷◌, flat_map, Option, Some, None}
use Rattle.reql_outside.specs.Source.{Source, with_all}
use Rattle.reql_outside.specs.Tape.{Tape, counted}
use Rattle.reql_shared.specs.Sight.{Sight}
use Rattle.reql_catalog.specs.declared.catalog.Catalog.{Catalog}
use Rattle.reql_catalog.specs.declared.command.CatCmd.{CatCmd}
use Rattle.reql_table_spec.specs.Machine.{State}
use Rattle.reql_table_spec.specs.declared.command.Order.{Order}
use Rattle.reql_session_spec.specs.Requests.{Arm}
use Rattle.reql_session_spec.specs.Books.{Books, all_arms}
use Rattle.reql_session_spec.specs.Tasks.{Talk}
use Rattle.reql_session_spec.specs.Logins.{Stage}
use Rattle.reql_session_spec.specs.Session.{Doing, Mach, fresh}
use Rattle.reql_session_spec.specs.Explained.{Wears}
use Rattle.reql_session_spec.specs.Worlds.{Place, Goes, Ended, IsExplained}
use Rattle.reql_session_spec.specs.declared.end.End.{End}
use Rattle.reql_session_spec.specs.declared.end.End.TheVariants as ends

pub record World (PL : Type 0) : Type 0 where
  pub tape : Tape
  pub clock : Source ℤ
  pub dice : Source (List ℕ)
  pub place : Place PL

module _ {X : Type 0} where
  -- what was given in some calls, of which others failed, and how many did
  abbrev pub given_in : Option X → List X
  given_in None = []
  given_in (Some x) = x ∷ []

  abbrev pub given : List (Option X) → List X
  given calls = flat_map given_in calls

  abbrev pub failed_in : Option X → ℕ
  failed_in None = 1
  failed_in (Some x) = 0

  abbrev pub failed : List (Option X) → ℕ
  failed [] = 0
  failed (x ∷ calls) = failed_in x + failed calls

  -- What each call of a clock or of dice answered from one moment to a later one: what it gave, where they tell it, or that
  -- it failed. So often the count of faults rose, and never where they are sound.
  pub record Gave (old new : Source X) (calls : List (Option X)) : Type 0 where
    pub gave : new.gave ≡ with_all (given calls) old.gave
    pub faults : new.faults ≡ counted old.faults (failed calls)
    pub sound : new.sound ≡ old.sound
    pub never : old.sound ≡ true → failed calls ≡ 0

module _ {PL : Type 0} (k : Talk PL) where
  -- from one world to another, in so many turns
  pub record Runs (a b : World PL) (n : ℕ) : Type 0 where
    pub moments : List (Option ℤ)
    pub rolls : List (Option (List ℕ))
    pub goes : Goes k a.tape b.tape a.place b.place moments rolls n
    pub clock : Gave a.clock b.clock moments
    pub dice : Gave a.dice b.dice rolls

  -- from a world to an end, with these arms still to be closed
  pub record Ends (a b : World PL) (end : End) (arms : List Arm) (n : ℕ) : Type 0 where
    pub moments : List (Option ℤ)
    pub rolls : List (Option (List ℕ))
    pub ended : Ended k a.tape b.tape a.place b.place moments rolls end arms n
    pub clock : Gave a.clock b.clock moments
    pub dice : Gave a.dice b.dice rolls

-- what handles a session's frames: its desk, its books, its clock and its dice
pub record AtWork : Type 0 where
  pub slots : ℕ → Sight Order State
  pub names : Sight CatCmd Catalog
  pub books : Books
  pub clock : Source ℤ
  pub dice : Source (List ℕ)

module _ {PL : Type 0} where
  abbrev pub place_at : AtWork → Mach PL → Place PL
  place_at w m = record { slots = w.slots; names = w.names; now = m }

  abbrev pub world_of : Tape → AtWork → Mach PL → World PL
  world_of tape w m = record { tape = tape; clock = w.clock; dice = w.dice; place = place_at w m }

  abbrev pub mach_at : AtWork → List ℕ → Stage → Doing PL → Mach PL
  mach_at w held stage doing = record { held = held; greeted = stage; books = w.books; doing = doing; out = [] }

  abbrev pub world_at : Tape → AtWork → List ℕ → Stage → Doing PL → World PL
  world_at tape w held stage doing = world_of tape w (mach_at w held stage doing)

module _ {PL : Type 0} (k : Talk PL) where
  -- an end before all turns were used up, with all that is open still to be closed
  pub record EndsHere (a : World PL) (tape : Tape) (w : AtWork) (end : End) (n : ℕ) : Type 0 where
    pub early : end ≢ ends.Worn
    pub last : Mach PL
    pub ends : Ends k a (world_of tape w last) end (all_arms w.books) n

  -- it goes on so, or ends
  abbrev pub Outcome : World PL → Tape → AtWork → List ℕ → Stage → Doing PL → ℕ → Option End → Type 0
  Outcome a tape w held stage doing n None = Runs k a (world_at tape w held stage doing) n
  Outcome a tape w held stage doing n (Some end) = EndsHere a tape w end n

  -- all turns up to an end, or as many as there may be
  pub record Serves (a : World PL) (most : ℕ) (tape : Tape) (w : AtWork) (end : End) (n : ℕ) : Type 0 where
    pub last : Mach PL
    pub ends : Ends k a (world_of tape w last) end (all_arms w.books) n
    pub wears : Wears most n end

  -- A whole session, from what was at work before it to what was after it: it is explained by what was done at the desk, with
  -- the answers of its clock and its dice, each a moment, bytes, or that it failed.
  pub record IsServed (a b : AtWork) (tape : Tape) (end : End) (n : ℕ) : Type 0 where
    pub moments : List (Option ℤ)
    pub rolls : List (Option (List ℕ))
    pub explained : IsExplained k (place_at a fresh) (place_at b fresh) tape moments rolls end n
    pub clock : Gave a.clock b.clock moments
    pub dice : Gave a.dice b.dice rolls
