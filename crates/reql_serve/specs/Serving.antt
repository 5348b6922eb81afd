-- What a server of one session promises.
use Rattle.std.specs.Prelude.{◌≡◌, ℕ, ℤ, List, [], ◌∷◌, map, All}
use Rattle.reql_outside.specs.Source.{Source}
use Rattle.reql_outside.specs.Tape.{Tape}
use Rattle.reql_shared.specs.History.{AllBelow}
use Rattle.reql_shared.specs.Machine.{replay}
use Rattle.reql_shared.specs.Sight.{Object, Closing}
use Rattle.reql_hall.specs.Rooms.{Rooms, Closed, LearnsAll, rooms_of, histories_of, unused_desk}
use Rattle.reql_catalog.specs.Machine.{catalogue_machine}
use Rattle.reql_catalog.specs.declared.catalog.Catalog.{Catalog}
use Rattle.reql_catalog.specs.declared.command.CatCmd.{CatCmd}
use Rattle.reql_table_spec.specs.Machine.{State, machine}
use Rattle.reql_table_spec.specs.declared.command.Order.{Order}
use Rattle.reql_session_spec.specs.Books.{Books, no_books}
use Rattle.reql_session_spec.specs.Tasks.{Talk}
use Rattle.reql_session_spec.specs.declared.end.End.{End}
use Rattle.reql_session_api.specs.World.{IsServed}
use Rattle.reql_desk_moves.specs.Acting.{AtDesk}
use Rattle.reql_session.specs.Settling.{working}

-- a hall with these names and these engines, of which nobody has used anything, and with one desk
pub record Opens (known : Catalog) (engines : List State) (hall : Rooms State Catalog) : Type 0 where
  pub names : hall.names.start ≡ known
  pub slots : map (λ (o : Object State). o.start) hall.slots ≡ engines
  pub names_alone : hall.names.passes ≡ 1
  pub alone : All (λ (o : Object State). o.passes ≡ 1) hall.slots

-- a hall that is closed: its names and its engines are where its histories lead, and each entry is of one of its desks
pub record IsLedTo {E NE : Type 0} (state : E → State) (known : NE → Catalog) (left : Closed E Order State NE CatCmd Catalog) : Type 0 where
  pub names : known left.names.engine ≡ replay catalogue_machine left.names.object.start left.names.history
  pub slots : All (λ (f : Closing E Order State). state f.engine ≡ replay machine f.object.start f.history) left.slots
  pub names_of_desks : AllBelow left.names.object.passes left.names.history
  pub of_desks : All (λ (f : Closing E Order State). AllBelow f.object.passes f.history) left.slots

module _ {PL E NE : Type 0} (k : Talk PL) (some : State) (state : E → State) (known : NE → Catalog) where
  -- One session at the desk of such a hall is explained, with the answers of this clock and these dice, which fail only where
  -- they aren't sound. At the end that desk has seen the whole histories of the hall, whose names and engines are where these
  -- lead, and in which nobody else has an entry.
  pub record ServesOne (names : Catalog) (engines : List State) (clock : Source ℤ) (dice : Source (List ℕ)) (tape : Tape) (end : End) (turns : ℕ) (left : Closed E Order State NE CatCmd Catalog) : Type 0 where
    pub hall : Rooms State Catalog
    pub opens : Opens names engines hall
    pub desk : AtDesk
    pub books : Books
    pub clock_after : Source ℤ
    pub dice_after : Source (List ℕ)
    pub served : IsServed k (working some (unused_desk hall 0) no_books clock dice) (working some desk books clock_after dice_after) tape end turns
    pub closed : rooms_of left ≡ hall
    pub seen : AtDesk
    pub desks : left.desks ≡ seen ∷ []
    pub learns : LearnsAll desk seen (histories_of left)
    pub led : IsLedTo state known left
