-- What the table of a shared engine keeps, and what each step tells.
use Rattle.std.specs.Prelude.{◌≡◌, ◌≢◌, ℕ, suc, ◌-◌, ◌^◌, ◌<◌, ◌≤◌, min, List, [], ◌∷◌, ◌++◌, length, Bool, true, false}
use Rattle.std.specs.Prelude.{Option, Some, None}
use mathlib.Core.Option.{some}
use lib.ListN.{get_elem?}
use Rattle.atomic_table.specs.Seated.{TableId}
use Rattle.atomic_table.specs.Table.{State, Me}
use Rattle.std.specs.declared.snapshot.Snapshot.{Snapshot}
use Rattle.reql_shared.specs.declared.recorded.Recorded.{Recorded}
use Rattle.reql_shared.specs.declared.view.View.{View}
use Rattle.reql_shared.specs.declared.view.Lodged.{Lodged}
use Rattle.reql_shared.specs.History.{noted, own, AllBelow, Begins, longer}
use Rattle.reql_shared.specs.Machine.{Machine, replay}
use Rattle.reql_shared.specs.Sight.{Sight, Closing}

module _ {C S : Type 0} where
  -- a seat that has seen nothing
  abbrev pub newcomer : S → ℕ → View C S
  newcomer start passes = record {
    live = true;
    start = start;
    passes = passes;
    seen = [];
    own = false;
    number = 0;
    marks = [];
    holds = false;
    maker = false;
    next = 0;
    joined = false;
    mine_old = [];
    other_old = [];
  }

  -- the first seat, which makes the passes
  abbrev pub maker : S → ℕ → ℕ → View C S
  maker start passes next = let v = newcomer start passes in record v { maker = true; next = next }

  -- the maker after it has made one more pass, and that pass
  abbrev pub made_one : View C S → View C S
  made_one v = maker v.start v.passes (suc v.next)

  abbrev pub new_pass : View C S → View C S
  new_pass v = let w = newcomer v.start v.passes in record w { own = true; number = v.next }

  -- the lists that were joined begin what is seen now, which has no further entry of the view's number; what the holder had is the whole
  abbrev pub Told : View C S → Type 0
  Told v = Begins v.mine_old v.seen × Begins v.other_old v.seen × (v.own ≡ true → own v.number v.seen ≡ own v.number v.mine_old) × (v.holds ≡ true → v.seen ≡ v.other_old)

  -- what the rule says of one view
  pub record Agrees (start : S) (passes next : ℕ) (log : List (Recorded C)) (v : View C S) : Type 0 where
    pub started : v.live ≡ true → v.start ≡ start
    pub most : v.live ≡ true → v.passes ≡ passes
    pub prefix : Begins v.seen log
    pub all : v.own ≡ true → own v.number log ≡ own v.number v.seen
    pub low : v.own ≡ true → v.number < next
    pub whole : v.holds ≡ true → v.seen ≡ log
    pub makes : v.maker ≡ true → v.next ≡ next
    pub told : v.joined ≡ true → Told v

  -- the slot has an engine whose state is the replay of this history
  abbrev pub Lodges : {E R Q A : Type 0} → (E → S) → Machine S C R Q A → S → List (Recorded C) → Lodged E C → Type 0
  Lodges {E} state machine start log d = (y : E) × (d.engine ≡ Some y) × (state y ≡ replay machine start log) × (machine.place (state y) ≡ length log)

  abbrev pub BothNumbered : View C S → View C S → Type 0
  BothNumbered v w = (v.own ≡ true) × (w.own ≡ true) × (v.number ≡ w.number)

  abbrev pub BothHold : View C S → View C S → Type 0
  BothHold v w = (v.holds ≡ true) × (w.holds ≡ true)

  abbrev pub BothMake : View C S → View C S → Type 0
  BothMake v w = (v.maker ≡ true) × (w.maker ≡ true)

  -- two views that are so are one
  abbrev pub Unique : (View C S → View C S → Type 0) → List (View C S) → Type 0
  Unique R views = (i j : ℕ) (v w : View C S) → get_elem? views i ≡ some v → get_elem? views j ≡ some w → R v w → i ≡ j

  -- The rule. Word 0 counts the entries. Word 1 is the lock: while it is 0, the engine lies in slot 0 and no view has the lock.
  pub record Kept {D : Type 0} (lodges : S → List (Recorded C) → D → Type 0) (start : S) (passes : ℕ) (s : State D (View C S)) : Type 0 where
    pub log : List (Recorded C)
    pub next : ℕ
    pub lock : ℕ
    pub words : s.words ≡ length log ∷ lock ∷ []
    pub few : next ≤ passes
    pub low : AllBelow next log
    pub home : lock ≡ 0 → (d : D) × (get_elem? s.homes 0 ≡ some (some d)) × lodges start log d
    pub free : lock ≡ 0 → (i : ℕ) (v : View C S) → get_elem? s.views i ≡ some v → v.holds ≡ false
    pub each : (i : ℕ) (v : View C S) → get_elem? s.views i ≡ some v → Agrees start passes next log v
    pub apart : Unique BothNumbered s.views
    pub alone : Unique BothHold s.views
    pub one : Unique BothMake s.views

  -- the lock is taken at this history
  abbrev pub caught : View C S → List (Recorded C) → View C S
  caught v log = record v { seen = log; marks = v.marks ++ length log ∷ []; holds = true; joined = false; mine_old = []; other_old = [] }

  pub record Entered {D : Type 0} (lodges : S → List (Recorded C) → D → Type 0) (v : View C S) (r : Me D (View C S)) : Type 0 where
    pub engine : D
    pub log : List (Recorded C)
    pub now : r ≡ (caught v log, (0, engine) ∷ [])
    pub lodged : lodges v.start log engine
    pub prefix : Begins v.seen log
    pub all : v.own ≡ true → own v.number log ≡ own v.number v.seen
    pub low : AllBelow v.passes log

  abbrev pub Takes : {D : Type 0} → (S → List (Recorded C) → D → Type 0) → Me D (View C S) → ℕ → Me D (View C S) → Type 0
  Takes lodges m found r = (found ≡ 0 → Entered lodges m.0 r) × (found ≢ 0 → r ≡ m)

  -- the holder counts the entries
  abbrev pub Counts : {D : Type 0} → Me D (View C S) → ℕ → Me D (View C S) → Type 0
  Counts m found r = (r ≡ m) × (found ≡ length m.0.seen)

  -- the holder appends the command that lies in its slot
  abbrev pub longer_by : View C S → Recorded C → View C S
  longer_by v e = record v { seen = v.seen ++ e ∷ []; joined = false; mine_old = []; other_old = [] }

  abbrev pub add_asked : View C S → Option (Snapshot C) → View C S
  add_asked v None = v
  add_asked v (Some c) = longer_by v (noted v.number c.value)

  abbrev pub added : {E : Type 0} → View C S → List (ℕ × Lodged E C) → View C S
  added v [] = v
  added v (x ∷ xs) = add_asked v x.1.asked

  abbrev pub Appends : {E : Type 0} → Me (Lodged E C) (View C S) → ℕ → Me (Lodged E C) (View C S) → Type 0
  Appends m found r = (r ≡ (added m.0 m.1, m.1)) × (found ≡ length m.0.seen)

  -- what the holder has seen after its command
  abbrev pub grown : Bool → View C S → Recorded C → View C S
  grown true v e = longer_by v e
  grown false v e = v

  -- the seat has the lock and the engine, which is at the end of what was seen
  abbrev pub IsIn : {D : Type 0} → (S → List (Recorded C) → D → Type 0) → Me D (View C S) → Type 0
  IsIn {D} lodges m = (m.0.holds ≡ true) × ((d : D) × (m.1 ≡ (0, d) ∷ []) × lodges m.0.start m.0.seen d)

  -- the seat has the slot, whatever lies in it
  abbrev pub HasSlot : {D : Type 0} → Me D (View C S) → Type 0
  HasSlot {D} m = (d : D) × (m.1 ≡ (0, d) ∷ [])

  -- the lock is given back
  abbrev pub released : View C S → View C S
  released v = record v { holds = false; joined = false; mine_old = []; other_old = [] }

  abbrev pub GivesBack : {D : Type 0} → Me D (View C S) → ℕ → Me D (View C S) → Type 0
  GivesBack m found r = r ≡ (released m.0, [])

  -- a view that is used up
  abbrev pub spent : S → View C S
  spent s = let v = newcomer s 0 in record v { live = false }

  -- what was seen, for another pass
  abbrev pub note : View C S → View C S
  note v = record v { own = false; number = 0; marks = []; holds = false; maker = false; next = 0; joined = false; mine_old = []; other_old = [] }

  -- a pass takes in a note
  abbrev pub heard : View C S → View C S → View C S
  heard v w = record v { seen = longer v.seen w.seen; joined = true; mine_old = v.seen; other_old = w.seen }

  -- the seat at the end takes in a pass
  abbrev pub taken : View C S → View C S → View C S
  taken v w = record v { seen = longer v.seen w.seen; own = w.own; number = w.number; marks = w.marks; joined = true; mine_old = w.seen; other_old = v.seen }

  -- what the joined lists are is told
  abbrev pub settled : View C S → View C S
  settled v = record v { joined = false; mine_old = []; other_old = [] }

  abbrev pub Settles : {D : Type 0} → Me D (View C S) → ℕ → Me D (View C S) → Type 0
  Settles m found r = (r ≡ (settled m.0, m.1)) × (m.0.joined ≡ true → Told m.0)

  -- the pass comes out again, with all that the seat at the end has seen, and what that seat is left with
  abbrev pub parted : View C S → View C S
  parted v = record v { holds = false; maker = false; next = 0; joined = false; mine_old = []; other_old = [] }

  abbrev pub kept_back : View C S → View C S
  kept_back v = record v { own = false; number = 0; marks = []; joined = false; mine_old = []; other_old = [] }

  -- what contracts see of a pass whose seat has this view
  abbrev pub sight : TableId → View C S → Sight C S
  sight id v = record { object = record { id = id; start = v.start; passes = v.passes }; number = v.number; seen = v.seen; marks = v.marks }

  -- a pass between two calls
  pub record Rests {D : Type 0} (m : Me D (View C S)) (number place visits : ℕ) : Type 0 where
    pub live : m.0.live ≡ true
    pub own : m.0.own ≡ true
    pub numbered : m.0.number ≡ number
    pub free : m.0.holds ≡ false
    pub settled : m.0.joined ≡ false
    pub empty : m.1 ≡ []
    pub placed : place ≡ length m.0.seen
    pub counted : visits ≡ min (length m.0.marks) (2 ^ 64 - 1)

  -- the seat that ended the sharing
  pub record Ends {D : Type 0} (m : Me D (View C S)) : Type 0 where
    pub live : m.0.live ≡ true
    pub own : m.0.own ≡ false
    pub held : m.0.holds ≡ true

module _ {E C S : Type 0} where
  -- what contracts see of the end
  abbrev pub closing : TableId → View C S → E → Closing E C S
  closing id v engine = record { object = record { id = id; start = v.start; passes = v.passes }; history = v.seen; engine = engine }

module _ {C S : Type 0} where
  -- The first pass has seen the longer of what both had seen, which the two begin. Its own entries and marks are as before.
  pub record Merges (old other new : Sight C S) : Type 0 where
    pub object : new.object ≡ old.object
    pub number : new.number ≡ old.number
    pub seen : new.seen ≡ longer old.seen other.seen
    pub mine : own old.number (longer old.seen other.seen) ≡ own old.number old.seen
    pub marks : new.marks ≡ old.marks
    pub left : Begins old.seen (longer old.seen other.seen)
    pub right : Begins other.seen (longer old.seen other.seen)
