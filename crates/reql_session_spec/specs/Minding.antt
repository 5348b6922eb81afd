-- What a session needs of plans for its feeds: a plan takes from none, closes only what it opened, tells of all these where it ends
-- with a feed and of no others, and has none open where it ends with a stream. It gives no answer where none is wanted, and only there.
use Rattle.std.specs.Prelude.{◌≡◌, ℕ, ◌<◌, nat_eq, List, [], ◌∷◌, ◌++◌, map, length, Bool, true, false, not, ◌&&◌, ◌||◌}
use Rattle.std.specs.List.{AllByRecursion}
use Rattle.reql_datum.specs.Plain.{Plain}
use Rattle.reql_table_spec.specs.Replies.{Answered as Told}
use Rattle.reql_table_spec.specs.declared.command.Cmd.{Cmd}
use Rattle.reql_table_spec.specs.declared.command.Cmd.TheVariants as cmds
use Rattle.reql_table_spec.specs.declared.command.Order.{Order}
use Rattle.reql_table_spec.specs.declared.reply.Saved.{Saved}
use Rattle.reql_session_spec.specs.Requests.{Arm, Sort, Skip, Change, Shown, Answered, Unsent, Stream, Feed, RunSlot, Ends, Found, RanSlot}
use Rattle.reql_session_spec.specs.Tasks.{Talk, arms_after}

abbrev pub has_arm : ℕ → ℕ → List Arm → Bool
has_arm slot feed [] = false
has_arm slot feed (a ∷ arms) = (nat_eq a.slot slot && nat_eq a.feed feed) || has_arm slot feed arms

-- a command of a plan that has these arms open
abbrev pub Minds : List Arm → ℕ → Cmd → Type 0
Minds arms slot (cmds.Take feed max) = ⊥
Minds arms slot (cmds.Unsubscribe feed) = has_arm slot feed arms ≡ true
Minds arms slot other = Unit {0}

-- an item that is no change, and tells of no skipped ones
abbrev pub IsAside : Sort → Type 0
IsAside Change = ⊥
IsAside Skip = ⊥
IsAside other = Unit {0}

-- what was found other than by a command on a slot
abbrev pub IsOther : Found → Type 0
IsOther (RanSlot slot r saved) = ⊥
IsOther other = Unit {0}

-- the slots and numbers of arms
abbrev pub places : List Arm → List (ℕ × ℕ)
places arms = map (λ (a : Arm). (a.slot, a.feed)) arms

-- each arm once
abbrev pub are_apart : List Arm → Bool
are_apart [] = true
are_apart (a ∷ arms) = not (has_arm a.slot a.feed arms) && are_apart arms

-- the arms of a feed are just those that are open, in their order, each once, and there is one
pub record IsWhole (feed arms : List Arm) : Type 0 where
  pub all : places feed ≡ places arms
  pub apart : are_apart feed ≡ true
  pub some : 0 < length feed

module _ {PL : Type 0} (k : Talk PL) where
  -- `on` says of a plan, noreply, a count, what was found and the arms that are open that a course comes by there
  pub record PlansMind (on : PL → Bool → ℕ → List Found → List Arm → Type 0) : Type 0 where
    pub begins : (plan : PL) (noreply : Bool) (count : ℕ) → on plan noreply count [] []
    pub runs : (plan : PL) (noreply : Bool) (count : ℕ) (found : List Found) (arms : List Arm) (slot : ℕ) (order : Order) (reply : Told) (saved : Saved) →
        on plan noreply count found arms → k.next plan noreply count found ≡ RunSlot slot order → Minds arms slot order.cmd × on plan noreply count (found ++ RanSlot slot reply saved ∷ []) (arms_after slot order.cmd reply.said arms)
    pub finds : (plan : PL) (noreply : Bool) (count : ℕ) (found : List Found) (arms : List Arm) (x : Found) →
        on plan noreply count found arms → IsOther x → on plan noreply count (found ++ x ∷ []) arms
    pub ends : (plan : PL) (noreply : Bool) (count : ℕ) (found : List Found) (arms feed : List Arm) (notes : List ℕ) (items : List Shown) →
        on plan noreply count found arms → k.next plan noreply count found ≡ Ends (Feed feed notes items) →
        ((s f : ℕ) → has_arm s f feed ≡ true → has_arm s f arms ≡ true) × AllByRecursion (λ (x : Shown). IsAside x.sort) items
    -- a feed is told with all that is open, so that none is left that a STOP does not close
    pub whole : (plan : PL) (noreply : Bool) (count : ℕ) (found : List Found) (arms feed : List Arm) (notes : List ℕ) (items : List Shown) →
        on plan noreply count found arms → k.next plan noreply count found ≡ Ends (Feed feed notes items) → IsWhole feed arms
    -- a stream is told while nothing is open, so that its cursor keeps no feed
    pub bare : (plan : PL) (noreply : Bool) (count : ℕ) (found : List Found) (arms : List Arm) (vs : List Plain) →
        on plan noreply count found arms → k.next plan noreply count found ≡ Ends (Stream vs) → arms ≡ []
    -- where no answer is wanted there is none
    pub quiet : (plan : PL) (count : ℕ) (found : List Found) (a : Answered) → k.next plan true count found ≡ Ends a → a ≡ Unsent
    -- and only there, so that a client that waits for an answer gets one
    pub loud : (plan : PL) (count : ℕ) (found : List Found) → k.next plan false count found ≡ Ends Unsent → ⊥
