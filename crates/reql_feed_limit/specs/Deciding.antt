-- What each kind of step says: under every change that it may answer, it is the difference of the two values.
use Rattle.std.specs.Prelude.{◌≡◌, ℕ, nat_lt, length, Bool, List, Option, Some, None, if◌then◌else◌, slice_index_or}
use Rattle.std.specs.Map.{keys_of}
use Rattle.reql_datum.specs.Plain.{Plain}
use Rattle.reql_memory.specs.Sorted.{IsHitBy}
use Rattle.reql_feed_limit.specs.Selection.{Element, facing}
use Rattle.reql_feed_limit.specs.Items.{Item}
use Rattle.reql_feed_limit.specs.Differs.{Differs}
use Rattle.reql_feed_limit.specs.Edits.{with_gone}
use Rattle.reql_feed_limit.specs.Boundary.{coming, Turn}

-- the element at a place leaves, and another comes at one
abbrev pub Moves : List Element → ℕ → ℕ → Element → Item → Type 0
Moves es from to came i = (x : Element) × (slice_index_or es from x ≡ x) × (i ≡ record { left = Some (from, x); came = Some (to, came) })

abbrev pub Arrives : Bool → ℕ → List Element → Element → Item → Type 0
Arrives d size es c i = (gone : Option Plain) (come next : Option Element) (vs : List Element) → Turn (facing d) size gone come next es vs
    → with_gone (facing d) gone es ≡ es → coming (facing d) size es come ≡ Some c → Differs es vs i

abbrev pub Exchanges : Bool → List Element → ℕ → Element → Item → Type 0
Exchanges d es from c i = (size : ℕ) (g : Plain) (gone : Option Plain) (come next : Option Element) (vs : List Element) → Turn (facing d) size gone come next es vs
    → gone ≡ Some g → IsHitBy (facing d) (keys_of es) g from → coming (facing d) size es come ≡ Some c → Differs es vs i

abbrev pub Leaves : List Element → ℕ → Option Element → Item → Type 0
Leaves es from follows i = (d : Bool) (size : ℕ) (g : Plain) (gone : Option Plain) (come next : Option Element) (vs : List Element) → Turn (facing d) size gone come next es vs
    → gone ≡ Some g → IsHitBy (facing d) (keys_of es) g from → coming (facing d) size es come ≡ None → (if nat_lt (length es) size then None else next) ≡ follows → Differs es vs i

-- nothing goes, and what comes is told
abbrev pub Stays : Bool → ℕ → List Element → Option Element → Item → Type 0
Stays d size es o i = (gone : Option Plain) (come next : Option Element) (vs : List Element) → Turn (facing d) size gone come next es vs
    → with_gone (facing d) gone es ≡ es → coming (facing d) size es come ≡ o → Differs es vs i
