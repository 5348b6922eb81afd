-- Blocks read one after another, and the table that they stand for.
use Rattle.std.proofs.Common.{◌≡◌, ◌≢◌, ◌⊎◌, inl, inr, ℕ, ◌+◌, ◌≤◌, ◌<◌, List, [], ◌∷◌, ◌++◌, length, Bool, true, false, Option, Some, None, option_and_then, Result, Ok, Err, Vec, vec_items, refl, sym, ap, ◌∙◌, subst, arith}
use Rattle.std.specs.declared.alloc.Global.{Global}
use Rattle.reql_disk.specs.Disk.{Past, Synced, seen}
use Rattle.reql_disk.specs.Calls.{grown}
use Rattle.reql_blocks.specs.Format.{content, StandsFor}
use Rattle.reql_blocks.specs.Held.{Held, Rests}
use Rattle.reql_blocks.specs.Recovery.{Place, HasRead, IsDamaged, NextIs}
use Rattle.reql_blocks.specs.Beginning.{Opens, Refuses}
use Rattle.reql_blocks.specs.declared.recovery.OpenFault.{OpenFault}
use Rattle.reql_blocks.specs.declared.recovery.OpenFault.TheVariants as open_fault
use Rattle.reql_records.specs.Books.{Journal}
use Rattle.reql_table_records.specs.Standing.{Standing, Leads, blank, after_body, after_bodies, stands}
use Rattle.reql_journal.specs.Opening.{IsWrong, IsNoTable, Stood, StoodAll, FaultIs, ReadsNext, ReadsAll, OpensTable, RefusesTable}
use Rattle.reql_journal.proofs.Recovering.{bodies_both}

one_more : (bodies : List (List ℕ)) (body : List ℕ) (t u : Standing) → stands bodies ≡ Some t → after_body t body ≡ Some u → stands (bodies ++ body ∷ []) ≡ Some u
one_more bodies body t u is leads =
    bodies_both blank bodies (body ∷ []) ∙ (ap (option_and_then (λ v. after_bodies v (body ∷ []))) is ∙ ap (option_and_then (λ v. Some v)) leads)

-- a block that goes on
pub goes_on : (bodies : List (List ℕ)) (past : Past) (p : Place) (body read_body : List ℕ) (t u : Standing) (done : Bool) → HasRead (bodies ++ body ∷ []) past p → stands bodies ≡ Some t → read_body ≡ body → done ≡ true → Leads done (after_body t read_body) u → Stood past p u
goes_on bodies past p body read_body t u done read is same test leads =
    let there : after_body t body ≡ Some u = subst (λ b. after_body t b ≡ Some u) same (subst (λ b. Leads b (after_body t read_body) u) test leads) in
    record { bodies = bodies ++ body ∷ []; read = read; stand = one_more bodies body t u is there }

-- a block that doesn't
pub goes_wrong : (bodies : List (List ℕ)) (past : Past) (old p : Place) (body read_body : List ℕ) (t u : Standing) (done : Bool) (place : ℕ) → HasRead bodies past old → place ≡ old.gate → HasRead (bodies ++ body ∷ []) past p → stands bodies ≡ Some t → read_body ≡ body → done ≡ false
    → Leads done (after_body t read_body) u → FaultIs past p (open_fault.Damaged place)
goes_wrong bodies past old p body read_body t u done place before at read is same test leads =
    let none : after_body t body ≡ None = subst (λ b. after_body t b ≡ None) same (subst (λ b. Leads b (after_body t read_body) u) test leads) in
    (read.told, inr (record { bodies = bodies; body = body; rest = read.rest; joined = read.joined; fit = read.fit; at = at ∙ before.gate; table = t; stand = is; wrong = none }))

-- a fault of the reader
pub fails : (bodies : List (List ℕ)) (past : Past) (old p : Place) (why : OpenFault) → HasRead bodies past old → p.told.past ≡ old.told.past → NextIs bodies past p (Err why) → FaultIs past p why
fails bodies past old p (open_fault.Damaged place) before same n = (same ∙ before.told, inl n)
fails bodies past old p open_fault.Failed before same n = same ∙ before.told
fails bodies past old p open_fault.Memory before same n = same ∙ before.told

-- what a read gave
pub next_body : (bodies : List (List ℕ)) (past : Past) (p : Place) (found : Option (Vec ℕ Global)) (body : Vec ℕ Global) → found ≡ Some body → NextIs bodies past p (Ok found) → HasRead (bodies ++ vec_items body ∷ []) past p
next_body bodies past p found body is n = subst (λ o. NextIs bodies past p (Ok o)) is n

pub next_none : (bodies : List (List ℕ)) (past : Past) (p : Place) (t : Standing) (found : Option (Vec ℕ Global)) → found ≡ None → stands bodies ≡ Some t → NextIs bodies past p (Ok found) → StoodAll past p t
next_none bodies past p t found is stand n =
    let next = subst (λ o. NextIs bodies past p (Ok o)) is n in
    record { bodies = bodies; read = next.0; stand = stand; whole = next.1 }

pub one_read : (past : Past) (p : Place) (t : Standing) (more : Bool) → more ≡ true → ReadsNext past p t (Ok more) → Stood past p t
one_read past p t more is n = subst (λ b. ReadsNext past p t (Ok b)) is n

pub all_read : (past : Past) (p : Place) (t : Standing) (more : Bool) → more ≡ false → ReadsNext past p t (Ok more) → StoodAll past p t
all_read past p t more is n = subst (λ b. ReadsNext past p t (Ok b)) is n

-- ---- what an error leaves

-- the file that was opened can't be read
pub refused_opening : (past : Past) (now : Option Past) (why : OpenFault) → Refuses past now why → RefusesTable past now why
refused_opening past now (open_fault.Damaged place) r = (grown Synced past, r.0, record { fresh = λ e. absurd (r.1 e); same = λ n. refl }, inl r.2)
refused_opening past now open_fault.Failed r = r
refused_opening past now open_fault.Memory r = r

-- it was opened, and reading it on failed
pub refused_reading : (past now : Past) (p : Place) (why : OpenFault) → Opens past now → FaultIs now p why → RefusesTable past p.told.past why
refused_reading past now p (open_fault.Damaged place) o f = (now, f.0, o, f.1)
refused_reading past now p open_fault.Failed o f = λ n. inr (f ∙ ap Some (o.same n))
refused_reading past now p open_fault.Memory o f = λ n. inr (f ∙ ap Some (o.same n))

-- the journal that was opened, with its table
pub opened_table : (past now : Past) (p : Place) (j : Journal) (held : Held) (t : Standing) → Opens past now → StoodAll now p t → ((bodies : List (List ℕ)) (q : Past) → HasRead bodies q p → StandsFor bodies (seen q) → Rests bodies q held) → j.held ≡ held → j.waiting ≡ [] → (n : Past) × Opens past n × OpensTable n j t
opened_table past now p j held t o s rests same none =
    (now, o, record { bodies = s.bodies; rests = subst (Rests s.bodies now) (sym same) (rests s.bodies now s.read s.whole); waiting = none; table = s.stand })
