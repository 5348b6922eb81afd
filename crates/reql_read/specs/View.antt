-- What a query stands for, and what a refusal tells.
use Rattle.std.specs.Prelude.{◌≡◌, Bool, true, Result, Ok, Err}
use Rattle.reql_term.specs.View.{form_of}
use Rattle.reql_read.specs.Outcome.{Understands}
use Rattle.reql_read.specs.Query.{Asked, start, continued, stop, noreply_wait, server_info}
use Rattle.reql_read.specs.declared.fault.ReadFault.{ReadFault}
use Rattle.reql_read.specs.declared.fault.ReadFault.TheVariants.{Memory}
use Rattle.reql_read.specs.declared.query.Query.{Query}
use Rattle.reql_read.specs.declared.query.Query.TheVariants as v
use Rattle.reql_read.specs.declared.query.Unread.{Unread}

abbrev pub asked : Query → Asked
asked (v.Start term globals noreply) = start (form_of term) (record { db = globals.db; array_limit = globals.array_limit; batch = globals.batch; noreply = noreply })
asked v.Continue = continued
asked v.Stop = stop
asked v.NoreplyWait = noreply_wait
asked v.ServerInfo = server_info

-- the query, or the fault
abbrev pub UnderstandsBody : Result Query Unread → Result Asked ReadFault → Type 0
UnderstandsBody (Ok q) meant = Understands asked (Ok q) meant
UnderstandsBody (Err u) meant = Understands asked (Err u.fault) meant

-- whether no answer is wanted, told exactly but where memory ran out: then it is never told falsely
abbrev pub IsTold : Bool → Unread → Type 0
IsTold quiet u = record { exact : (u.fault ≡ Memory → ⊥) → u.noreply ≡ quiet; never_false : u.noreply ≡ true → quiet ≡ true }
