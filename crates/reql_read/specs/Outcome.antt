-- What a call returned is what a definition gives, unless memory ran out.
use Rattle.std.specs.Prelude.{◌≡◌, Result, Ok, Err}
use Rattle.reql_read.specs.declared.fault.ReadFault.{ReadFault}
use Rattle.reql_read.specs.declared.fault.ReadFault.TheVariants.{NotJson, BadShape, UnknownTerm, LeftOut, Arity, BadOptarg, Number, Memory}

-- what was read, as view sees it, or the fault
abbrev pub Understands : {X Y : Type 0} → (X → Y) → Result X ReadFault → Result Y ReadFault → Type 0
Understands view (Ok x) meant = meant ≡ Ok (view x)
Understands view (Err NotJson) meant = meant ≡ Err NotJson
Understands view (Err BadShape) meant = meant ≡ Err BadShape
Understands view (Err (UnknownTerm n)) meant = meant ≡ Err (UnknownTerm n)
Understands view (Err (LeftOut n)) meant = meant ≡ Err (LeftOut n)
Understands view (Err (Arity n count)) meant = meant ≡ Err (Arity n count)
Understands view (Err (BadOptarg name)) meant = meant ≡ Err (BadOptarg name)
Understands view (Err (Number fault)) meant = meant ≡ Err (Number fault)
Understands view (Err Memory) meant = Unit {0}
