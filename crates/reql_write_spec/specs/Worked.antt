-- Worked rows of writes, on a table of two documents with the key field `id`.
use Prim.Native.String.{String}
use Rattle.std.specs.Prelude.{◌≡◌, ℕ, List, [], ◌∷◌, false, Some, None, codes}
use Rattle.reql_datum.specs.Kinds.{reserved}
use Rattle.reql_datum.specs.Plain.{Plain, null}
use Rattle.reql_term.specs.Form.{Form, literal, slot}
use Rattle.reql_term.specs.Views.{Document}
use Rattle.reql_term.specs.declared.op.Op.TheVariants as op
use Rattle.reql_value_spec.specs.Short.{n, t, a, o, num, call, members, fun, field}
use Rattle.reql_write_spec.specs.Write.{write}
use Rattle.reql_write_spec.specs.declared.command.Act.{Act}
use Rattle.reql_write_spec.specs.declared.command.Act.TheVariants as act
use Rattle.reql_write_spec.specs.declared.command.Conflict.{Conflict}
use Rattle.reql_write_spec.specs.declared.command.Conflict.TheVariants as conflict
use Rattle.reql_write_spec.specs.declared.command.Returns.{Returns}
use Rattle.reql_write_spec.specs.declared.command.Returns.TheVariants as returns
use Rattle.reql_write_spec.specs.declared.command.Summary.{Summary}
use Rattle.reql_write_spec.specs.declared.command.WriteCmd.{WriteCmd}

-- a document with a key and a number
abbrev d : ℕ → ℕ → Plain
d key k = o ((codes "id", n key) ∷ (codes "n", n k) ∷ [])

abbrev row : ℕ → ℕ → Document
row key k = (n key, d key k)

abbrev docs : List Document
docs = row 1 5 ∷ row 2 7 ∷ []

abbrev order_for : Act → Returns → WriteCmd
order_for a r = record { key = codes "id"; act = a; returns = r; hard = false }

abbrev put_in : List Plain → Conflict → Act
put_in ds c = act.Insert ds c []

abbrev all : Form
all = slot 0

abbrev one : ℕ → Form
one k = call op.Get (slot 0 ∷ num k ∷ [])

-- the documents after it, and what it reports
abbrev run : Act → Returns → List Document × Summary
run a r = ((write docs [] (order_for a r)).docs, (write docs [] (order_for a r)).summary)

abbrev nothing_done : Summary
nothing_done = record { deleted = 0; errors = 0; inserted = 0; replaced = 0; skipped = 0; unchanged = 0; first_error = None; generated = []; changes = None }

abbrev inserted : ℕ → Summary → Summary
inserted k s = record s { inserted = k }

abbrev replaced : ℕ → Summary → Summary
replaced k s = record s { replaced = k }

abbrev deleted : ℕ → Summary → Summary
deleted k s = record s { deleted = k }

abbrev skipped : ℕ → Summary → Summary
skipped k s = record s { skipped = k }

abbrev unchanged : ℕ → Summary → Summary
unchanged k s = record s { unchanged = k }

abbrev errors : ℕ → String → Summary → Summary
errors k why s = record s { errors = k; first_error = Some (codes why) }

abbrev made : List Plain → Summary → Summary
made keys s = record s { generated = keys }

abbrev listing : List Plain → Summary → Summary
listing cs s = record s { changes = Some cs }

abbrev error : String → Summary
error why = errors 1 why nothing_done

-- a new key goes in; a key that is there is an error, or the document is replaced, or merged; of three, each is treated on what those before it made
abbrev pub Inserts : Type 0
Inserts =
    (run (put_in (d 3 1 ∷ []) conflict.Error) returns.No ≡ (row 1 5 ∷ row 2 7 ∷ row 3 1 ∷ [], inserted 1 nothing_done))
    × (run (put_in (d 1 6 ∷ []) conflict.Error) returns.No ≡ (docs, error "Duplicate primary key `id`."))
    × (run (put_in (d 1 6 ∷ []) conflict.Replace) returns.No ≡ (row 1 6 ∷ row 2 7 ∷ [], replaced 1 nothing_done))
    × (run (put_in (d 1 5 ∷ []) conflict.Replace) returns.No ≡ (docs, unchanged 1 nothing_done))
    × (run (put_in (o ((codes "id", n 1) ∷ (codes "m", n 9) ∷ []) ∷ []) conflict.Update) returns.No
    ≡ ((n 1, o ((codes "id", n 1) ∷ (codes "m", n 9) ∷ (codes "n", n 5) ∷ [])) ∷ row 2 7 ∷ [], replaced 1 nothing_done))
    × (run (put_in (d 3 1 ∷ d 3 2 ∷ d 0 1 ∷ []) conflict.Error) returns.No
    ≡ (row 0 1 ∷ row 1 5 ∷ row 2 7 ∷ row 3 1 ∷ [], inserted 2 (errors 1 "Duplicate primary key `id`." nothing_done)))
    × (run (put_in (o ((codes "id", null) ∷ []) ∷ []) conflict.Error) returns.No ≡ (docs, error "Value of type NULL cannot be a key."))
    × (run (put_in (n 4 ∷ []) conflict.Error) returns.No ≡ (docs, error "Misplaced term."))
    × (run (put_in (o ((codes "a", o ((reserved, t "LITERAL") ∷ [])) ∷ (codes "id", n 3) ∷ []) ∷ []) conflict.Error) returns.No ≡ (docs, error "Value cannot be shown or stored."))
    × (run (act.Insert (o ((codes "n", n 1) ∷ []) ∷ o ((codes "n", n 2) ∷ []) ∷ []) conflict.Error (n 8 ∷ n 9 ∷ [])) returns.No
    ≡ (row 1 5 ∷ row 2 7 ∷ row 8 1 ∷ row 9 2 ∷ [], made (n 8 ∷ n 9 ∷ []) (inserted 2 nothing_done)))

-- a number of a field made one larger, in all rows or in one; a row that isn't there; a change that is no object, changes the key, or faults; rows that fault; and what is no selection
abbrev larger : Form
larger = fun (members ((codes "n", call op.Add (field "n" ∷ num 1 ∷ [])) ∷ []))

abbrev pub Updates : Type 0
Updates =
    (run (act.Update all larger) returns.No ≡ (row 1 6 ∷ row 2 8 ∷ [], replaced 2 nothing_done))
    × (run (act.Update (one 2) larger) returns.No ≡ (row 1 5 ∷ row 2 8 ∷ [], replaced 1 nothing_done))
    × (run (act.Update (one 3) larger) returns.No ≡ (docs, skipped 1 nothing_done))
    × (run (act.Update (one 1) (literal (d 1 5))) returns.No ≡ (docs, unchanged 1 nothing_done))
    × (run (act.Update (one 1) (num 4)) returns.No ≡ (docs, error "Expected type OBJECT but found NUMBER."))
    × (run (act.Update (one 1) (literal (o ((codes "id", n 4) ∷ [])))) returns.No ≡ (docs, error "Primary key `id` cannot be changed."))
    × (run (act.Update all (fun (members ((codes "n", call op.Add (field "m" ∷ num 1 ∷ [])) ∷ [])))) returns.No
    ≡ (docs, errors 2 "No attribute `m` in object." nothing_done))
    × (run (act.Update (call op.Get (slot 0 ∷ literal null ∷ [])) larger) returns.No ≡ (docs, error "Value of type NULL cannot be a key."))
    × (run (act.Update (num 1) larger) returns.No ≡ (docs, nothing_done))

-- null deletes, or skips what isn't there; an object goes in where nothing is
abbrev pub Replaces : Type 0
Replaces =
    (run (act.Replace (one 1) (literal null)) returns.No ≡ (row 2 7 ∷ [], deleted 1 nothing_done))
    × (run (act.Replace (one 3) (literal null)) returns.No ≡ (docs, skipped 1 nothing_done))
    × (run (act.Replace (one 3) (literal (d 3 1))) returns.No ≡ (row 1 5 ∷ row 2 7 ∷ row 3 1 ∷ [], inserted 1 nothing_done))
    × (run (act.Replace (one 1) (literal (o ((codes "id", n 1) ∷ [])))) returns.No ≡ ((n 1, o ((codes "id", n 1) ∷ [])) ∷ row 2 7 ∷ [], replaced 1 nothing_done))
    × (run (act.Replace (one 1) (literal (o ((codes "n", n 1) ∷ [])))) returns.No ≡ (docs, error "Primary key `id` cannot be changed."))

abbrev pub Deletes : Type 0
Deletes =
    (run (act.Delete all) returns.No ≡ ([], deleted 2 nothing_done))
    × (run (act.Delete (one 1)) returns.No ≡ (row 2 7 ∷ [], deleted 1 nothing_done))
    × (run (act.Delete (one 3)) returns.No ≡ (docs, skipped 1 nothing_done))
    × (run (act.Delete (call op.Filter (slot 0 ∷ fun (call op.Gt (field "n" ∷ num 5 ∷ [])) ∷ []))) returns.No ≡ (row 1 5 ∷ [], deleted 1 nothing_done))
    × (run (act.Delete (call op.GetAll (slot 0 ∷ num 1 ∷ num 1 ∷ []))) returns.No ≡ (row 2 7 ∷ [], skipped 1 (deleted 1 nothing_done)))

-- the changes, or one for each that was treated
abbrev change : Plain → Plain → Plain
change new old = o ((codes "new_val", new) ∷ (codes "old_val", old) ∷ [])

abbrev pub Lists : Type 0
Lists =
    (run (put_in (d 1 6 ∷ d 3 1 ∷ []) conflict.Error) returns.Changed
    ≡ (row 1 5 ∷ row 2 7 ∷ row 3 1 ∷ [], listing (change (d 3 1) null ∷ []) (inserted 1 (error "Duplicate primary key `id`."))))
    × (run (put_in (d 1 6 ∷ d 2 7 ∷ []) conflict.Replace) returns.Always
    ≡ (row 1 6 ∷ row 2 7 ∷ [], listing (change (d 1 6) (d 1 5) ∷ change (d 2 7) (d 2 7) ∷ []) (unchanged 1 (replaced 1 nothing_done))))
    × (run (act.Delete (one 3)) returns.Always ≡ (docs, listing (change null null ∷ []) (skipped 1 nothing_done)))
    × (run (put_in (d 1 6 ∷ []) conflict.Error) returns.Always
    ≡ (docs, listing (o ((codes "error", t "Duplicate primary key `id`.") ∷ (codes "new_val", d 1 5) ∷ (codes "old_val", d 1 5) ∷ []) ∷ []) (error "Duplicate primary key `id`.")))
    × (run (act.Update (call op.Get (slot 0 ∷ literal null ∷ [])) larger) returns.Always ≡ (docs, listing [] (error "Value of type NULL cannot be a key.")))
