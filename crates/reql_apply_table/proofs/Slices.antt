-- What is made of the entries of an index, where there is one.
use Rattle.std.proofs.Common.{◌≡◌, ℕ, suc, Result, IfOk, List, [], ◌∷◌, Option, Some, None, option_map, Ok, Err, false, refl, ap, sym, ◌∙◌, length}
use Rattle.std.specs.Option.{unwrap_or}
use Rattle.reql_datum.specs.Answer.{Answer, ◌>>=◌}
use Rattle.reql_datum.specs.Outcome.{Gives}
use Rattle.reql_datum.specs.declared.fault.Fault.{Fault}
use Rattle.reql_datum.specs.Plain.{Plain}
use Rattle.reql_term.specs.Views.{Document, Entry, all_of, documents_in, primary, ranged}
use Rattle.reql_term.specs.declared.range.Range.{Range}
use Rattle.reql_operand.specs.Seen.{documents_of_entries, documents_of_view, documents_at}
use Rattle.reql_rules.specs.Lists.{Bytes}
use Rattle.reql_value_spec.specs.World.{World, View, view_at, there, entries_named}
use Rattle.reql_value_spec.specs.Meant.{Bounds, bounded, slice_between, Meant, one, stream, selection, row, table, grouped, database, callable}
use Rattle.reql_value_spec.specs.Wanted.{to_table}
use Rattle.reql_apply_table.specs.Sources.{found, sliced}

pub slice_of : (r : Range) (o : Option (List Entry)) → r.down ≡ false → documents_of_entries (option_map (ranged r) o) ≡ documents_in (ranged r (unwrap_or o []))
slice_of r None e = rw e refl
slice_of r (Some es) e = refl

pub found_there : (name : Bytes) (keys : List Plain) (o : Option (List Entry)) → (there name o >>= λ es. Ok (all_of keys es)) ≡ found name (option_map (all_of keys) o)
found_there name keys None = refl
found_there name keys (Some es) = refl

pair_in : ℕ × View → Answer (ℕ × View) → ℕ × View
pair_in p (Ok q) = q
pair_in p (Err e) = p

-- a table that is found is the one in its slot
there_from : (w : World) (n k : ℕ) (v : View) (a : Answer View) → view_at w n ≡ a → ◌>>=◌ {B = ℕ × View} a (λ u. Ok (n, u)) ≡ Ok (k, v) → view_at w k ≡ Ok v
unfolding pair_in
there_from w n k v (Ok u) e f =
    let p : ◌≡◌ {A = ℕ × View} (n, u) (k, v) = ap (pair_in (n, u)) f in
    ap (view_at w) (sym (ap (λ (q : ℕ × View). q.0) p)) ∙ (e ∙ ap Ok (ap (λ (q : ℕ × View). q.1) p))
there_from w n k v (Err e') e f = cc

pub table_there : (w : World) (m : Meant) (k : ℕ) (v : View) → to_table w m ≡ Ok (k, v) → view_at w k ≡ Ok v
table_there w (table n) k v e = there_from w n k v (view_at w n) refl e
table_there w (one d) k v e = cc
table_there w (stream ds) k v e = cc
table_there w (selection n s ds) k v e = cc
table_there w (row n d o) k v e = cc
table_there w (grouped gs) k v e = cc
table_there w (database name) k v e = cc
table_there w callable k v e = cc

pub table_stands : {X : Type 0} (w : World) (m : Meant) (f : X → ℕ × View) (r : Result X Fault) → Gives f r (to_table w m) → IfOk r (λ t. view_at w (f t).0 ≡ Ok (f t).1)
table_stands w m f (Ok t) gives = table_there w m (f t).0 (f t).1 gives
table_stands w m f (Err e) gives = tt

-- one step of a rule
pub then_gives : {X Y A : Type 0} (view : X → Y) (r : Result X Fault) (a : Answer A) (x : A) (k : A → Answer Y) → a ≡ Ok x → Gives view r (k x) → Gives view r (a >>= k)
then_gives view r a x k e h = rw e h

pub slice_stands : (w : World) (n : ℕ) (v : View) (r : Range) (b : Bounds) (es : List Entry) → entries_named v b.index ≡ Ok es → view_at w n ≡ Ok v → documents_of_view r (Ok v) ≡ documents_in (bounded b es) → sliced n v b ≡ Ok (selection n (slice_between b) (documents_at w n r))
slice_stands w n v r b es named viewed read =
    let by_index : sliced n v b ≡ Ok (selection n (slice_between b) (documents_in (bounded b es))) = ap (λ (a : Answer (List Entry)). a >>= λ fs. Ok (selection n (slice_between b) (documents_in (bounded b fs)))) named in
    let seen_so : documents_at w n r ≡ documents_in (bounded b es) = ap (documents_of_view r) viewed ∙ read in
    by_index ∙ ap (λ (ds : List Plain). Ok (selection n (slice_between b) ds)) (sym seen_so)

pub counted : (ms : List Document) → length (documents_in (primary ms)) ≡ length ms
counted [] = refl
counted (m ∷ ms) = ap suc (counted ms)
