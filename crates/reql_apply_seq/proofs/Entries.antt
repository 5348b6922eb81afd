-- The entries of a table by an index, between bounds, as a range, and as rows.
use Rattle.std.proofs.Common.{◌≡◌, refl, sym, ap, ◌∙◌, ℕ, Bool, true, false, List, [], ◌∷◌, map, Option, Some, None, option_map, Ok, Err}
use Rattle.std.specs.Option.{unwrap_or}
use Rattle.reql_datum.specs.Answer.{Answer, ◌>>=◌}
use Rattle.reql_datum.specs.Plain.{Plain}
use Rattle.reql_datum.specs.View.{plain}
use Rattle.reql_term.specs.Views.{Entry, beside, directed, documents_in, entries_between, entries_of, values_in}
use Rattle.reql_rules.specs.Lists.{Bytes}
use Rattle.reql_value_spec.specs.Meant.{Bounds, bounded}
use Rattle.reql_value_spec.specs.World.{World, View, view_at, entries_named}
use Rattle.reql_apply_seq.specs.Orders.{entries_of_view, spanned, span_of_view, span_entries, row_of, rows_of}
use Rattle.reql_apply_seq.specs.declared.spans.Span.{Span}

turned_in : (l h : Plain) (lo ho down : Bool) (o : Option (List Entry))
    → unwrap_or (option_map (entries_between l lo h ho down) o) [] ≡ directed down (unwrap_or (option_map (entries_between l lo h ho false) o) [])
turned_in l h lo ho down (Some es) = refl
turned_in l h lo ho true None = refl
turned_in l h lo ho false None = refl

none_turned : (down : Bool) → [] ≡ directed down []
none_turned true = refl
none_turned false = refl

-- a range has the entries of its span, in its direction
pub turned : (s : Span) (down : Bool) (a : Answer View) → entries_of_view (record { index = s.index; low = s.low; high = s.high; down = down }) a ≡ directed down (span_of_view s a)
turned s down (Ok v) = turned_in (plain s.low.value) (plain s.high.value) s.low.is_open s.high.is_open down (entries_of v.documents v.indexes v.entries s.index)
turned s down (Err e) = none_turned down

pub bounded_in : (b : Bounds) (o : Option (List Entry))
    → unwrap_or (option_map (entries_between b.low b.low_open b.high b.high_open false) o) [] ≡ bounded b (unwrap_or o [])
bounded_in b None = refl
bounded_in b (Some es) = refl

-- a span of a table has what is made of the entries of its index
pub span_stands : (w : World) (n : ℕ) (v : View) (name : Bytes) (es : List Entry) (f : List Entry → List Entry) (s : Span)
    → view_at w n ≡ Ok v → entries_named v name ≡ Ok es → s.slot ≡ n → spanned s.index s.low s.high v ≡ f es
    → (view_at w n >>= λ u. entries_named u name >>= λ fs. Ok (n, f fs)) ≡ Ok (span_entries w s)
span_stands w n v name es f s viewed named slot read =
    let at_slot : view_at w s.slot ≡ Ok v = ap (view_at w) slot ∙ viewed in
    let entries : span_of_view s (view_at w s.slot) ≡ f es = ap (span_of_view s) at_slot ∙ read in
    let found : (view_at w n >>= λ u. entries_named u name >>= λ fs. Ok (n, f fs)) ≡ Ok (n, f es) = rw (viewed, named) refl in
    found ∙ ap (λ (k : ℕ). Ok (k, f es)) (sym slot) ∙ ap (λ (fs : List Entry). Ok (s.slot, fs)) (sym entries)

rows_of_entries : (es : List Entry) → rows_of (values_in es) (documents_in es) ≡ map row_of es
rows_of_entries [] = refl
rows_of_entries (e ∷ es) = ap (λ rs. row_of e ∷ rs) (rows_of_entries es)

-- values and documents that stand beside each other, as rows
pub rows_beside : (o : Option (List Entry)) (vs ds : List Plain) → option_map beside o ≡ Some (vs, ds) → map row_of (unwrap_or o []) ≡ rows_of vs ds
rows_beside None vs ds h = cc
rows_beside (Some es) vs ds h =
    let p : ◌≡◌ {A = List Plain × List Plain} (values_in es, documents_in es) (vs, ds) = cc in
    sym (rows_of_entries es) ∙ ap (λ (q : List Plain × List Plain). rows_of q.0 q.1) p

pub none_beside : (o : Option (List Entry)) → option_map beside o ≡ None → map row_of (unwrap_or o []) ≡ []
none_beside None h = refl
none_beside (Some es) h = cc
