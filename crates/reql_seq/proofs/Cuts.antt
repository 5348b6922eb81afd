-- A part of a slice, seen as plain values, is that part of what is seen.
use Rattle.std.proofs.Common.{◌≡◌, ℕ, ◌-◌, List, map, take, drop, Result, Ok, Err, IfOk, sym, ap, ◌∙◌, slice_range}
use Rattle.std.proofs.lemmas.List.{take-map, drop-map}
use Rattle.reql_datum.specs.Plain.{Plain}
use Rattle.reql_datum.specs.View.{plain}
use Rattle.reql_datum.specs.declared.datum.Datum.{Datum}
use Rattle.reql_rules.specs.Places.{cut}

part_seen : (ds : List Datum) (from to : ℕ) → map plain (slice_range ds from to) ≡ cut (map plain ds) from to
part_seen ds from to = sym (take-map plain (to - from) (drop from ds)) ∙ ap (take (to - from)) (sym (drop-map plain from ds))

pub cut_seen : {E : Type 0} (r : Result (List Plain) E) (ds : List Datum) (vs : List Plain) (from to : ℕ)
    → map plain ds ≡ vs → IfOk r (λ us. us ≡ map plain (slice_range ds from to)) → IfOk r (λ us. us ≡ cut vs from to)
cut_seen (Ok us) ds vs from to e h = h ∙ part_seen ds from to ∙ ap (λ ws. cut ws from to) e
cut_seen (Err e) ds vs from to h g = tt
