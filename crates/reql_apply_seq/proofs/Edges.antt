-- A slice between its edges.
use Rattle.std.proofs.Common.{◌≡◌, ℕ, ◌-◌, ◌≤◌, ℤ, Bool, List, ◌∷◌, take, drop, length, length-drop, take_all, slice_range, arith, get_or, Result, Option, Ok}
use Rattle.reql_datum.specs.Outcome.{Gives}
use Rattle.reql_datum.specs.Plain.{Plain}
use Rattle.reql_datum.specs.declared.fault.Fault.{Fault}
use Rattle.reql_rules.specs.Places.{edge, sliced}
use Rattle.reql_value_spec.specs.Meant.{Meant, Given, Calls, Options}
use Rattle.reql_value_spec.specs.Sequenced.{alike_first}
use Rattle.reql_value_spec.specs.Sequences.{slice_rule}
use Rattle.reql_value_spec.specs.World.{World}
use Rattle.reql_operand.specs.Seen.{shown, all_shown}
use Rattle.reql_operand.specs.declared.value.Arg.{Arg}
use Rattle.reql_apply_seq.specs.Slicing.{end_from, end_among}
use Rattle.reql_apply_seq.proofs.Onwards.{first_apart}
use Rattle.reql_apply_seq.proofs.Slices.{Same}

-- where there are so many
pub sliced_between : (ds es : List Plain) (n : ℕ) (after past : Bool) (start : ℤ) (end : Option ℤ) → Same (Ok (length ds)) (Ok n)
    → Same (Ok (take (edge n past (end_from n end) - edge n after start) (drop (edge n after start) ds))) (Ok es)
    → Same (Ok (sliced ds after start past (end_among ds end))) (Ok es)
sliced_between ds es n after past start end e h =
    let size : length ds ≡ n = cc in
    rw size h

-- with the first place apart from the rest
pub place_apart : {X : Type 0} (view : X → Meant) (r : Result X Fault) (w : World) (calls : Calls) (source : Given) (places : List Arg) (from : Arg) (opts : Options)
    → 1 ≤ length places → from ≡ get_or places 0 from
    → Gives view r (alike_first slice_rule w calls (source ∷ shown w from ∷ all_shown w (slice_range places 1 (length places))) opts)
    → Gives view r (alike_first slice_rule w calls (source ∷ all_shown w places) opts)
place_apart view r w calls source places from opts some is gives =
    let left : slice_range places 1 (length places) ≡ drop 1 places = take_all (length places - 1) (drop 1 places) (omega (arith, length-drop 1 places)) in
    rw (first_apart places (slice_range places 1 (length places)) from some is left) gives
