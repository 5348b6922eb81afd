-- Arguments that are arrays.
use Rattle.std.proofs.Common.{◌≡◌, refl, sym, ap, List, [], ◌∷◌, Ok}
use Rattle.std.specs.List.{list_all}
use Rattle.reql_datum.specs.Plain.{Plain}
use Rattle.reql_rules.specs.Lists.{each, joined}
use Rattle.reql_value_spec.specs.Meant.{Meant, given, Calls, Options}
use Rattle.reql_value_spec.specs.Sequences.{is_array, are_arrays, union_rule}
use Rattle.reql_value_spec.specs.Wanted.{as_sequence}
use Rattle.reql_value_spec.specs.World.{World}
use Rattle.reql_operand.specs.Seen.{meant, shown, all_shown}
use Rattle.reql_operand.specs.declared.value.Value.{Value}
use Rattle.reql_operand.specs.declared.value.Value.TheVariants as v
use Rattle.reql_operand.specs.declared.value.Arg.{Arg}
use Rattle.reql_operand.specs.declared.value.Arg.TheVariants as a
use Rattle.reql_apply_seq.specs.Sources.{is_one, is_plain, kind_of}

one_seen : (w : World) (u : Value) → is_array (given (meant w u)) ≡ is_one u
one_seen w (v.One d) = refl
one_seen w (v.Stream ds) = refl
one_seen w (v.Selection n k ds) = refl
one_seen w (v.Unread n k r) = refl
one_seen w (v.Row n d e) = refl
one_seen w (v.Table n) = refl
one_seen w (v.Grouped gs) = refl
one_seen w (v.Database name) = refl
one_seen w v.Function = refl

plain_seen : (w : World) (g : Arg) → is_array (shown w g) ≡ is_plain g
plain_seen w (a.Value u) = one_seen w u
plain_seen w (a.Function f) = refl
plain_seen w (a.Directed down k) = refl
plain_seen w (a.Late texted o) = refl

pub arrays_seen : (w : World) (gs : List Arg) → are_arrays (all_shown w gs) ≡ list_all is_plain gs
arrays_seen w [] = refl
arrays_seen w (g ∷ gs) = rw (plain_seen w g, arrays_seen w gs) refl

-- where the arguments give these sequences, UNION gives them joined, of its kind
pub union_is : (w : World) (calls : Calls) (gs : List Arg) (opts : Options) (dss : List (List Plain)) (m : Meant)
    → each (as_sequence w) (all_shown w gs) ≡ Ok dss → m ≡ kind_of (list_all is_plain gs) (joined dss)
    → union_rule w calls (all_shown w gs) opts ≡ Ok m
union_is w calls gs opts dss m h e = rw (h, arrays_seen w gs) (ap Ok (sym e))
