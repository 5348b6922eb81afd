-- The range of all that a table has.
use Rattle.std.proofs.Common.{◌≡◌, refl, ap, true, false, ◌&&◌, List, [], ◌∷◌, map, filter, Option, Some, None, option_map, Ok}
use Rattle.std.specs.Ordering.{is_le}
use Rattle.reql_datum.specs.Answer.{Answer, ◌>>=◌}
use Rattle.reql_datum.specs.Order.{order}
use Rattle.reql_datum.specs.Plain.{Plain, low, array, boolean, null, number, object, binary, time, text, high}
use Rattle.reql_term.specs.Views.{Document, Entry, primary, documents_in, entries_between, entries_in}
use Rattle.reql_term.specs.declared.range.Range.{Range}
use Rattle.reql_value_spec.specs.World.{View, documents_of}
use Rattle.reql_operand.specs.Seen.{documents_of_view}

-- every value is between the lowest and the highest
low_first : (v : Plain) → is_le (order low v) ≡ true
low_first low = refl
low_first (array vs) = refl
low_first (boolean b) = refl
low_first null = refl
low_first (number n) = refl
low_first (object ms) = refl
low_first (binary s) = refl
low_first (time t) = refl
low_first (text s) = refl
low_first high = refl

high_last : (v : Plain) → is_le (order v high) ≡ true
high_last low = refl
high_last (array vs) = refl
high_last (boolean b) = refl
high_last null = refl
high_last (number n) = refl
high_last (object ms) = refl
high_last (binary s) = refl
high_last (time t) = refl
high_last (text s) = refl
high_last high = refl

all_pass : (es : List Entry) → filter (λ e. is_le (order low e.0) && is_le (order e.0 high)) es ≡ es
all_pass [] = refl
all_pass (e ∷ es) = rw (low_first e.0, high_last e.0) (ap (λ fs. e ∷ fs) (all_pass es))

pub any_between : (a : Option (List Entry)) → option_map (entries_between low false high false false) a ≡ a
any_between None = refl
any_between (Some es) = ap Some (all_pass es)

pub whole_at : (ms : List Document) → documents_in (primary ms) ≡ map (λ m. m.1) ms
whole_at [] = refl
whole_at (m ∷ ms) = ap (λ ds. m.1 ∷ ds) (whole_at ms)

pub documents_whole : (r : Range) (v : View) → entries_in v.documents v.indexes v.entries r ≡ Some (primary v.documents) → documents_of_view r (Ok v) ≡ documents_of v
documents_whole r v e = rw e (whole_at v.documents)

-- what is taken of the documents of a table is taken of that range
pub taken_whole : {B : Type 0} (f : List Plain → B) (r : Range) (v : View) (a : Answer View) → a ≡ Ok v → entries_in v.documents v.indexes v.entries r ≡ Some (primary v.documents)
    → ((a >>= λ u. Ok (documents_of u)) >>= λ ds. Ok (f ds)) ≡ Ok (f (documents_of_view r (Ok v)))
taken_whole f r v a is e = rw (is, documents_whole r v e) refl
