-- What a limit feed puts in order: the table, or the documents between bounds, by the rules.
use Rattle.std.proofs.Common.{◌≡◌, ℕ, List, [], ◌∷◌, ◌++◌, Bool, true, false, if◌then◌else◌, Option, Ok, Err, refl, sym, ap, ◌∙◌, subst}
use Rattle.std.specs.List.{filter, list_all}
use Rattle.std.specs.Option.{unwrap_or}
use Rattle.std.specs.Prelude.{codes}
use Rattle.reql_datum.specs.Answer.{◌>>=◌}
use Rattle.reql_datum.specs.Plain.{Plain}
use Rattle.reql_rules.specs.Faults.{misplaced}
use Rattle.reql_rules.specs.Lists.{Bytes}
use Rattle.reql_rules.specs.Types.{same_text}
use Rattle.reql_term.specs.Form.{Form, slot, operation, Forms, no_forms, form, NamedForms}
use Rattle.reql_term.specs.Table.{takes}
use Rattle.reql_term.specs.Views.{Entry}
use Rattle.reql_term.specs.declared.op.Op.{Op}
use Rattle.reql_term.specs.declared.op.Op.TheVariants as op
use Rattle.reql_value_spec.specs.Meaning.{sense, named_senses, table_of, is_fit}
use Rattle.reql_value_spec.specs.Meant.{Meant, Bounds, given, Options}
use Rattle.reql_value_spec.specs.Sense.{Sense, plain, argument, strict}
use Rattle.reql_value_spec.specs.Tables.{key_if, may_bound, between_rule}
use Rattle.reql_value_spec.specs.Wanted.{left_is_open, right_is_open}
use Rattle.reql_value_spec.specs.World.{World, View, view_at, entries_named}
use Rattle.reql_write_spec.specs.Selecting.{slots, slots_of, slots_named}
use Rattle.reql_feed_spec.specs.Watched.{Part, whole, between, lies_in}
use Rattle.reql_feed_spec.proofs.Sources.{same_names, Source, table_source, bounds_of, slice, between_given, slice_source}
use Rattle.reql_feed_spec.proofs.Watched.{filter_all}
use Rattle.reql_table_spec.specs.Followed.{closed_value, closed_options, arguments, options, index_by, index_in, is_between, bounds, part_between, part_of}
use Rattle.reql_table_spec.proofs.Closed.{then_ok, if_ok, same_ok, IsLikeBare, ClosedArgument, closed_key, closed_given, text_named, same_takes}
use Rattle.reql_table_spec.proofs.Reading.{Starts}

if_fits : (b : Bool) (s t : Sense) (w : World) (m : Meant) → b ≡ true → argument 0 s w [] ≡ Ok (given m) → argument 0 (if b then s else t) w [] ≡ Ok (given m)
if_fits true s t w m fit h = h
if_fits false s t w m fit h = absurd (cc (fit))

-- ---- the part that a term is read for
pub record PartGives (key : Bytes) (name : Bytes) (part : Part) (f : Form) : Type 0 where
  pub slot_is : ℕ
  pub starts : Starts slot_is (slots f)
  pub gives : (w : World) → IsLikeBare w → (v : View) → v.key ≡ key → view_at w slot_is ≡ Ok v → (es : List Entry) → entries_named v name ≡ Ok es → Source w slot_is name (filter (lies_in part) es) (sense f)

table_gives : (key name : Bytes) (n : ℕ) → PartGives key name whole (slot n)
table_gives key name n = record {
  slot_is = n;
  starts = ([], refl);
  gives = λ w like v keyed at es named. subst (λ xs. Source w n name xs (plain (table_of n))) (sym (filter_all es)) (table_source w n v name es at named);
}

-- what was read of BETWEEN's arguments and options
record Read (key name : Bytes) (l h : Form) (ms : NamedForms) (part : Part) : Type 0 where
  index : Option Bytes
  bottom : Plain
  top : Plain
  os : Options
  bottom_open : Bool
  top_open : Bool
  index_is : index_in ms ≡ Ok index
  by_index : same_text (index_by key index) name ≡ true
  low : ClosedArgument l bottom × (may_bound bottom ≡ true)
  high : ClosedArgument h top × (may_bound top ≡ true)
  given_are : closed_options (options ms) ≡ Ok os
  low_is : left_is_open os ≡ Ok bottom_open
  high_is : right_is_open os ≡ Ok top_open
  fits : list_all (λ (m : Bytes × Form). takes op.Between m.0) (options ms) ≡ true
  is : between bottom bottom_open top top_open ≡ part

read_between : (key name : Bytes) (n : ℕ) (l h : Form) (ms : NamedForms) (part : Part) → part_between key name (slot n ∷ l ∷ h ∷ []) ms ≡ Ok part → Read key name l h ms part
read_between key name n l h ms part is =
    let i = then_ok (index_in ms) (λ x. if same_text (index_by key x) name then bounds l h (options ms) else Err misplaced) part is in
    let b = if_ok (same_text (index_by key i.0) name) (bounds l h (options ms)) misplaced part i.2 in
    let fit : Bool = list_all (λ (m : Bytes × Form). takes op.Between m.0) (options ms) in
    let x = then_ok (closed_value l >>= key_if may_bound)
    (λ bottom. closed_value h >>= key_if may_bound >>= λ top. closed_options (options ms) >>= λ os. left_is_open os >>= λ lo. right_is_open os >>= λ ho. if fit then Ok (between bottom lo top ho) else Err misplaced) part b.1 in
    let y = then_ok (closed_value h >>= key_if may_bound)
    (λ top. closed_options (options ms) >>= λ os. left_is_open os >>= λ lo. right_is_open os >>= λ ho. if fit then Ok (between x.0 lo top ho) else Err misplaced) part x.2 in
    let o = then_ok (closed_options (options ms)) (λ os. left_is_open os >>= λ lo. right_is_open os >>= λ ho. if fit then Ok (between x.0 lo y.0 ho) else Err misplaced) part y.2 in
    let lo = then_ok (left_is_open o.0) (λ lo. right_is_open o.0 >>= λ ho. if fit then Ok (between x.0 lo y.0 ho) else Err misplaced) part o.2 in
    let ho = then_ok (right_is_open o.0) (λ ho. if fit then Ok (between x.0 lo.0 y.0 ho) else Err misplaced) part lo.2 in
    let f = if_ok fit (Ok (between x.0 lo.0 y.0 ho.0)) misplaced part ho.2 in
    record {
      index = i.0;
      bottom = x.0;
      top = y.0;
      os = o.0;
      bottom_open = lo.0;
      top_open = ho.0;
      index_is = i.1;
      by_index = b.0;
      low = closed_key may_bound l x.0 x.1;
      high = closed_key may_bound h y.0 y.1;
      given_are = o.1;
      low_is = lo.1;
      high_is = ho.1;
      fits = f.0;
      is = same_ok (between x.0 lo.0 y.0 ho.0) part f.1;
    }

between_gives : (key name : Bytes) (n : ℕ) (l h : Form) (ms : NamedForms) (part : Part) → Read key name l h ms part
    → PartGives key name part (operation op.Between (form (slot n) (form l (form h no_forms))) ms)
between_gives key name n l h ms part r = subst (λ p. PartGives key name p (operation op.Between (form (slot n) (form l (form h no_forms))) ms)) r.is (record {
  slot_is = n;
  starts = (slots_of (form l (form h no_forms)) ++ slots_named ms, refl);
  gives = λ w like v keyed at es named.
      let e : unwrap_or r.index v.key ≡ name = ap (unwrap_or r.index) keyed ∙ same_names (index_by key r.index) name r.by_index in
      let options_are = closed_given ms r.os r.given_are w like [] in
      let b : Bounds = bounds_of name r.bottom r.bottom_open r.top r.top_open in
      let given_is = between_given w n v (sense l) (sense h) (named_senses ms) r.low.0.meant r.high.0.meant r.bottom r.top r.os r.index r.bottom_open r.top_open name es
      at (r.low.0.is 1 w like []) r.low.0.datum r.low.1 (r.high.0.is 2 w like []) r.high.0.datum r.high.1
      options_are (text_named (codes "index") ms r.index r.os w r.index_is options_are) r.low_is r.high_is e named in
      slice_source w n v name es b (sense (operation op.Between (form (slot n) (form l (form h no_forms))) ms)) refl at named
      (if_fits (is_fit op.Between (plain (table_of n) ∷ sense l ∷ sense h ∷ []) (named_senses ms)) (plain (strict between_rule (plain (table_of n) ∷ sense l ∷ sense h ∷ []) (named_senses ms)))
      (plain (λ u vars. Err misplaced)) w (slice n b es) (same_takes op.Between ms ∙ r.fits) (ap (λ a. a >>= λ m. Ok (given m)) given_is));
})

between_is : (o : Op) → is_between o ≡ true → op.Between ≡ o
between_is op.Between h = refl
between_is o h = absurd (cc (h))

part_of_between : (key name : Bytes) (o : Op) (fs : Forms) (ms : NamedForms) (part : Part) → is_between o ≡ true → part_between key name (arguments fs) ms ≡ Ok part → PartGives key name part (operation o fs ms)
part_of_between key name o (form (slot n) (form l (form h no_forms))) ms part is e =
    subst (λ p. PartGives key name part (operation p (form (slot n) (form l (form h no_forms))) ms)) (between_is o is) (between_gives key name n l h ms part (read_between key name n l h ms part e))
part_of_between key name o no_forms ms part is e = absurd (cc (e))
part_of_between key name o (form f fs) ms part is e = absurd (cc (e))

pub part_gives : (key name : Bytes) (f : Form) (part : Part) → part_of key name f ≡ Ok part → PartGives key name part f
part_gives key name (slot n) part h = subst (λ p. PartGives key name p (slot n)) (same_ok whole part h) (table_gives key name n)
part_gives key name (operation o fs ms) part h =
    let b = if_ok (is_between o) (part_between key name (arguments fs) ms) misplaced part h in
    part_of_between key name o fs ms part b.0 b.1
part_gives key name f part h = absurd (cc (h))
