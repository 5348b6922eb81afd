-- Lines of values, one after another.
use Rattle.std.proofs.Common.{◌≡◌, ◌∙◌, ◌<◌, ◌+◌, ℕ, suc, ap, refl, sym, List, [], ◌∷◌, ◌++◌, Bool, true, false, ◌||◌, append-nil, length, drop, drop-cons, get_or, add-one}
use Rattle.serde_json.specs.View.{view, items_view}
use Rattle.serde_json.specs.declared.value.Value.{Value}
use Rattle.serde_json.specs.Data.{Data, Items, no_items, item}
use Rattle.serde_json.specs.Written.{has_float, items_have_float, compact_text}
use Rattle.reql_outside.specs.Tape.{grown}
use Rattle.reql_outside.specs.Written.{Written}
use Rattle.reql_outside.proofs.Moving.{grown_twice, still}
use Rattle.reql_query.specs.Printing.{Printed, lines}

-- no values have no lines
pub printed_none : (a : Written) → Printed a a no_items
printed_none a = record { unfailed = refl; took = λ h. still a.wrote }

or_parts : (p q : Bool) → (p || q) ≡ false → (p ≡ false) × (q ≡ false)
or_parts true q h = absurd (let e : true ≡ false = h in cc)
or_parts false q h = (refl, h)

-- a value's line, and then those of others
pub printed_more : (a b c : Written) (d : Data) (ds : Items) → Printed a b (item d no_items) → Printed b c ds → Printed a c (item d ds)
printed_more a b c d ds p q = record {
  unfailed = q.unfailed ∙ p.unfailed;
  took = λ h.
      let none = or_parts (has_float d) (items_have_float ds) h in
      let text = compact_text d ++ 10 ∷ [] in
      q.took none.1
      ∙ ap (λ w. grown w (lines ds)) (p.took (ap (λ f. f || false) none.0))
      ∙ grown_twice a.wrote (text ++ []) (lines ds)
      ∙ ap (λ t. grown a.wrote (t ++ lines ds)) (append-nil text);
}

-- the values from a place on
pub split_at : (vs : List Value) (i : ℕ) (v : Value) → i < length vs → v ≡ get_or vs i v → items_view (drop i vs) ≡ item (view v) (items_view (drop (i + 1) vs))
split_at vs i v below here = rw add-one (ap items_view (drop-cons vs i v below ∙ ap (λ x. x ∷ drop (suc i) vs) (sym here)))
