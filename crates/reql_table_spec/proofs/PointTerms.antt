-- A point feed shows the document that GET of its key gives, or null.
use Rattle.std.proofs.Common.{◌≡◌, ℕ, [], ◌∷◌, true, Option, None, Ok, refl, sym, ap, ◌∙◌, subst}
use Rattle.reql_datum.specs.Answer.{◌>>=◌}
use Rattle.reql_datum.specs.Keys.{is_key}
use Rattle.reql_datum.specs.Order.{order}
use Rattle.reql_datum.specs.Plain.{Plain}
use Rattle.reql_memory.specs.Sorted.{find_by}
use Rattle.reql_rules.specs.Faults.{misplaced}
use Rattle.reql_rules.specs.Lists.{Bytes}
use Rattle.reql_term.specs.Form.{Form, slot, operation, Forms, no_forms, form, no_named}
use Rattle.reql_term.specs.declared.op.Op.{Op}
use Rattle.reql_term.specs.declared.op.Op.TheVariants as op
use Rattle.reql_value_spec.specs.Index.{plain_view}
use Rattle.reql_value_spec.specs.Meaning.{value, settled, sense, sense_of, table_of}
use Rattle.reql_value_spec.specs.Meant.{Meant, row, given}
use Rattle.reql_value_spec.specs.Sense as senses
use Rattle.reql_value_spec.specs.Sense.{Sense, plain, argument}
use Rattle.reql_value_spec.specs.Tables.{key_if}
use Rattle.reql_value_spec.specs.Wanted.{to_datum}
use Rattle.reql_value_spec.specs.World.{World, View, view_at}
use Rattle.reql_write_spec.specs.Selecting.{slots}
use Rattle.reql_feed_spec.specs.Shown.{or_null}
use Rattle.reql_feed_spec.specs.Feeds as feeds
use Rattle.reql_feed_spec.specs.Kept.{by_key, watch_of}
use Rattle.reql_table_spec.specs.Followed.{shape_by, or_nothing, point_key, key_of_get, closed_value, is_get, arguments, first_slot}
use Rattle.reql_table_spec.specs.Table.{feed_of}
use Rattle.reql_table_spec.specs.Terms.{PointsShowTheirTerms}
use Rattle.reql_table_spec.proofs.Closed.{then_ok, if_ok, IsLikeBare, like_bare, closed_key}

-- what GET of a key that was given gives
get_given : (w : World) (n : ℕ) (v : View) (s : Sense) (m : Meant) (key : Plain) → view_at w n ≡ Ok v → argument 1 s w [] ≡ Ok (given m) → to_datum m ≡ Ok key → is_key key ≡ true
    → senses.value (sense_of op.Get (plain (table_of n) ∷ s ∷ []) []) w [] ≡ Ok (row n key (find_by order key v.documents))
get_given w n v s m key at is datum good = rw at (rw is (rw at (rw datum (rw good refl))))

pub record GetGives (key : Plain) (f : Form) : Type 0 where
  pub gives : (w : World) → IsLikeBare w → (v : View) → view_at w (first_slot (slots f)) ≡ Ok v → value f w [] ≡ Ok (row (first_slot (slots f)) key (find_by order key v.documents))

get_is : (o : Op) → is_get o ≡ true → op.Get ≡ o
get_is op.Get h = refl
get_is o h = absurd (cc (h))

get_slot : (n : ℕ) (k : Form) (key : Plain) → (closed_value k >>= key_if is_key) ≡ Ok key → GetGives key (operation op.Get (form (slot n) (form k no_forms)) no_named)
get_slot n k key h =
    let c = closed_key is_key k key h in
    record { gives = λ w like v at. ap settled (get_given w n v (sense k) c.0.meant key at (c.0.is 1 w like []) c.0.datum c.1) }

get_of : (o : Op) (fs : Forms) (key : Plain) → is_get o ≡ true → key_of_get (arguments fs) ≡ Ok key → GetGives key (operation o fs no_named)
get_of o (form (slot n) (form k no_forms)) key is h = subst (λ p. GetGives key (operation p (form (slot n) (form k no_forms)) no_named)) (get_is o is) (get_slot n k key h)
get_of o no_forms key is h = absurd (cc (h))
get_of o (form f fs) key is h = absurd (cc (h))

get_gives : (index : Option Bytes) (f : Form) (key : Plain) → point_key index f ≡ Ok key → GetGives key f
get_gives None (operation o fs no_named) key h =
    let b = if_ok (is_get o) (key_of_get (arguments fs)) misplaced key h in
    get_of o fs key b.0 b.1
get_gives index f key h = absurd (cc (h))

pub point_terms : PointsShowTheirTerms
point_terms indexes h k w docs accepted kind has =
    let read : (point_key h.spec.index h.spec.shape >>= λ key. Ok (by_key key)) ≡ Ok k = subst (λ x. shape_by x h.spec h.indexes ≡ Ok k) kind accepted.read in
    let p = then_ok (point_key h.spec.index h.spec.shape) (λ key. Ok (by_key key)) k read in
    let shown : feeds.value (feed_of h) docs ≡ or_null (find_by order p.0 docs) ∷ [] =
    ap (λ x. feeds.value_at (watch_of (or_nothing h.spec.kind x)) h.spec.offsets docs) (accepted.read ∙ sym p.2) in
    let g = (get_gives h.spec.index h.spec.shape p.0 p.1).gives w (like_bare w has.limit has.databases) (plain_view has.db has.db_number has.name h.spec.key docs indexes) has.table in
    ap (λ a. a >>= to_datum >>= λ d. Ok (d ∷ [])) g ∙ ap (λ vs. Ok vs) (sym shown)
