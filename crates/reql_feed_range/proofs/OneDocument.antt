-- A table of one document, as the term of a shape reads it.
use Rattle.std.proofs.Common.{◌≡◌, ℕ, List, [], ◌∷◌, Result, length, Bool, true, false, cond, refl, sym, ap, ◌∙◌, subst, arith}
use Rattle.reql_datum.specs.Outcome.{Gives}
use Rattle.reql_datum.specs.Plain.{Plain}
use Rattle.reql_datum.specs.declared.fault.Fault.{Fault}
use Rattle.reql_rules.specs.Lists.{Bytes}
use Rattle.reql_term.specs.Views.{Document, Index}
use Rattle.reql_table.specs.Seen.{Standing, documents_of, indexes_of, entries_at}
use Rattle.reql_value_spec.specs.Index.{plain_view}
use Rattle.reql_value_spec.specs.Shapes.{answered}
use Rattle.reql_value_spec.specs.World.{World, View}
use Rattle.reql_write_spec.specs.Treated.{Changed, changed_by}
use Rattle.reql_feed_spec.specs.Value.{is_good, shown_alone}
use Rattle.reql_feed_range.specs.Feed.{coming, rows_given, world_with}
use Rattle.reql_feed_read.specs.Follows.{shape_of}
use Rattle.reql_feed_read.specs.Seen.{source_of}
use Rattle.reql_feed_read.specs.Source.{may_hold}
use Rattle.reql_feed_read.specs.declared.shape.RangeShape.{RangeShape}

nothing_there : (docs : List Document) → length docs ≡ 0 → docs ≡ []
nothing_there [] e = refl
nothing_there (m ∷ ms) e = absurd (omega (arith, e))

pub installed_documents : (t p e : Standing) (c : Changed) (k d : Plain) → t ≡ p → documents_of p ≡ changed_by (documents_of e) (c ∷ []) → length (documents_of e) ≡ 0 → c ≡ coming k d → documents_of t ≡ (k, d) ∷ []
installed_documents t p e c k d same put empty is =
    ap documents_of same ∙ put ∙ (λ i. changed_by (nothing_there (documents_of e) empty i) (is i ∷ []))

pub installed_indexes : (t p e : Standing) → t ≡ p → p.1 ≡ e.1 → indexes_of t ≡ indexes_of e
installed_indexes t p e same kept = ap indexes_of same ∙ ap (λ x. indexes_of (documents_of e, x)) kept

abbrev view_of : Bytes → Bytes → Bytes → Standing → View
view_of db name key t = record { db = db; db_number = 0; name = name; key = key; documents = documents_of t; indexes = indexes_of t; entries = entries_at t }

pub viewed_is : (slot : ℕ) (db name key own : Bytes) (t : Standing) (indexes : List (Bytes × Index)) → db ≡ [] → name ≡ [] → key ≡ own → indexes_of t ≡ indexes
    → ◌≡◌ {A = ℕ × View} (slot, view_of db name key t) (slot, plain_view [] 0 [] own (documents_of t) indexes)
viewed_is slot db name key own t indexes d n k x = λ i. (slot, plain_view (d i) 0 (n i) (k i) (documents_of t) (x i))

pub rows_over_shape : (s : RangeShape) (w : World) (t : ℕ × View) (docs : List Document) (r : Result (List Plain) Fault) → w ≡ world_with t → t ≡ (s.slot, plain_view [] 0 [] s.key docs (indexes_of s.empty))
    → Gives (λ items. items) r (rows_given s.term w) → Gives (λ items. items) r (shape_of s docs)
rows_over_shape s w t docs r e v given = subst (λ x. Gives (λ items. items) r (rows_given s.term x)) (e ∙ ap world_with v) given

-- ---- a document that the source of a shape leaves out
none_shown : (b : Bool) (vs : List Plain) → length vs ≡ 0 → [] ≡ cond b vs []
none_shown true [] e = refl
none_shown true (v ∷ vs) e = absurd (omega (arith, e))
none_shown false vs e = refl

pub left_out : (s : RangeShape) (k d : Plain) → may_hold (source_of s.source) (k, d) ≡ false → [] ≡ shown_alone (shape_of s) (k, d)
left_out s k d off = none_shown (is_good (shape_of s) (k, d)) (answered (shape_of s ((k, d) ∷ []))) (s.leaves_out (k, d) off)
