-- Whether the index of a request is there.
use Rattle.std.proofs.Common.{◌≡◌, [], ◌∷◌, Bool, true, false, not, ◌&&◌, if◌then◌else◌, Some, None, refl, sym, ap, ◌∙◌}
use Rattle.std.specs.Prelude.{is_some}
use Rattle.reql_datum.specs.Members.{find}
use Rattle.reql_rules.specs.Lists.{Bytes}
use Rattle.reql_rules.specs.Types.{same_text}
use Rattle.reql_term.specs.Views.{index_of}
use Rattle.reql_term.specs.declared.view.IndexDef.{IndexDef}
use Rattle.reql_table_spec.specs.Indexes.{Indexes}
use Rattle.reql_table_spec.specs.Table.{Held, held, held_at, held_by, is_limit}
use Rattle.reql_table_spec.specs.declared.command.FeedSpec.{FeedSpec}

held_if : (b : Bool) (h : Held) → is_some (if b then None else Some h) ≡ not b
held_if true h = refl
held_if false h = refl

module _ (spec : FeedSpec) (name : Bytes) (indexes : Indexes) (asked : spec.index ≡ Some name) where
  abbrev own : Held
  own = record { spec = spec; indexes = [] }

  named : (b : Bool) → same_text name spec.key ≡ b → held indexes spec ≡ (if b then Some own else held_by spec name (find name indexes))
  named b is = ap (held_at spec indexes) asked ∙ ap (λ c. if c then Some own else held_by spec name (find name indexes)) is

  pub named_key : same_text name spec.key ≡ true → true ≡ is_some (held indexes spec)
  named_key is = sym (ap is_some (named true is))

  pub named_none : same_text name spec.key ≡ false → None ≡ find name indexes → false ≡ is_some (held indexes spec)
  named_none is none = sym (ap is_some (named false is) ∙ ap (λ o. is_some (held_by spec name o)) (sym none))

  pub named_index : (d : IndexDef) (b : Bool) → same_text name spec.key ≡ false → Some (index_of d) ≡ find name indexes → b ≡ not (is_limit spec.kind && d.multi) → b ≡ is_some (held indexes spec)
  named_index d b is found serves =
      serves
      ∙ sym (ap is_some (named false is) ∙ (ap (λ o. is_some (held_by spec name o)) (sym found) ∙ held_if (is_limit spec.kind && d.multi) (record { spec = spec; indexes = (name, index_of d) ∷ [] })))
