-- The index that a request names, as it is kept.
use Rattle.std.proofs.Common.{◌≡◌, [], ◌∷◌, Bool, true, false, if◌then◌else◌, Option, Some, None, refl, sym, ap, ◌∙◌}
use Rattle.std.specs.Prelude.{is_some}
use Rattle.reql_datum.specs.Members.{find}
use Rattle.reql_rules.specs.Lists.{Bytes}
use Rattle.reql_rules.specs.Types.{same_text}
use Rattle.reql_term.specs.Views.{Index, index_of}
use Rattle.reql_term.specs.declared.view.IndexDef.{IndexDef}
use Rattle.reql_table_spec.specs.Indexes.{Indexes}
use Rattle.reql_table_spec.specs.Table.{Held, held, held_at, held_by}
use Rattle.reql_table_spec.specs.declared.command.FeedSpec.{FeedSpec}
use Rattle.reql_feed_read.specs.Follows.{held_of}

if_some : (b : Bool) (h : Held) (o : Option Held) → o ≡ (if b then None else Some h) → is_some o ≡ true → o ≡ Some h
if_some true h o e there = absurd (let f : false ≡ true = sym (ap is_some e) ∙ there in cc (f))
if_some false h o e there = e

not_key : (b : Bool) (g h : Option Held) → b ≡ false → (if b then g else h) ≡ h
not_key b g h e = rw e refl

module _ (indexes : Indexes) (spec : FeedSpec) (name : Bytes) (i : Index) (d : IndexDef) (named : d.name ≡ name) (same : index_of d ≡ i) where
  pub kept_by_name : spec.index ≡ Some name → same_text name spec.key ≡ false → Some i ≡ find name indexes → is_some (held indexes spec) ≡ true → held indexes spec ≡ Some (held_of spec (Some d))
  kept_by_name asked other found there =
      let at_name : held indexes spec ≡ held_by spec name (Some i) =
      ap (held_at spec indexes) asked ∙ not_key (same_text name spec.key) _ (held_by spec name (find name indexes)) other ∙ ap (held_by spec name) (sym found) in
      if_some _ (record { spec = spec; indexes = (name, i) ∷ [] }) (held indexes spec) at_name there
      ∙ (λ j. Some (record { spec = spec; indexes = (sym named j, sym same j) ∷ [] }))

  pub there_by_name : Some i ≡ find name indexes → find d.name indexes ≡ Some (index_of d)
  there_by_name found = ap (λ n. find n indexes) named ∙ sym found ∙ ap Some (sym same)
