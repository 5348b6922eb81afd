-- What a command that is no write hands over.
use Rattle.std.proofs.Common.{◌≡◌, ℕ, List, [], map, Bool, true, false, cond, refl, sym, ap, ◌∙◌}
use Rattle.reql_table_machine_spec.specs.Fed.{changes_at, changes_by}
use Rattle.reql_table_machine_spec.specs.Feeds.{adds, answer}
use Rattle.reql_write_spec.specs.Treated.{Changed}
use Rattle.reql_table_spec.specs.Engines.{kept_of}
use Rattle.reql_table_spec.specs.Table.{DocumentTable, feeding, at_key}
use Rattle.reql_table_spec.specs.declared.engine.Kept.{Kept as Hand}
use Rattle.reql_core.specs.Live.{Asked}

none_at_all : (b : Bool) → ◌≡◌ {A = List Changed} (cond b [] []) []
none_at_all true = refl
none_at_all false = refl

-- nothing is handed over of a command that is no write
pub no_changes : (most by : ℕ) (t : DocumentTable) (cmd : Asked) (ks : List Hand) → changes_by (feeding most) t cmd ≡ [] → ks ≡ [] → map kept_of ks ≡ map at_key (changes_at (feeding most) t by cmd)
no_changes most by t cmd ks none e = ap (map kept_of) e ∙ sym (ap (map at_key) (ap (λ xs. cond (adds (feeding most) (answer (feeding most) t by cmd)) xs []) none ∙ none_at_all (adds (feeding most) (answer (feeding most) t by cmd))))
