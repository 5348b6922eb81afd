use Rattle.std.proofs.Common.{◌≡◌, Option, Some, None, is_some, option_map, refl, ap, ◌∙◌}
use Rattle.serde_json.specs.View.{view}
use Rattle.serde_json.proofs.Views.{view-lookup}
use Rattle.reql_json.specs.Reading.{reserved}
use Rattle.reql_json.proofs.read.has_reserved.Goals as goal

some_mapped : {A B : Type 0} (f : A → B) (o : Option A) → is_some o ≡ is_some (option_map f o)
some_mapped f None = refl
some_mapped f (Some x) = refl

pub returns : goal.returns
returns c = c.contains_key.ensures ∙ some_mapped view _ ∙ ap is_some (view-lookup reserved c.args.held.now.entries)
