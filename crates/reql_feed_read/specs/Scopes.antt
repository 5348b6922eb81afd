-- The parameters of the functions around a term, those of the innermost first.
use Rattle.std.specs.Prelude.{ℕ, List, [], ◌∷◌}
use Rattle.reql_feed_read.specs.declared.free.Scope.{Scope, fold-Scope}
use Rattle.reql_feed_read.specs.declared.free.Scope.TheOpen.{Scope-F}

abbrev pub scope_step : Scope-F (List (List ℕ)) → List (List ℕ)
scope_step Scope-F.Outside = []
scope_step (Scope-F.Inside ids around) = ids.now ∷ around.now

abbrev pub scope_of : Scope → List (List ℕ)
scope_of = fold-Scope (List (List ℕ)) scope_step
