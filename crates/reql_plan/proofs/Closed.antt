-- Feeds that are closed, whatever would have followed.
use Rattle.std.proofs.Common.{◌≡◌, ◌++◌, [], ◌∷◌, refl, ap, map, List, Result}
use Rattle.reql_datum.specs.Answer.{Reason}
use Rattle.reql_term.specs.Views.{Document, Entry}
use Rattle.reql_rules.specs.Lists.{Bytes}
use Rattle.reql_table_spec.specs.Indexes.{Indexes}
use Rattle.reql_table_spec.specs.declared.command.Cmd.TheVariants as cmds
use Rattle.reql_plan_spec.specs.Course.{Open, closing, order_of}
use Rattle.reql_plan_spec.specs.Held.{Held}
use Rattle.reql_plan_spec.specs.Move.{run}
use Rattle.reql_plan_spec.specs.Request.{Request, asks}
use Rattle.reql_plan_state.specs.Rest.{closing_rest}
use Rattle.reql_plan_state.specs.Turn.{Turns}
use Rattle.reql_plan_state.specs.declared.stage.Turn.{Turn}

same : {A : Type 0} (e : Held) (why : Reason) (os : List Open) (on : A → Request) → closing {A = A} e why os on ≡ closing_rest e why os
same e why [] on = refl
same e why (o ∷ os) on = ap (λ (r : Request). asks (run o.slot (order_of e (cmds.Unsubscribe o.feed))) (λ h. r)) (same e why os on)

module _ {V E : Type 0} (documents : V → List Document) (indexes : V → Indexes) (entries : V → Bytes → List Entry) where
  pub closed_on : (r : Result (Turn V) E) (e : Held) (why : Reason) (os : List Open) (on : Open → Request) → Turns documents indexes entries r (closing_rest e why os) → Turns documents indexes entries r (closing {A = Open} e why os on)
  closed_on r e why os on is = rw (same e why os on) is

pub map_join : {A B : Type 0} (f : A → B) (xs ys : List A) → map f (xs ++ ys) ≡ map f xs ++ map f ys
map_join {B = B} f [] ys = refl
map_join {B = B} f (x ∷ xs) ys = ap (λ (zs : List B). f x ∷ zs) (map_join f xs ys)
