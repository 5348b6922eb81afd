-- A rule by groups, where the first argument is grouped and where it isn't.
use Rattle.std.proofs.Common.{◌≡◌, List, [], ◌∷◌, false, refl, Result}
use Rattle.reql_datum.specs.Answer.{Answer}
use Rattle.reql_datum.specs.Outcome.{Gives}
use Rattle.reql_datum.specs.Plain.{Plain}
use Rattle.reql_datum.specs.declared.fault.Fault.{Fault}
use Rattle.reql_apply.specs.declared.kinds.Kind.{Kind}
use Rattle.reql_value_spec.specs.World.{World}
use Rattle.reql_value_spec.specs.Meant.{Calls, Options, Meant, one, stream, selection, row, table, grouped, database, callable, Given, given, callee, directed, late}
use Rattle.reql_value_spec.specs.Sequenced.{at_once, by_groups, on_groups}
use Rattle.reql_apply.specs.Kinds.{kind_rule}
use Rattle.reql_operand.specs.Seen.{meant}
use Rattle.reql_operand.specs.declared.value.Value.{Value}
use Rattle.reql_argument_order.specs.Ruled.{ruled, ruled_on, in_groups, grouped_by, is_grouped, has_groups}

alone_first : (f : Meant → Answer Meant) (m : Meant) → is_grouped m ≡ false → on_groups f m ≡ f m
alone_first f (one d) h = refl
alone_first f (stream ds) h = refl
alone_first f (selection n k ds) h = refl
alone_first f (row n k d) h = refl
alone_first f (table n) h = refl
alone_first f (grouped gs) h = cc
alone_first f (database name) h = refl
alone_first f callable h = refl

alone : (op : Kind) (w : World) (calls : Calls) (opts : Options) (gs : List Given) → has_groups gs ≡ false → in_groups op w calls opts gs ≡ ruled op w calls opts gs
unfolding in_groups ruled
alone op w calls opts [] h = refl
alone op w calls opts (given m ∷ gs) h = alone_first (λ n. at_once w.array_limit (λ hs. kind_rule op w calls hs opts) (given n ∷ gs)) m h
alone op w calls opts (callee o at ∷ gs) h = refl
alone op w calls opts (directed down g ∷ gs) h = refl
alone op w calls opts (late texted a ∷ gs) h = refl

together : (op : Kind) (w : World) (calls : Calls) (opts : Options) (rest : List Given) (hs : List (Plain × Plain)) → in_groups op w calls opts (given (grouped hs) ∷ rest) ≡ grouped_by op w calls opts rest hs
unfolding in_groups ruled ruled_on grouped_by
together op w calls opts rest hs = refl

-- what a call gave, where the first argument isn't grouped
pub gives_alone : (w : World) (r : Result Value Fault) (op : Kind) (calls : Calls) (opts : Options) (gs : List Given) → has_groups gs ≡ false
    → Gives (meant w) r (ruled op w calls opts gs) → Gives (meant w) r (in_groups op w calls opts gs)
gives_alone w r op calls opts gs h gives = rw (alone op w calls opts gs h) gives

-- and where it is
pub gives_together : (w : World) (r : Result Value Fault) (op : Kind) (calls : Calls) (opts : Options) (gs rest : List Given) (hs ks : List (Plain × Plain))
    → gs ≡ given (grouped hs) ∷ rest → ks ≡ hs → Gives (meant w) r (grouped_by op w calls opts rest ks) → Gives (meant w) r (in_groups op w calls opts gs)
gives_together w r op calls opts gs rest hs ks h e gives = rw h (rw (together op w calls opts rest hs) (rw e at gives))

-- one value in the place of the first argument
pub gives_on : (w : World) (r : Result Value Fault) (op : Kind) (calls : Calls) (opts : Options) (gs rest others : List Given) (m : Meant)
    → gs ≡ given m ∷ others → others ≡ rest → Gives (meant w) r (ruled op w calls opts gs) → Gives (meant w) r (ruled_on op w calls opts rest m)
unfolding ruled_on
gives_on w r op calls opts gs rest others m h e gives = rw e at (rw h at gives)

-- the names as the definitions that they stand for
pub ruled_is : (op : Kind) (w : World) (calls : Calls) (opts : Options) (gs : List Given) → ruled op w calls opts gs ≡ at_once w.array_limit (λ hs. kind_rule op w calls hs opts) gs
unfolding ruled
ruled_is op w calls opts gs = refl

pub in_groups_is : (op : Kind) (w : World) (calls : Calls) (opts : Options) (gs : List Given) → in_groups op w calls opts gs ≡ by_groups w.array_limit (λ hs. kind_rule op w calls hs opts) gs
unfolding in_groups
in_groups_is op w calls opts gs = refl
