-- Rules on documents that simple terms stand for.
use Rattle.std.proofs.Common.{◌≡◌, ℕ, ℤ, suc, List, [], ◌∷◌, Bool, true, false, not, ◌&&◌, if◌then◌else◌, Option, Some, None, IfSome, option_and_then, codes, Result, Ok, Err, refl, ap, sym, ◌∙◌}
use Rattle.std.specs.Ordering.{is_eq, is_lt, is_le, is_gt, is_ge}
use Rattle.reql_datum.specs.Answer.{Answer, ◌>>=◌}
use Rattle.reql_datum.specs.Kinds.{is_literal}
use Rattle.reql_datum.specs.Members.{find}
use Rattle.reql_datum.specs.Order.{order}
use Rattle.reql_datum.specs.Plain.{Plain, low, array, boolean, null, number, object, binary, time, text, high, Pairs, members}
use Rattle.reql_datum.specs.declared.whole.NumFault.{NumFault}
use Rattle.reql_rules.specs.Lists.{Bytes}
use Rattle.reql_rules.specs.Numbers.{Step, plus, minus, times, exact}
use Rattle.reql_rules.specs.Relations.{relate}
use Rattle.reql_rules.specs.Sizes.{within}
use Rattle.reql_rules.specs.Fields.{attribute}
use Rattle.reql_rules.specs.Types.{mismatch, wanted, truth}
use Rattle.reql_rules.specs.declared.words.Arith.{Arith}
use Rattle.reql_rules.specs.declared.words.Arith.TheVariants.{Add, Sub, Mul, Div, Mod}
use Rattle.reql_rules.specs.declared.words.Relate.{Relate}
use Rattle.reql_rules.specs.declared.words.Relate.TheVariants.{Eq, Ne, Lt, Le, Gt, Ge}
use Rattle.reql_value_spec.specs.Fields as fields
use Rattle.reql_value_spec.specs.Fields.{object_alone, bracket, get_field_rule}
use Rattle.reql_value_spec.specs.Meant.{Meant, one, Given, given, Calls, Rule}
use Rattle.reql_value_spec.specs.Scalars.{comparison, arithmetic, negation}
use Rattle.reql_value_spec.specs.Sense.{Sense, plain, func, sorter, raiser, value, argument, calls_of, strict}
use Rattle.reql_value_spec.specs.Sequenced.{datum, at_once, sized}
use Rattle.reql_value_spec.specs.Wanted.{wrong}
use Rattle.reql_value_spec.specs.World.{World, Vars}
use Rattle.reql_simple.specs.Found.{document, stands, step_of, field_of}
use Rattle.reql_simple.specs.Stands.{Stands, role_sense}
use Rattle.reql_simple.specs.declared.lying.Found.{Found}
use Rattle.reql_simple.specs.declared.roles.Role.TheVariants as role

-- an argument that is a plain value
argument_is : (at : ℕ) (s : Sense) (w : World) (vars : Vars) (d : Plain) → value s w vars ≡ Ok (one d) → argument at s w vars ≡ Ok (given (one d))
argument_is at (plain f) w vars d h = ap (λ (a : Answer Meant). a >>= λ m. Ok (given m)) h
argument_is at (func o f) w vars d h = cc
argument_is at (sorter down s) w vars d h = ap (λ (a : Answer Meant). a >>= λ m. Ok (given m)) h
argument_is at (raiser texted f) w vars d h = ap (λ (a : Answer Meant). a >>= λ m. Ok (given m)) h

-- a rule on one and on two plain values
strict_one : (rule : Rule) (s : Sense) (w : World) (vars : Vars) (d : Plain) → value s w vars ≡ Ok (one d)
    → strict rule (s ∷ []) [] w vars ≡ at_once w.array_limit (λ hs. rule w (calls_of (s ∷ []) w vars) hs []) (given (one d) ∷ [])
strict_one rule s w vars d h = rw (argument_is 0 s w vars d h) refl

strict_two : (rule : Rule) (s t : Sense) (w : World) (vars : Vars) (d e : Plain) → value s w vars ≡ Ok (one d) → value t w vars ≡ Ok (one e)
    → strict rule (s ∷ t ∷ []) [] w vars ≡ at_once w.array_limit (λ hs. rule w (calls_of (s ∷ t ∷ []) w vars) hs []) (given (one d) ∷ given (one e) ∷ [])
strict_two rule s t w vars d e h k = rw (argument_is 0 s w vars d h, argument_is 1 t w vars e k) refl

pub negation_stands : (limit : ℕ) (s : Sense) (vars : Vars) (d : Plain) → Stands limit s vars d → Stands limit (role_sense role.Negation (s ∷ [])) vars (boolean (not (truth d)))
negation_stands limit s vars d h w l = strict_one (datum negation) s w vars d (h w l)

-- two neighbours
and_true : (b : Bool) → (b && true) ≡ b
and_true true = refl
and_true false = refl

related_two : (op : Relate) (u v : Plain) → relate op (u ∷ v ∷ []) ≡ stands op (order u v)
related_two Eq u v = and_true (is_eq (order u v))
related_two Ne u v = ap not (and_true (is_eq (order u v)))
related_two Lt u v = and_true (is_lt (order u v))
related_two Le u v = and_true (is_le (order u v))
related_two Gt u v = and_true (is_gt (order u v))
related_two Ge u v = and_true (is_ge (order u v))

pub comparison_stands : (limit : ℕ) (op : Relate) (s t : Sense) (vars : Vars) (d e : Plain) (b : Bool) → stands op (order d e) ≡ b
    → Stands limit s vars d → Stands limit t vars e → Stands limit (role_sense (role.Comparison op) (s ∷ t ∷ [])) vars (boolean b)
comparison_stands limit op s t vars d e b x h k w l =
    strict_two (datum (comparison op)) s t w vars d e (h w l) (k w l) ∙ ap (λ (c : Bool). Ok (one (boolean c))) (related_two op d e ∙ x)

-- two numbers
on_numbers : (op : Arith) (w : World) (calls : Calls) (m n k : ℤ) → step_of op m n ≡ Ok k → arithmetic op w calls (given (one (number m)) ∷ given (one (number n)) ∷ []) [] ≡ Ok (number k)
on_numbers Add w calls m n k h = ap (λ (r : Result ℤ NumFault). (exact r >>= λ j. Ok j) >>= λ j. Ok (number j)) h
on_numbers Sub w calls m n k h = ap (λ (r : Result ℤ NumFault). (exact r >>= λ j. Ok j) >>= λ j. Ok (number j)) h
on_numbers Mul w calls m n k h = ap (λ (r : Result ℤ NumFault). (exact r >>= λ j. Ok j) >>= λ j. Ok (number j)) h
on_numbers Div w calls m n k h = ap (λ (r : Result ℤ NumFault). (exact r >>= λ j. Ok j) >>= λ j. Ok (number j)) h
on_numbers Mod w calls m n k h = ap (λ (r : Result ℤ NumFault). (exact r >>= λ j. Ok j) >>= λ j. Ok (number j)) h

pub arithmetic_stands : (limit : ℕ) (op : Arith) (s t : Sense) (vars : Vars) (d e : Plain) (m n k : ℤ) → d ≡ number m → e ≡ number n → step_of op m n ≡ Ok k
    → Stands limit s vars d → Stands limit t vars e → Stands limit (role_sense (role.Arithmetic op) (s ∷ t ∷ [])) vars (number k)
arithmetic_stands limit op s t vars d e m n k x y z h j w l =
    strict_two (datum (arithmetic op)) s t w vars (number m) (number n) (h w l ∙ ap (λ (v : Plain). Ok (one v)) x) (j w l ∙ ap (λ (v : Plain). Ok (one v)) y)
    ∙ ap (λ (a : Answer Plain). (a >>= λ v. Ok (one v)) >>= sized w.array_limit) (on_numbers op w (calls_of (s ∷ t ∷ []) w vars) m n k z)

-- a field of an object
is_there : (b : Bool) (ms : List (Bytes × Plain)) (s : Bytes) (v : Plain) → option_and_then (find s) (if b then None else Some ms) ≡ Some v → (b ≡ false) × (find s ms ≡ Some v)
is_there true ms s v h = cc
is_there false ms s v h = (refl, h)

field_is : (w : World) (calls : Calls) (d e v : Plain) → field_of d e ≡ Some v → get_field_rule w calls (given (one d) ∷ given (one e) ∷ []) [] ≡ Ok (one v)
field_is w calls (object ms) (text s) v h =
    let q = is_there (is_literal ms) (members ms) s v h in
    ap (λ (b : Bool). (if b then Err (wrong (codes "OBJECT") (one (object ms))) else Ok (object_alone (object ms))) >>= fields.field_of (one (object ms)) s) q.0
    ∙ (ap (λ (b : Bool). (wanted (mismatch (codes "OBJECT") (object ms)) (if b then None else Some (members ms)) >>= λ ns. attribute s (find s ns)) >>= λ u. Ok (one u)) q.0
    ∙ ap (λ (o : Option Plain). attribute s o >>= λ u. Ok (one u)) q.1)
field_is w calls low (text s) v h = cc
field_is w calls (array vs) (text s) v h = cc
field_is w calls (boolean b) (text s) v h = cc
field_is w calls null (text s) v h = cc
field_is w calls (number n) (text s) v h = cc
field_is w calls (binary b) (text s) v h = cc
field_is w calls (time t) (text s) v h = cc
field_is w calls (text r) (text s) v h = cc
field_is w calls high (text s) v h = cc
field_is w calls d low v h = cc
field_is w calls d (array vs) v h = cc
field_is w calls d (boolean b) v h = cc
field_is w calls d null v h = cc
field_is w calls d (number n) v h = cc
field_is w calls d (object ms) v h = cc
field_is w calls d (binary b) v h = cc
field_is w calls d (time t) v h = cc
field_is w calls d high v h = cc

is_text : (d e v : Plain) → field_of d e ≡ Some v → (w : World) (calls : Calls) → bracket w calls (given (one d) ∷ given (one e) ∷ []) [] ≡ get_field_rule w calls (given (one d) ∷ given (one e) ∷ []) []
is_text d low v h w calls = cc
is_text d (array vs) v h w calls = cc
is_text d (boolean b) v h w calls = cc
is_text d null v h w calls = cc
is_text d (number n) v h w calls = cc
is_text d (object ms) v h w calls = cc
is_text d (binary b) v h w calls = cc
is_text d (time t) v h w calls = cc
is_text d (text s) v h w calls = refl
is_text d high v h w calls = cc

sized_is : (limit : ℕ) (w : World) (v : Plain) → w.array_limit ≡ limit → within limit v ≡ Ok v → sized w.array_limit (one v) ≡ Ok (one v)
sized_is limit w v l k = rw (l, k) refl

pub field_stands : (limit : ℕ) (s t : Sense) (vars : Vars) (d e v : Plain) → field_of d e ≡ Some v → within limit v ≡ Ok v
    → Stands limit s vars d → Stands limit t vars e → Stands limit (role_sense role.Field (s ∷ t ∷ [])) vars v
field_stands limit s t vars d e v x k h j w l =
    strict_two get_field_rule s t w vars d e (h w l) (j w l) ∙ (ap (λ (a : Answer Meant). a >>= sized w.array_limit) (field_is w (calls_of (s ∷ t ∷ []) w vars) d e v x) ∙ sized_is limit w v l k)

pub bracket_stands : (limit : ℕ) (s t : Sense) (vars : Vars) (d e v : Plain) → field_of d e ≡ Some v → within limit v ≡ Ok v
    → Stands limit s vars d → Stands limit t vars e → Stands limit (role_sense role.Bracket (s ∷ t ∷ [])) vars v
bracket_stands limit s t vars d e v x k h j w l =
    strict_two bracket s t w vars d e (h w l) (j w l)
    ∙ (ap (λ (a : Answer Meant). a >>= sized w.array_limit) (is_text d e v x w (calls_of (s ∷ t ∷ []) w vars) ∙ field_is w (calls_of (s ∷ t ∷ []) w vars) d e v x) ∙ sized_is limit w v l k)

-- where one is found
pub field_found : (limit : ℕ) (d e : Plain) (r : Option Found) → IfSome r (λ z. field_of d e ≡ Some (document z)) → IfSome r (λ z. within limit (document z) ≡ Ok (document z))
    → IfSome r (λ z. (vars : Vars) (s t : Sense) → Stands limit s vars d → Stands limit t vars e → Stands limit (role_sense role.Field (s ∷ t ∷ [])) vars (document z))
field_found limit d e None x k = tt
field_found limit d e (Some z) x k = λ vars s t h j. field_stands limit s t vars d e (document z) x k h j

pub bracket_found : (limit : ℕ) (d e : Plain) (r : Option Found) → IfSome r (λ z. field_of d e ≡ Some (document z)) → IfSome r (λ z. within limit (document z) ≡ Ok (document z))
    → IfSome r (λ z. (vars : Vars) (s t : Sense) → Stands limit s vars d → Stands limit t vars e → Stands limit (role_sense role.Bracket (s ∷ t ∷ [])) vars (document z))
bracket_found limit d e None x k = tt
bracket_found limit d e (Some z) x k = λ vars s t h j. bracket_stands limit s t vars d e (document z) x k h j
