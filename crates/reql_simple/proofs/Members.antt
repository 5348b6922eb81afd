-- The members of objects of simple terms.
use Rattle.std.proofs.Common.{◌≡◌, ℕ, ◌+◌, List, [], ◌∷◌, ◌++◌, drop, Result, Ok, Err, refl, ap, sym, subst, ◌∙◌, append_assoc, append-nil}
use Rattle.std.specs.List.Sorted.{IsStrictlySortedBy}
use Rattle.std.specs.Map.{keys_of}
use Rattle.reql_datum.specs.Answer.{Answer, ◌>>=◌}
use Rattle.reql_datum.specs.Members.{text_order, AreRising}
use Rattle.reql_datum.specs.Outcome.{Gives}
use Rattle.reql_datum.specs.Plain.{Plain}
use Rattle.reql_datum.specs.declared.fault.Fault.{Fault}
use Rattle.reql_term.specs.Form.{Form}
use Rattle.reql_rules.specs.Lists.{Bytes, each, object_of}
use Rattle.reql_value_spec.specs.Meaning.{sense, member_datum, make_object}
use Rattle.reql_value_spec.specs.Meant.{Meant, one, Given, given, Options}
use Rattle.reql_value_spec.specs.Sense.{Sense, value, option, options}
use Rattle.reql_value_spec.specs.Sequenced.{sized}
use Rattle.reql_value_spec.specs.World.{World, Vars}
use Rattle.reql_operand.specs.Seen.{meant}
use Rattle.reql_operand.specs.declared.value.Value.{Value}
use Rattle.reql_term_analysis.specs.Bound.{optional}
use Rattle.reql_simple.specs.Members.{members_of, Made, MadeBefore}
use Rattle.reql_simple.specs.Stands.{Stands}

abbrev Members : Type 0
Members = List (Bytes × Plain)

none_before : (a : Answer Members) → a ≡ (a >>= λ ms. Ok ([] ++ ms))
none_before (Ok ms) = refl
none_before (Err e) = refl

-- before the first place nothing is made
pub made_first : (limit : ℕ) (fs : List (Bytes × Form)) (vars : Vars) → MadeBefore 0 limit fs vars []
unfolding MadeBefore
made_first limit fs vars = λ w l. none_before (members_of (optional fs) w vars)

-- a member, and then those of the rest
one_more : (k : Bytes) (d : Plain) (gs : Answer Options) → (gs >>= λ hs. each member_datum ((k, given (one d)) ∷ hs)) ≡ ((gs >>= each member_datum) >>= λ ms. Ok ((k, d) ∷ ms))
one_more k d (Ok gs) = refl
one_more k d (Err e) = refl

chosen_first : (k : Bytes) (d : Plain) (gs : Answer Options) → ((gs >>= λ hs. Ok ((k, given (one d)) ∷ hs)) >>= each member_datum) ≡ (gs >>= λ hs. each member_datum ((k, given (one d)) ∷ hs))
chosen_first k d (Ok gs) = refl
chosen_first k d (Err e) = refl

members_first : (k : Bytes) (s : Sense) (os : List (Bytes × Sense)) (w : World) (vars : Vars) (d : Plain) → value s w vars ≡ Ok (one d)
    → members_of ((k, s) ∷ os) w vars ≡ (members_of os w vars >>= λ ms. Ok ((k, d) ∷ ms))
members_first k s os w vars d h =
    ap (λ (a : Answer Meant). ((a >>= λ m. Ok (given m)) >>= λ g. options option os w vars >>= λ gs. Ok ((k, g) ∷ gs)) >>= each member_datum) h
    ∙ (chosen_first k d (options option os w vars) ∙ one_more k d (options option os w vars))

joined : (done : Members) (k : Bytes) (d : Plain) (a : Answer Members) → ((a >>= λ ms. Ok ((k, d) ∷ ms)) >>= λ ms. Ok (done ++ ms)) ≡ (a >>= λ ms. Ok ((done ++ (k, d) ∷ []) ++ ms))
joined done k d (Ok ms) = ap Ok (sym (append_assoc done ((k, d) ∷ []) ms))
joined done k d (Err e) = refl

-- one place on
made_next : (limit : ℕ) (fs : List (Bytes × Form)) (place : ℕ) (k : Bytes) (f : Form) (vars : Vars) (d : Plain) (done more : Members)
    → drop place fs ≡ (k, f) ∷ drop (place + 1) fs → Stands limit (sense f) vars d → more ≡ done ++ (k, d) ∷ []
    → MadeBefore place limit fs vars done → MadeBefore (place + 1) limit fs vars more
unfolding MadeBefore
made_next limit fs place k f vars d done more rest stands grown before = λ w l.
    before w l
    ∙ (ap (λ (gs : List (Bytes × Form)). members_of (optional gs) w vars >>= λ ms. Ok (done ++ ms)) rest
    ∙ (ap (λ (a : Answer Members). a >>= λ ms. Ok (done ++ ms)) (members_first k (sense f) (optional (drop (place + 1) fs)) w vars d (stands w l))
    ∙ (joined done k d (members_of (optional (drop (place + 1) fs)) w vars)
    ∙ ap (λ (now : Members). members_of (optional (drop (place + 1) fs)) w vars >>= λ ms. Ok (now ++ ms)) (sym grown))))

-- the names before a place and those from there on
later_keys : (fs : List (Bytes × Form)) (place : ℕ) (k : Bytes) (f : Form) (done : Members) → drop place fs ≡ (k, f) ∷ drop (place + 1) fs
    → keys_of done ++ keys_of (drop place fs) ≡ keys_of fs → keys_of done ++ k ∷ keys_of (drop (place + 1) fs) ≡ keys_of fs
later_keys fs place k f done rest keys = ap (λ (gs : List (Bytes × Form)). keys_of done ++ keys_of gs) (sym rest) ∙ keys

one_key : (done : Members) (k : Bytes) (d : Plain) (ks : List Bytes) → keys_of (done ++ (k, d) ∷ []) ++ ks ≡ keys_of done ++ k ∷ ks
one_key [] k d ks = refl
one_key (m ∷ ms) k d ks = ap (λ (js : List Bytes). m.0 ∷ js) (one_key ms k d ks)

-- where a member is put after all others
pub put_next : (limit : ℕ) (fs : List (Bytes × Form)) (place : ℕ) (k : Bytes) (f : Form) (vars : Vars) (d : Plain) (done more : Members)
    → drop place fs ≡ (k, f) ∷ drop (place + 1) fs → AreRising fs → Stands limit (sense f) vars d
    → ((later : List Bytes) → IsStrictlySortedBy text_order (keys_of done ++ k ∷ later) → more ≡ done ++ (k, d) ∷ [])
    → MadeBefore place limit fs vars done × (keys_of done ++ keys_of (drop place fs) ≡ keys_of fs)
    → MadeBefore (place + 1) limit fs vars more × (keys_of more ++ keys_of (drop (place + 1) fs) ≡ keys_of fs)
put_next limit fs place k f vars d done more rest up stands put before =
    let keys = later_keys fs place k f done rest before.1 in
    let grown = put (keys_of (drop (place + 1) fs)) (subst (λ (js : List Bytes). IsStrictlySortedBy text_order js) (sym keys) up) in (
      made_next limit fs place k f vars d done more rest stands grown before.0,
      ap (λ (ms : Members). keys_of ms ++ keys_of (drop (place + 1) fs)) grown ∙ (one_key done k d (keys_of (drop (place + 1) fs)) ∙ keys),
    )

-- past the last place all are made
pub made_last : (limit : ℕ) (fs : List (Bytes × Form)) (place : ℕ) (vars : Vars) (done : Members) → drop place fs ≡ [] → MadeBefore place limit fs vars done → Made limit fs vars done
unfolding MadeBefore Made
made_last limit fs place vars done rest before = λ w l.
    before w l
    ∙ (ap (λ (gs : List (Bytes × Form)). members_of (optional gs) w vars >>= λ ms. Ok (done ++ ms)) rest
    ∙ ap Ok (append-nil done))

-- the object of all
object_is : (gs : Answer Options) (ms : Members) (k : Members → Answer Meant) → (gs >>= each member_datum) ≡ Ok ms → (gs >>= λ hs. each member_datum hs >>= k) ≡ k ms
object_is (Ok gs) ms k h = ap (λ (a : Answer Members). a >>= k) h
object_is (Err e) ms k h = cc

pub object_made : (limit : ℕ) (fs : List (Bytes × Form)) (vars : Vars) (ms : Members) (r : Result Value Fault) → Made limit fs vars ms
    → ((w : World) → Gives (meant w) r (sized limit (one (object_of ms))))
    → (w : World) → w.array_limit ≡ limit → Gives (meant w) r (make_object (optional fs) w vars)
unfolding Made
object_made limit fs vars ms r made gives w l =
    let e : make_object (optional fs) w vars ≡ sized w.array_limit (one (object_of ms)) = object_is (options option (optional fs) w vars) ms (λ ns. sized w.array_limit (one (object_of ns))) (made w l) in
    rw (e, l) (gives w)
