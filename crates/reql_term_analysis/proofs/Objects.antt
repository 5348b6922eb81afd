-- Objects of what terms by rising name gave.
use Rattle.std.proofs.Common.{◌≡◌, ℕ, List, [], ◌∷◌, ◌++◌, map, Option, Some, None, Result, Ok, Err, refl, ap, sym, subst, ◌∙◌, append_assoc, append-nil}
use Rattle.std.specs.List.Sorted.{IsStrictlySortedBy}
use Rattle.std.specs.Map.{keys_of}
use Rattle.reql_datum.specs.Answer.{Answer, ◌>>=◌}
use Rattle.reql_datum.specs.Members.{text_order, AreRising, put}
use Rattle.reql_datum.specs.Outcome.{Gives}
use Rattle.reql_datum.specs.Plain.{Plain}
use Rattle.reql_datum.specs.declared.fault.Fault.{Fault}
use Rattle.std.proofs.lemmas.Cmp.{nat_list_cmp_total}
use Rattle.reql_datum.proofs.Members.{put_step}
use Rattle.reql_memory.proofs.Joined.{rising_front}
use Rattle.reql_term.specs.Form.{Form}
use Rattle.reql_rules.specs.Lists.{Bytes, each, object_of}
use Rattle.reql_value_spec.specs.Meaning.{member_datum}
use Rattle.reql_value_spec.specs.Meant.{Meant, one, Given, Options}
use Rattle.reql_value_spec.specs.Sense.{Sense, options}
use Rattle.reql_value_spec.specs.World.{World, Vars}
use Rattle.reql_value_spec.specs.Sequenced.{sized}
use Rattle.reql_operand.specs.Seen.{meant, all_chosen}
use Rattle.reql_operand.specs.declared.value.Value.{Value}
use Rattle.reql_operand.specs.declared.value.Choice.{Choice}
use Rattle.reql_term_analysis.specs.Bound.{optional}

-- the members that names would have
abbrev later_members : Plain → List Bytes → List (Bytes × Plain)
later_members v [] = []
later_members v (k ∷ ks) = (k, v) ∷ later_members v ks

later_keys : (v : Plain) (ks : List Bytes) → keys_of (later_members v ks) ≡ ks
later_keys v [] = refl
later_keys v (k ∷ ks) = ap (λ (js : List Bytes). k ∷ js) (later_keys v ks)

all_keys : (done : List (Bytes × Plain)) (k : Bytes) (v : Plain) (later : List Bytes) → keys_of (done ++ (k, v) ∷ later_members v later) ≡ keys_of done ++ k ∷ later
all_keys [] k v later = ap (λ (js : List Bytes). k ∷ js) (later_keys v later)
all_keys (m ∷ ms) k v later = ap (λ (js : List Bytes). m.0 ∷ js) (all_keys ms k v later)

one_more : (done : List (Bytes × Plain)) (k : Bytes) (v : Plain) (rest : List (Bytes × Plain)) → (done ++ (k, v) ∷ []) ++ rest ≡ done ++ (k, v) ∷ rest
one_more done k v rest = append_assoc done ((k, v) ∷ []) rest

pub put_last : (done : List (Bytes × Plain)) (k : Bytes) (v : Plain) (later : List Bytes) → IsStrictlySortedBy text_order (keys_of done ++ k ∷ later) → put k v done ≡ done ++ (k, v) ∷ []
put_last done k v later up =
    let full : AreRising (done ++ (k, v) ∷ later_members v later) = subst (λ (js : List Bytes). IsStrictlySortedBy text_order js) (sym (all_keys done k v later)) up in
    let parted : AreRising ((done ++ (k, v) ∷ []) ++ later_members v later) = subst (λ (ms : List (Bytes × Plain)). AreRising ms) (sym (one_more done k v (later_members v later))) full in
    let short : AreRising (done ++ (k, v) ∷ []) = rising_front text_order nat_list_cmp_total (done ++ (k, v) ∷ []) (later_members v later) parted in
    sym (append-nil (put k v done)) ∙ put_step done [] (done ++ (k, v) ∷ []) k v short refl

abbrev names : List (Bytes × Given) → List Bytes
names gs = keys_of gs

step : (r : Answer Given) (rest : Answer Options) (k : Bytes) (gs : Options) (ks : List Bytes) → ((hs : Options) → rest ≡ Ok hs → names hs ≡ ks) → (r >>= λ g. rest >>= λ hs. Ok ((k, g) ∷ hs)) ≡ Ok gs → names gs ≡ k ∷ ks
step (Ok g) (Ok hs) k gs ks more h = let e : (k, g) ∷ hs ≡ gs = cc in ap names (sym e) ∙ ap (λ (js : List Bytes). k ∷ js) (more hs refl)
step (Ok g) (Err e) k gs ks more h = cc
step (Err e) rest k gs ks more h = cc

option_names : (take : Sense → World → Vars → Answer Given) (ms : List (Bytes × Form)) (w : World) (vars : Vars) (gs : Options) → options take (optional ms) w vars ≡ Ok gs → names gs ≡ keys_of ms
option_names take [] w vars gs h = let e : [] ≡ gs = cc in ap names (sym e)
option_names take (m ∷ ms) w vars gs h = step _ _ m.0 gs (keys_of ms) (λ hs more. option_names take ms w vars hs more) h

choice_names : (w : World) (cs : List Choice) → names (all_chosen w cs) ≡ map (λ o. o.name) cs
choice_names w [] = refl
choice_names w (c ∷ cs) = ap (λ (js : List Bytes). c.name ∷ js) (choice_names w cs)

-- what terms by rising name gave has rising names
pub chosen_rising : (take : Sense → World → Vars → Answer Given) (ms : List (Bytes × Form)) (w : World) (vars : Vars) (cs : List Choice) → AreRising ms → options take (optional ms) w vars ≡ Ok (all_chosen w cs) → IsStrictlySortedBy text_order (map (λ o. o.name) cs)
chosen_rising take ms w vars cs up h =
    subst (λ (js : List Bytes). IsStrictlySortedBy text_order js) (sym (option_names take ms w vars (all_chosen w cs) h) ∙ choice_names w cs) up
