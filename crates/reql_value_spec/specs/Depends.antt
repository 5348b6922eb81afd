-- What a value depends on: the tables that stand in the term by their slots, and the variables that no function in it binds.
use Rattle.std.specs.Prelude.{◌≡◌, ℕ, nat_eq, List, [], ◌∷◌, Bool, true, false}
use Rattle.std.specs.List.{list_any}
use Rattle.reql_datum.specs.Plain.{Plain}
use Rattle.reql_term.specs.Form.{Form, literal, several, keyed, variable, implicit, function, slot, operation, Forms, no_forms, form, NamedForms, no_named, named}
use Rattle.reql_value_spec.specs.Meaning.{value, function_value}
use Rattle.reql_value_spec.specs.World.{World, Vars, view_at}

-- whether a variable is a parameter of one of the functions around, and whether one of these has a single parameter
abbrev pub is_bound : List (List ℕ) → ℕ → Bool
is_bound scope id = list_any (λ ids. list_any (nat_eq id) ids) scope

abbrev pub is_single : List ℕ → Bool
is_single (id ∷ []) = true
is_single ids = false

abbrev pub has_single : List (List ℕ) → Bool
has_single scope = list_any is_single scope

-- each slot in a term is one of these, and each variable is bound by the functions around and in it
module _ (P : ℕ → Type 0) where
  abbrev mutual
    pub Names : List (List ℕ) → Form → Type 0
    Names scope (literal d) = Unit {0}
    Names scope (several fs) = AllName scope fs
    Names scope (keyed ms) = FieldsName scope ms
    Names scope (variable id) = is_bound scope id ≡ true
    Names scope implicit = has_single scope ≡ true
    Names scope (function ids body) = Names (ids ∷ scope) body
    Names scope (slot n) = P n
    Names scope (operation op fs ms) = AllName scope fs × FieldsName scope ms

    pub AllName : List (List ℕ) → Forms → Type 0
    AllName scope no_forms = Unit {0}
    AllName scope (form f fs) = Names scope f × AllName scope fs

    pub FieldsName : List (List ℕ) → NamedForms → Type 0
    FieldsName scope no_named = Unit {0}
    FieldsName scope (named k f ms) = Names scope f × FieldsName scope ms

  -- two worlds that agree on these slots, and on all but tables
  pub record Agree (w v : World) : Type 0 where
    pub limit : w.array_limit ≡ v.array_limit
    pub databases : w.databases ≡ v.databases
    pub views : (n : ℕ) → P n → view_at w n ≡ view_at v n

abbrev pub Among : List ℕ → ℕ → Type 0
Among slots n = list_any (nat_eq n) slots ≡ true

-- over worlds that agree on the slots of a term its value is the same, whatever variables are bound outside
abbrev pub ValuesDependOnNames : Type 0
ValuesDependOnNames = (slots : List ℕ) (f : Form) → Names (Among slots) [] f → (w v : World) → Agree (Among slots) w v → (us vs : Vars) → value f w us ≡ value f v vs

-- the same of a term as a function of values
abbrev pub FunctionsDependOnNames : Type 0
FunctionsDependOnNames = (slots : List ℕ) (f : Form) → Names (Among slots) [] f → (w v : World) → Agree (Among slots) w v → (ds : List Plain) → function_value f w ds ≡ function_value f v ds
