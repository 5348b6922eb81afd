-- A rule that says nothing leaves each term as it is.
use Rattle.std.proofs.Common.{◌≡◌, ℕ, List, [], ◌∷◌, Some, None, Ok, Err, refl, ap}
use Rattle.reql_datum.specs.Answer.{Reason}
use Rattle.reql_term.specs.Form.{Form, literal, several, keyed, variable, implicit, function, slot, operation, Forms, no_forms, form, NamedForms, no_named, named, forms_of, named_of}
use Rattle.reql_rewrite.specs.Rewrite.{Saying, rewritten, all_rewritten, named_rewritten}

abbrev list_of : Forms → List Form
list_of no_forms = []
list_of (form f fs) = f ∷ list_of fs

abbrev fields_of : NamedForms → List (List ℕ × Form)
fields_of no_named = []
fields_of (named k f ms) = (k, f) ∷ fields_of ms

list_back : (fs : Forms) → forms_of (list_of fs) ≡ fs
list_back no_forms = refl
list_back (form f fs) = ap (form f) (list_back fs)

fields_back : (ms : NamedForms) → named_of (fields_of ms) ≡ ms
fields_back no_named = refl
fields_back (named k f ms) = ap (named k f) (fields_back ms)

module _ (rule : Saying) (nothing : (f : Form) → rule f ≡ Ok None) where
  mutual
    pub kept : (f : Form) → rewritten rule f ≡ Ok f
    kept (literal d) = rw (nothing (literal d)) refl
    kept (several fs) = rw (nothing (several fs), all_kept fs, list_back fs) refl
    kept (keyed ms) = rw (nothing (keyed ms), named_kept ms, fields_back ms) refl
    kept (variable n) = rw (nothing (variable n)) refl
    kept implicit = rw (nothing implicit) refl
    kept (function ids f) = rw (nothing (function ids f), kept f) refl
    kept (slot n) = rw (nothing (slot n)) refl
    kept (operation op fs ms) = rw (nothing (operation op fs ms), all_kept fs, named_kept ms, list_back fs, fields_back ms) refl

    all_kept : (fs : Forms) → all_rewritten rule fs ≡ Ok (list_of fs)
    all_kept no_forms = refl
    all_kept (form f fs) = rw (kept f, all_kept fs) refl

    named_kept : (ms : NamedForms) → named_rewritten rule ms ≡ Ok (fields_of ms)
    named_kept no_named = refl
    named_kept (named k f ms) = rw (kept f, named_kept ms) refl

-- what a rule says of a term, and its fault, whatever the term
pub stops : (rule : Saying) (f g : Form) → rule f ≡ Ok (Some g) → rewritten rule f ≡ Ok g
stops rule (literal d) g is = rw is refl
stops rule (several fs) g is = rw is refl
stops rule (keyed ms) g is = rw is refl
stops rule (variable n) g is = rw is refl
stops rule implicit g is = rw is refl
stops rule (function ids f) g is = rw is refl
stops rule (slot n) g is = rw is refl
stops rule (operation op fs ms) g is = rw is refl

pub fails : (rule : Saying) (f : Form) (e : Reason) → rule f ≡ Err e → rewritten rule f ≡ Err e
fails rule (literal d) e is = rw is refl
fails rule (several fs) e is = rw is refl
fails rule (keyed ms) e is = rw is refl
fails rule (variable n) e is = rw is refl
fails rule implicit e is = rw is refl
fails rule (function ids f) e is = rw is refl
fails rule (slot n) e is = rw is refl
fails rule (operation op fs ms) e is = rw is refl
