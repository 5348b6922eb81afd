-- How many arguments a term has, and whether a name is among those of an object.
use Rattle.std.proofs.Common.{◌≡◌, ℕ, suc, List, [], ◌∷◌, length, Bool, true, false, not, is_some, is_eq, cond, Option, Some, None, Ordering, Less, Equal, Greater, refl, sym, ap, ◌∙◌}
use Rattle.std.specs.Ordering.{match_ordering, nat_cmp}
use Rattle.std.specs.Cmp.Lexicographic.{slice_cmp}
use Rattle.serde_json.specs.Data as json
use Rattle.serde_json.specs.Find.{get_member}
use Rattle.reql_datum.specs.Members.{find}
use Rattle.reql_json.specs.Reading.{reserved}
use Rattle.reql_term.specs.Form.{Form, forms_of, named_of}
use Rattle.reql_read.specs.Spelling.{spelled, spelled_named, count_of}
use Rattle.reql_print.specs.Printed.{is_free}

pub counted : (fs : List Form) → count_of (forms_of fs) ≡ length fs
counted [] = refl
counted (f ∷ fs) = ap suc (counted fs)

-- ---- what is found among the names of a term is found in its JSON

step : (o : Ordering) (f : Form) (a : Option Form) (d : json.Data) (b : Option json.Data) → is_some a ≡ is_some b → is_some (cond (is_eq o) (Some f) a) ≡ is_some (match_ordering o b (Some d) b)
step Less f a d b h = h
step Equal f a d b h = refl
step Greater f a d b h = h

found_same : (k : List ℕ) (ms : List (List ℕ × Form)) → is_some (find k ms) ≡ is_some (get_member k (spelled_named (named_of ms)))
found_same k [] = refl
found_same k (m ∷ ms) = step (slice_cmp nat_cmp k m.0) m.1 (find k ms) (spelled m.1) (get_member k (spelled_named (named_of ms))) (found_same k ms)

pub free_none : (ms : List (List ℕ × Form)) → ◌≡◌ {A = Option Form} None (find reserved ms) → true ≡ is_free (named_of ms)
free_none ms h = ap not (ap is_some h ∙ found_same reserved ms)

pub free_some : (ms : List (List ℕ × Form)) (f : Form) → Some f ≡ find reserved ms → false ≡ is_free (named_of ms)
free_some ms f h = ap not (ap is_some h ∙ found_same reserved ms)

pub ruleset free = (free_none, free_some)
