-- A document with the key that it takes.
use Rattle.std.proofs.Common.{◌≡◌, refl, ap, sym, ◌∙◌, Bool, true, false, if◌then◌else◌, List, [], ◌∷◌, Some, None}
use Rattle.reql_datum.specs.Members.{find, put}
use Rattle.reql_datum.specs.Plain.{Plain, low, array, boolean, null, number, object, binary, time, text, high, Pairs, members, pairs_of}
use Rattle.reql_datum.specs.Kinds.{is_literal}
use Rattle.reql_datum.proofs.Back.{pairs_back}
use Rattle.reql_rules.specs.Lists.{Bytes, object_of}
use Rattle.reql_rules.specs.Types.{object_in}
use Rattle.reql_write_spec.specs.Treating.{keyed_in, keyed_by}
use Rattle.reql_memory.proofs.Sorted.{some_inside}

object_by : (b : Bool) (ps : Pairs) (ms : List (Bytes × Plain)) → (if b then None else Some (members ps)) ≡ Some ms → object_of ms ≡ object ps
object_by true ps ms h = absurd (cc (h))
object_by false ps ms h = ap object (ap pairs_of (sym (some_inside (members ps) ms h)) ∙ pairs_back ps)

object_back : (d : Plain) (ms : List (Bytes × Plain)) → object_in d ≡ Some ms → object_of ms ≡ d
object_back (object ps) ms h = object_by (is_literal ps) ps ms h
object_back low ms h = absurd (cc (h))
object_back (array vs) ms h = absurd (cc (h))
object_back (boolean b) ms h = absurd (cc (h))
object_back null ms h = absurd (cc (h))
object_back (number n) ms h = absurd (cc (h))
object_back (binary s) ms h = absurd (cc (h))
object_back (time t) ms h = absurd (cc (h))
object_back (text s) ms h = absurd (cc (h))
object_back high ms h = absurd (cc (h))

-- what is no object, or has the field
pub no_object : (field : Bytes) (doc : Plain) (made : List Plain) → object_in doc ≡ None → keyed_in field doc (object_in doc) made ≡ (doc, made)
no_object field doc made h = rw h refl

pub has_field : (field : Bytes) (doc key : Plain) (ms : List (Bytes × Plain)) (made : List Plain) → object_in doc ≡ Some ms → find field ms ≡ Some key → keyed_in field doc (object_in doc) made ≡ (doc, made)
has_field field doc key ms made is there = ap (λ o. keyed_in field doc o made) is ∙ ap (λ k. keyed_by field k ms made) there ∙ ap (λ d. (d, made)) (object_back doc ms is)

pub lacks_field : (doc : Plain) (ms : List (Bytes × Plain)) → object_in doc ≡ Some ms → object_of ms ≡ doc
lacks_field doc ms is = object_back doc ms is

-- of one that lacks it
module _ (field : Bytes) (doc : Plain) (ms : List (Bytes × Plain)) (is : object_in doc ≡ Some ms) (gone : find field ms ≡ None) where
  pub no_key : (made : List Plain) → made ≡ [] → object_of ms ≡ doc → (doc, made) ≡ keyed_in field doc (object_in doc) made
  no_key made h same = rw (h, is, gone, same) refl

  pub takes_key : (key : Plain) (made more : List Plain) → made ≡ key ∷ more → (object_of (put field key ms), more) ≡ keyed_in field doc (object_in doc) made
  takes_key key made more h = rw (h, is, gone) refl
