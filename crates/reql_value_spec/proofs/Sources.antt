-- What a table, a part of it or the documents of some keys give is what each document gives by itself, in some order.
use Rattle.std.proofs.Common.{◌≡◌, ◌+◌, refl, arith, Bool, true, false, cond, List, [], ◌∷◌, ◌++◌, map, if◌then◌else◌, Option, Some, None, Ok, Err, ◌⊎◌, inl, inr}
use Rattle.std.specs.Prelude.{option_map}
use Rattle.std.specs.List.{filter, flat_map}
use Rattle.std.specs.Ordering.{is_lt, is_eq}
use Rattle.reql_datum.specs.Answer.{Answer, Reason}
use Rattle.reql_datum.specs.Members.{find}
use Rattle.reql_datum.specs.Order.{order}
use Rattle.reql_datum.specs.Plain.{Plain}
use Rattle.reql_term.specs.Views.{Document, Entry, Index, entry_order, primary, entries_of, documents_in, all_of}
use Rattle.reql_rules.specs.Faults.{no_index}
use Rattle.reql_rules.specs.Lists.{Bytes}
use Rattle.reql_rules.specs.Sorting.{into_place, sorted}
use Rattle.reql_rules.specs.Types.{same_text}
use Rattle.reql_value_spec.specs.Index.{document_entries, index_list, index_lists, list_of, or_none}
use Rattle.reql_value_spec.specs.Shapes.{with_documents}
use Rattle.reql_value_spec.specs.World.{View, there, entries_named}
use Rattle.reql_bag.specs.Bag.{times}
use Rattle.reql_bag.proofs.Bags.{times_append}
use Rattle.reql_value_spec.proofs.Scattered.{IsScattered}

-- what goes entry by entry, by counts
abbrev pub IsAdditive : (List Entry → List Plain) → Type 0
IsAdditive f = (es fs : List Entry) (v : Plain) → times v (f (es ++ fs)) ≡ times v (f es) + times v (f fs)

part_step : (b : Bool) (v d : Plain) (xs ys zs : List Entry) (e : Entry) → times v (documents_in zs) ≡ times v (documents_in xs) + times v (documents_in ys)
    → times v (documents_in (cond b (e ∷ zs) zs)) ≡ times v (documents_in (cond b (e ∷ xs) xs)) + times v (documents_in ys)
part_step true v d xs ys zs e h = omega (arith, h)
part_step false v d xs ys zs e h = h

pub part_adds : (p : Entry → Bool) → IsAdditive (λ es. documents_in (filter p es))
part_adds p [] fs v = omega arith
part_adds p (e ∷ es) fs v = part_step (p e) v e.0 (filter p es) (filter p fs) (filter p (es ++ fs)) e (part_adds p es fs v)

pub keys_add : (ks : List Plain) → IsAdditive (all_of ks)
keys_add [] es fs v = omega arith
keys_add (k ∷ ks) es fs v =
    let p : Entry → Bool = λ e. is_eq (order k e.0) in
    omega (
      arith,
      keys_add ks es fs v,
      part_adds p es fs v,
      times_append v (documents_in (filter p (es ++ fs))) (all_of ks (es ++ fs)),
      times_append v (documents_in (filter p es)) (all_of ks es),
      times_append v (documents_in (filter p fs)) (all_of ks fs),
    )

module _ (f : List Entry → List Plain) (adds : IsAdditive f) where
  into_step : (b : Bool) (v : Plain) (e x : Entry) (xs rest : List Entry) → times v (f rest) ≡ times v (f (e ∷ xs)) → times v (f (if b then x ∷ rest else e ∷ x ∷ xs)) ≡ times v (f (e ∷ x ∷ xs))
  into_step true v e x xs rest h = omega (arith, h, adds (x ∷ []) rest v, adds (e ∷ []) xs v, adds (e ∷ []) (x ∷ xs) v, adds (x ∷ []) xs v)
  into_step false v e x xs rest h = refl

  times_into : (v : Plain) (e : Entry) (es : List Entry) → times v (f (into_place entry_order e es)) ≡ times v (f (e ∷ es))
  times_into v e [] = refl
  times_into v e (x ∷ xs) = into_step (is_lt (entry_order x e)) v e x xs (into_place entry_order e xs) (times_into v e xs)

  times_sorted : (v : Plain) (es : List Entry) → times v (f (sorted entry_order es)) ≡ times v (f es)
  times_sorted v [] = refl
  times_sorted v (e ∷ es) = omega (arith, times_into v e (sorted entry_order es), times_sorted v es, adds (e ∷ []) (sorted entry_order es) v, adds (e ∷ []) es v)

  nothing : (v : Plain) → times v (f []) ≡ 0
  nothing v = omega (arith, adds [] [] v)

  pub primary_scattered : IsScattered (λ docs. f (primary docs))
  primary_scattered [] v = nothing v
  primary_scattered (d ∷ ds) v = omega (arith, primary_scattered ds v, adds ((d.0, d) ∷ []) (primary ds) v, times_append v (f (primary (d ∷ []))) (flat_map (λ m. f (primary (m ∷ []))) ds))

  pub index_scattered : (i : Index) → IsScattered (λ docs. f (index_list docs i))
  index_scattered i [] v = nothing v
  index_scattered i (d ∷ ds) v =
      let mine : List Entry = document_entries i d in
      let rest : List Entry = flat_map (document_entries i) ds in
      omega (
        arith,
        index_scattered i ds v,
        nothing v,
        times_sorted v (mine ++ rest),
        times_sorted v (mine ++ []),
        times_sorted v rest,
        adds mine rest v,
        adds mine [] v,
        times_append v (f (index_list (d ∷ []) i)) (flat_map (λ m. f (index_list (m ∷ []) i)) ds),
      )

pub documents_scattered : IsScattered (λ docs. map (λ m. m.1) docs)
documents_scattered [] v = refl
documents_scattered (d ∷ ds) v = omega (arith, documents_scattered ds v)

pub nothing_scattered : IsScattered (λ docs. [])
nothing_scattered [] v = refl
nothing_scattered (d ∷ ds) v = nothing_scattered ds v

-- the entries of a name: none for any documents, or a list
pub record Refused (a : List Document → Answer (List Entry)) : Type 0 where
  pub why : Reason
  pub is : (docs : List Document) → a docs ≡ Err why

pub record Listed (a : List Document → Answer (List Entry)) : Type 0 where
  pub list : List Document → List Entry
  pub is : (docs : List Document) → a docs ≡ Ok (list docs)
  pub scattered : (f : List Entry → List Plain) → IsAdditive f → IsScattered (λ docs. f (list docs))

named_course : (name : Bytes) (i : Option Index) → Refused (λ docs. there name (option_map (λ x. or_none (list_of docs i)) i)) ⊎ Listed (λ docs. there name (option_map (λ x. or_none (list_of docs i)) i))
named_course name None = inl record { why = no_index name; is = λ docs. refl }
named_course name (Some i) = inr record { list = λ docs. index_list docs i; is = λ docs. refl; scattered = λ f adds. index_scattered f adds i }

course_at : (t : View) (name : Bytes) (b : Bool) → Refused (λ docs. there name (entries_of docs t.indexes (index_lists docs t.indexes) (if b then None else Some name)))
    ⊎ Listed (λ docs. there name (entries_of docs t.indexes (index_lists docs t.indexes) (if b then None else Some name)))
course_at t name true = inr record { list = primary; is = λ docs. refl; scattered = primary_scattered }
course_at t name false = named_course name (find name t.indexes)

pub entries_course : (t : View) (name : Bytes) → Refused (λ docs. entries_named (with_documents t docs) name) ⊎ Listed (λ docs. entries_named (with_documents t docs) name)
entries_course t name = course_at t name (same_text name t.key)
