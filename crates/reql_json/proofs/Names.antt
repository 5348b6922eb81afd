-- The names of members, one after another.
use Rattle.std.proofs.Common.{◌≡◌, ℕ, ◌+◌, ◌<◌, List, [], map, length, drop, get_or, Bool, true, false, ◌&&◌, not, nat_eq, Bor, refl, sym, ap, ◌∙◌}
use Rattle.std.specs.Cmp.Lexicographic.{pointwise, texts_ties}
use Rattle.std.specs.Ordering.{is_eq}
use Rattle.std.proofs.lemmas.List.{drop_more}
use Rattle.serde_json.specs.Data.{Data, Members, no_members, member}
use Rattle.reql_datum.specs.Members.{text_order}
use Rattle.reql_json.specs.Literal.{has_names}

abbrev pub bytes_of : List (Bor (List ℕ)) → List (List ℕ)
bytes_of ns = map (λ n. n.now) ns

next : (ns : List (Bor (List ℕ))) (i : ℕ) (x : Bor (List ℕ)) (k : List ℕ) (d : Data) (ms : Members) → i < length ns
    → has_names (bytes_of (drop i ns)) (member k d ms) ≡ (is_eq (text_order (get_or ns i x).now k) && has_names (bytes_of (drop (i + 1) ns)) ms)
next ns i x k d ms h = rw (drop_more ns i x h) refl

same : (differs : Bool) (a b : List ℕ) → differs ≡ not (pointwise nat_eq a b) → differs ≡ not (is_eq (text_order a b))
same differs a b h = h ∙ ap not (texts_ties a b)

when_same : (differs b rest : Bool) → differs ≡ not b → differs ≡ false → (b && rest) ≡ rest
when_same differs true rest h k = refl
when_same differs false rest h k = cc

when_other : (differs b rest : Bool) → differs ≡ not b → differs ≡ true → (b && rest) ≡ false
when_other differs true rest h k = cc
when_other differs false rest h k = refl

pub names_step : (ns : List (Bor (List ℕ))) (i : ℕ) (x : Bor (List ℕ)) (k : List ℕ) (d : Data) (ms : Members) (all differs : Bool) → i < length ns → all ≡ has_names (bytes_of (drop i ns)) (member k d ms)
    → differs ≡ not (pointwise nat_eq (get_or ns i x).now k) → differs ≡ false → all ≡ has_names (bytes_of (drop (i + 1) ns)) ms
names_step ns i x k d ms all differs h known test is = known ∙ next ns i x k d ms h ∙ when_same differs (is_eq (text_order (get_or ns i x).now k)) _ (same differs (get_or ns i x).now k test) is

pub names_differ : (ns : List (Bor (List ℕ))) (i : ℕ) (x : Bor (List ℕ)) (k : List ℕ) (d : Data) (ms : Members) (all differs : Bool) → i < length ns → all ≡ has_names (bytes_of (drop i ns)) (member k d ms)
    → differs ≡ not (pointwise nat_eq (get_or ns i x).now k) → differs ≡ true → false ≡ all
names_differ ns i x k d ms all differs h known test is = sym (known ∙ next ns i x k d ms h ∙ when_other differs (is_eq (text_order (get_or ns i x).now k)) _ (same differs (get_or ns i x).now k test) is)

nothing : Bor (List ℕ)
nothing = record { ref_ptr = (0, 0); now = [] }

pub names_lack : (ns : List (Bor (List ℕ))) (i : ℕ) (all : Bool) → i < length ns → all ≡ has_names (bytes_of (drop i ns)) no_members → false ≡ all
names_lack ns i all h known = sym (known ∙ ap (λ l. has_names (bytes_of l) no_members) (drop_more ns i nothing h))
