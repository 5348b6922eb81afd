-- JSON that has a text of its own is read from it.
use Rattle.std.proofs.Common.{◌≡◌, ℕ, suc, ◌≤◌, pos, negsuc, List, [], ◌∷◌, Bool, true, false, Some, option_map, option_and_then, Less, Greater, refl, sym, ap, subst, ◌∙◌, arith}
use Rattle.std.specs.Str.{IsUtf8}
use Rattle.std.proofs.lemmas.List.{append-nil}
use Rattle.std.proofs.lemmas.Str.{IsUtf8-append, IsUtf8-nil, IsUtf8-from_ascii}
use Rattle.std.proofs.lemmas.Fmt.{IsAscii-decimal, IsAscii-signed}
use Rattle.std.specs.Fmt.{decimal, signed_decimal}
use Rattle.std.specs.List.{AllByRecursion}
use Rattle.std.specs.List.Sorted.{IsStrictlySortedBy}
use Rattle.std.specs.Map.{keys_of}
use Rattle.std.proofs.lemmas.Cmp.{nat_list_cmp_total}
use Rattle.std.specs.Ordering.{nat_cmp, ordering_reverse}
use Rattle.std.specs.Cmp.Lexicographic.{slice_cmp}
use Rattle.json.specs.Lex.{tokens}
use Rattle.json.specs.Json.{value, if_last}
use Rattle.json.specs.Tree as tree
use Rattle.json.specs.Print.{quoted}
use Rattle.json.proofs.Printed.Decimals.{IsNumber-decimal, IsNumber-signed_decimal}
use Rattle.json.proofs.Printed.Tokens.{tokens-print}
use Rattle.json.proofs.Printed.Trees.{value-json_tokens, ArePrintable-json_tokens}
use Rattle.json.proofs.Printed.Utf8.{are_ascii, IsUtf8-are_ascii, IsUtf8-quoted, IsUtf8-boolean}
use Rattle.serde_json.specs.Data.{unsigned, negative, float, Data, null, boolean, number, string, array, object, Items, no_items, item, Members, no_members, member, put, depth, items_depth, members_depth}
use Rattle.serde_json.specs.Read.{read, max_depth, of_json, of_items, of_members}
use Rattle.serde_json.specs.Written.{outline, items_outline, members_outline, compact_text, items_text, members_text, comma_if}
use Rattle.serde_json.proofs.Numbers.{number_of-decimal, number_of-negative}
use Rattle.serde_json.proofs.Texts.{print-outline}
use Rattle.reql_datum.specs.Members.{AreRising}
use Rattle.reql_read.specs.Spelling.{HasText, HaveText, MembersHaveText, members_list}

-- ---- the numbers and the depth of what is printed

mutual
  numbers : (d : Data) → HasText d → tree.HasNumbers (outline d)
  numbers null h = tt
  numbers (boolean b) h = tt
  numbers (number (unsigned n)) h = IsNumber-decimal n h
  numbers (number (negative (pos n))) h = absurd h
  numbers (number (negative (negsuc n))) h = IsNumber-signed_decimal (negsuc n) (omega (arith, h))
  numbers (number (float x)) h = absurd h
  numbers (string s) h = tt
  numbers (array ds) h = numbers_all ds h
  numbers (object ms) h = numbers_named ms h.1

  numbers_all : (ds : Items) → HaveText ds → tree.ItemsHaveNumbers (items_outline ds)
  numbers_all no_items h = tt
  numbers_all (item d ds) h = (numbers d h.0, numbers_all ds h.1)

  numbers_named : (ms : Members) → MembersHaveText ms → tree.MembersHaveNumbers (members_outline ms)
  numbers_named no_members h = tt
  numbers_named (member k d ms) h = (numbers d h.1, numbers_named ms h.2)

mutual
  depth_same : (d : Data) → tree.depth (outline d) ≡ depth d
  depth_same null = refl
  depth_same (boolean b) = refl
  depth_same (number n) = refl
  depth_same (string s) = refl
  depth_same (array ds) = ap suc (depth_all ds)
  depth_same (object ms) = ap suc (depth_named ms)

  depth_all : (ds : Items) → tree.items_depth (items_outline ds) ≡ items_depth ds
  depth_all no_items = refl
  depth_all (item d ds) = rw (depth_same d, depth_all ds) refl

  depth_named : (ms : Members) → tree.members_depth (members_outline ms) ≡ members_depth ms
  depth_named no_members = refl
  depth_named (member k d ms) = rw (depth_same d, depth_named ms) refl

-- ---- names go in one after another

abbrev join : Members → Members → Members
join no_members more = more
join (member k d ms) more = member k d (join ms more)

join_none : (ms : Members) → join ms no_members ≡ ms
join_none no_members = refl
join_none (member k d ms) = ap (member k d) (join_none ms)

join_next : (found : Members) (k : List ℕ) (d : Data) (ms : Members) → join (join found (member k d no_members)) ms ≡ join found (member k d ms)
join_next no_members k d ms = refl
join_next (member l e fs) k d ms = ap (member l e) (join_next fs k d ms)

among : (P : List ℕ → Type 0) (found : Members) (k : List ℕ) (d : Data) (ms : Members) → AllByRecursion P (keys_of (members_list (join found (member k d ms)))) → P k
among P no_members k d ms all = all.0
among P (member l e fs) k d ms all = among P fs k d ms all.1

put_above : (found : Members) (k : List ℕ) (d : Data) (ms : Members) → AreRising (members_list (join found (member k d ms))) → put k d found ≡ join found (member k d no_members)
unfolding IsStrictlySortedBy
put_above no_members k d ms up = refl
put_above (member l e fs) k d ms up =
    let above : slice_cmp nat_cmp k l ≡ Greater = nat_list_cmp_total.antisymm k l ∙ ap ordering_reverse (among (λ y. slice_cmp nat_cmp l y ≡ Less) fs k d ms up.0) in
    rw above (ap (member l e) (put_above fs k d ms up.1))

-- ---- what is read

mutual
  back : (d : Data) → HasText d → of_json (outline d) ≡ Some d
  back null h = refl
  back (boolean b) h = refl
  back (number (unsigned n)) h = ap (option_map number) (number_of-decimal n h)
  back (number (negative (pos n))) h = absurd h
  back (number (negative (negsuc n))) h = ap (option_map number) (number_of-negative n (omega (arith, h)))
  back (number (float x)) h = absurd h
  back (string s) h = refl
  back (array ds) h = ap (option_map array) (back_all ds h)
  back (object ms) h = ap (option_map object) (back_named no_members ms h.1 h.0)

  back_all : (ds : Items) → HaveText ds → of_items (items_outline ds) ≡ Some ds
  back_all no_items h = refl
  back_all (item d ds) h = rw (back d h.0, back_all ds h.1) refl

  back_named : (found ms : Members) → MembersHaveText ms → AreRising (members_list (join found ms)) → of_members (members_outline ms) found ≡ Some (join found ms)
  back_named found no_members h up = ap Some (sym (join_none found))
  back_named found (member k d ms) h up =
      ap (option_and_then (λ e. of_members (members_outline ms) (put k e found))) (back d h.1)
      ∙ ap (of_members (members_outline ms)) (put_above found k d ms up)
      ∙ back_named (join found (member k d no_members)) ms h.2 (subst (λ fs. AreRising (members_list fs)) (sym (join_next found k d ms)) up)
      ∙ ap Some (join_next found k d ms)

pub text_back : (d : Data) → HasText d → depth d ≤ max_depth → read (compact_text d) ≡ Some d
text_back d h shallow =
    let same = depth_same d in
    let printed = ap tokens (sym (print-outline d)) ∙ tokens-print (tree.json_tokens (outline d)) (ArePrintable-json_tokens (outline d) (numbers d h)) ∙ sym (append-nil (tree.json_tokens (outline d))) in
    ap (option_and_then of_json) (ap (option_and_then (λ p. if_last p.0 p.1)) (ap (value max_depth) printed ∙ value-json_tokens (outline d) max_depth [] (omega (arith, same)))) ∙ back d h

-- ---- the text is UTF-8

after_byte : (x : ℕ) (s : List ℕ) → are_ascii (x ∷ []) ≡ true → IsUtf8 s → IsUtf8 (x ∷ s)
after_byte x s small h = IsUtf8-append (x ∷ []) s (IsUtf8-are_ascii (x ∷ []) small) h

comma : (later : Bool) → IsUtf8 (comma_if later)
comma true = IsUtf8-are_ascii (44 ∷ []) refl
comma false = IsUtf8-nil

mutual
  pub text_utf8 : (d : Data) → HasText d → IsUtf8 (compact_text d)
  text_utf8 null h = IsUtf8-are_ascii _ refl
  text_utf8 (boolean b) h = IsUtf8-boolean b
  text_utf8 (number (unsigned n)) h = IsUtf8-from_ascii (decimal n) (IsAscii-decimal n h)
  text_utf8 (number (negative (pos n))) h = absurd h
  text_utf8 (number (negative (negsuc n))) h = IsUtf8-from_ascii (signed_decimal (negsuc n)) (IsAscii-signed (negsuc n) (omega (arith, h)))
  text_utf8 (number (float x)) h = absurd h
  text_utf8 (string s) h = IsUtf8-quoted s h
  text_utf8 (array ds) h = after_byte 91 _ refl (items_utf8 false ds h)
  text_utf8 (object ms) h = after_byte 123 _ refl (members_utf8 false ms h.1)

  items_utf8 : (later : Bool) (ds : Items) → HaveText ds → IsUtf8 (items_text later ds)
  items_utf8 later no_items h = IsUtf8-are_ascii (93 ∷ []) refl
  items_utf8 later (item d ds) h = IsUtf8-append (comma_if later) _ (comma later) (IsUtf8-append (compact_text d) _ (text_utf8 d h.0) (items_utf8 true ds h.1))

  members_utf8 : (later : Bool) (ms : Members) → MembersHaveText ms → IsUtf8 (members_text later ms)
  members_utf8 later no_members h = IsUtf8-are_ascii (125 ∷ []) refl
  members_utf8 later (member k d ms) h =
      IsUtf8-append (comma_if later) _ (comma later) (IsUtf8-append (quoted k) _ (IsUtf8-quoted k h.0) (after_byte 58 _ refl (IsUtf8-append (compact_text d) _ (text_utf8 d h.1) (members_utf8 true ms h.2))))
