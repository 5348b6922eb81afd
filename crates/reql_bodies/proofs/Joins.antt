-- The texts of answers with results, from those of their parts.
use Rattle.std.proofs.Common.{◌≡◌, ℕ, List, [], ◌∷◌, ◌++◌, map, Bool, true, false, cond, Option, codes, decimal, refl, sym, ap, ◌∙◌, append_assoc}
use Rattle.json.specs.Print.{escape_byte}
use Rattle.serde_json.specs.Data.{Data}
use Rattle.serde_json.specs.View.{items_of}
use Rattle.serde_json.specs.Written.{comma_if, compact_text, items_text, members_text}
use Rattle.reql_json.specs.Showing.{members_of, shown}
use Rattle.reql_answer.specs.Body as answers
use Rattle.reql_answer.specs.Body.{Answer, Stamped, array_of, numbers, whole}
use Rattle.reql_datum.specs.View.{plain}
use Rattle.reql_answer.specs.Ending.{ending, end_text}
use Rattle.reql_answer.proofs.Ended.{ending_spelled}
use Rattle.reql_session_api.specs.Meant.{shown_of}
use Rattle.reql_session_api.specs.declared.answered.Shown.{Shown}
use Rattle.reql_session_spec.specs.Requests as story
use Rattle.reql_session_spec.specs.Bodies.{is_united, body, told}
use Rattle.reql_bodies.specs.Parts.{start_text, numbers_text, places_of, stamps_of, items_shown, front_text}

-- ---- numbers

one_more : (c n ns e : List ℕ) → c ++ (n ++ (ns ++ e)) ≡ ((c ++ n) ++ ns) ++ e
one_more c n ns e = simp append_assoc

numbers_spelled : (later : Bool) (ns : List ℕ) → items_text later (items_of (map whole ns)) ≡ numbers_text later ns ++ 93 ∷ []
numbers_spelled later [] = refl
numbers_spelled later (n ∷ ns) = ap (λ t. comma_if later ++ (decimal n ++ t)) (numbers_spelled true ns) ∙ one_more (comma_if later) (decimal n) (numbers_text true ns) (93 ∷ [])

-- ---- the members before the results

abbrev arms_told : List ℕ → List ℕ → Answer
arms_told notes places = cond (is_united notes) ((codes "a", numbers places) ∷ []) []

-- the members before the items
abbrev front : List ℕ → List Shown → Answer
front notes xs = (arms_told notes (places_of xs) ++ (codes "f", numbers (stamps_of xs)) ∷ []) ++ (codes "n", numbers notes) ∷ []

abbrev told_by : Bool → List ℕ → List ℕ → List ℕ → Answer
told_by united places stamps notes = (cond united ((codes "a", numbers places) ∷ []) [] ++ (codes "f", numbers stamps) ∷ []) ++ (codes "n", numbers notes) ∷ []

abbrev text_by : Bool → List ℕ → List ℕ → List ℕ → List ℕ
text_by united places stamps notes =
    codes "{" ++ cond united (codes "\"a\":[" ++ numbers_text false places ++ codes "],") [] ++ codes "\"f\":[" ++ numbers_text false stamps ++ codes "],\"n\":[" ++ numbers_text false notes
    ++ codes "],\"r\":"

without_arms : (f s k n m r d e : List ℕ) → (((((f ++ s) ++ (k ++ n)) ++ m) ++ (k ++ r)) ++ d) ++ e ≡ f ++ ((s ++ k) ++ (n ++ ((m ++ k) ++ (r ++ (d ++ e)))))
without_arms f s k n m r d e = simp append_assoc

with_arms : (a p k c f s n m r d e : List ℕ) → (((((((a ++ (p ++ (k ++ c))) ++ f) ++ s) ++ (k ++ n)) ++ m) ++ (k ++ r)) ++ d) ++ e ≡ a ++ ((p ++ k) ++ ((c ++ f) ++ ((s ++ k) ++ (n ++ ((m ++ k) ++ (r ++ (d ++ e)))))))
with_arms a p k c f s n m r d e = simp append_assoc

batch_text : (united : Bool) (places stamps notes : List ℕ) (kind : ℕ) (stamp : Option Stamped) (d : Data)
    → (text_by united places stamps notes ++ compact_text d) ++ end_text kind stamp ≡ answers.body (told_by united places stamps notes ++ (codes "r", d) ∷ ending kind stamp)
unfolding escape_byte
batch_text false places stamps notes kind stamp d =
    rw (numbers_spelled false stamps, numbers_spelled false notes, ending_spelled kind stamp)
    (without_arms (codes "{\"f\":[") (numbers_text false stamps) (codes "]") (codes ",\"n\":[") (numbers_text false notes) (codes ",\"r\":") (compact_text d) (end_text kind stamp))
batch_text true places stamps notes kind stamp d =
    rw (numbers_spelled false places, numbers_spelled false stamps, numbers_spelled false notes, ending_spelled kind stamp)
    (with_arms (codes "{\"a\":[") (numbers_text false places) (codes "]") (codes ",") (codes "\"f\":[") (numbers_text false stamps) (codes ",\"n\":[") (numbers_text false notes) (codes ",\"r\":") (compact_text d)
    (end_text kind stamp))

-- ---- the whole

pub stream_text : (kind : ℕ) (stamp : Option Stamped) (d : Data) → (start_text ++ compact_text d) ++ end_text kind stamp ≡ answers.body ((codes "n", array_of []) ∷ (codes "r", d) ∷ ending kind stamp)
unfolding escape_byte
stream_text kind stamp d = ap (λ t. (start_text ++ compact_text d) ++ t) (sym (ending_spelled kind stamp)) ∙ append_assoc start_text (compact_text d) (members_text true (members_of (ending kind stamp)))

-- what a batch tells, whatever the arms are
module _ (arms : List story.Arm) where
  same_places : (xs : List Shown) → map (λ x. x.at) (map (shown_of arms) xs) ≡ places_of xs
  same_places [] = refl
  same_places (x ∷ xs) = ap (λ ns. x.at ∷ ns) (same_places xs)

  same_stamps : (xs : List Shown) → map (λ x. x.stamp) (map (shown_of arms) xs) ≡ stamps_of xs
  same_stamps [] = refl
  same_stamps (x ∷ xs) = ap (λ ns. x.stamp ∷ ns) (same_stamps xs)

  same_items : (xs : List Shown) → map (λ x. shown x.item) (map (shown_of arms) xs) ≡ items_shown xs
  same_items [] = refl
  same_items (x ∷ xs) = ap (λ ds. shown (plain x.item) ∷ ds) (same_items xs)

  told_batch : (notes : List ℕ) (xs : List Shown) (s : Option Stamped) → front notes xs ++ (codes "r", array_of (items_shown xs)) ∷ ending 3 s ≡ told (story.Batch notes (map (shown_of arms) xs) s)
  told_batch notes xs s =
      rw (same_places xs, same_stamps xs, same_items xs)
      (append_assoc (arms_told notes (places_of xs) ++ (codes "f", numbers (stamps_of xs)) ∷ []) ((codes "n", numbers notes) ∷ []) ((codes "r", array_of (items_shown xs)) ∷ ending 3 s)
      ∙ append_assoc (arms_told notes (places_of xs)) ((codes "f", numbers (stamps_of xs)) ∷ []) ((codes "n", numbers notes) ∷ (codes "r", array_of (items_shown xs)) ∷ ending 3 s))

  pub batch_body : (notes : List ℕ) (xs : List Shown) (s : Option Stamped)
      → (front_text notes xs ++ compact_text (array_of (items_shown xs))) ++ end_text 3 s ≡ body (story.Batch notes (map (shown_of arms) xs) s)
  unfolding body
  batch_body notes xs s =
      batch_text (is_united notes) (places_of xs) (stamps_of xs) notes 3 s (array_of (items_shown xs)) ∙ ap answers.body (told_batch notes xs s)
