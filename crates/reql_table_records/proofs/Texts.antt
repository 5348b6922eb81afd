-- The texts of records, from the bytes that are appended for them.
use Rattle.std.proofs.Common.{◌≡◌, ℕ, List, [], ◌∷◌, ◌++◌, codes, Bool, false, refl, sym, ap, ◌∙◌, append_assoc}
use Rattle.json.specs.Print.{escape_byte, quoted}
use Rattle.serde_json.specs.Data.{Items, string}
use Rattle.serde_json.specs.Written.{compact_text, items_text}
use Rattle.reql_rules.specs.Lists.{Bytes}
use Rattle.reql_table_records.specs.Records.{Change, Recorded, wrote, created, dropped, renamed, shut, flag, changes_items, text_of}

three : (t a s e : List ℕ) → ((t ++ a) ++ s) ++ e ≡ t ++ (a ++ (s ++ e))
three t a s e = simp append_assoc

five : (t a n b m e : List ℕ) → ((((t ++ a) ++ n) ++ b) ++ m) ++ e ≡ t ++ (a ++ (n ++ (b ++ (m ++ e))))
five t a n b m e = simp append_assoc

seven : (t a n b m c s e : List ℕ) → ((((((t ++ a) ++ n) ++ b) ++ m) ++ c) ++ s) ++ e ≡ t ++ (a ++ (n ++ (b ++ (m ++ (c ++ (s ++ e))))))
seven t a n b m c s e = simp append_assoc

pub wrote_text : (old a b new : List ℕ) (cs : List Change) → a ≡ old ++ codes "[\"w\",[" → b ≡ a ++ items_text false (changes_items cs) → new ≡ b ++ 93 ∷ [] → new ≡ old ++ text_of (wrote cs)
unfolding escape_byte
wrote_text old a b new cs e f g =
    g ∙ (ap (λ l. l ++ 93 ∷ []) (f ∙ ap (λ l. l ++ items_text false (changes_items cs)) e) ∙ three old (codes "[\"w\",[") (items_text false (changes_items cs)) (93 ∷ []))

pub dropped_text : (old a b new : List ℕ) (name : Bytes) → a ≡ old ++ codes "[\"d\"," → b ≡ a ++ quoted name → new ≡ b ++ 93 ∷ [] → new ≡ old ++ text_of (dropped name)
unfolding escape_byte
dropped_text old a b new name e f g =
    g ∙ (ap (λ l. l ++ 93 ∷ []) (f ∙ ap (λ l. l ++ quoted name) e) ∙ three old (codes "[\"d\",") (quoted name) (93 ∷ []))

pub renamed_text : (old a b c d new : List ℕ) (from to : Bytes) → a ≡ old ++ codes "[\"r\"," → b ≡ a ++ quoted from → c ≡ b ++ 44 ∷ [] → d ≡ c ++ quoted to → new ≡ d ++ 93 ∷ [] → new ≡ old ++ text_of (renamed from to)
unfolding escape_byte
renamed_text old a b c d new from to e f g h i =
    i ∙ (ap (λ l. l ++ 93 ∷ []) (h ∙ ap (λ l. l ++ quoted to) (g ∙ ap (λ l. l ++ 44 ∷ []) (f ∙ ap (λ l. l ++ quoted from) e)))
    ∙ five old (codes "[\"r\",") (quoted from) (44 ∷ []) (quoted to) (93 ∷ []))

pub created_text : (old a b c d e f new : List ℕ) (name : Bytes) (multi : Bool) (text : Bytes) → a ≡ old ++ codes "[\"c\"," → b ≡ a ++ quoted name → c ≡ b ++ 44 ∷ [] → d ≡ c ++ compact_text (flag multi) → e ≡ d ++ 44 ∷ [] → f ≡ e ++ quoted text → new ≡ f ++ 93 ∷ []
    → new ≡ old ++ text_of (created name multi text)
unfolding escape_byte
created_text old a b c d e f new name multi text p q r s t u v =
    v ∙ (ap (λ l. l ++ 93 ∷ []) (u ∙ ap (λ l. l ++ quoted text) (t ∙ ap (λ l. l ++ 44 ∷ []) (s ∙ ap (λ l. l ++ compact_text (flag multi)) (r ∙ ap (λ l. l ++ 44 ∷ []) (q ∙ ap (λ l. l ++ quoted name) p)))))
    ∙ seven old (codes "[\"c\",") (quoted name) (44 ∷ []) (compact_text (flag multi)) (44 ∷ []) (quoted text) (93 ∷ []))

pub shut_text : (old new : List ℕ) → new ≡ old ++ codes "[\"x\"]" → new ≡ old ++ text_of shut
unfolding escape_byte
shut_text old new e = e
