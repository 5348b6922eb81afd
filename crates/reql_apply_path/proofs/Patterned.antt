-- Rules of a first argument and patterns: what they come to once these are known, and where the patterns fail.
use Rattle.std.proofs.Common.{◌≡◌, sym, ap, ◌∙◌, ◌-◌, ◌≤◌, List, [], ◌∷◌, length, get_or, drop, take, map, Ok, arith}
use Rattle.std.proofs.lemmas.List.{take_all}
use Rattle.reql_datum.specs.Answer.{Answer, ◌>>=◌}
use Rattle.reql_datum.specs.Outcome.{Fails}
use Rattle.reql_datum.specs.Plain.{Plain}
use Rattle.reql_datum.specs.declared.fault.Fault.{Fault}
use Rattle.reql_operand.proofs.Steps.{fails_on}
use Rattle.reql_value_spec.specs.Fields.{Subject, subject, field_subject, patterns, has_fields_of, has_fields_rule, on_subject, by_patterns, with_fields}
use Rattle.reql_value_spec.specs.Meant.{Given, Calls, Options, meant_of}
use Rattle.reql_value_spec.specs.Wanted.{as_sequence}
use Rattle.reql_value_spec.specs.World.{World}
use Rattle.reql_apply_path.specs.Merged.{having_plucked}

headed : {X : Type 0} (see : X → Given) (xs : List X) (x : X) → 1 ≤ length xs → x ≡ get_or xs 0 x
    → map see xs ≡ see x ∷ map see (take (length xs - 1) (drop 1 xs))
headed see [] x some here = absurd (omega arith)
headed see (a ∷ xs) x some here =
    ap (λ z. see z ∷ map see xs) (sym here) ∙ ap (λ zs. see x ∷ map see zs) (sym (take_all (length (a ∷ xs) - 1) xs (omega arith)))

at_head : {X : Type 0} (see : X → Given) (xs rest : List X) (x : X) → 1 ≤ length xs → x ≡ get_or xs 0 x → rest ≡ take (length xs - 1) (drop 1 xs)
    → map see xs ≡ see x ∷ map see rest
at_head see xs rest x some here after = headed see xs x some here ∙ ap (λ zs. see x ∷ map see zs) (sym after)

both_known : {A B C : Type 0} (a : Answer A) (b : Answer B) (k : B → A → Answer C) (s : A) (p : B) → a ≡ Ok s → b ≡ Ok p
    → (a >>= λ y. b >>= λ z. k z y) ≡ k p s
both_known a b k s p h i = ap (λ r. r >>= λ y. b >>= λ z. k z y) h ∙ ap (λ r. r >>= λ z. k z s) i

second_fails : {A B C : Type 0} (a : Answer A) (b : Answer B) (k : B → A → Answer C) (s : A) (e : Fault) → a ≡ Ok s → Fails e b
    → Fails e (a >>= λ y. b >>= λ z. k z y)
second_fails a b k s e h f = rw h (fails_on e b (λ z. k z s) f)

module _ {X : Type 0} (w : World) (calls : Calls) (opts : Options) (see : X → Given) (xs rest : List X) (x : X)
    (some : 1 ≤ length xs) (here : x ≡ get_or xs 0 x) (after : rest ≡ take (length xs - 1) (drop 1 xs)) where
  pub has_fields_is : (s : Subject) (ps : List Plain) → field_subject w (see x) ≡ Ok s → patterns (map see rest) ≡ Ok ps
      → has_fields_rule w calls (map see xs) opts ≡ has_fields_of (meant_of (see x)) ps s
  has_fields_is s ps h i =
      ap (λ gs. has_fields_rule w calls gs opts) (at_head see xs rest x some here after)
      ∙ both_known (field_subject w (see x)) (patterns (map see rest)) (λ qs t. has_fields_of (meant_of (see x)) qs t) s ps h i

  pub has_fields_fails : (s : Subject) (e : Fault) → field_subject w (see x) ≡ Ok s → Fails e (patterns (map see rest))
      → Fails e (has_fields_rule w calls (map see xs) opts)
  has_fields_fails s e h f =
      rw (at_head see xs rest x some here after) (second_fails (field_subject w (see x)) (patterns (map see rest)) (λ qs t. has_fields_of (meant_of (see x)) qs t) s e h f)

  pub by_patterns_is : (f : List Plain → Plain → Plain) (s : Subject) (ps : List Plain) → subject w (see x) ≡ Ok s → patterns (map see rest) ≡ Ok ps
      → by_patterns f w calls (map see xs) opts ≡ on_subject (λ d. Ok (f ps d)) (meant_of (see x)) s
  by_patterns_is f s ps h i =
      ap (λ gs. by_patterns f w calls gs opts) (at_head see xs rest x some here after)
      ∙ both_known (subject w (see x)) (patterns (map see rest)) (λ qs t. on_subject (λ d. Ok (f qs d)) (meant_of (see x)) t) s ps h i

  pub by_patterns_fails : (f : List Plain → Plain → Plain) (s : Subject) (e : Fault) → subject w (see x) ≡ Ok s → Fails e (patterns (map see rest))
      → Fails e (by_patterns f w calls (map see xs) opts)
  by_patterns_fails f s e h g =
      rw (at_head see xs rest x some here after) (second_fails (subject w (see x)) (patterns (map see rest)) (λ qs t. on_subject (λ d. Ok (f qs d)) (meant_of (see x)) t) s e h g)

  pub with_fields_is : (ds ps : List Plain) → as_sequence w (see x) ≡ Ok ds → patterns (map see rest) ≡ Ok ps
      → with_fields w calls (map see xs) opts ≡ having_plucked ps ds
  with_fields_is ds ps h i =
      ap (λ gs. with_fields w calls gs opts) (at_head see xs rest x some here after)
      ∙ both_known (as_sequence w (see x)) (patterns (map see rest)) having_plucked ds ps h i

  pub with_fields_fails : (ds : List Plain) (e : Fault) → as_sequence w (see x) ≡ Ok ds → Fails e (patterns (map see rest))
      → Fails e (with_fields w calls (map see xs) opts)
  with_fields_fails ds e h f =
      rw (at_head see xs rest x some here after) (second_fails (as_sequence w (see x)) (patterns (map see rest)) having_plucked ds e h f)
