-- Shadows of feeds that were told of nothing.
use Rattle.std.proofs.Common.{◌≡◌, ◌+◌, ◌≤◌, ℕ, List, [], ◌∷◌, ◌++◌, length, None, sym, ap, subst, arith}
use Rattle.std.specs.List.{All}
use Rattle.std.proofs.lemmas.List.{length_push}
use Rattle.std.proofs.lemmas.List.Elements.{All-nil, All-push}
use Rattle.reql_table_spec.specs.Table.{Held}
use Rattle.reql_feeds.specs.Ahead.{all_ahead, IsDraft}
use Rattle.reql_feeds.specs.Keeps.{feeds_of}
use Rattle.reql_feeds.specs.Seen.{all_sized}
use Rattle.reql_feeds.specs.Shadows.{pending, all_pending}
use Rattle.reql_feeds.specs.declared.entry.Entry.{Entry}
use Rattle.reql_feeds.specs.declared.shadow.Shadow.{Shadow}
use Rattle.reql_feeds.proofs.Drafts.{none_draft, none_ahead}

module _ {F : Type 0} where
  abbrev IsBlank : Shadow F → Type 0
  IsBlank s = pending s ≡ record { kept = None; items = [] }

  -- so many shadows, of which each is blank
  pub record Blanks (ss : List (Shadow F)) (n : ℕ) : Type 0 where
    pub many : length ss ≡ n
    pub blank : All IsBlank ss

  pub no_blanks : (ss : List (Shadow F)) → ss ≡ [] → Blanks ss 0
  no_blanks ss none = record { many = ap length none; blank = subst (All IsBlank) (sym none) (All-nil IsBlank) }

  pub more_blanks : (ss ts : List (Shadow F)) (s : Shadow F) (n : ℕ) → Blanks ss n → ts ≡ ss ++ s ∷ [] → pending s ≡ record { kept = None; items = [] } → Blanks ts (n + 1)
  more_blanks ss ts s n b more blank = record {
    many = let l = ap length more in let p = length_push ss s in let m = b.many in omega (arith, l, p, m);
    blank = subst (All IsBlank) (sym more) (All-push IsBlank ss s b.blank blank);
  }

  module _ (held : F → Held) (es : List (Entry F)) (ss : List (Shadow F)) (n : ℕ) (b : Blanks ss n) (low : n ≤ length es) (high : length es ≤ n) where
    all_many : length ss ≡ length es
    all_many = let m = b.many in omega (arith, m, low, high)

    pub blanks_draft : IsDraft held (feeds_of (all_sized es)) (all_pending ss)
    blanks_draft = none_draft held es ss all_many b.blank

    pub blanks_ahead : all_ahead held (feeds_of (all_sized es)) (all_pending ss) ≡ feeds_of (all_sized es)
    blanks_ahead = none_ahead held es ss all_many b.blank
