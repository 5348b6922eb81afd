-- What a limit feed with its request opens with, and what it finds in its table.
use Rattle.std.proofs.Common.{◌≡◌, ◌<◌, ℕ, nat_eq, List, [], ◌∷◌, Bool, true, false, if◌then◌else◌, Option, Some, None, option_map, refl, sym, ap, ◌∙◌, subst}
use Rattle.std.specs.Prelude.{is_some, is_none}
use borrow.Author.Tests.{eqb-true}
use Rattle.reql_datum.specs.Plain.{Plain}
use Rattle.reql_rules.specs.Lists.{Bytes}
use Rattle.reql_term.specs.Views.{Document, Index, documents_in}
use Rattle.reql_value_spec.specs.Index.{index_list}
use Rattle.reql_feed_spec.specs.Feeds.{nothing, kind_of, opened_from, opening_items}
use Rattle.reql_feed_spec.specs.Shown.{Shows as Printed}
use Rattle.reql_feed_spec.specs.declared.kind.FeedKind.{FeedKind}
use Rattle.reql_feed_spec.specs.declared.kind.FeedKind.TheVariants as kinds
use Rattle.reql_table_spec.specs.Table.{Held, feed_of, is_limit}
use Rattle.reql_table.specs.Keys.{pairs_of}
use Rattle.reql_table.specs.Seen.{Numbered, Standing, documents_of, numbered_of, next_of, Each, IsGiven, IsAlike, GivesNumbers}
use Rattle.reql_table.specs.Trees.{index_at, has_tree}
use Rattle.reql_feed_limit.specs.Asked.{IsOf, IsOfOne}
use Rattle.reql_feed_limit.specs.Feed.{Feed, Shows, KeepsTree, IsTreeOf, entries_of}
use Rattle.reql_feed_limit.specs.Order.{first_in}
use Rattle.reql_opening.specs.Opens.{IsOnly}
use Rattle.reql_open_feed.specs.First.{FindsTree}

-- ---- trees
-- an index of a number was given it, and is the only one of it
record IsOne (n : ℕ) (j : Index) (next : ℕ) (ms : List (Bytes × Numbered)) : Type 0 where
  given : n < next
  only : IsOnly n j ms

same_index : (a b : Index) → Some a ≡ Some b → a ≡ b
same_index a b e = cc

each_one : (P Q : Numbered → Type 0) → ((a : Numbered) → P a → Q a) → (ms : List (Bytes × Numbered)) → Each P ms → Each Q ms
each_one P Q f [] p = tt
each_one P Q f (m ∷ ms) p = (f m.1 p.0, each_one P Q f ms p.1)

at_head : (n next : ℕ) (j : Index) (all : List (Bytes × Numbered)) (m : Bytes × Numbered) (ms : List (Bytes × Numbered)) (b : Bool) → nat_eq m.1.0 n ≡ b → IsGiven next m.1 → Each (IsAlike m.1) all
    → index_at n (m ∷ ms) ≡ Some j → (index_at n ms ≡ Some j → IsOne n j next all) → IsOne n j next all
at_head n next j all m ms true is given alike found rest =
    let same : Some m.1.1 ≡ Some j = (rw is at found) in
    record {
      given = subst (λ k. k < next) (eqb-true m.1.0 n is) given.1;
      only = each_one (IsAlike m.1) (λ a. a.0 ≡ n → a.1 ≡ j) (λ a one at. sym (one (eqb-true m.1.0 n is ∙ sym at)) ∙ same_index m.1.1 j same) all alike;
    }
at_head n next j all m ms false is given alike found rest = rest (rw is at found)

one_at : (n next : ℕ) (j : Index) (all ms : List (Bytes × Numbered)) → Each (IsGiven next) ms → Each (λ a. Each (IsAlike a) all) ms → index_at n ms ≡ Some j → IsOne n j next all
one_at n next j all [] given alike found = absurd (let f : None ≡ Some j = found in cc)
one_at n next j all (m ∷ ms) given alike found = at_head n next j all m ms (nat_eq m.1.0 n) refl given.0 alike.0 found (one_at n next j all ms given.1 alike.1)

module _ (n : ℕ) (t : Standing) (numbers : GivesNumbers t) where
  found_in : (j : Index) → index_at n (numbered_of t) ≡ Some j → IsOne n j (next_of t) (numbered_of t)
  found_in j found = one_at n (next_of t) j (numbered_of t) (numbered_of t) numbers.given numbers.alike found

  finds_at : (b : Bool) (o found : Option Index) → nat_eq n 0 ≡ b → nat_eq n 0 ≡ is_none o → (nat_eq n 0 ≡ false → (j : Index) → index_at n (numbered_of t) ≡ Some j → o ≡ Some j) → index_at n (numbered_of t) ≡ found
      → is_some (if b then Some (documents_of t) else option_map (λ i. pairs_of (index_list (documents_of t) i)) found) ≡ true → FindsTree n o t
  finds_at b None found is zero its at there = tt
  finds_at true (Some i) found is zero its at there = absurd (let f : true ≡ false = sym is ∙ zero in cc)
  finds_at false (Some i) None is zero its at there = absurd (let f : false ≡ true = there in cc)
  finds_at false (Some i) (Some j) is zero its at there =
      let one : IsOne n j (next_of t) (numbered_of t) = found_in j at in
      let same : j ≡ i = same_index j i (sym (its is j at)) in
      (one.given, subst (λ k. IsOnly n k (numbered_of t)) same one.only)

pub finds_tree : (f : Feed) (t : Standing) → IsTreeOf f.tree f.order.index → KeepsTree f t → has_tree t f.tree ≡ true → GivesNumbers t → FindsTree f.tree f.order.index t
finds_tree f t zero its there numbers =
    finds_at f.tree t numbers (nat_eq f.tree 0) f.order.index (index_at f.tree (numbered_of t)) refl zero its refl there

-- ---- what is kept of the request
pub of_kept : (o : Option Feed) (found : Option Held) (h : Held) → IsOfOne o found → found ≡ Some h → IsOf o h
of_kept o found h is at = subst (IsOfOne o) at is

pub kind_of_kept : (o : Option Feed) (h : Held) → IsOf o h → h.spec.kind ≡ kind_of (feed_of h).watch
kind_of_kept None h is = sym (ap kind_of is)
kind_of_kept (Some f) h is = is.1 ∙ sym (ap kind_of is.0)

-- ---- openings
none_opened : (k : FeedKind) (s : Printed) (docs : List Document) → is_limit k ≡ true → [] ≡ opening_items (nothing k) s docs
none_opened kinds.Point s docs limit = absurd (let f : false ≡ true = limit in cc)
none_opened kinds.Range s docs limit = refl
none_opened (kinds.Limit n) s docs limit = refl

pub nothing_opened : (h : Held) (docs : List Document) → IsOf None h → is_limit h.spec.kind ≡ true → [] ≡ opening_items (feed_of h).watch (feed_of h).shows docs
nothing_opened h docs is limit = none_opened h.spec.kind (feed_of h).shows docs limit ∙ ap (λ w. opening_items w (feed_of h).shows docs) (sym is)

pub first_opened : (h : Held) (docs : List Document) (f : Feed) (r : List Plain) → IsOf (Some f) h → Shows f docs → ((ds : List Document) → Shows f ds → entries_of f ≡ first_in f.order ds)
    → r ≡ opened_from (record { offsets = h.spec.offsets; types = h.spec.types }) 0 (documents_in (entries_of f)) → r ≡ opening_items (feed_of h).watch (feed_of h).shows docs
first_opened h docs f r is shows entries opened =
    opened ∙ ap (λ es. opened_from (feed_of h).shows 0 (documents_in es)) (entries docs shows) ∙ ap (λ w. opening_items w (feed_of h).shows docs) (sym is.0)
