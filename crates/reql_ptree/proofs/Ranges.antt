-- The pairs between two ends, by the parts of a node.
use Rattle.std.proofs.Common.{◌≡◌, ℕ, ◌<◌, List, [], ◌∷◌, ◌++◌, length, Bool, true, false, not, ◌&&◌, Option, Some, None, refl, sym, ap, ◌∙◌, subst, arith, length-append, append_assoc}
use Rattle.std.specs.List.{AllByRecursion, filter}
use Rattle.std.proofs.lemmas.List.Elements.{filter-append}
use Rattle.std.proofs.lemmas.List.{append-nil}
use Rattle.reql_datum.specs.Plain.{Plain}
use Rattle.reql_datum.specs.Order.{order}
use Rattle.reql_ptree.specs.Ends.{is_past, is_before, within, between}
use Rattle.reql_ptree.specs.Next.{is_behind, behind}
use Rattle.reql_ptree.specs.Pairs.{AreRising, Opens}
use Rattle.reql_ptree.specs.Side.{IsNodeOf}
use Rattle.reql_ptree.proofs.Rising.{rising_front, rising_back}
use Rattle.reql_ptree.proofs.Found.{behind_all}
use Rattle.reql_ptree.proofs.Nearby.{none_rising}
use Rattle.reql_ptree.proofs.Turns.{opens_more}
use Rattle.reql_ptree.proofs.Ways.{opens_at}
use Rattle.reql_ptree.specs.declared.side.Node.{Node}

module _ (p q : Plain × Plain → Bool) where
  pub filter_none : (ms : List (Plain × Plain)) → AllByRecursion (λ m. p m ≡ false) ms → filter p ms ≡ []
  filter_none [] all = refl
  filter_none (m ∷ ms) all = rw (all.0) (filter_none ms all.1)

  pub filter_same : (ms : List (Plain × Plain)) → AllByRecursion (λ m. p m ≡ q m) ms → filter p ms ≡ filter q ms
  filter_same [] all = refl
  filter_same (m ∷ ms) all = rw (all.0, filter_same ms all.1) refl

pub all_as : (P Q : Plain × Plain → Type 0) → ((m : Plain × Plain) → P m → Q m) → (ms : List (Plain × Plain)) → AllByRecursion P ms → AllByRecursion Q ms
all_as P Q f [] all = tt
all_as P Q f (m ∷ ms) all = (f m all.0, all_as P Q f ms all.1)

not_true : (b : Bool) → not b ≡ true → b ≡ false
not_true true h = cc
not_true false h = refl

not_false : (b : Bool) → not b ≡ false → b ≡ true
not_false true h = refl
not_false false h = cc

pub and_false : (a b : Bool) → b ≡ false → a && b ≡ false
and_false true b h = h
and_false false b h = refl

and_same : (a b c : Bool) → b ≡ c → a && b ≡ a && c
and_same a b c h = ap (λ x. a && x) h

abbrev pub AllPast : Option (Plain × Bool) → List (Plain × Plain) → Type 0
AllPast low ms = AllByRecursion (λ m. is_past low m.0 ≡ true) ms

abbrev pub AllBefore : Option (Plain × Bool) → List (Plain × Plain) → Type 0
AllBefore high ms = AllByRecursion (λ m. is_before high m.0 ≡ true) ms

all_true : (P : Plain × Plain → Bool) → ((m : Plain × Plain) → P m ≡ true) → (ms : List (Plain × Plain)) → AllByRecursion (λ m. P m ≡ true) ms
all_true P h [] = tt
all_true P h (m ∷ ms) = (h m, all_true P h ms)

opens_as : (P Q : Plain → Type 0) → ((k : Plain) → P k → Q k) → (ms : List (Plain × Plain)) → Opens P ms → Opens Q ms
opens_as P Q f [] h = tt
opens_as P Q f (m ∷ ms) h = f m.0 h

-- the keys from one that is past the low end are past it
pub past_all : (low : Option (Plain × Bool)) (ms : List (Plain × Plain)) → AreRising ms → Opens (λ k. is_past low k ≡ true) ms → AllPast low ms
past_all None ms up h = all_true (λ m. true) (λ m. refl) ms
past_all (Some c) ms up h =
    all_as (λ m. behind c.0 c.1 m ≡ false) (λ m. is_past (Some c) m.0 ≡ true) (λ m e. ap not e) ms
    (none_rising c.0 c.1 ms up (opens_as (λ k. is_past (Some c) k ≡ true) (λ k. is_behind c.1 (order c.0 k) ≡ false) (λ k e. not_true (is_behind c.1 (order c.0 k)) e) ms h))

-- and those before one that is before the high end are before it
pub before_all : (high : Option (Plain × Bool)) (a b : List (Plain × Plain)) → AreRising (a ++ b) → 0 < length b → Opens (λ k. is_before high k ≡ true) b → AllBefore high a
before_all None a b up some h = all_true (λ m. true) (λ m. refl) a
before_all (Some c) a b up some h = behind_all c.0 c.1 a b up some h

module _ (low high : Option (Plain × Bool)) where
  pub past_free : (ms : List (Plain × Plain)) → AllPast low ms → between low high ms ≡ between None high ms
  past_free ms all = filter_same (within low high) (within None high) ms (all_as (λ m. is_past low m.0 ≡ true) (λ m. within low high m ≡ within None high m) (λ m e. ap (λ b. b && is_before high m.0) e) ms all)

  pub before_free : (ms : List (Plain × Plain)) → AllBefore high ms → between low high ms ≡ between low None ms
  before_free ms all = filter_same (within low high) (within low None) ms (all_as (λ m. is_before high m.0 ≡ true) (λ m. within low high m ≡ within low None m) (λ m e. ap (λ b. is_past low m.0 && b) e) ms all)

not_past_none : (low high : Option (Plain × Bool)) (a b : List (Plain × Plain)) → AreRising (a ++ b) → 0 < length b → Opens (λ k. is_past low k ≡ false) b → between low high a ≡ []
not_past_none None high a [] up some h = absurd (omega arith)
not_past_none None high a (m ∷ ms) up some h = absurd (cc)
not_past_none (Some c) high a b up some h =
    filter_none (within (Some c) high) (within None high) a (all_as (λ m. behind c.0 c.1 m ≡ true) (λ m. within (Some c) high m ≡ false) (λ m e. ap (λ x. not x && is_before high m.0) e) a
    (behind_all c.0 c.1 a b up some (opens_as (λ k. is_past (Some c) k ≡ false) (λ k. is_behind c.1 (order c.0 k) ≡ true) (λ k e. not_false (is_behind c.1 (order c.0 k)) e) b h)))

not_before_none : (low high : Option (Plain × Bool)) (ms : List (Plain × Plain)) → AreRising ms → Opens (λ k. is_before high k ≡ false) ms → between low high ms ≡ []
not_before_none low None [] up h = refl
not_before_none low None (m ∷ ms) up h = absurd (cc)
not_before_none low (Some c) ms up h =
    filter_none (within low (Some c)) (within low None) ms (all_as (λ m. behind c.0 c.1 m ≡ false) (λ m. within low (Some c) m ≡ false) (λ m e. and_false (is_past low m.0) (behind c.0 c.1 m) e) ms (none_rising c.0 c.1 ms up h))

-- a node whose first key is known apart, after a waiting chunk
module _ (low high : Option (Plain × Bool)) (p : List (Plain × Plain)) {d : List (Plain × Plain) × ℕ} {n : Node} (at : IsNodeOf d n) (up : AreRising (p ++ d.0)) (first : Plain) (first_is : Opens (λ k. k ≡ first) n.chunk) where
  apart : p ++ d.0 ≡ (p ++ n.left.0) ++ (n.chunk ++ n.right.0)
  apart = ap (λ t. p ++ t) at.pairs ∙ sym (append_assoc p n.left.0 (n.chunk ++ n.right.0))

  split : between low high (p ++ d.0) ≡ between low high (p ++ n.left.0) ++ between low high (n.chunk ++ n.right.0)
  split = ap (between low high) apart ∙ filter-append (within low high) (p ++ n.left.0) (n.chunk ++ n.right.0)

  up' : AreRising ((p ++ n.left.0) ++ (n.chunk ++ n.right.0))
  up' = subst AreRising apart up

  some : 0 < length (n.chunk ++ n.right.0)
  some = omega (arith, at.node.chunk_is.some, length-append n.chunk n.right.0)

  opens : (P : Plain → Type 0) → P first → Opens P (n.chunk ++ n.right.0)
  opens P h = opens_more P n.chunk n.right.0 at.node.chunk_is.some (opens_at P first n.chunk first_is h)

  pub left_up : AreRising (p ++ n.left.0)
  left_up = rising_front (p ++ n.left.0) (n.chunk ++ n.right.0) up'

  pub right_up : AreRising (n.chunk ++ n.right.0)
  right_up = rising_back (p ++ n.left.0) (n.chunk ++ n.right.0) up'

  pub between_right : is_past low first ≡ false → between low high (p ++ d.0) ≡ between low high (n.chunk ++ n.right.0)
  between_right h = split ∙ ap (λ t. t ++ between low high (n.chunk ++ n.right.0)) (not_past_none low high (p ++ n.left.0) (n.chunk ++ n.right.0) up' some (opens (λ k. is_past low k ≡ false) h))

  pub between_left : is_before high first ≡ false → between low high (p ++ d.0) ≡ between low high (p ++ n.left.0)
  between_left h = split ∙ ap (λ t. between low high (p ++ n.left.0) ++ t) (not_before_none low high (n.chunk ++ n.right.0) right_up (opens (λ k. is_before high k ≡ false) h)) ∙ append-nil (between low high (p ++ n.left.0))

  pub between_both : is_past low first ≡ true → is_before high first ≡ true → between low high (p ++ d.0) ≡ between low None (p ++ n.left.0) ++ between None high (n.chunk ++ n.right.0)
  between_both h k =
      split ∙ ap (λ t. t ++ between low high (n.chunk ++ n.right.0)) (before_free low high (p ++ n.left.0) (before_all high (p ++ n.left.0) (n.chunk ++ n.right.0) up' some (opens (λ x. is_before high x ≡ true) k)))
      ∙ ap (λ t. between low None (p ++ n.left.0) ++ t) (past_free low high (n.chunk ++ n.right.0) (past_all low (n.chunk ++ n.right.0) right_up (opens (λ x. is_past low x ≡ true) h)))
