-- What a session keeps true of what is open, after things are closed.
use Rattle.std.proofs.Common.{◌≡◌, ℕ, List, [], ◌∷◌, ◌++◌, filter, not, nat_eq, refl, sym, ap, subst, ◌∙◌, append-nil, Option, Some, None, Bool, true, false, cond, length, nat_lt, arith, suc}
use Rattle.std.proofs.lemmas.Bool.Decides.{nat_tests}
use Rattle.std.specs.Option.{unwrap_or}
use Rattle.reql_session_spec.specs.Requests.{Arm}
use Rattle.reql_session_spec.specs.Books.{Books, Open, closed, without}
use Rattle.reql_session_api.specs.Meant.{arms_of}
use Rattle.reql_session_api.specs.declared.answered.Arm as coded
use Rattle.reql_desk_moves.specs.Steps.{after_closing}
use Rattle.reql_open_cursors.specs.Quiet.{AllQuiet}
use Rattle.reql_open_cursors.proofs.Keeping.{closes}
use Rattle.reql_open_cursors.proofs.Quiet.{quiet_closed, quiet_without}
use Rattle.reql_open_cursors.proofs.There.{there_closed}
use Rattle.reql_session.specs.Keeping.{Keeps}

alone : (t : ℕ) (ts : List ℕ) → without t (ts ++ []) ≡ without t ts ++ []
alone t ts = ap (without t) (append-nil ts) ∙ sym (append-nil (without t ts))

pub keeps_closed : (n t : ℕ) (b : Books) → Keeps n [] b → Keeps n [] (closed t b)
keeps_closed n t b k = record {
  apart = closes b t k.apart;
  quiet = subst (AllQuiet (filter (λ (f : Open). not (nat_eq f.token t)) b.feeds)) (alone t b.waiting) (quiet_closed b.feeds t (b.waiting ++ []) k.quiet);
  there = there_closed n t b.feeds k.there;
}

pub keeps_without : (n t : ℕ) (b : Books) → Keeps n [] b → Keeps n [] (record b { waiting = without t b.waiting })
keeps_without n t b k = record {
  apart = record { cursors = k.apart.cursors; feeds = k.apart.feeds };
  quiet = subst (AllQuiet b.feeds) (alone t b.waiting) (quiet_without b.feeds t (b.waiting ++ []) k.quiet);
  there = k.there;
}

pub keeps_after : (n t : ℕ) (b : Books) (arms : List Arm) → Keeps n [] b → Keeps n [] (after_closing b t arms)
keeps_after n t b [] k = k
keeps_after n t b (a ∷ arms) k = keeps_closed n t b k

pub keeps_as : (n : ℕ) (rest : List ℕ) (a b : Books) → a ≡ b → Keeps n rest a → Keeps n rest b
keeps_as n rest a b e k = subst (Keeps n rest) e k

pub unsome : {X : Type 0} (x y : X) → Some x ≡ Some y → x ≡ y
unsome x y e = ap (λ o. unwrap_or o x) e

abbrev IsThere : {X : Type 0} → Option X → Type 0
IsThere None = ⊥
IsThere (Some x) = Unit {0}

pub none_some : {X Y : Type 0} (x : X) → None ≡ Some x → Y
none_some x e = absurd (subst IsThere (sym e) tt)

nat_lt_none : nat_lt 0 0 ≡ false
nat_lt_none = refl

nat_lt_some : (n : ℕ) → nat_lt 0 (suc n) ≡ true
nat_lt_some n = grind (arith, nat_tests)

-- the books after these arms were closed
pub after_where : (t : ℕ) (b : Books) (arms : List Arm) (any : Bool) → any ≡ nat_lt 0 (length arms) → after_closing b t arms ≡ cond any (closed t b) b
after_where t b [] any e = sym (ap (λ z. cond z (closed t b) b) (e ∙ nat_lt_none))
after_where t b (a ∷ arms) any e = sym (ap (λ z. cond z (closed t b) b) (e ∙ nat_lt_some (length arms)))

arms_count : (xs : List coded.Arm) → nat_lt 0 (length xs) ≡ nat_lt 0 (length (arms_of xs))
arms_count [] = refl
arms_count (x ∷ xs) = nat_lt_some (length xs) ∙ sym (nat_lt_some (length (arms_of xs)))

pub closed_where : (t : ℕ) (b c : Books) (xs : List coded.Arm) → c ≡ cond (nat_lt 0 (length xs)) (closed t b) b → after_closing b t (arms_of xs) ≡ c
closed_where t b c xs e = after_where t b (arms_of xs) (nat_lt 0 (length xs)) (arms_count xs) ∙ sym e
