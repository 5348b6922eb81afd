-- When what a program did is what the machine of tables does.
use Rattle.std.proofs.Common.{◌≡◌, ◌<◌, ◌^◌, ◌-◌, ℕ, Bool, true, false, ◌&&◌, ◌||◌, cond, true≢false, refl, sym, ap, ◌∙◌, arith}
use Rattle.std.specs.Prelude.{nat_lt}
use Rattle.std.proofs.lemmas.Bool.Decides.{nat_tests}
use Rattle.reql_table_machine_spec.specs.Feeds.{says, adds, effect, one_more, is_past, answer}
use Rattle.reql_table_machine_spec.specs.declared.command.Said.TheVariants as said
use Rattle.reql_table_spec.specs.Replies.{said_of}
use Rattle.reql_table_spec.specs.Table.{Held, DocumentTable, feeding}
use Rattle.reql_table_spec.specs.declared.reply.Said.{Said}
use Rattle.reql_table_spec.specs.declared.reply.Said.TheVariants as answers
use Rattle.reql_core.specs.Live.{Live, Asked, table_of, Does}

and_false : {X : Type 0} (b : Bool) (x y : X) → cond (b && false) x y ≡ y
and_false true x y = refl
and_false false x y = refl

no_past : (a b : ℕ) → a < 2 ^ 64 → b < 2 ^ 64 → nat_lt (2 ^ 64 - 1) a || nat_lt (2 ^ 64 - 1) b ≡ false
no_past a b h k = both _ _ (not_above a h) (not_above b k)
  where
    both : (x y : Bool) → x ≡ false → y ≡ false → x || y ≡ false
    both false false e f = refl
    both true y e f = e
    both false true e f = f

    not_above : (n : ℕ) → n < 2 ^ 64 → nat_lt (2 ^ 64 - 1) n ≡ false
    not_above n h = grind (arith, nat_tests)

module _ (most : ℕ) (t : DocumentTable) (by : ℕ) (cmd : Asked) where
  says_it : is_past (feeding most) (one_more (feeding most) (effect (feeding most) t by cmd)) ≡ false → answer (feeding most) t by cmd ≡ says (feeding most) t by cmd
  says_it e = ap (λ p. cond (adds (feeding most) (says (feeding most) t by cmd) && p) (said.HistoryFull (2 ^ 64 - 1)) (says (feeding most) t by cmd)) e
      ∙ and_false (adds (feeding most) (says (feeding most) t by cmd)) (said.HistoryFull (2 ^ 64 - 1)) (says (feeding most) t by cmd)

module _ {F : Type 0} (held : F → Held) (by : ℕ) (cmd : Asked) (old new : Live F) (s : Said) where
  -- it is recorded
  pub done : said_of s ≡ says (feeding old.most) (table_of held old) by cmd → adds (feeding old.most) (said_of s) ≡ true
      → table_of held new ≡ one_more (feeding old.most) (effect (feeding old.most) (table_of held old) by cmd) → new.most ≡ old.most
      → new.moment.place < 2 ^ 64 → new.moment.stamp < 2 ^ 64 → Does held by cmd old new s
  done says_so adds_so leaves most place stamp =
      let past : is_past (feeding old.most) (one_more (feeding old.most) (effect (feeding old.most) (table_of held old) by cmd)) ≡ false =
      ap (λ u. is_past (feeding old.most) u) (sym leaves) ∙ no_past new.moment.place new.moment.stamp place stamp in
      let it = says_it old.most (table_of held old) by cmd past in record {
        says = says_so ∙ sym it;
        leaves = leaves ∙ sym (ap (λ x. cond (adds (feeding old.most) x) (one_more (feeding old.most) (effect (feeding old.most) (table_of held old) by cmd)) (table_of held old)) (it ∙ sym says_so)
            ∙ ap (λ b. cond b (one_more (feeding old.most) (effect (feeding old.most) (table_of held old) by cmd)) (table_of held old)) adds_so);
        most = most;
      }

  -- it is not recorded
  pub idle : said_of s ≡ says (feeding old.most) (table_of held old) by cmd → adds (feeding old.most) (said_of s) ≡ false → new ≡ old → Does held by cmd old new s
  idle says_so adds_so same =
      let none : adds (feeding old.most) (says (feeding old.most) (table_of held old) by cmd) ≡ false = ap (λ x. adds (feeding old.most) x) (sym says_so) ∙ adds_so in
      let it : answer (feeding old.most) (table_of held old) by cmd ≡ says (feeding old.most) (table_of held old) by cmd =
      ap (λ b. cond (b && is_past (feeding old.most) (one_more (feeding old.most) (effect (feeding old.most) (table_of held old) by cmd))) (said.HistoryFull (2 ^ 64 - 1)) (says (feeding old.most) (table_of held old) by cmd)) none in record {
        says = says_so ∙ sym it;
        leaves = ap (λ l. table_of held l) same ∙ sym (ap (λ x. cond (adds (feeding old.most) x) (one_more (feeding old.most) (effect (feeding old.most) (table_of held old) by cmd)) (table_of held old)) it
            ∙ ap (λ b. cond b (one_more (feeding old.most) (effect (feeding old.most) (table_of held old) by cmd)) (table_of held old)) none);
        most = ap (λ l. l.most) same;
      }

  -- the history has no room for it
  pub refused : adds (feeding old.most) (says (feeding old.most) (table_of held old) by cmd) ≡ true → is_past (feeding old.most) (one_more (feeding old.most) (effect (feeding old.most) (table_of held old) by cmd)) ≡ true
      → new ≡ old → s ≡ answers.HistoryFull (2 ^ 64 - 1) → Does held by cmd old new s
  refused adds_so past same is =
      let it : answer (feeding old.most) (table_of held old) by cmd ≡ said.HistoryFull (2 ^ 64 - 1) =
      ap (λ b. cond (b && is_past (feeding old.most) (one_more (feeding old.most) (effect (feeding old.most) (table_of held old) by cmd))) (said.HistoryFull (2 ^ 64 - 1)) (says (feeding old.most) (table_of held old) by cmd)) adds_so
      ∙ ap (λ b. cond b (said.HistoryFull (2 ^ 64 - 1)) (says (feeding old.most) (table_of held old) by cmd)) past in record {
        says = ap said_of is ∙ sym it;
        leaves = ap (λ l. table_of held l) same ∙ sym (ap (λ x. cond (adds (feeding old.most) x) (one_more (feeding old.most) (effect (feeding old.most) (table_of held old) by cmd)) (table_of held old)) it);
        most = ap (λ l. l.most) same;
      }

pub past_by : (p s : ℕ) → 2 ^ 64 - 1 < s → nat_lt (2 ^ 64 - 1) p || nat_lt (2 ^ 64 - 1) s ≡ true
past_by p s h = either (nat_lt (2 ^ 64 - 1) p) (nat_lt (2 ^ 64 - 1) s) (above s h)
  where
    either : (x y : Bool) → y ≡ true → x || y ≡ true
    either true y e = refl
    either false y e = e

    above : (n : ℕ) → 2 ^ 64 - 1 < n → nat_lt (2 ^ 64 - 1) n ≡ true
    above n h = grind (arith, nat_tests)

pub past_first : (p s : ℕ) → 2 ^ 64 - 1 < p → nat_lt (2 ^ 64 - 1) p || nat_lt (2 ^ 64 - 1) s ≡ true
past_first p s h = either (nat_lt (2 ^ 64 - 1) p) (nat_lt (2 ^ 64 - 1) s) (above p h)
  where
    either : (x y : Bool) → x ≡ true → x || y ≡ true
    either true y e = refl
    either false y e = absurd (true≢false (sym e))

    above : (n : ℕ) → 2 ^ 64 - 1 < n → nat_lt (2 ^ 64 - 1) n ≡ true
    above n h = grind (arith, nat_tests)
