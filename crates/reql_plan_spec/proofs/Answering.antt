-- That a request for CHANGES is answered by its feeds once all are open, and by a refusal once those before it are closed.
use Rattle.std.proofs.Common.{◌≡◌, ℕ, List, [], ◌∷◌, ◌++◌, map, Some, false, cond, refl, sym, ap, subst, ◌∙◌}
use Rattle.reql_datum.specs.Answer.{Reason}
use Rattle.reql_rules.specs.Faults.{no_index}
use Rattle.reql_term.specs.Form.{Form, operation}
use Rattle.reql_term.specs.declared.op.Op.TheVariants as op
use Rattle.reql_table_machine_spec.specs.declared.command.Said.TheVariants as said
use Rattle.reql_table_spec.specs.Replies.{Answered as Reply}
use Rattle.reql_table_spec.specs.declared.reply.Saved.{Saved}
use Rattle.reql_table_spec.specs.declared.reply.Saved.TheVariants as saved
use Rattle.reql_plan_spec.specs.declared.parts.Opening.{Opening}
use Rattle.reql_plan_spec.specs.declared.parts.Plan.{Plan}
use Rattle.reql_plan_spec.specs.declared.parts.Setting.{Setting}
use Rattle.reql_plan_spec.specs.Answering.{AtChanges, FaultyFeedsAreRefused, CrowdedFeedsAreRefused, AreOpenedNew, NextFeedIsAsked, OpenFeedsAreTold, Denial, denied_as, denied_by, closes_next, DeniedFeedsAreClosed}
use Rattle.reql_plan_spec.specs.Asked.{clock, Changing, asked_for, IsOpened}
use Rattle.reql_plan_spec.specs.Course.{Open, lost, name_or_empty, closing, opened_by, opened_if, open_heard, subscribed, changes, carried, held, course, sent}
use Rattle.reql_plan_spec.specs.Held.{Held, nothing_read, dropped}
use Rattle.reql_plan_spec.specs.Minds.{has_feed}
use Rattle.reql_plan_spec.specs.Move.{Replied, Heard, names, told, looked, ran, changed, rolled, Stop, fault, unsent, stop}
use Rattle.reql_plan_spec.specs.Reads.{has_now, read_slots}
use Rattle.reql_plan_spec.specs.Request.{Request, ends, request, give, from, Next, answered, moves, next}
use Rattle.reql_plan_spec.specs.Texts.{too_many_feeds, history_full}
use Rattle.reql_plan_spec.proofs.Asked.{held_of, held_with, among_held, told_of, if_room, if_wanted, looks_on, clocked_on, resolved_on, comes_to_feeds, more_after, nothing_after}

-- an answer that is wanted is what it is
pub sent_wanted : (s : Setting) (n : Next) → s.noreply ≡ false → sent s n ≡ n
sent_wanted s (answered o) h = ap (λ b. answered (cond b unsent o)) h
sent_wanted s (moves q) h = refl

-- ---- at its CHANGES
module _ (p : Plan) (s : Setting) (hs : List Heard) (c : AtChanges p s hs) where
  abbrev held_at : Held
  held_at = held p s c.known c.read

  comes_to_changes : next (request (course p s)) hs ≡ next (changes held_at c.arguments c.options ends) c.replies
  comes_to_changes =
      let g : Form = operation op.Changes c.arguments c.options in
      let seen : List Heard = map looked c.seen ++ c.replies in
      ap (next (request (course p s))) c.heard
      ∙ resolved_on next (λ q on h gs none. refl) p s c.known c.term (clock c.moment ++ seen) c.looked_up c.free
      ∙ clocked_on next (λ q on h gs none. refl) p s c.known c.term g seen (has_now c.term) c.moment c.clocked c.carried
      ∙ looks_on next (λ q on h gs none. refl) c.known (λ r. carried (held p s c.known r) g ends) c.read c.replies nothing_read (read_slots g) c.seen c.sees

  refused_there : (why : Stop) → next (changes held_at c.arguments c.options ends) c.replies ≡ answered (stop why) → sent s (next (request (course p s)) hs) ≡ answered (stop why)
  refused_there why h = ap (sent s) (comes_to_changes ∙ h) ∙ sent_wanted s (answered (stop why)) c.wanted

pub faulty_feeds_are_refused : FaultyFeedsAreRefused
faulty_feeds_are_refused p s hs c why h =
    refused_there p s hs c (fault why) (ap (λ a. next (from a (if_wanted (held_at p s hs c) s.noreply)) c.replies) h)

pub crowded_feeds_are_refused : CrowdedFeedsAreRefused
crowded_feeds_are_refused p s hs c x found full =
    let e : Held = held_at p s hs c in
    refused_there p s hs c _ (
    ap (λ a. next (from a (if_wanted e s.noreply)) c.replies) found
    ∙ ap (λ b. next (if_wanted e b x) c.replies) c.wanted
    ∙ ap (λ b. next (if_room e b x) c.replies) full)

-- ---- the feeds that are open, one after another
module _ (e : Held) where
  opened_on : (before : List Open) (o : Opening) (h : Heard) (k : Open) (on : Open → Request) (hs : List Heard) → IsOpened o h k → has_feed k.slot k.feed (held_of before) ≡ false
      → next (open_heard e before o h on) hs ≡ next (on k) hs
  opened_on before o h k on hs is new =
      ap (λ x. next (open_heard e before o x on) hs) is.1
      ∙ ap (λ b. next (cond b lost (give (record { slot = o.slot; feed = k.feed; stamp = k.stamp; opening = k.opening })) on) hs)
      (among_held o.slot k.feed before ∙ ap (λ n. has_feed n k.feed (held_of before)) (sym is.2) ∙ new)
      ∙ ap (λ n. next (on (record { slot = n; feed = k.feed; stamp = k.stamp; opening = k.opening })) hs) (sym is.2)

  module _ (on : List Open → Request) where
    opens_on : (before : List Open) (os : List Opening) (hs : List Heard) (ks : List Open) (behind : List Opening) (rest : List Heard) → AreOpenedNew (held_of before) os hs ks
        → next (subscribed e before (os ++ behind) on) (hs ++ rest) ≡ next (subscribed e (before ++ ks) behind on) rest
    opens_on before [] [] [] behind rest each = ap (λ z. next (subscribed e z behind on) rest) (sym (nothing_after Open before))
    opens_on before (o ∷ os) (h ∷ hs) (k ∷ ks) behind rest each =
        let more : AreOpenedNew (held_of (before ++ k ∷ [])) os hs ks = subst (λ fs. AreOpenedNew fs os hs ks) (held_with before k) each.1.1 in
        opened_on before o h k (λ j. subscribed e (before ++ j ∷ []) (os ++ behind) on) (hs ++ rest) each.0 each.1.0
        ∙ opens_on (before ++ k ∷ []) os hs ks behind rest more
        ∙ ap (λ z. next (subscribed e z behind on) rest) (more_after Open before ks k)
    opens_on before [] [] (k ∷ ks) behind rest each = absurd each
    opens_on before [] (h ∷ hs) ks behind rest each = absurd each
    opens_on before (o ∷ os) [] ks behind rest each = absurd each
    opens_on before (o ∷ os) (h ∷ hs) [] behind rest each = absurd each

  -- where one is denied, those that are open are closed
  closing_on : (why : Reason) (ks : List Open) (on : Open → Request) (hs : List Heard) → next (closing e why ks on) hs ≡ closes_next e (fault why) ks hs
  closing_on why [] on hs = refl
  closing_on why (k ∷ ks) on [] = refl
  closing_on why (k ∷ ks) on (h ∷ hs) = closing_on why ks on hs

  module _ (opened : List Open) (o : Opening) (on : Open → Request) (d : Denial) (hs : List Heard) where
    abbrev Closes : Request → Type 0
    Closes r = next r hs ≡ closes_next e d.why d.closes hs

    same_denial : (x : Denial) → Some x ≡ Some d → x ≡ d
    same_denial x h = cc

    as_denied : (x : Denial) → Some x ≡ Some d → closes_next e x.why x.closes hs ≡ closes_next e d.why d.closes hs
    as_denied x h = ap (λ (y : Denial). closes_next e y.why y.closes hs) (same_denial x h)

    said_closes : (stamp : ℕ) (s : Replied) → denied_as e opened o s ≡ Some d → Closes (opened_by e opened o stamp s on)
    said_closes stamp said.IndexMissing h = closing_on (no_index (name_or_empty o.spec.index)) opened on hs ∙ as_denied _ h
    said_closes stamp (said.FeedsFull count) h = closing_on too_many_feeds opened on hs ∙ as_denied _ h
    said_closes stamp (said.HistoryFull count) h = closing_on history_full opened on hs ∙ as_denied _ h
    said_closes stamp said.Gone h = closing_on (dropped e.names o.slot) opened on hs ∙ as_denied _ h
    said_closes stamp (said.Opened number items) h = absurd (cc (h))
    said_closes stamp (said.Done x) h = absurd (cc (h))
    said_closes stamp said.Changed h = absurd (cc (h))
    said_closes stamp said.IndexExists h = absurd (cc (h))
    said_closes stamp (said.Batch skipped last items) h = absurd (cc (h))
    said_closes stamp said.Nothing h = absurd (cc (h))
    said_closes stamp (said.FeedUnknown f) h = absurd (cc (h))
    said_closes stamp said.Closed h = absurd (cc (h))

    kept_closes : (r : Reply) (v : Saved) → denied_by e opened o (ran r v) ≡ Some d → Closes (opened_if e opened o r v on)
    kept_closes r saved.Yes h = said_closes r.stamp r.said h
    kept_closes r saved.Failed h = as_denied _ h
    kept_closes r saved.Memory h = as_denied _ h

    heard_closes : (x : Heard) → denied_by e opened o x ≡ Some d → Closes (open_heard e opened o x on)
    heard_closes (ran r v) h = kept_closes r v h
    heard_closes (names ns) h = absurd (cc (h))
    heard_closes (told m) h = absurd (cc (h))
    heard_closes (looked at) h = absurd (cc (h))
    heard_closes (changed r) h = absurd (cc (h))
    heard_closes (rolled bytes) h = absurd (cc (h))

-- ---- of a request that has come to its feeds
module _ (p : Plan) (s : Setting) (hs : List Heard) (c : Changing p s hs) where
  abbrev held_by : Held
  held_by = held p s c.known c.read

  abbrev then_tell : List Open → Request
  then_tell ks = ends (told_of held_by c.feeds ks)

  -- what it does next is what it does of its feeds
  by_feeds : (n : Next) → next (subscribed held_by [] c.feeds.openings then_tell) c.replies ≡ n → sent s (next (request (course p s)) hs) ≡ n
  by_feeds n h = ap (sent s) (comes_to_feeds next (λ q on h gs none. refl) p s hs c ∙ h) ∙ sent_wanted s n c.wanted

pub next_feed_is_asked : NextFeedIsAsked
next_feed_is_asked p s hs c before o behind opened asked each =
    let e : Held = held_by p s hs c in
    by_feeds p s hs c (moves (asked_for e o)) (
    ap (λ os. next (subscribed e [] os (then_tell p s hs c)) c.replies) asked
    ∙ ap (next (subscribed e [] (before ++ (o ∷ behind)) (then_tell p s hs c))) (sym (nothing_after Heard c.replies))
    ∙ opens_on e (then_tell p s hs c) [] before c.replies opened (o ∷ behind) [] each)

pub open_feeds_are_told : OpenFeedsAreTold
open_feeds_are_told p s hs c opened each =
    let e : Held = held_by p s hs c in
    by_feeds p s hs c (answered (told_of e c.feeds opened)) (
    ap (λ os. next (subscribed e [] os (then_tell p s hs c)) c.replies) (sym (nothing_after Opening c.feeds.openings))
    ∙ ap (next (subscribed e [] (c.feeds.openings ++ []) (then_tell p s hs c))) (sym (nothing_after Heard c.replies))
    ∙ opens_on e (then_tell p s hs c) [] c.feeds.openings c.replies opened [] [] each)

pub denied_feeds_are_closed : DeniedFeedsAreClosed
denied_feeds_are_closed p s hs c d =
    let e : Held = held_by p s hs c in
    by_feeds p s hs c (closes_next e d.denial.why d.denial.closes d.rest) (
    ap (λ os. next (subscribed e [] os (then_tell p s hs c)) c.replies) d.asked
    ∙ ap (next (subscribed e [] (d.before ++ (d.opening ∷ d.behind)) (then_tell p s hs c))) d.heard
    ∙ opens_on e (then_tell p s hs c) [] d.before d.answers d.opened (d.opening ∷ d.behind) (d.answer ∷ d.rest) d.each
    ∙ heard_closes e d.opened d.opening (λ k. subscribed e (d.opened ++ k ∷ []) d.behind (then_tell p s hs c)) d.denial d.rest d.answer d.denied)
