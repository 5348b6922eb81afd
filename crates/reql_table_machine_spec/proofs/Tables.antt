-- Tables that a history leads to, and the feeds that are opened in them.
use Rattle.std.proofs.Common.{◌≡◌, ◌≤◌, ℕ, suc, ◌+◌, ◌-◌, ◌^◌, Bool, true, false, cond, not, ◌&&◌, List, [], ◌∷◌, ◌++◌, length, map, filter, take, Option, Some, None, refl, sym, ap, subst, ◌∙◌, arith, append_assoc, length-append}
use Rattle.std.specs.List.{AllByRecursion}
use Rattle.std.specs.Prelude.{nat_lt, nat_eq}
use Rattle.std.proofs.Math.Seq.{take-append_seam}
use Rattle.std.proofs.lemmas.Bool.{eq-eqb, ne_eqb}
use Rattle.reql_table_machine_spec.specs.Feeding.{Feeding, fold, changed, bare, Comes, Folds}
use Rattle.reql_table_machine_spec.specs.Feeds.{Feed, Table, is_of, find_feed, notice, after_change, after_changes, opened_in, opens, new_feed, effect, one_more, unless_shut, adds, is_past, if_room, answer, after, after_cmd, reply_to_cmd, table_machine, left_by}
use Rattle.reql_shared.specs.Plays.{WovenTo, Woven}
use Rattle.reql_table_machine_spec.specs.Fed.{upto, changes_by, changes_at, changes_from, docs_at, FedSaid, FedCmd, AllFed}
use Rattle.reql_table_machine_spec.specs.declared.command.Cmd.{Cmd}
use Rattle.reql_table_machine_spec.specs.declared.command.Cmd.TheVariants as cmds
use Rattle.reql_table_machine_spec.specs.declared.command.Order.{Order}
use Rattle.reql_table_machine_spec.specs.declared.command.Reply.{Reply}
use Rattle.reql_table_machine_spec.specs.declared.command.Look.{Look}
use Rattle.reql_table_machine_spec.specs.declared.command.Said.{Said}
use Rattle.reql_table_machine_spec.specs.declared.command.Said.TheVariants as said
use Rattle.reql_shared.specs.declared.recorded.Recorded.{Recorded}
use Rattle.reql_shared.specs.Machine.{Machine, replay}
use Rattle.reql_shared.specs.Acts.{Act, Ran, Looked, Denied, entries_of}
use Rattle.reql_table_machine_spec.proofs.Items.{all_append, all_map, good_changed}
use Rattle.reql_table_machine_spec.proofs.Reach.{changes_place, after_docs, docs_later}
use Rattle.reql_table_machine_spec.proofs.Tracking.{split, same_pushes}
use Rattle.reql_shared.proofs.Weaving.{replay_append, woven_longer}
use Rattle.reql_table_machine_spec.proofs.Folding.{fed_from, ran, After}

module _ {K I : Type 0} where
  -- every feed's number is at most b
  abbrev pub Low : ℕ → List (Feed K I) → Type 0
  Low b fs = AllByRecursion (λ (f : Feed K I). f.number ≤ b) fs

  low_more : (a b : ℕ) (fs : List (Feed K I)) → a ≤ b → Low a fs → Low b fs
  low_more a b fs le h = all_map (λ (f : Feed K I). f.number ≤ a) (λ (f : Feed K I). f.number ≤ b) (λ f g. omega (arith, le, g)) fs h

  low_map : (b : ℕ) (h : Feed K I → Feed K I) → ((f : Feed K I) → (h f).number ≡ f.number) → (fs : List (Feed K I)) → Low b fs → Low b (map h fs)
  low_map b h s [] l = tt
  low_map b h s (f ∷ fs) l = (omega (arith, s f, l.0), low_map b h s fs l.1)

  low_filter : (b : ℕ) (p : Feed K I → Bool) (fs : List (Feed K I)) → Low b fs → Low b (filter p fs)
  low_filter b p [] l = tt
  low_filter b p (f ∷ fs) l = split (p f) (λ c. Low b (cond c (f ∷ filter p fs) (filter p fs))) (λ _. (l.0, low_filter b p fs l.1)) (λ _. low_filter b p fs l.1)

  -- a new feed is found behind those of lower numbers
  pub find_new : (by : ℕ) (fs : List (Feed K I)) (f : Feed K I) (b : ℕ) → Low b fs → f.owner ≡ by → f.number ≡ suc b → find_feed by (suc b) (fs ++ f ∷ []) ≡ Some f
  find_new by [] f b l o n = ap (λ c. cond c (Some f) None) (λ i. eq-eqb f.owner by o i && eq-eqb f.number (suc b) n i)
  find_new by (g ∷ gs) f b l o n =
      ap (λ c. cond (nat_eq g.owner by && c) (Some g) (find_feed by (suc b) (gs ++ f ∷ []))) (ne_eqb g.number (suc b) (λ e. absurd (omega (arith, l.0, e))))
      ∙ ap (λ c. cond c (Some g) (find_feed by (suc b) (gs ++ f ∷ []))) (and_false (nat_eq g.owner by)) ∙ find_new by gs f b l.1 o n
    where
      and_false : (x : Bool) → (x && false) ≡ false
      and_false true = refl
      and_false false = refl

-- Along a history numbers of feeds stay up to the place.
module _ {D J W N P M X K I F : Type 0} (m : Feeding D J W N P M X K I F) where
  changes_low : (b : ℕ) (xs : List X) (t : Table D J K I) → Low b t.feeds → Low b (after_changes m t xs).feeds
  changes_low b [] t h = h
  changes_low b (x ∷ xs) t h = changes_low b xs (after_change m t x) (low_map b (notice m t.docs t.stamp x) (λ f. (same_pushes (m.size f.kept) f (map (λ i. (suc t.stamp, i)) (m.items f.kept t.docs x))).number) t.feeds h)

  effect_low : (t : Table D J K I) (who : ℕ) (cmd : Cmd W N P) → Low t.place t.feeds → Low (suc (effect m t who cmd).place) (effect m t who cmd).feeds
  effect_low t who (cmds.Write w) h = changes_low (suc (after_changes m t (m.changes t.docs t.indexes w)).place) (m.changes t.docs t.indexes w) t (low_more t.place _ t.feeds (omega (arith, changes_place m (m.changes t.docs t.indexes w) t)) h)
  effect_low t who (cmds.Index j) h = low_more t.place (suc t.place) t.feeds (omega arith) h
  effect_low t who (cmds.Subscribe p) h = opened (m.keep t.indexes p)
    where
      opened : (o : Option K) → Low (suc (opened_in m t who o).place) (opened_in m t who o).feeds
      opened None = low_more t.place (suc t.place) t.feeds (omega arith) h
      opened (Some k) = split (nat_lt (length t.feeds) m.most) (λ b. Low (suc (cond b (record t { feeds = t.feeds ++ new_feed m t who k ∷ [] }) t).place) (cond b (record t { feeds = t.feeds ++ new_feed m t who k ∷ [] }) t).feeds)
          (λ _. all_append (λ (f : Feed K I). f.number ≤ suc t.place) t.feeds (new_feed m t who k ∷ []) (low_more t.place (suc t.place) t.feeds (omega arith) h) (omega arith, tt))
          (λ _. low_more t.place (suc t.place) t.feeds (omega arith) h)
  effect_low t who (cmds.Take feed max) h = low_map (suc t.place) (λ f. cond (is_of who feed f) (left_by m max f) f) (λ f. split (is_of who feed f) (λ b. (cond b (left_by m max f) f).number ≡ f.number) (λ _. refl) (λ _. refl)) t.feeds (low_more t.place (suc t.place) t.feeds (omega arith) h)
  effect_low t who (cmds.Unsubscribe feed) h = low_filter (suc t.place) (λ f. not (is_of who feed f)) t.feeds (low_more t.place (suc t.place) t.feeds (omega arith) h)
  effect_low t who cmds.Shut h = low_more t.place (suc t.place) t.feeds (omega arith) h
  effect_low t who cmds.Sync h = low_more t.place (suc t.place) t.feeds (omega arith) h

  pub after_low : (t : Table D J K I) (who : ℕ) (cmd : Cmd W N P) → Low t.place t.feeds → Low (after_cmd m t who cmd).place (after_cmd m t who cmd).feeds
  after_low t who cmd h = split (adds m (answer m t who cmd)) (λ b. Low (cond b (one_more m (effect m t who cmd)) t).place (cond b (one_more m (effect m t who cmd)) t).feeds) (λ _. effect_low t who cmd h) (λ _. h)

  pub replay_low : (t : Table D J K I) (es : List (Recorded (Order (Cmd W N P)))) → Low t.place t.feeds → Low (replay (table_machine m) t es).place (replay (table_machine m) t es).feeds
  replay_low t [] h = h
  replay_low t (e ∷ es) h = replay_low (after m t e.by e.cmd) es (after_low t e.by e.cmd.cmd h)

module _ {D J W N P M X K I F : Type 0} (m : Feeding D J W N P M X K I F) (good : D → Type 0) (may : D → X → Type 0) (l : Folds m good may) where
  abbrev T : Type 0
  T = Table D J K I

  abbrev Entries : Type 0
  Entries = List (Recorded (Order (Cmd W N P)))

  abbrev machine : Machine T (Order (Cmd W N P)) (Reply (Said M I)) (Unit {0}) (Look (D × J))
  machine = table_machine m

  -- what a table that a history led to has: good documents, and feeds with numbers up to its place
  pub record Fine (t : T) : Type 0 where
    pub docs : good t.docs
    pub low : Low t.place t.feeds

  changes_come : (t : T) (who : ℕ) (cmd : Cmd W N P) → good t.docs → Comes m may t.docs (changes_at m t who cmd)
  changes_come t who cmd g = split (adds m (answer m t who cmd)) (λ b. Comes m may t.docs (cond b (changes_by m t cmd) [])) (λ _. come cmd) (λ _. tt)
    where
      come : (cmd : Cmd W N P) → Comes m may t.docs (changes_by m t cmd)
      come (cmds.Write w) = l.writes t.docs t.indexes w g
      come (cmds.Index j) = tt
      come (cmds.Subscribe p) = tt
      come (cmds.Take feed max) = tt
      come (cmds.Unsubscribe feed) = tt
      come cmds.Shut = tt
      come cmds.Sync = tt

  fine_after : (t : T) (who : ℕ) (cmd : Cmd W N P) → Fine t → Fine (after_cmd m t who cmd)
  fine_after t who cmd f = record {
    docs = subst good (sym (after_docs m t who cmd).0) (good_changed m good may l t.docs (changes_at m t who cmd) f.docs (changes_come t who cmd f.docs));
    low = after_low m t who cmd f.low;
  }

  pub fine_replay : (t : T) (es : Entries) → Fine t → Fine (replay machine t es)
  fine_replay t [] f = f
  fine_replay t (e ∷ es) f = fine_replay (after m t e.by e.cmd) es (fine_after t e.by e.cmd.cmd f)

  abbrev ends : Entries → Type 0
  ends rest = Unit {0}

  abbrev Performed : Type 0
  Performed = Act (Order (Cmd W N P)) (Reply (Said M I)) (Unit {0}) (Look (D × J))

  -- the feed that a Subscribe opened
  module _ (o : T) (history : Entries) (by : ℕ) (s : T) (fine : Fine s) (acts : List Performed) (pre rest : Entries) (next : ℕ) (whole : history ≡ pre ++ rest) where
    abbrev Opening : T → Option K → Said M I → Type 0
    Opening u kept x = WovenTo machine ends (cond (adds m x) u s) by next acts rest → cond (adds m x) u s ≡ replay machine o pre → FedSaid m o history kept (cond (adds m x) u s).stamp x acts

    abbrev opened : K → T
    opened k = one_more m (record s { feeds = s.feeds ++ new_feed m s by k ∷ [] })

    opening : (k : K) → Opening (opened k) (Some k) (said.Opened (suc s.place) (m.opening k s.docs))
    opening k w e sent unsent given_is n le h =
        let u : T = opened k in
        let later : (c : ℕ) → u.stamp ≤ c → docs_at m o history c ≡ docs_at m u rest c =
        λ c g. ap (λ z. docs_at m o z c) whole ∙ docs_later m o pre rest c (subst (λ z. z.stamp ≤ c) e g) ∙ ap (λ z. docs_at m z rest c) (sym e) in
        let here : docs_at m o history u.stamp ≡ u.docs = later u.stamp (omega arith) ∙ ap (λ z. changed m u.docs (take z (changes_from m u rest))) (let z : u.stamp - u.stamp ≡ 0 = omega arith in z) in
        ap (λ z. fold m k (m.value k z) (bare m (upto n sent))) here
        ∙ fed_from m good may l ends by next k u (new_feed m s by k) acts rest sent unsent fine.docs (find_new by s.feeds (new_feed m s by k) s.place fine.low refl refl) refl refl w given_is n le h
        ∙ ap (λ z. m.value k z) (sym (later n le))

    nothing_opened : (u : T) (k : K) (x : Said M I) → FedSaid m o history (Some k) (cond (adds m x) u s).stamp x acts → Opening u (Some k) x
    nothing_opened u k x t w e = t

    full_or : (u : T) (k : K) (x : Said M I) → Opening u (Some k) x → Opening u (Some k) (if_room m u x)
    full_or u k x h = split (adds m x && is_past m u) (λ b. Opening u (Some k) (cond b (said.HistoryFull (2 ^ 64 - 1)) x)) (λ _ w e. tt) (λ _. h)

    subscribed : (kept : Option K) → Opening (one_more m (opened_in m s by kept)) kept (if_room m (one_more m (opened_in m s by kept)) (unless_shut m s (opens m s kept)))
    subscribed None = λ w e. tt
    subscribed (Some k) =
        split (nat_lt (length s.feeds) m.most)
        (λ b. Opening (one_more m (cond b (record s { feeds = s.feeds ++ new_feed m s by k ∷ [] }) s)) (Some k) (if_room m (one_more m (cond b (record s { feeds = s.feeds ++ new_feed m s by k ∷ [] }) s)) (unless_shut m s (cond b (said.Opened (suc s.place) (m.opening k s.docs)) (said.FeedsFull m.most)))))
        (λ _. full_or (opened k) k _ (split s.shut (λ b. Opening (opened k) (Some k) (cond b said.Gone (said.Opened (suc s.place) (m.opening k s.docs)))) (λ _ w e. tt) (λ _. opening k)))
        (λ _. full_or (one_more m s) k _ (split s.shut (λ b. Opening (one_more m s) (Some k) (cond b said.Gone (said.FeedsFull m.most))) (λ _ w e. tt) (λ _ w e. tt)))

    fed_cmd : (place : ℕ) (cmd : Cmd W N P) → replay machine o (take place history) ≡ s → WovenTo machine ends (after_cmd m s by cmd) by next acts rest → after_cmd m s by cmd ≡ replay machine o pre → FedCmd m o history place cmd (reply_to_cmd m s by cmd) acts
    fed_cmd place (cmds.Write w) at v e = tt
    fed_cmd place (cmds.Index w) at v e = tt
    fed_cmd place (cmds.Subscribe p) at v e = subst (λ z. FedSaid m o history (m.keep z.indexes p) (reply_to_cmd m s by (cmds.Subscribe p)).stamp (reply_to_cmd m s by (cmds.Subscribe p)).said acts) (sym at) (subscribed (m.keep s.indexes p) v e)
    fed_cmd place (cmds.Take feed max) at v e = tt
    fed_cmd place (cmds.Unsubscribe feed) at v e = tt
    fed_cmd place cmds.Shut at v e = tt
    fed_cmd place cmds.Sync at v e = tt

  all_fed_from : (o : T) (history : Entries) (by : ℕ) → Fine o → (acts : List Performed) (pre rest : Entries) (t : T) (at : ℕ) → history ≡ pre ++ rest → at ≡ length pre → t ≡ replay machine o pre → WovenTo machine ends t by at acts rest → AllFed m o history acts
  all_fed_from o history by f [] pre rest t at e n s w = tt
  all_fed_from o history by f (Looked p q x ∷ acts) pre rest t at e n s w =
      all_fed_from o history by f acts (pre ++ (w.0 ++ [])) w.1 (replay machine t (w.0 ++ [])) (at + length (w.0 ++ [])) (e ∙ ap (λ z. pre ++ z) w.2 ∙ sym (append_assoc pre (w.0 ++ []) w.1)) (omega (arith, n, length-append pre (w.0 ++ [])))
      (ap (λ z. replay machine z (w.0 ++ [])) s ∙ sym (replay_append machine o pre (w.0 ++ []))) w.6
  all_fed_from o history by f (Denied p ∷ acts) pre rest t at e n s w =
      all_fed_from o history by f acts (pre ++ (w.0 ++ [])) w.1 (replay machine t (w.0 ++ [])) (at + length (w.0 ++ [])) (e ∙ ap (λ z. pre ++ z) w.2 ∙ sym (append_assoc pre (w.0 ++ []) w.1)) (omega (arith, n, length-append pre (w.0 ++ [])))
      (ap (λ z. replay machine z (w.0 ++ [])) s ∙ sym (replay_append machine o pre (w.0 ++ []))) w.6
  all_fed_from o history by f (Ran p order reply ∷ acts) pre rest t at e n s w =
      let all : List (Recorded (Order (Cmd W N P))) = w.0 ++ entries_of machine by (Ran p order reply) in
      let a : After m ends by t at p acts rest order.cmd reply = ran m ends by t at p order reply acts rest w in
      let s1 : T = replay machine t a.others in
      let back : s1 ≡ replay machine o (pre ++ a.others) = ap (λ z. replay machine z a.others) s ∙ sym (replay_append machine o pre a.others) in
      let front : history ≡ (pre ++ a.others) ++ (a.entry ++ a.rest) =
      e ∙ ap (λ z. pre ++ z) (a.shape ∙ append_assoc a.others a.entry a.rest) ∙ sym (append_assoc pre a.others (a.entry ++ a.rest)) in
      let long : p ≡ length (pre ++ a.others) = omega (arith, a.stands, n, length-append pre a.others) in
      let found : take p history ≡ pre ++ a.others = (λ i. take (long i) (front i)) ∙ take-append_seam (pre ++ a.others) (a.entry ++ a.rest) in
      let pre3 : Entries = pre ++ (a.others ++ a.entry) in
      let whole : history ≡ pre3 ++ a.rest = e ∙ ap (λ z. pre ++ z) a.shape ∙ sym (append_assoc pre (a.others ++ a.entry) a.rest) in
      let leads : after_cmd m s1 by order.cmd ≡ replay machine o pre3 = sym a.leads ∙ ap (λ z. replay machine z a.entry) back ∙ sym (replay_append machine o (pre ++ a.others) a.entry) ∙ ap (λ z. replay machine o z) (append_assoc pre a.others a.entry) in (
        subst (λ z. FedCmd m o history p order.cmd z acts) (sym a.answered)
            (fed_cmd o history by s1 (subst Fine (sym back) (fine_replay o (pre ++ a.others) f)) acts pre3 a.rest a.place whole p order.cmd (ap (λ z. replay machine o z) found ∙ sym back) a.woven leads),
        all_fed_from o history by f acts (pre ++ all) w.1 (replay machine t all) (at + length all) (e ∙ ap (λ z. pre ++ z) w.2 ∙ sym (append_assoc pre all w.1)) (omega (arith, n, length-append pre all))
            (ap (λ z. replay machine z all) s ∙ sym (replay_append machine o pre all)) w.6,
      )

  -- A user's acts along a part of a history: each of its feeds folds to its query.
  pub all_fed : (o : T) (before during after : Entries) (by : ℕ) (acts : List Performed) → good o.docs → o.feeds ≡ [] → Woven machine (replay machine o before) by (length before) acts during → AllFed m o (before ++ (during ++ after)) acts
  all_fed o before during later by acts g none w =
      all_fed_from o (before ++ (during ++ later)) by (record { docs = g; low = subst (λ z. Low o.place z) (sym none) tt }) acts before (during ++ later) (replay machine o before) (length before) refl refl refl
      (woven_longer machine (replay machine o before) by (length before) acts during later w)
