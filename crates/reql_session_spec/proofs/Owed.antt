-- What was not sent of what a feed's Takes gave is what is kept.
use Rattle.std.proofs.Common.{◌≡◌, ◌⊎◌, inl, inr, ℕ, Bool, true, false, true≢false, cond, ◌||◌, List, [], ◌∷◌, ◌++◌, Some, refl, sym, ap, subst, ◌∙◌, append_assoc, append-nil}
use Rattle.std.specs.List.{AllByRecursion}
use Rattle.std.specs.Prelude.{is_some}
use Rattle.reql_datum.specs.Plain.{Plain}
use Rattle.reql_shared.specs.Acts.{Ran}
use Rattle.reql_table_machine_spec.specs.Fed.{takings}
use Rattle.reql_table_machine_spec.proofs.Items.{all_left}
use Rattle.reql_session_spec.specs.Requests.{Arm, Found}
use Rattle.reql_session_spec.specs.Books.{Open, Books, has_token, feed_of}
use Rattle.reql_session_spec.specs.Tasks.{Talk, Task, Planning, Visiting, Telling, Closing}
use Rattle.reql_session_spec.specs.Minding.{PlansMind}
use Rattle.reql_session_spec.specs.Session.{Event, On, Doing, Rest, Visits, Busy, Leaving, Mach, fresh, Run}
use Rattle.reql_session_spec.specs.Explained.{DeskShare, DeskSeen, Life, told_in, told_by, all_told, all_taken}
use Rattle.reql_session_spec.specs.Laws.{Opens}
use Rattle.reql_session_spec.specs.Owed.{task_keeps, keeps, task_tells, telling, IsHere, IsAtRest, NothingKeptBack, AllIsSent}
use Rattle.reql_session_spec.specs.Printed.{left_of, saying, IsOpenAt}
use Rattle.reql_session_spec.proofs.Shelves.{has, of, which_feed}
use Rattle.reql_session_spec.proofs.Tellings.{F, OkTask, planning_fine, visiting_fine}
use Rattle.reql_session_spec.proofs.Fronts.{OkDoing, OkM, NotOpens, known_on, new_in, step_ok, dead, takings_step, opens, parts}
use Rattle.reql_session_spec.proofs.Feeding.{no_others}
use Rattle.reql_session_spec.proofs.Printed.{all_is_said}

module _ {PL : Type 0} (k : Talk PL) (on : PL → Bool → ℕ → List Found → List Arm → Type 0) (σ φ : ℕ) where
  -- a feed that has the arm is the one of which this is left
  module _ (c : Bool) where
    found_left : (b : Books) (p : List (ℕ × Plain)) (f : Open) → feed_of f.token b.feeds ≡ Some f → has σ φ f.arms ≡ true → F k on σ φ true c b p → (c ≡ true) × (of σ φ true f.left ≡ p)
    found_left b p f e h fine = elim (which_feed σ φ true c f.token b.feeds p f e fine) [
      | inl clean ↦ absurd (true≢false (sym h ∙ clean.1.arms))
      | inr live ↦ elim live.2 [
        | inl same ↦ (live.0, sym (live.1.left ∙ ap (λ (z : Open). of σ φ true z.left) same))
        | inr other ↦ absurd (true≢false (sym h ∙ other.0.arms))
      ]
    ]

    task_left : (b : Books) (t : Task PL) (p : List (ℕ × Plain)) (f : Open) → feed_of f.token (task_keeps b t).feeds ≡ Some f → has σ φ f.arms ≡ true → OkTask k on σ φ true c b t p → (c ≡ true) × (task_tells σ φ t ++ of σ φ true f.left ≡ p)
    task_left b (Planning token plan noreply count found arms) p f e h o = found_left b p f e h (planning_fine k on σ φ true c b token plan noreply count found arms p o)
    task_left b (Visiting token arms points) p f e h o = found_left b p f e h (visiting_fine k on σ φ true c b token arms points p o)
    task_left b (Telling token a kept lose after) p f e h o = let q = found_left kept o.rest f e h o.next in (q.0, ap (λ z. told_in σ φ true a ++ z) q.1 ∙ sym o.said)
    task_left b (Closing token arms firm a) p f e h o = found_left b p f e h o.0

    doing_left : (b : Books) (d : Doing PL) (p : List (ℕ × Plain)) (f : Open) → IsHere d → feed_of f.token (keeps b d).feeds ≡ Some f → has σ φ f.arms ≡ true → OkDoing k on σ φ true c b d p → (c ≡ true) × (telling σ φ d ++ of σ φ true f.left ≡ p)
    doing_left b Rest p f here e h o = found_left b p f e h o
    doing_left b (Visits left) p f here e h o = found_left b p f e h o
    doing_left b (Busy back t) p f here e h o = task_left b t p f e h o
    doing_left b (Leaving arms end) p f here e h o = absurd here

  module _ (well : PlansMind k on) where
    -- where one feed has the arm, or no longer any
    live_to : (m n : Mach PL) (es : List Event) (p : List (ℕ × Plain)) → Run k m es n → AllByRecursion (NotOpens k on σ φ true) es → OkM k on σ φ true true m p →
        ((q : List (ℕ × Plain)) × (all_told σ φ true es ++ q ≡ p ++ all_taken true (takings φ (known_on σ es))) × OkM k on σ φ true true n q) ⊎ OkM k on σ φ true false n []
    live_to m n [] p r h o = inl (p, sym (append-nil p), subst (λ z. OkM k on σ φ true true z p) (sym r) o)
    live_to m n (e ∷ es) p r h o =
        let later : List (ℕ × Plain) = all_taken true (takings φ (known_on σ es)) in
        elim (step_ok k on σ φ true well true m r.0 e p o r.1 h.0) [
          | inl x ↦ elim (live_to r.0 n es x.0 r.2 h.1 x.2) [
            | inl q ↦ inl (
              q.0,
              append_assoc (told_by σ φ true e) (all_told σ φ true es) q.0 ∙ ap (λ z. told_by σ φ true e ++ z) q.1 ∙ sym (append_assoc (told_by σ φ true e) x.0 later) ∙ ap (λ z. z ++ later) (sym x.1)
                  ∙ append_assoc p (new_in k on σ φ true e) later ∙ ap (λ z. p ++ z) (sym (takings_step k on σ φ true well e es ∙ ap (λ b. cond b [] (new_in k on σ φ true e ++ later)) x.3)),
              q.2,
            )
            | inr q ↦ inr q
          ]
          | inr x ↦ inr (dead k on σ φ true well r.0 n es r.2 h.1 x.2).0
        ]

    -- at a point of a session that opened the feed
    keeps_all : (seen : DeskSeen) (share : DeskShare) (life : Life) (stamp : ℕ) (after : List Event) (o : Opens k seen share life σ φ stamp after) (es more : List Event) (m : Mach PL) → after ≡ es ++ more
        → Run k fresh (o.before ++ On σ (Ran o.place o.order o.reply) o.kept ∷ es) m → (f : Open) → IsHere m.doing → feed_of f.token (keeps m.books m.doing).feeds ≡ Some f → has σ φ f.arms ≡ true
        → all_told σ φ true es ++ (telling σ φ m.doing ++ of σ φ true f.left) ≡ all_taken true (takings φ (known_on σ es))
    keeps_all seen share life stamp after o es more m e run f here its has_it =
        let others = no_others k on well σ φ seen share life stamp after o true in
        let behind : AllByRecursion (NotOpens k on σ φ true) es = all_left (NotOpens k on σ φ true) es more (subst (AllByRecursion (NotOpens k on σ φ true)) e others.1) in
        let q = parts k on σ φ true well fresh m o.before (On σ (Ran o.place o.order o.reply) o.kept ∷ es) run in
        let d = dead k on σ φ true well fresh q.0 o.before q.1 others.0 (inl tt) in
        let live = opens k on σ φ true well q.0 q.2.0 o.place o.order o.reply o.kept o.spec o.opening o.asks o.says q.2.1 d.0 in
        elim (live_to q.2.0 m es [] q.2.2 behind live) [
          | inl x ↦ ap (λ z. all_told σ φ true es ++ z) (doing_left true m.books m.doing x.0 f here its has_it x.2).1 ∙ x.1
          | inr x ↦ absurd (true≢false (sym (doing_left false m.books m.doing [] f here its has_it x).0))
        ]

    -- where its token waits
    sent_all : (seen : DeskSeen) (share : DeskShare) (life : Life) (stamp : ℕ) (after : List Event) (o : Opens k seen share life σ φ stamp after) (es more : List Event) (m : Mach PL) → after ≡ es ++ more
        → Run k fresh (o.before ++ On σ (Ran o.place o.order o.reply) o.kept ∷ es) m → (f : Open) → (d : Doing PL) → m.doing ≡ d → IsHere d → keeps m.books d ≡ m.books → telling σ φ d ≡ [] → saying f.token d ≡ []
        → feed_of f.token m.books.feeds ≡ Some f → has σ φ f.arms ≡ true → has_token f.token m.books.waiting ≡ true → all_told σ φ true es ≡ all_taken true (takings φ (known_on σ es))
    sent_all seen share life stamp after o es more m e run f d at here same none quiet its has_it waits =
        let stands : IsHere m.doing = subst IsHere (sym at) here in
        let kept : keeps m.books m.doing ≡ m.books = ap (keeps m.books) at ∙ same in
        let found : feed_of f.token (keeps m.books m.doing).feeds ≡ Some f = ap (λ (z : Books). feed_of f.token z.feeds) kept ∙ its in
        let open_at : IsOpenAt f.token m = (stands, ap (λ z. is_some z || is_some (feed_of f.token (keeps m.books m.doing).feeds)) its) in
        let due_is : saying f.token m.doing ++ left_of (feed_of f.token (keeps m.books m.doing).feeds) ≡ [] = all_is_said k on well (o.before ++ On σ (Ran o.place o.order o.reply) o.kept ∷ es) m run f.token waits open_at in
        let left : f.left ≡ [] = (λ i. (sym quiet ∙ ap (saying f.token) (sym at)) i ++ left_of (sym found i)) ∙ due_is in
        sym (append-nil (all_told σ φ true es)) ∙ (λ i. all_told σ φ true es ++ ((sym none ∙ ap (telling σ φ) (sym at)) i ++ of σ φ true (sym left i))) ∙ keeps_all seen share life stamp after o es more m e run f stands found has_it

module _ {PL : Type 0} (k : Talk PL) (on : PL → Bool → ℕ → List Found → List Arm → Type 0) (well : PlansMind k on) where
  pub nothing_kept_back : NothingKeptBack k
  nothing_kept_back seen share life none slot feed stamp after o es more m e run f here its has_it = keeps_all k on slot feed well seen share life stamp after o es more m e run f here its has_it

  pub all_is_sent : AllIsSent k
  all_is_sent seen share life none slot feed stamp after o es more m e run f rest its has_it waits = by_doing m.doing refl rest
    where
      by_doing : (d : Doing PL) → m.doing ≡ d → IsAtRest d → all_told slot feed true es ≡ all_taken true (takings feed (known_on slot es))
      by_doing Rest at r = sent_all k on slot feed well seen share life stamp after o es more m e run f Rest at tt refl refl refl its has_it waits
      by_doing (Visits left) at r = sent_all k on slot feed well seen share life stamp after o es more m e run f (Visits left) at tt refl refl refl its has_it waits
      by_doing (Busy back task) at r = absurd r
      by_doing (Leaving arms end) at r = absurd r
