use Rattle.std.proofs.Common.{◌≡◌, Some, IfOk, not, length, drop, [], true≢false, is_some, sym, ap, subst, ◌∙◌}
use Rattle.reql_answer.specs.declared.error.ErrorType.TheVariants as errors
use Rattle.reql_session_spec.specs.Requests.{Arm, Failed, stamped}
use Rattle.reql_session_spec.specs.Books.{Open}
use Rattle.reql_session_spec.specs.Bodies.{body}
use Rattle.reql_session_spec.specs.Tasks.{fitted, others}
use Rattle.reql_session_api.specs.Meant.{arm_of, arms_of}
use Rattle.reql_desk_moves.specs.Steps.{put_points}
use Rattle.reql_open_cursors.specs.Kept.{books_of}
use Rattle.reql_open_cursors.proofs.Places.{same_some}
use Rattle.reql_session.specs.Batches.{is_none_of}
use Rattle.reql_session.specs.Settling.{working}
use Rattle.reql_session.proofs.Tokens.{feed_token, found_is}
use Rattle.reql_session.proofs.Given.{gone_others, gone_alone, has_more}
use Rattle.reql_session.proofs.gone.told_gone.Goals as goal

pub returns-in_default-arm_at-clause-told : goal.returns-in_default-arm_at-clause-told
returns-in_default-arm_at-clause-told g c = λ k clock dice f arm arms l found d.
    let own : arms_of c.in-Some.feed.now.arms.items ≡ f.arms = ap (λ (x : Open). x.arms) (found_is c.args.token (books_of c.args.shelf.now).feeds c.in-Some.feed.now f c.in-Some.ensures found) in
    absurd (true≢false (sym (ap is_some (c.in_default-arm_at.ensures arm arms (ap (drop c.args.at) (ap arms_of c.as_slice.ensures.value ∙ own) ∙ d)))))

pub returns-then-has_others-clause-told : goal.returns-then-has_others-clause-told
returns-then-has_others-clause-told g c = λ k clock dice f arm arms l found d.
    let own : arms_of c.in-Some.feed.now.arms.items ≡ f.arms = ap (λ (x : Open). x.arms) (found_is c.args.token (books_of c.args.shelf.now).feeds c.in-Some.feed.now f c.in-Some.ensures found) in
    let same : arm_of c.in-Some-arm_at.arm.now ≡ arm = same_some (arm_of c.in-Some-arm_at.arm.now) arm (c.in-Some-arm_at.ensures arm arms (ap (drop c.args.at) (ap arms_of c.as_slice.ensures.value ∙ own) ∙ d)) in
    let has : c.has_others.result ≡ not (is_none_of (others arm f.arms)) = c.has_others.ensures arm (sym (ap (λ (x : Arm). x.slot) same)) (sym (ap (λ (x : Arm). x.feed) same)) ∙ ap (λ z. not (is_none_of (others arm z))) (ap arms_of c.as_slice-2.ensures.value ∙ own) in
    gone_others k _ _ (working g.C.Engine.some_state c.args.desk.now (books_of c.args.shelf.now) clock dice) (working g.C.Engine.some_state c.told_gone_of_others.new.desk (books_of c.told_gone_of_others.new.shelf) clock dice)
    (books_of c.args.shelf.now) c.args.token f arm (put_points [] c.args.points.now) (others arm f.arms) c.has_others.result c.told_gone_of_others.result (feed_token c.args.token (books_of c.args.shelf.now).feeds f found) has c.if-has_others.true
    (c.told_gone_of_others.ensures.told k clock dice f (fitted k (Failed errors.OpFailed arm.dropped (Some (stamped c.args.shelf.now.names (put_points [] c.args.points.now))))) arm found
    (subst (λ (z : Arm). IfOk c.write_failed-written.result (λ b. b.items ≡ body (fitted k (Failed errors.OpFailed z.dropped (Some (stamped c.args.shelf.now.names (put_points [] c.args.points.now))))))) same (c.write_failed-written.ensures k l))
    (sym (ap (λ (x : Arm). x.slot) same)) (sym (ap (λ (x : Arm). x.feed) same)) (has_more (others arm f.arms) c.has_others.result has c.if-has_others.true))

pub returns-clause-keeps : goal.returns-clause-keeps
returns-clause-keeps g c = λ rest off keeps. c.told_gone_alone.ensures.keeps (length c.args.hall.now.slots) rest off keeps

pub returns-clause-told : goal.returns-clause-told
returns-clause-told g c = λ k clock dice f arm arms l found d.
    let own : arms_of c.in-Some.feed.now.arms.items ≡ f.arms = ap (λ (x : Open). x.arms) (found_is c.args.token (books_of c.args.shelf.now).feeds c.in-Some.feed.now f c.in-Some.ensures found) in
    let same : arm_of c.in-Some-arm_at.arm.now ≡ arm = same_some (arm_of c.in-Some-arm_at.arm.now) arm (c.in-Some-arm_at.ensures arm arms (ap (drop c.args.at) (ap arms_of c.as_slice.ensures.value ∙ own) ∙ d)) in
    let has : c.has_others.result ≡ not (is_none_of (others arm f.arms)) = c.has_others.ensures arm (sym (ap (λ (x : Arm). x.slot) same)) (sym (ap (λ (x : Arm). x.feed) same)) ∙ ap (λ z. not (is_none_of (others arm z))) (ap arms_of c.as_slice-2.ensures.value ∙ own) in
    gone_alone k _ _ (working g.C.Engine.some_state c.args.desk.now (books_of c.args.shelf.now) clock dice) (working g.C.Engine.some_state c.args.desk.now (books_of c.told_gone_alone.new.shelf) clock dice)
    (books_of c.args.shelf.now) c.args.token f arm (put_points [] c.args.points.now) (others arm f.arms) c.has_others.result c.told_gone_alone.result (feed_token c.args.token (books_of c.args.shelf.now).feeds f found) has c.if-has_others.false
    (c.told_gone_alone.ensures.told k (working g.C.Engine.some_state c.args.desk.now (books_of c.args.shelf.now) clock dice) (fitted k (Failed errors.OpFailed arm.dropped (Some (stamped c.args.shelf.now.names (put_points [] c.args.points.now)))))
    (subst (λ (z : Arm). IfOk c.write_failed-written.result (λ b. b.items ≡ body (fitted k (Failed errors.OpFailed z.dropped (Some (stamped c.args.shelf.now.names (put_points [] c.args.points.now))))))) same (c.write_failed-written.ensures k l)))
