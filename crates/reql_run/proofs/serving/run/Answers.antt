use Rattle.std.proofs.Common.{◌∙◌, ap, sym, map}
use Rattle.reql_words.specs.Words.{named, Stdio}
use Rattle.reql_run.proofs.Fed.{serves}
use Rattle.reql_run.proofs.serving.run.Goals as goal

pub returns-in-Ok-clause-served : goal.returns-in-Ok-clause-served
returns-in-Ok-clause-served g c =
    serves _ _ _ _ c.in-Stdio.key.now c.in-Stdio.password.now (map named c.as_slice.result.now) _ _ _ _ _ c.in-Ok.ended.hall c.sessions_hold.ensures.frames_handled c.sessions_hold.ensures.worn_late c.sessions_hold.ensures.valid_close c.sessions_hold.ensures.feeds_hold
    (c.in-Stdio.ensures ∙ ap (λ l. Stdio c.in-Stdio.key.now c.in-Stdio.password.now (map named l)) (sym c.as_slice.ensures.value)) c.status_of.ensures c.in-Ok.ensures.served
