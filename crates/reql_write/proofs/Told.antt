-- The text of a fault is that of what a definition answers.
use Rattle.std.proofs.Common.{◌≡◌, refl, ap, sym, ◌∙◌, List, [], ◌∷◌, Option, None, Err}
use Rattle.reql_datum.specs.Answer.{Answer, Reason}
use Rattle.reql_datum.specs.Outcome.{Fails}
use Rattle.reql_datum.specs.Plain.{Plain}
use Rattle.reql_datum.specs.declared.fault.Fault.{Fault}
use Rattle.reql_datum.specs.declared.fault.Fault.TheVariants.{QueryLogic, NonExistence, ResourceLimit, OpFailed, User, Empty, Memory}
use Rattle.reql_datum.specs.Order.{order}
use Rattle.reql_memory.specs.Sorted.{find_by}
use Rattle.reql_term.specs.Views.{Document}
use Rattle.reql_rules.specs.Lists.{Bytes}
use Rattle.reql_write_spec.specs.declared.command.Conflict.{Conflict}
use Rattle.reql_write_spec.specs.Treated.{Treated, inserted, replaced, deleted, unchanged, skipped, failed, text_of}
use Rattle.reql_write_spec.specs.Treating.{or_failed, by_key, key_of, met, inserting}
use Rattle.reql_write_spec.specs.Write.{summed, summary_of, all_changes}
use Rattle.reql_write_spec.specs.declared.command.Returns.{Returns}
use Rattle.reql_write.specs.Told.{Tells, Falls}

-- what is made of an answer is made of its fault
by_text : {A B : Type 0} (f : Answer A → B) (g : Bytes → B) → ((e : Reason) → f (Err e) ≡ g (text_of e)) → (fault : Fault) (why : Bytes) (a : Answer A) → Tells fault why → Fails fault a → f a ≡ g why
by_text f g is (QueryLogic s) why a t h = rw (t, h) (is _)
by_text f g is (NonExistence s) why a t h = rw (t, h) (is _)
by_text f g is (ResourceLimit s) why a t h = rw (t, h) (is _)
by_text f g is (OpFailed s) why a t h = rw (t, h) (is _)
by_text f g is (User s) why a t h = rw (t, h) (is _)
by_text f g is Empty why a t h = rw (t, h) (is _)
by_text f g is Memory why a t h = absurd t

pub told_fails : (fault : Fault) (old : Option Plain) (t : Treated) (a : Answer Treated) → Falls fault old t → Fails fault a → t ≡ or_failed old a
told_fails fault old (failed why stays) a t h = ap (failed why) t.1 ∙ sym (by_text (or_failed old) (λ s. failed s old) (λ e. refl) fault why a t.0 h)
told_fails fault old (inserted key new) a t h = absurd t
told_fails fault old (replaced key o new) a t h = absurd t
told_fails fault old (deleted key o) a t h = absurd t
told_fails fault old (unchanged d) a t h = absurd t
told_fails fault old skipped a t h = absurd t

told_key : (f : Plain → Treated) (fault : Fault) (t : Treated) (a : Answer Plain) → Falls fault None t → Fails fault a → t ≡ by_key f a
told_key f fault (failed why stays) a t h = ap (failed why) t.1 ∙ sym (by_text (by_key f) (λ s. failed s None) (λ e. refl) fault why a t.0 h)
told_key f fault (inserted key new) a t h = absurd t
told_key f fault (replaced key o new) a t h = absurd t
told_key f fault (deleted key o) a t h = absurd t
told_key f fault (unchanged d) a t h = absurd t
told_key f fault skipped a t h = absurd t

pub told_insert : (field : Bytes) (c : Conflict) (docs : List Document) (doc : Plain) (fault : Fault) (t : Treated) → Falls fault None t → Fails fault (key_of field doc) → t ≡ inserting field c docs doc
told_insert field c docs doc fault t falls h = told_key (λ key. met field c doc key (find_by order key docs)) fault t (key_of field doc) falls h

pub told_summary : (r : Returns) (made : List Plain) (fault : Fault) (why : Bytes) (a : Answer (List Treated)) → Tells fault why → Fails fault a → summed r made (why ∷ []) [] ≡ summary_of r made a
told_summary r made fault why a t h = sym (by_text (summary_of r made) (λ s. summed r made (s ∷ []) []) (λ e. refl) fault why a t h)

pub told_changes : (fault : Fault) (why : Bytes) (a : Answer (List Treated)) → Tells fault why → Fails fault a → [] ≡ all_changes a
told_changes fault why a t h = sym (by_text all_changes (λ s. []) (λ e. refl) fault why a t h)
