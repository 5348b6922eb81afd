-- What a query asks, as the walk takes it apart.
use Rattle.std.proofs.Common.{◌≡◌, ℕ, Bool, true, false, if◌then◌else◌, nat_eq, Result, Ok, Err, refl, sym, ap, ◌∙◌}
use Rattle.serde_json.specs.Data.{Data, null, boolean, number, string, Items, no_items, item, Members}
use Rattle.serde_json.specs.Data as json
use Rattle.reql_datum.specs.Answer.{◌>>=◌}
use Rattle.reql_term.specs.Form.{Form}
use Rattle.reql_read.specs.Apart.{ended, started, started_by, asked_kind, asked_parts, asked_of, done}
use Rattle.reql_read.specs.Globals.{settings_of}
use Rattle.reql_read.specs.Query.{Asked, asked_by, query}
use Rattle.reql_read.specs.Query as asked
use Rattle.reql_read.specs.Reading.{read}
use Rattle.reql_read.specs.Shape.{number_in, items_in, shaped, shaped_start, shaped_kind, shaped_parts}
use Rattle.reql_read.specs.Shape as shape
use Rattle.reql_read.specs.Written.{Written}
use Rattle.reql_read.specs.declared.fault.ReadFault.{ReadFault}
use Rattle.reql_read.specs.declared.fault.ReadFault.TheVariants.{BadShape}
use Rattle.reql_read.specs.declared.globals.Settings.{Settings}
use Rattle.reql_read.proofs.Shapes.{ended_bad}
use Rattle.reql_read.proofs.Understood.{then_done, then_failed, not_done}

reassoc : {A B C : Type 0} (r : Result A ReadFault) (f : A → Result B ReadFault) (g : B → Result C ReadFault) → ((r >>= f) >>= g) ≡ (r >>= λ x. f x >>= g)
reassoc (Ok x) f g = refl
reassoc (Err e) f g = refl

bad : (d : Data) (r : Result Members ReadFault) → r ≡ Err BadShape → Err BadShape ≡ (r >>= λ opts. started d opts)
bad d r h = sym (then_failed r BadShape (λ opts. started d opts) h)

start_same : (ds : Items) → (shaped_start ds >>= asked_by) ≡ started_by ds
start_same no_items = refl
start_same (item d no_items) = reassoc (shaped d) _ asked_by
start_same (item d (item null ds)) = bad d (ended ds (Err BadShape)) (ended_bad ds)
start_same (item d (item (boolean b) ds)) = bad d (ended ds (Err BadShape)) (ended_bad ds)
start_same (item d (item (number n) ds)) = bad d (ended ds (Err BadShape)) (ended_bad ds)
start_same (item d (item (string s) ds)) = bad d (ended ds (Err BadShape)) (ended_bad ds)
start_same (item d (item (json.array es) ds)) = bad d (ended ds (Err BadShape)) (ended_bad ds)
start_same (item d (item (json.object ms) no_items)) = reassoc (shaped d) _ asked_by
start_same (item d (item (json.object ms) (item e ds))) = refl

on_if : (b : Bool) (x y : Result shape.Query ReadFault) → ((if b then x else y) >>= asked_by) ≡ (if b then (x >>= asked_by) else (y >>= asked_by))
on_if true x y = refl
on_if false x y = refl

kind_same : (n : ℕ) (ds : Items) → (shaped_kind n ds >>= asked_by) ≡ asked_kind n ds
kind_same n ds =
    on_if (nat_eq n 1) _ _ ∙ ap (λ x. if nat_eq n 1 then (shaped_start ds >>= asked_by) else x) (on_if (nat_eq n 2) _ _
    ∙ ap (λ x. if nat_eq n 2 then Ok asked.continued else x) (on_if (nat_eq n 3) _ _
    ∙ ap (λ x. if nat_eq n 3 then Ok asked.stop else x) (on_if (nat_eq n 4) _ _
    ∙ ap (λ x. if nat_eq n 4 then Ok asked.noreply_wait else x) (on_if (nat_eq n 5) _ _))))
    ∙ ap (λ x. if nat_eq n 1 then x else (if nat_eq n 2 then Ok asked.continued else (if nat_eq n 3 then Ok asked.stop else (if nat_eq n 4 then Ok asked.noreply_wait else (if nat_eq n 5 then Ok asked.server_info else Err BadShape))))) (start_same ds)

each : {A B : Type 0} (r : Result A ReadFault) (f g : A → Result B ReadFault) → ((x : A) → f x ≡ g x) → (r >>= f) ≡ (r >>= g)
each (Ok x) f g same = same x
each (Err e) f g same = refl

parts_same : (ds : Items) → (shaped_parts ds >>= asked_by) ≡ asked_parts ds
parts_same no_items = refl
parts_same (item n ds) = reassoc (number_in n) _ asked_by ∙ each (number_in n) (λ k. shaped_kind k ds >>= asked_by) (λ k. asked_kind k ds) (λ k. kind_same k ds)

pub query_same : (d : Data) → query d ≡ asked_of d
query_same d = reassoc (items_in d) shaped_parts asked_by ∙ each (items_in d) (λ ds. shaped_parts ds >>= asked_by) asked_parts parts_same

-- ---- a START, step by step

pub shape_fails : (d : Data) (opts : Members) (e : ReadFault) → done (shaped d) ≡ Err e → started d opts ≡ Err e
shape_fails d opts e h = then_failed (shaped d) e _ (not_done (shaped d) e h)

pub term_fails : (d : Data) (opts : Members) (w : Written) (e : ReadFault) → shaped d ≡ Ok w → read w ≡ Err e → started d opts ≡ Err e
term_fails d opts w e is h = then_done (shaped d) w _ is ∙ then_failed (read w) e _ h

pub settings_fail : (d : Data) (opts : Members) (w : Written) (f : Form) (e : ReadFault) → shaped d ≡ Ok w → read w ≡ Ok f → settings_of opts ≡ Err e → started d opts ≡ Err e
settings_fail d opts w f e is reads h = then_done (shaped d) w _ is ∙ then_done (read w) f _ reads ∙ then_failed (settings_of opts) e _ h

pub start_read : (d : Data) (opts : Members) (w : Written) (f : Form) (s : Settings) → shaped d ≡ Ok w → read w ≡ Ok f → settings_of opts ≡ Ok s → started d opts ≡ Ok (asked.start f s)
start_read d opts w f s is reads h = then_done (shaped d) w _ is ∙ then_done (read w) f _ reads ∙ then_done (settings_of opts) s _ h
