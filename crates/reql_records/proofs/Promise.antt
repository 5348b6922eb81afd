-- Crash safety of a run of calls.
use Rattle.std.proofs.Common.{◌≡◌, ℕ, List, [], ◌∷◌, ◌++◌, map, Option, Some, None, Ok, Err, Bool, true, false, refl, sym, ap, ◌∙◌, subst, append_assoc, append-nil}
use Rattle.reql_disk.specs.Disk.{Past, Leaves}
use Rattle.reql_disk.proofs.Crashes.{leaves_more}
use Rattle.reql_blocks.specs.Held.{Held, Rests}
use Rattle.reql_blocks.proofs.Once.{stands_once}
use Rattle.reql_records.specs.Bodies.{Text, Stands, body_of}
use Rattle.reql_records.proofs.Flushing.{keeps_may}
use Rattle.reql_records.specs.Books.{Journal, Books, staged_of, sure, loose, BlocksKeep, MayStand}
use Rattle.reql_records.specs.Safe.{Answer, IsSure, with_texts, Saves, Between, Trusts, Did, acknowledges, OpenedIsTrusted, RunsAreSafe, JustTheseAreRead}

-- all that there is once a call's records wait
all_with : (b : Books) (texts kept : List Text) → sure b ++ loose b ≡ kept → sure b ++ loose (with_texts b texts) ≡ kept ++ texts
all_with b texts kept all =
    ap (λ l. sure b ++ l) (sym (append_assoc (staged_of b.staged) b.waiting texts)) ∙ sym (append_assoc (sure b) (loose b) texts) ∙ ap (λ l. l ++ texts) all

between : (opened : List (List ℕ)) (acknowledged kept : List Text) (b : Books) (more : List Text) → b.opened ≡ opened → sure b ++ loose b ≡ kept → sure b ≡ acknowledged ++ more → (image : List ℕ) → MayStand b image → Between opened acknowledged kept image
between opened acknowledged kept b more same all first image m = record {
  further = more ++ m.front;
  lost = m.back;
  split = sym all ∙ ap (λ l. sure b ++ l) m.split ∙ ap (λ l. l ++ (m.front ++ m.back)) first
      ∙ append_assoc acknowledged more (m.front ++ m.back) ∙ ap (λ l. acknowledged ++ l) (sym (append_assoc more m.front m.back));
  stands = subst (λ o. Stands o (acknowledged ++ (more ++ m.front)) image) same
      (subst (λ l. Stands b.opened l image) (ap (λ l. l ++ m.front) first ∙ append_assoc acknowledged more m.front) m.stands);
}

-- after a call the journal is trusted to keep its records, and those that are then acknowledged
acked : (acknowledged kept texts : List Text) (waits : Bool) (answer : Answer) (b after : Books) (more further : List Text) → sure b ≡ acknowledged ++ more → sure after ≡ sure b ++ further → sure after ++ loose after ≡ kept ++ texts →
    IsSure waits answer after → (rest : List Text) × (sure after ≡ acknowledges waits answer acknowledged (kept ++ texts) ++ rest)
acked acknowledged kept texts true (Ok done) b after more further first grew all none =
    ([], sym (append-nil (sure after)) ∙ ap (λ l. sure after ++ l) (sym none) ∙ all ∙ sym (append-nil (kept ++ texts)))
acked acknowledged kept texts true (Err why) b after more further first grew all none = (more ++ further, grew ∙ ap (λ l. l ++ further) first ∙ append_assoc acknowledged more further)
acked acknowledged kept texts false answer b after more further first grew all none = (more ++ further, grew ∙ ap (λ l. l ++ further) first ∙ append_assoc acknowledged more further)

-- the past of which the books are true is that which the disk tells
told_at : (opened : List (List ℕ)) (groups : List (List Text)) (staged : Option (List Text)) (past : Past) (held : Held) → BlocksKeep opened groups staged past held → held.told.past ≡ Some past
told_at opened groups None past held k = k.told
told_at opened groups (Some texts) past held k = k.told

-- One call of a journal that is trusted.
pub record Step (opened : List (List ℕ)) (acknowledged kept : List Text) (d : Did) (past : Past) : Type 0 where
  pub now : Past
  pub told : d.after.held.told.past ≡ Some now
  pub leaves : Leaves (Between opened acknowledged (kept ++ d.texts)) past now
  pub trusts : Trusts opened (acknowledges d.waits d.answer acknowledged (kept ++ d.texts)) (kept ++ d.texts) now d.after

pub one_call : (opened : List (List ℕ)) (acknowledged kept : List Text) (d : Did) (past : Past) (old : Journal) → Trusts opened acknowledged kept past old → Saves d.texts d.waits old d.after d.answer → Step opened acknowledged kept d past
one_call opened acknowledged kept d past old t saves =
    let a = saves t.books past t.keeps in
    let all = a.none_lost ∙ all_with t.books d.texts kept t.all in
    let (rest, first) = acked acknowledged kept d.texts d.waits d.answer t.books a.after t.more a.further t.first a.still_sure all a.done in
    record {
      now = a.new;
      told = told_at a.after.opened a.after.groups a.after.staged a.new d.after.held a.keeps.blocks;
      leaves = leaves_more (MayStand (with_texts t.books d.texts)) (Between opened acknowledged (kept ++ d.texts)) past a.new (between opened acknowledged (kept ++ d.texts) (with_texts t.books d.texts) t.more t.same (all_with t.books d.texts kept t.all) t.first) a.leaves;
      trusts = record { books = a.after; keeps = a.keeps; same = a.same ∙ t.same; all = all; more = rest; first = first };
    }

-- The promise: a run of calls of a journal that is trusted is safe at every moment.
pub crash_safe : RunsAreSafe
crash_safe opened acknowledged kept past old [] t ran = λ image left. between opened acknowledged kept t.books t.more t.same t.all t.first image (keeps_may t.books past old t.keeps image left)
crash_safe opened acknowledged kept past old (d ∷ ds) t (saves, ran) =
    let s = one_call opened acknowledged kept d past old t saves in
    (s.now, s.told, s.leaves, crash_safe opened (acknowledges d.waits d.answer acknowledged (kept ++ d.texts)) (kept ++ d.texts) s.now d.after ds s.trusts ran)

-- A file that was opened, with whatever bodies, is trusted, and nothing was kept since.
pub opened_trusts : OpenedIsTrusted
opened_trusts bodies past j rests none = record {
  books = record { opened = bodies; groups = []; staged = None; waiting = [] };
  keeps = record { blocks = subst (λ l. Rests l past j.held) (sym (append-nil bodies)) rests; waiting = none };
  same = refl;
  all = refl;
  more = [];
  first = refl;
}

-- What is read of bytes that stand for some bodies and records is just those.
pub read_back : JustTheseAreRead
read_back opened texts bodies bytes s t = (s.groups, stands_once bodies (opened ++ map body_of s.groups) bytes t s.blocks, s.all)
