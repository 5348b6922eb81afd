-- What a call with a record comes to.
use Rattle.std.proofs.Common.{◌≡◌, List, [], ◌++◌, Bool, true, false, Ok, Err, refl, sym, ap, ◌∙◌, subst, append-nil}
use Rattle.reql_disk.specs.Disk.{Past}
use Rattle.reql_disk.proofs.Crashes.{stays}
use Rattle.reql_records.specs.Bodies.{Text}
use Rattle.reql_records.specs.Books.{Journal, Books, sure, BlocksKeep, Keeps, MayStand, IsDone, Flushes}
use Rattle.reql_records.specs.Safe.{Answer, IsSure, with_texts, Applies}
use Rattle.reql_records.proofs.Flushing.{keeps_may}

appended : (b : Books) (past : Past) (texts : List Text) (old new : Journal) → new.held ≡ old.held → new.waiting ≡ old.waiting ++ texts → Keeps b past old → Keeps (with_texts b texts) past new
appended b past texts old new held waiting k = record {
  blocks = subst (λ h. BlocksKeep b.opened b.groups b.staged past h) (sym held) k.blocks;
  waiting = waiting ∙ ap (λ l. l ++ texts) k.waiting;
}

pub soft : (b : Books) (past : Past) (texts : List Text) (old new : Journal) → new.held ≡ old.held → new.waiting ≡ old.waiting ++ texts → Keeps b past old → Applies b texts false past new (Ok _)
soft b past texts old new held waiting k =
    let kept = appended b past texts old new held waiting k in
    record {
      after = with_texts b texts;
      new = past;
      keeps = kept;
      leaves = stays (MayStand (with_texts b texts)) past (keeps_may (with_texts b texts) past new kept);
      same = refl;
      none_lost = refl;
      further = [];
      still_sure = sym (append-nil (sure b));
      done = _;
    }

is_sure : (answer : Answer) (b : Books) → IsDone b answer → IsSure true answer b
is_sure (Ok done) b none = none
is_sure (Err why) b none = _

pub hard : (b : Books) (past : Past) (texts : List Text) (answer : Answer) (old mid new : Journal) → mid.held ≡ old.held → mid.waiting ≡ old.waiting ++ texts → Keeps b past old →
    ((b : Books) (past : Past) → Keeps b past mid → Flushes b past new answer) → Applies b texts true past new answer
hard b past texts answer old mid new held waiting k flushes =
    let f = flushes (with_texts b texts) past (appended b past texts old mid held waiting k) in
    record { after = f.after; new = f.new; keeps = f.keeps; leaves = f.leaves; same = f.same; none_lost = f.none_lost; further = f.further; still_sure = f.still_sure; done = is_sure answer f.after f.done }

pub saves_as : (waits b : Bool) (texts : List Text) (answer : Answer) (books : Books) (past : Past) (new : Journal) → waits ≡ b → Applies books texts b past new answer → Applies books texts waits past new answer
saves_as waits b texts answer books past new is a = subst (λ w. Applies books texts w past new answer) (sym is) a
