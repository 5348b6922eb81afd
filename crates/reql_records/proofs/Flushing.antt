-- A flush, from what its calls of blocks come to.
use Rattle.std.proofs.Common.{◌≡◌, nat_eq, length, true, arith, ⊎_elim, ℕ, List, [], ◌∷◌, ◌++◌, map, Option, Some, None, Result, Ok, Err, refl, sym, ap, ◌∙◌, subst, append_assoc, append-nil}
use Rattle.std.proofs.lemmas.List.{map-append}
use Rattle.std.proofs.lemmas.Bool.Decides.{nat_tests}
use Rattle.reql_disk.specs.Disk.{Past, Left, Leaves}
use Rattle.reql_disk.specs.declared.disk.DiskFault.{DiskFault}
use Rattle.reql_disk.proofs.Crashes.{stays, leaves_on, leaves_more}
use Rattle.reql_blocks.specs.Format.{StandsFor, WithOrWithout}
use Rattle.reql_blocks.specs.Held.{Held, Rests, Waits, Stages, Opens}
use Rattle.reql_blocks.proofs.Bytes.{with_or_without}
use Rattle.reql_records.specs.Bodies.{Text, body_of, joined, Stands}
use Rattle.reql_records.specs.Books.{Journal, Books, staged_of, sure, loose, BlocksKeep, Keeps, MayStand, Flushes}

-- ---- groups
joined_push : (groups : List (List Text)) (group : List Text) → joined (groups ++ group ∷ []) ≡ joined groups ++ group
joined_push [] group = append-nil group
joined_push (g ∷ groups) group = ap (λ l. g ++ l) (joined_push groups group) ∙ sym (append_assoc g (joined groups) group)

abbrev bodies : Books → List (List ℕ)
bodies b = b.opened ++ map body_of b.groups

bodies_push : (opened : List (List ℕ)) (groups : List (List Text)) (group : List Text) → opened ++ map body_of (groups ++ group ∷ []) ≡ (opened ++ map body_of groups) ++ body_of group ∷ []
bodies_push opened groups group = ap (λ l. opened ++ l) (map-append body_of groups (group ∷ [])) ∙ sym (append_assoc opened (map body_of groups) (body_of group ∷ []))

-- ---- what a crash leaves
may_before : (b : Books) (bytes : List ℕ) → StandsFor (bodies b) bytes → MayStand b bytes
may_before b bytes s = record {
  front = [];
  back = loose b;
  split = refl;
  stands = record { groups = b.groups; blocks = s; all = append-nil (joined b.groups) };
}

may_with : (b : Books) (group back : List Text) (bytes : List ℕ) → loose b ≡ group ++ back → StandsFor (bodies b ++ body_of group ∷ []) bytes → MayStand b bytes
may_with b group back bytes split s = record {
  front = group;
  back = back;
  split = split;
  stands = record { groups = b.groups ++ group ∷ []; blocks = subst (λ l. StandsFor l bytes) (sym (bodies_push b.opened b.groups group)) s; all = sym (joined_push b.groups group) };
}

may_either : (b : Books) (group back : List Text) → loose b ≡ group ++ back → (bytes : List ℕ) → WithOrWithout (bodies b) (body_of group) bytes → MayStand b bytes
may_either b group back split bytes w = ⊎_elim (may_before b bytes) (may_with b group back bytes split) w

-- ---- the waiting records written: a block staged, or not
pub not_staged : (b : Books) (past : Past) (old new : Journal) (body : List ℕ) (why : DiskFault) → Keeps b past old → new.waiting ≡ old.waiting → b.staged ≡ None →
    (Rests (bodies b) past old.held → Stages (bodies b) body past new.held (Err why)) → Flushes b past new (Err why)
not_staged b past old new body why k same none stages =
    let rests : Rests (bodies b) past old.held = subst (λ s. BlocksKeep b.opened b.groups s past old.held) none k.blocks in
    let (now, then, leaves) = stages rests in
    record {
      after = b;
      new = now;
      keeps = record { blocks = subst (λ s. BlocksKeep b.opened b.groups s now new.held) (sym none) then; waiting = same ∙ k.waiting };
      leaves = leaves_more (StandsFor (bodies b)) (MayStand b) past now (may_before b) leaves;
      same = refl;
      none_lost = refl;
      further = [];
      still_sure = sym (append-nil (sure b));
      done = _;
    }

abbrev moved : Books → Books
moved b = record {
  opened = b.opened;
  groups = b.groups ++ b.waiting ∷ [];
  staged = None;
  waiting = [];
}

abbrev behind_gate : Books → Books
behind_gate b = record {
  opened = b.opened;
  groups = b.groups;
  staged = Some b.waiting;
  waiting = [];
}

moved_all : (b : Books) → b.staged ≡ None → sure (moved b) ++ loose (moved b) ≡ sure b ++ loose b
moved_all b none = append-nil (joined (b.groups ++ b.waiting ∷ [])) ∙ joined_push b.groups b.waiting ∙ ap (λ s. joined b.groups ++ (staged_of s ++ b.waiting)) (sym none)

behind_all : (b : Books) → b.staged ≡ None → sure (behind_gate b) ++ loose (behind_gate b) ≡ sure b ++ loose b
behind_all b none = ap (λ l. joined b.groups ++ l) (append-nil b.waiting) ∙ ap (λ s. joined b.groups ++ (staged_of s ++ b.waiting)) (sym none)

pub staged_then : (b : Books) (past mid : Past) (new : Journal) (result : Result (Unit {0}) DiskFault) → b.staged ≡ None → new.waiting ≡ [] →
    Leaves (StandsFor (bodies b)) past mid → Opens (bodies b) (body_of b.waiting) mid new.held result → Flushes b past new result
staged_then b past mid new (Ok done) none empty leaves opens =
    let (now, then, more) = opens in
    let split : loose b ≡ b.waiting ++ [] = ap (λ s. staged_of s ++ b.waiting) none ∙ sym (append-nil b.waiting) in
    record {
      after = moved b;
      new = now;
      keeps = record { blocks = subst (λ l. Rests l now new.held) (sym (bodies_push b.opened b.groups b.waiting)) then; waiting = empty };
      leaves = leaves_on (MayStand b) past mid now (leaves_more (StandsFor (bodies b)) (MayStand b) past mid (may_before b) leaves)
          (leaves_more (WithOrWithout (bodies b) (body_of b.waiting)) (MayStand b) mid now (may_either b b.waiting [] split) more);
      same = refl;
      none_lost = moved_all b none;
      further = b.waiting;
      still_sure = joined_push b.groups b.waiting;
      done = refl;
    }
staged_then b past mid new (Err why) none empty leaves opens =
    let (now, then, more) = opens in
    let split : loose b ≡ b.waiting ++ [] = ap (λ s. staged_of s ++ b.waiting) none ∙ sym (append-nil b.waiting) in
    record {
      after = behind_gate b;
      new = now;
      keeps = record { blocks = then; waiting = empty };
      leaves = leaves_on (MayStand b) past mid now (leaves_more (StandsFor (bodies b)) (MayStand b) past mid (may_before b) leaves)
          (leaves_more (WithOrWithout (bodies b) (body_of b.waiting)) (MayStand b) mid now (may_either b b.waiting [] split) more);
      same = refl;
      none_lost = behind_all b none;
      further = [];
      still_sure = sym (append-nil (sure b));
      done = _;
    }

-- ---- no record waits
rests_now : (bodies : List (List ℕ)) (past : Past) (held : Held) → Rests bodies past held → (image : List ℕ) → Left past image → StandsFor bodies image
rests_now bodies past held r = r.safe.crashes

waits_now : (bodies : List (List ℕ)) (body : List ℕ) (past : Past) (held : Held) → Waits bodies body past held → (image : List ℕ) → Left past image → WithOrWithout bodies body image
waits_now bodies body past held w image left = with_or_without bodies body image (w.safe.crashes image left)

may_now : (b : Books) (past : Past) (j : Journal) (staged : Option (List Text)) → b.staged ≡ staged → BlocksKeep b.opened b.groups staged past j.held → (image : List ℕ) → Left past image → MayStand b image
may_now b past j None is k image left = may_before b image (rests_now (bodies b) past j.held k image left)
may_now b past j (Some texts) is k image left = may_either b texts b.waiting (ap (λ s. staged_of s ++ b.waiting) is) image (waits_now (bodies b) (body_of texts) past j.held k image left)

-- what a crash leaves at any moment at which nothing is done
pub keeps_may : (b : Books) (past : Past) (j : Journal) → Keeps b past j → (image : List ℕ) → Left past image → MayStand b image
keeps_may b past j k = may_now b past j b.staged refl k.blocks

pub nothing_waits : (b : Books) (past : Past) (j : Journal) → Keeps b past j → b.staged ≡ None → j.waiting ≡ [] → Flushes b past j (Ok _)
nothing_waits b past j k none empty = record {
  after = b;
  new = past;
  keeps = k;
  leaves = stays (MayStand b) past (keeps_may b past j k);
  same = refl;
  none_lost = refl;
  further = [];
  still_sure = sym (append-nil (sure b));
  done = ap (λ s. staged_of s ++ b.waiting) none ∙ sym k.waiting ∙ empty;
}

pub not_flushed : (b : Books) (past : Past) (j : Journal) (why : DiskFault) → Keeps b past j → Flushes b past j (Err why)
not_flushed b past j why k = record {
  after = b;
  new = past;
  keeps = k;
  leaves = stays (MayStand b) past (keeps_may b past j k);
  same = refl;
  none_lost = refl;
  further = [];
  still_sure = sym (append-nil (sure b));
  done = _;
}

-- ---- the staged block first
abbrev opened : Books → List Text → Books
opened b texts = record {
  opened = b.opened;
  groups = b.groups ++ texts ∷ [];
  staged = None;
  waiting = b.waiting;
}

opened_sure : (b : Books) (texts more : List Text) → sure (opened b texts) ++ more ≡ sure b ++ (texts ++ more)
opened_sure b texts more = ap (λ l. l ++ more) (joined_push b.groups texts) ∙ append_assoc (joined b.groups) texts more

opened_may : (b : Books) (texts : List Text) → b.staged ≡ Some texts → (image : List ℕ) → MayStand (opened b texts) image → MayStand b image
opened_may b texts is image m = record {
  front = texts ++ m.front;
  back = m.back;
  split = ap (λ s. staged_of s ++ b.waiting) is ∙ ap (λ l. texts ++ l) m.split ∙ sym (append_assoc texts m.front m.back);
  stands = subst (λ l. Stands b.opened l image) (opened_sure b texts m.front) m.stands;
}

opened_all : (b : Books) (texts : List Text) → b.staged ≡ Some texts → sure (opened b texts) ++ loose (opened b texts) ≡ sure b ++ loose b
opened_all b texts is = opened_sure b texts b.waiting ∙ ap (λ s. sure b ++ (staged_of s ++ b.waiting)) (sym is)

gate_then_at : (b : Books) (past : Past) (old mid new : Journal) (result : Result (Unit {0}) DiskFault) (staged : Option (List Text)) → b.staged ≡ staged → Keeps b past old → BlocksKeep b.opened b.groups staged past old.held → mid.waiting ≡ old.waiting →
    ((bodies : List (List ℕ)) (body : List ℕ) (past : Past) → Waits bodies body past old.held → Opens bodies body past mid.held (Ok _)) → (old.held.next ≡ None → mid.held ≡ old.held) →
    ((b : Books) (past : Past) → Keeps b past mid → b.staged ≡ None → Flushes b past new result) → Flushes b past new result
gate_then_at b past old mid new result None is k r same opens none rest =
    let stays_so : mid.held ≡ old.held = none r.next in
    rest b past (record { blocks = subst (λ s. BlocksKeep b.opened b.groups s past mid.held) (sym is) (subst (λ h. Rests (bodies b) past h) (sym stays_so) r); waiting = same ∙ k.waiting }) is
gate_then_at b past old mid new result (Some texts) is k w same opens none rest =
    let (now, then, more) = opens (bodies b) (body_of texts) past w in
    let kept : Keeps (opened b texts) now mid = record { blocks = subst (λ l. Rests l now mid.held) (sym (bodies_push b.opened b.groups texts)) then; waiting = same ∙ k.waiting } in
    let f = rest (opened b texts) now kept refl in
    let split : loose b ≡ texts ++ b.waiting = ap (λ s. staged_of s ++ b.waiting) is in
    record {
      after = f.after;
      new = f.new;
      keeps = f.keeps;
      leaves = leaves_on (MayStand b) past now f.new
          (leaves_more (WithOrWithout (bodies b) (body_of texts)) (MayStand b) past now (may_either b texts b.waiting split) more)
          (leaves_more (MayStand (opened b texts)) (MayStand b) now f.new (opened_may b texts is) f.leaves);
      same = f.same;
      none_lost = f.none_lost ∙ opened_all b texts is;
      further = texts ++ f.further;
      still_sure = f.still_sure ∙ opened_sure b texts f.further;
      done = f.done;
    }

pub gate_then : (b : Books) (past : Past) (old mid new : Journal) (result : Result (Unit {0}) DiskFault) → Keeps b past old → mid.waiting ≡ old.waiting →
    ((bodies : List (List ℕ)) (body : List ℕ) (past : Past) → Waits bodies body past old.held → Opens bodies body past mid.held (Ok _)) → (old.held.next ≡ None → mid.held ≡ old.held) →
    ((b : Books) (past : Past) → Keeps b past mid → b.staged ≡ None → Flushes b past new result) → Flushes b past new result
gate_then b past old mid new result k same opens none rest = gate_then_at b past old mid new result b.staged refl k k.blocks same opens none rest

gate_fails_at : (b : Books) (past : Past) (old new : Journal) (why : DiskFault) (staged : Option (List Text)) → b.staged ≡ staged → Keeps b past old → BlocksKeep b.opened b.groups staged past old.held → new.waiting ≡ old.waiting →
    ((bodies : List (List ℕ)) (body : List ℕ) (past : Past) → Waits bodies body past old.held → Opens bodies body past new.held (Err why)) → (old.held.next ≡ None → new.held ≡ old.held) → Flushes b past new (Err why)
gate_fails_at b past old new why None is k r same opens none =
    not_flushed b past new why (record { blocks = subst (λ s. BlocksKeep b.opened b.groups s past new.held) (sym is) (subst (λ h. Rests (bodies b) past h) (sym (none r.next)) r); waiting = same ∙ k.waiting })
gate_fails_at b past old new why (Some texts) is k w same opens none =
    let (now, then, more) = opens (bodies b) (body_of texts) past w in
    let split : loose b ≡ texts ++ b.waiting = ap (λ s. staged_of s ++ b.waiting) is in
    record {
      after = b;
      new = now;
      keeps = record { blocks = subst (λ s. BlocksKeep b.opened b.groups s now new.held) (sym is) then; waiting = same ∙ k.waiting };
      leaves = leaves_more (WithOrWithout (bodies b) (body_of texts)) (MayStand b) past now (may_either b texts b.waiting split) more;
      same = refl;
      none_lost = refl;
      further = [];
      still_sure = sym (append-nil (sure b));
      done = _;
    }

pub gate_fails : (b : Books) (past : Past) (old new : Journal) (why : DiskFault) → Keeps b past old → new.waiting ≡ old.waiting →
    ((bodies : List (List ℕ)) (body : List ℕ) (past : Past) → Waits bodies body past old.held → Opens bodies body past new.held (Err why)) → (old.held.next ≡ None → new.held ≡ old.held) → Flushes b past new (Err why)
gate_fails b past old new why k same opens none = gate_fails_at b past old new why b.staged refl k k.blocks same opens none

pub none_of : {X : Type 0} (xs : List X) → nat_eq (length xs) 0 ≡ true → xs ≡ []
none_of [] e = refl
none_of (x ∷ xs) e = absurd (grind (arith, nat_tests, e))
