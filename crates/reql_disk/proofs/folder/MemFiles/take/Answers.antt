use Rattle.std.proofs.Common.{sym, ap, ◌∙◌}
use Rattle.reql_disk.specs.Folder.{Folder}
use Rattle.reql_disk.proofs.Taking.{takes, takes_none, takes_sound}
use Rattle.reql_disk.proofs.folder.MemFiles.take.Goals as goal

pub returns-in-None-clause-disk : goal.returns-in-None-clause-disk
returns-in-None-clause-disk c =
    (takes_none c.args.name.now c.self.inside.files.items c.deref.result.now c.args.self.now.files (ap (λ (v : Folder). v.files) c.self.view_is) c.deref.ensures.value (sym c.in-None.ensures.first)).0

pub returns-in-None-clause-left : goal.returns-in-None-clause-left
returns-in-None-clause-left c =
    (takes_none c.args.name.now c.self.inside.files.items c.deref.result.now c.args.self.now.files (ap (λ (v : Folder). v.files) c.self.view_is) c.deref.ensures.value (sym c.in-None.ensures.first)).1

pub invariant_of-self : goal.invariant_of-self
invariant_of-self c = record {
  calls = c.self.invariant.calls;
  files = λ sound. (takes_sound c.args.name.now c.self.inside.files.items c.deref.result.now c.remove-disk.new.self.items c.remove-disk.result c.in-Some.place c.deref.ensures.value (sym c.in-Some.ensures.first)
      c.remove-disk.ensures.value c.remove-disk.ensures.items (c.self.invariant.files sound)).0;
}

pub returns-in-Some-clause-disk : goal.returns-in-Some-clause-disk
returns-in-Some-clause-disk c =
    (takes c.args.name.now c.self.inside.files.items c.deref.result.now c.remove-disk.new.self.items c.args.self.now.files c.remove-disk.result c.in-Some.place (ap (λ (v : Folder). v.files) c.self.view_is) c.deref.ensures.value
    (sym c.in-Some.ensures.first) c.remove-disk.ensures.value c.remove-disk.ensures.items).0

pub returns-in-Some-clause-never_fails : goal.returns-in-Some-clause-never_fails
returns-in-Some-clause-never_fails c = λ sound.
    (takes_sound c.args.name.now c.self.inside.files.items c.deref.result.now c.remove-disk.new.self.items c.remove-disk.result c.in-Some.place c.deref.ensures.value (sym c.in-Some.ensures.first)
    c.remove-disk.ensures.value c.remove-disk.ensures.items (c.self.invariant.files (ap (λ (v : Folder). v.sound) c.self.view_is ∙ sound))).1

pub returns-in-Some-clause-left : goal.returns-in-Some-clause-left
returns-in-Some-clause-left c =
    (takes c.args.name.now c.self.inside.files.items c.deref.result.now c.remove-disk.new.self.items c.args.self.now.files c.remove-disk.result c.in-Some.place (ap (λ (v : Folder). v.files) c.self.view_is) c.deref.ensures.value
    (sym c.in-Some.ensures.first) c.remove-disk.ensures.value c.remove-disk.ensures.items).1
