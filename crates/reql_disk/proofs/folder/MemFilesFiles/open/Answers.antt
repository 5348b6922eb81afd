use Rattle.std.proofs.Common.{rules, ◌≡◌, sym, ap, ◌∙◌, None}
use Rattle.reql_disk.specs.Disk.{seen}
use Rattle.reql_disk.specs.Memory.{Memory}
use Rattle.reql_disk.specs.Folder.{disk_of, bytes_of}
use Rattle.reql_disk.proofs.Taking.{gives}
use Rattle.reql_disk.proofs.folder.MemFilesFiles.open.Goals as goal

pub returns-in-Some : goal.returns-in-Some
returns-in-Some c =
    let e = c.if-fails_now.ensures in
    gives c.args.self.now c.fails_now.new.self c.take.new.self c.args.name.now c.in-Some.disk e.files e.faults e.stays
    c.in-Some.ensures.left c.in-Some.ensures.faults c.in-Some.ensures.sound (ap bytes_of (sym c.in-Some.ensures.disk)) c.in-Some.ensures.never_fails

pub returns : goal.returns
returns c =
    let e = c.if-fails_now.ensures in
    let none : disk_of c.args.name.now c.fails_now.new.self.files ≡ None = search rules in
    gives c.args.self.now c.fails_now.new.self c.take.new.self c.args.name.now c.empty.result e.files e.faults e.stays
    c.in_default.ensures.left c.in_default.ensures.faults c.in_default.ensures.sound (ap bytes_of none ∙ ap (λ (m : Memory). seen m.past) (sym c.empty.ensures)) (λ _. search rules)
