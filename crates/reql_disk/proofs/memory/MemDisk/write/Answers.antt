use Rattle.std.proofs.Common.{rules, ◌≡◌, take, refl, sym, ap}
use Rattle.reql_disk.specs.Disk.{over}
use Rattle.reql_disk.specs.Memory.{Memory}
use Rattle.reql_disk.proofs.Pushes.{remembers_write}
use Rattle.reql_disk.proofs.memory.MemDisk.write.Goals as goal

pub invariant_of-self-2 : goal.invariant_of-self-2
invariant_of-self-2 c =
    let old = c.self.inside in
    let front_is : c.in_ok-piece.piece.items ≡ take c.args.left c.args.piece.now = search rules in
    let new_is : c.in_ok-bytes.bytes.items ≡ over old.bytes.items c.args.at c.in_ok-piece.piece.items = search rules in
    remembers_write old.bytes.items c.in_ok-bytes.bytes.items c.args.piece.now c.in_ok-piece.piece.items old.first.value.items old.steps.items c.push.new.self.items _ c.args.at c.args.left c.args.self.now.past
    c.self.invariant (sym (ap (λ (m : Memory). m.past) c.self.view_is)) c.requires.at c.requires.left front_is new_is refl c.in_ok-push.ensures.items
