-- How a file is opened.
use Rattle.std.proofs.Common.{◌≡◌, inl, inr, [], ◌++◌, length, Option, Some, Ok, Err, refl, sym, ap, ◌∙◌}
use Rattle.reql_disk.specs.Disk.{Past, Synced, seen, Holds}
use Rattle.reql_disk.specs.Calls.{Told, grown, with_step, stepped}
use Rattle.reql_disk.proofs.Crashes.{holds_sync}
use Rattle.reql_blocks.specs.Format.{magic, content}
use Rattle.reql_blocks.specs.Recovery.{HasRead, Place}
use Rattle.reql_blocks.specs.Beginning.{Begins, Opens, Refuses}
use Rattle.reql_blocks.specs.declared.recovery.OpenFault.{OpenFault}
use Rattle.reql_blocks.specs.declared.recovery.OpenFault.TheVariants as open_fault

pub synced_past : (old new : Told) (past : Past) → old.past ≡ Some past → new ≡ stepped Synced old → new.past ≡ Some (grown Synced past)
synced_past old new past is w = ap (λ t. t.past) w ∙ ap (with_step Synced) is

pub synced_safe : (past : Past) → Holds (λ bytes. bytes ≡ seen (grown Synced past)) (grown Synced past)
synced_safe past = holds_sync (λ bytes. bytes ≡ seen past) past refl

content_none : content [] ≡ magic
unfolding content
content_none = refl

pub open_ok : (past : Past) (p : Place) → p.gate ≡ 8 → Begins (grown Synced past) p.told.past (Ok p.size) → (now : Past) × Opens past now × HasRead [] now p
open_ok past p gate (now, told, begun) = (
  now,
  record { fresh = begun.fresh; same = begun.same },
  record {
    told = told;
    gate = gate ∙ ap length (sym content_none);
    rest = begun.rest;
    joined = begun.joined ∙ ap (λ l. l ++ begun.rest) (sym content_none);
    fit = _;
    safe = begun.safe;
  },
)

pub open_err : (past : Past) (now : Option Past) (why : OpenFault) → Begins (grown Synced past) now (Err why) → Refuses past now why
open_err past now (open_fault.Damaged place) (is, some, none, at) = (is, some, inl (none, at))
open_err past now open_fault.Failed h = λ some. inr (h some)
open_err past now open_fault.Memory h = λ some. inr (h some)
