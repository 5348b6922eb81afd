use Rattle.std.proofs.Common.{length, ◌-◌, ◌≡◌, map, drop}
use Rattle.reql_disk.specs.Folder.{all_sound}
use Rattle.reql_disk.proofs.Taking.{named}
use Rattle.reql_disk.proofs.folder.are_sound.Given as goal

abbrev pub invariant-loop-place : goal.invariant-loop-place
invariant-loop-place l = all_sound (map named l.files) ≡ all_sound (map named (drop l.place l.files))

abbrev pub decreases-loop-place : goal.decreases-loop-place
decreases-loop-place l = length l.files - l.place
