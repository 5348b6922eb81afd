-- All documents between two keys of a tree.
use Rattle.std.proofs.Common.{◌≡◌, ◌≤◌, ℕ, List, length, take, reverse, Bool}
use Rattle.std.proofs.lemmas.List.{length-map, length-reverse, take_all}
use Rattle.std.proofs.lemmas.List.Sums.{length-filter, count_by-le-length}
use Rattle.std.specs.List.{filter}
use Rattle.reql_datum.specs.Plain.{Plain}
use Rattle.reql_ptree.specs.Range.{lies_within, range_of}

abbrev Pairs : Type 0
Pairs = List (Plain × Plain)

range_within : (l : Plain) (lo : Bool) (h : Plain) (ho : Bool) (ms : Pairs) → length (range_of l lo h ho ms) ≤ length ms
range_within l lo h ho ms =
    rw (length-map (filter (lies_within l lo h ho) ms) (λ (m : Plain × Plain). m.1), length-filter (lies_within l lo h ho) ms) (count_by-le-length (lies_within l lo h ho) ms)

-- they are as many as there is room for
pub whole : (l : Plain) (lo : Bool) (h : Plain) (ho : Bool) (ms : Pairs) (n : ℕ) → n ≡ length ms → take n (reverse (range_of l lo h ho ms)) ≡ reverse (range_of l lo h ho ms)
whole l lo h ho ms n e = take_all n (reverse (range_of l lo h ho ms)) (rw (e, length-reverse (range_of l lo h ho ms)) (range_within l lo h ho ms))
