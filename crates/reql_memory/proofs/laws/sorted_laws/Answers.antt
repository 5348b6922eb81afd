use Rattle.std.proofs.Common.{refl}
use Rattle.reql_memory.proofs.Sorted.{rising_put, rising_without}
use Rattle.reql_memory.proofs.Finds as finds
use Rattle.reql_memory.proofs.Joined as joined
use Rattle.reql_memory.proofs.Mapped.{find_map, put_map, without_map}
use Rattle.reql_memory.proofs.Same as same
use Rattle.reql_memory.proofs.laws.sorted_laws.Goals as goal

pub returns : goal.returns
returns g c =
    let cmp = g.K.Ord.cmp in
    let total = g.met.K.Ord.total in
    record {
      find_put = λ ms k q v. finds.find_put cmp total ms k v q;
      find_without = finds.find_without cmp total;
      put_rises = λ ms k v. rising_put cmp total k v ms;
      without_rises = λ ms k. rising_without cmp total k ms;
      same_found = λ exact. same.same_found cmp total exact;
      joined_rises = joined.rising_joined cmp total;
      find_middle = λ k l m r below above. joined.find_middle cmp total k l m r below above;
      put_middle = λ k v l m r below above. joined.put_middle cmp total k l m r below above v;
      without_middle = λ k l m r below above. joined.without_middle cmp total k l m r below above;
      find_mapped = λ h k. find_map cmp cmp (λ j. j) h (λ i j. refl) k;
      put_mapped = λ h k v. put_map cmp cmp (λ j. j) h (λ i j. refl) k v;
      without_mapped = λ h k. without_map cmp cmp (λ j. j) h (λ i j. refl) k;
    }
