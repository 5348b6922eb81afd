-- The steps of a part of a range, from those of its parts.
use Rattle.std.proofs.Common.{◌≡◌, ℕ, zero, suc, ◌+◌, ◌-◌, ◌<◌, ◌≤◌, min, ◌⊎◌, inl, inr, List, [], ◌∷◌, ◌++◌, length, Bool, true, false, Option, Some, None, refl, arith, length-append, ap}
use Rattle.std.proofs.lemmas.Bool.{cases_lt}
use Rattle.reql_datum.specs.Plain.{Plain}
use Rattle.reql_ptree.specs.Ends.{is_past, is_before, start_of, end_of}
use Rattle.reql_ptree.specs.Side.{IsNodeOf}
use Rattle.reql_ptree.specs.Spent.{IsPath, IsSpent, credit}
use Rattle.reql_ptree.specs.Tall.{digits, tall, least}
use Rattle.reql_ptree.proofs.Tall.{least_node, reach, reach_none}
use Rattle.reql_ptree.specs.declared.side.Node.{Node}

-- the numbers of pairs and the heights of a node and its parts
pub record Sizes (n height nl nc nr hl hr : ℕ) : Type 0 where
  pub whole : n ≡ nl + nc + nr
  pub some : 0 < nc
  pub few : nc ≤ 15
  pub left_low : hl + 1 ≤ height
  pub right_low : hr + 1 ≤ height
  pub node : least height ≤ least hl + least hr + 1
  pub left_grown : least hl ≤ nl
  pub right_grown : least hr ≤ nr

pub sizes_of : {d : List (Plain × Plain) × ℕ} {n : Node} → IsNodeOf d n → Sizes (length d.0) d.1 (length n.left.0) (length n.chunk) (length n.right.0) n.left.1 n.right.1
sizes_of {d} {n} at = record {
  whole = omega (arith, ap length at.pairs, length-append n.left.0 (n.chunk ++ n.right.0), length-append n.chunk n.right.0);
  some = at.node.chunk_is.some;
  few = at.node.chunk_is.few;
  left_low = omega (arith, at.node.high);
  right_low = omega (arith, at.node.high);
  node = least_node d.1 n.left.1 n.right.1 at.node.high at.node.even;
  left_grown = at.node.left_grown;
  right_grown = at.node.right_grown;
}

pub path_none : (p n h : ℕ) → IsPath 0 p n h
path_none p n h = record { chunk = 0; few = omega arith; is = omega arith; fits = inl (omega arith) }

-- a search of the waiting chunk
pub path_seek : (x p n h : ℕ) → p ≤ 15 → x ≤ digits p → IsPath x p n h
path_seek x p n h few is = record { chunk = p; few = few; is = omega (arith, is); fits = inl (omega arith) }

path_less : {x y p n h : ℕ} → x ≤ y → IsPath y p n h → IsPath x p n h
path_less less way = record { chunk = way.chunk; few = way.few; is = omega (arith, way.is, less); fits = way.fits }

module _ {n h nl nc nr hl hr : ℕ} (s : Sizes n h nl nc nr hl hr) (p : ℕ) where
  pub path_one : IsPath 1 p n h
  path_one = record { chunk = 0; few = omega arith; is = omega (arith, s.left_low); fits = inl (omega arith) }

  left_fits : (b : ℕ) → (b ≤ p) ⊎ ((0 < hl) × (least hl + b ≤ nl + 1)) → (b ≤ p) ⊎ ((0 < h) × (least h + b ≤ n + 1))
  left_fits b (inl f) = inl f
  left_fits b (inr f) = inr (omega (arith, s.left_low), omega (arith, f.1, s.node, s.right_grown, s.whole, s.some))

  right_fits : (b : ℕ) → (b ≤ nc) ⊎ ((0 < hr) × (least hr + b ≤ nr + 1)) → (b ≤ p) ⊎ ((0 < h) × (least h + b ≤ n + 1))
  right_fits b (inl f) = inr (omega (arith, s.left_low), omega (arith, f, s.node, s.left_grown, s.right_grown, s.whole))
  right_fits b (inr f) = inr (omega (arith, s.left_low), omega (arith, f.1, s.node, s.left_grown, s.whole, s.some))

  pub path_left : {x : ℕ} → IsPath x p nl hl → IsPath (x + 1) p n h
  path_left way = record { chunk = way.chunk; few = way.few; is = omega (arith, way.is, s.left_low); fits = left_fits way.chunk way.fits }

  pub path_right : {x : ℕ} → IsPath x nc nr hr → IsPath (x + 1) p n h
  path_right way = record { chunk = way.chunk; few = way.few; is = omega (arith, way.is, s.right_low); fits = right_fits way.chunk way.fits }

end_at : (x n h b : ℕ) → least h ≤ n → b ≤ 15 → x ≤ h + digits b → (b ≤ 0) ⊎ ((0 < h) × (least h + b ≤ n + 1)) → x ≤ tall n
unfolding digits
end_at x n h zero grown few is f = omega (arith, reach_none h n grown, is)
end_at x n h (suc b) grown few is (inl f) = absurd (omega arith)
end_at x n h (suc b) grown few is (inr f) = let far : h + digits (suc b) ≤ tall n = reach h (suc b) n f.0 f.1 (omega arith) few in omega (arith, far, is)

-- a way through a whole tree is within the bound of a look
pub path_end : {x n h : ℕ} → least h ≤ n → IsPath x 0 n h → x ≤ tall n
path_end {x} {n} {h} grown way = end_at x n h way.chunk grown way.few way.is way.fits

pub credit_le : (low : Option (Plain × Bool)) (ms : List (Plain × Plain)) → credit low ms ≤ 1
credit_le (Some c) ms = omega arith
credit_le None [] = omega arith
credit_le None (m ∷ ms) = omega arith

-- of nothing, with a search for each end that there is
module _ (sa sb : Option (Plain × Bool)) (p : ℕ) (few : p ≤ 15) (room all owed s0 s1 a b : ℕ) where
  pub spent_chunk : a ≤ digits p → b ≤ digits p → (sa ≡ None → a ≡ 0) → (sb ≡ None → b ≡ 0) → owed ≤ min room all → s1 ≤ s0 + (a + b) → IsSpent sa sb p 0 0 room all owed s0 s1
  spent_chunk la lb fa fb paid cost = record {
    start_way = a;
    end_way = b;
    start_path = path_seek a p 0 0 few la;
    end_path = path_seek b p 0 0 few lb;
    start_free = fa;
    end_free = λ e _. fb e;
    cost = omega (arith, cost, paid);
  }

-- a part that isn't looked at
pub spent_none : (sa sb : Option (Plain × Bool)) (p n h room all owed s : ℕ) → owed ≤ min room all → IsSpent sa sb p n h room all owed s s
spent_none sa sb p n h room all owed s paid = record {
  start_way = 0;
  end_way = 0;
  start_path = path_none p n h;
  end_path = path_none p n h;
  start_free = λ _. refl;
  end_free = λ _ _. refl;
  cost = omega (arith, paid);
}

module _ {n h nl nc nr hl hr : ℕ} (s : Sizes n h nl nc nr hl hr) (p room all owed s0 s1 s2 : ℕ) (step : s1 ≤ s0 + 1) where
  weak_left : {x : ℕ} → IsPath x p nl hl → IsPath x p n h
  weak_left way = path_less (omega arith) (path_left s p way)

  weak_right : {x : ℕ} → IsPath x nc nr hr → IsPath x p n h
  weak_right way = path_less (omega arith) (path_right s p way)

  -- the way goes on into one side, by an end that there is
  right_start : (c : Plain × Bool) (sb : Option (Plain × Bool)) → IsSpent (Some c) sb nc nr hr room all owed s1 s2 → IsSpent (Some c) sb p n h room all owed s0 s2
  right_start c sb w = record { start_way = w.start_way + 1; end_way = w.end_way; start_path = path_right s p w.start_path; end_path = weak_right w.end_path; start_free = λ e. absurd (cc); end_free = w.end_free; cost = omega (arith, w.cost) }

  right_end : (sa : Option (Plain × Bool)) (c : Plain × Bool) → IsSpent sa (Some c) nc nr hr room all owed s1 s2 → IsSpent sa (Some c) p n h room all owed s0 s2
  right_end sa c w = record { start_way = w.start_way; end_way = w.end_way + 1; start_path = weak_right w.start_path; end_path = path_right s p w.end_path; start_free = w.start_free; end_free = λ e _. absurd (cc); cost = omega (arith, w.cost) }

  left_start : (c : Plain × Bool) (sb : Option (Plain × Bool)) → IsSpent (Some c) sb p nl hl room all owed s1 s2 → IsSpent (Some c) sb p n h room all owed s0 s2
  left_start c sb w = record { start_way = w.start_way + 1; end_way = w.end_way; start_path = path_left s p w.start_path; end_path = weak_left w.end_path; start_free = λ e. absurd (cc); end_free = w.end_free; cost = omega (arith, w.cost) }

  left_end : (sa : Option (Plain × Bool)) (c : Plain × Bool) → IsSpent sa (Some c) p nl hl room all owed s1 s2 → IsSpent sa (Some c) p n h room all owed s0 s2
  left_end sa c w = record { start_way = w.start_way; end_way = w.end_way + 1; start_path = weak_left w.start_path; end_path = path_left s p w.end_path; start_free = w.start_free; end_free = λ e _. absurd (cc); cost = omega (arith, w.cost) }

  pub spent_right : (falling : Bool) (low high : Option (Plain × Bool)) (first : Plain) → is_past low first ≡ false → IsSpent (start_of falling low high) (end_of falling low high) nc nr hr room all owed s1 s2 → IsSpent (start_of falling low high) (end_of falling low high) p n h room all owed s0 s2
  spent_right falling None high first past w = absurd (cc)
  spent_right false (Some c) high first past w = right_start c high w
  spent_right true (Some c) high first past w = right_end high c w

  pub spent_left : (falling : Bool) (low high : Option (Plain × Bool)) (first : Plain) → is_before high first ≡ false → IsSpent (start_of falling low high) (end_of falling low high) p nl hl room all owed s1 s2 → IsSpent (start_of falling low high) (end_of falling low high) p n h room all owed s0 s2
  spent_left falling low None first past w = absurd (cc)
  spent_left false low (Some c) first past w = left_end low c w
  spent_left true low (Some c) first past w = left_start c low w

-- two parts of a node one after the other, the first without an end and the second without a start
module _ {px nx hx py ny hy p n h : ℕ} (up_x : (x : ℕ) → IsPath x px nx hx → IsPath (x + 1) p n h) (up_y : (x : ℕ) → IsPath x py ny hy → IsPath (x + 1) p n h) where
  module _ (sa sb : Option (Plain × Bool)) (room all_x all_y owed owed_x owed_y s0 s1 s2 : ℕ) (step : s1 ≤ s0 + 1) (owes : owed_x + owed_y ≡ owed + 1) (few_x : owed_x ≤ 1) (few_y : owed_y ≤ 1) (has_y : owed_y ≤ all_y) (x : IsSpent sa None px nx hx room all_x owed_x s1 s2) where
    -- with room for the second
    pub spent_both : (s3 : ℕ) → all_x < room → IsSpent None sb py ny hy (room - all_x) all_y owed_y s2 s3 → IsSpent sa sb p n h room (all_x + all_y) owed s0 s3
    spent_both s3 less y =
        let no_end : x.end_way ≡ 0 = x.end_free refl (omega arith) in
        let no_start : y.start_way ≡ 0 = y.start_free refl in
        record {
          start_way = x.start_way;
          end_way = y.end_way;
          start_path = path_less (omega arith) (up_x x.start_way x.start_path);
          end_path = path_less (omega arith) (up_y y.end_way y.end_path);
          start_free = x.start_free;
          end_free = λ e all. y.end_free e (omega arith);
          cost = omega (arith, x.cost, y.cost, no_end, no_start);
        }

    -- with none
    pub spent_cut : IsPath 1 p n h → room ≤ all_x → IsSpent sa sb p n h room (all_x + all_y) owed s0 s2
    spent_cut one cut =
        elim (cases_lt room all_x) [
          | inl less ↦ record {
            start_way = x.start_way;
            end_way = x.end_way + 1;
            start_path = path_less (omega arith) (up_x x.start_way x.start_path);
            end_path = up_x x.end_way x.end_path;
            start_free = x.start_free;
            end_free = λ e all. absurd (omega arith);
            cost = omega (arith, x.cost);
          }
          | inr same ↦
              let no_end : x.end_way ≡ 0 = x.end_free refl (omega arith) in
              record {
                start_way = x.start_way;
                end_way = owed_y;
                start_path = path_less (omega arith) (up_x x.start_way x.start_path);
                end_path = path_less few_y one;
                start_free = x.start_free;
                end_free = λ e all. omega (arith, all, same, cut, has_y);
                cost = omega (arith, x.cost, no_end);
              }
        ]
