-- Eight counts at once.
use Rattle.fleet_needs.proofs.Words.{◌≡◌, ℕ, ◌+◌, ◌-◌, ◌<◌, ◌≤◌, Bool, true, false, cond, ltb, List, length, get_or, map, max, refl, sym, ap, subst, ◌∙◌, arith, w32, ltb-true, ltb-false}
use Rattle.std.specs.Simd.Lanes.{zip2, sel_l, top, chunk, put_chunk}
use Rattle.std.proofs.lemmas.Simd.{length-zip2, get_or-zip2, length-chunk, get_or-chunk, length-sel_l, get_or-sel_l, get_or-put_chunk_at, tops_compared}

-- the lane from one place on in two rows
module _ (row other : List ℕ) (from : ℕ) (same : length other ≡ length row) (room : from + 8 ≤ length row) where
  abbrev mine : List ℕ
  mine = chunk from 8 row

  abbrev theirs : List ℕ
  theirs = chunk from 8 other

  mine_long : length mine ≡ 8
  mine_long = length-chunk from 8 row room

  theirs_long : length theirs ≡ 8
  theirs_long = length-chunk from 8 other (omega arith)

  abbrev pub less : List Bool
  less = zip2 ltb mine theirs

  pub less_long : length less ≡ 8
  less_long = length-zip2 ltb mine theirs (omega (arith, mine_long, theirs_long)) ∙ mine_long

  pub less_at : (k : ℕ) → k < 8 → get_or less k false ≡ ltb (get_or row (from + k) 0) (get_or other (from + k) 0)
  less_at k l =
      get_or-zip2 ltb mine theirs k 0 0 false (omega (arith, mine_long)) (omega (arith, theirs_long))
      ∙ ap (λ x. ltb x (get_or theirs k 0)) (get_or-chunk from 8 row k 0 l)
      ∙ ap (λ y. ltb (get_or row (from + k) 0) y) (get_or-chunk from 8 other k 0 l)

  greater : (a b : ℕ) → cond (ltb a b) b a ≡ max a b
  greater a b = go (ltb a b) refl
    where
      go : (r : Bool) → ltb a b ≡ r → cond r b a ≡ max a b
      go true e = let l : a < b = ltb-true a b e in omega arith
      go false e = let l : b ≤ a = ltb-false a b e in omega arith

  long : length (sel_l less theirs mine) ≡ 8
  long = length-sel_l less theirs mine (less_long ∙ sym theirs_long) (less_long ∙ sym mine_long) ∙ less_long

  joined_at : (k : ℕ) → k < 8 → get_or (put_chunk from row (sel_l less theirs mine)) (from + k) 0 ≡ max (get_or row (from + k) 0) (get_or other (from + k) 0)
  joined_at k l =
      get_or-put_chunk_at from row (sel_l less theirs mine) k 0 (omega (arith, long)) (omega (arith, long))
      ∙ get_or-sel_l less theirs mine k 0 (omega (arith, less_long)) (omega (arith, theirs_long)) (omega (arith, mine_long))
      ∙ ap (λ r. cond r (get_or theirs k 0) (get_or mine k 0)) (less_at k l)
      ∙ ap (λ y. cond (ltb (get_or row (from + k) 0) (get_or other (from + k) 0)) y (get_or mine k 0)) (get_or-chunk from 8 other k 0 l)
      ∙ ap (λ x. cond (ltb (get_or row (from + k) 0) (get_or other (from + k) 0)) (get_or other (from + k) 0) x) (get_or-chunk from 8 row k 0 l)
      ∙ greater (get_or row (from + k) 0) (get_or other (from + k) 0)

  pub tops : map (top 31) (zip2 (λ a b. cond (ltb a b) 4294967295 0) mine theirs) ≡ less
  tops = tops_compared w32 ltb mine theirs

  pub joined_long : length (sel_l (map (top 31) (zip2 (λ a b. cond (ltb a b) 4294967295 0) mine theirs)) theirs mine) ≡ 8
  joined_long = ap (λ ms. length (sel_l ms theirs mine)) tops ∙ long

  pub joined_lane : (k : ℕ) → from ≤ k → k < from + 8
      → get_or (put_chunk from row (sel_l (map (top 31) (zip2 (λ a b. cond (ltb a b) 4294967295 0) mine theirs)) theirs mine)) k 0 ≡ max (get_or row k 0) (get_or other k 0)
  joined_lane k above below =
      let e : from + (k - from) ≡ k = omega arith in
      subst (λ n. get_or (put_chunk from row (sel_l (map (top 31) (zip2 (λ a b. cond (ltb a b) 4294967295 0) mine theirs)) theirs mine)) n 0 ≡ max (get_or row n 0) (get_or other n 0)) e
      (ap (λ ms. get_or (put_chunk from row (sel_l ms theirs mine)) (from + (k - from)) 0) tops ∙ joined_at (k - from) (omega arith))
