-- A leaving put into a row by its place: that of the first leaving by the same agent or a later one.
use Rattle.fleet_adg.proofs.Words.{◌≡◌, ◌≢◌, ℕ, suc, ◌+◌, ◌<◌, ◌≤◌, cond, not, List, [], ◌∷◌, set, length, get_or, Option, Some, None, inl, inr, refl, sym, ap, ◌∙◌, subst, arith, nat_le, position_or_len, position, insert, cases_lt, lt-ltb, le-ltb, le-leb, lt-leb, unwrap_or, prefix_len-le-length, Await, with_leaving}
use Rattle.fleet_adg.proofs.Folds.{put_before, put_here, put_after}

-- where a leaving by this agent belongs
abbrev pub place_in : ℕ → List Await → ℕ
place_in a ws = position_or_len (λ w. nat_le a w.agent) ws

place_in-later : (a : ℕ) (v : Await) (vs : List Await) → v.agent < a → place_in a (v ∷ vs) ≡ suc (place_in a vs)
place_in-later a v vs l = ap (λ b. cond (not b) (1 + place_in a vs) 0) (lt-leb a v.agent l) ∙ one (place_in a vs)
  where
    one : (n : ℕ) → 1 + n ≡ suc n
    one n = omega arith

place_in-here : (a : ℕ) (v : Await) (vs : List Await) → a ≤ v.agent → place_in a (v ∷ vs) ≡ 0
place_in-here a v vs l = ap (λ b. cond (not b) (1 + place_in a vs) 0) (le-leb a v.agent l)

pub replaced : (ws : List Await) (w d : Await) → place_in w.agent ws < length ws → (get_or ws (place_in w.agent ws) d).agent ≡ w.agent → with_leaving ws w ≡ set ws (place_in w.agent ws) w
replaced [] w d l e = absurd (omega arith)
replaced (v ∷ vs) w d l e =
    let P = λ (k : ℕ). (k < length (v ∷ vs)) × ((get_or (v ∷ vs) k d).agent ≡ w.agent) in
    elim (cases_lt v.agent w.agent) [
      | inl m ↦
          let at = place_in-later w.agent v vs m in
          let q = subst P at (l, e) in
          put_after v vs w m ∙ ap (λ zs. v ∷ zs) (replaced vs w d (let h = q.0 in omega arith) q.1) ∙ ap (λ k. set (v ∷ vs) k w) (sym at)
      | inr m ↦
          let at = place_in-here w.agent v vs m in
          let q = subst P at (l, e) in
          put_here v vs w q.1 ∙ ap (λ k. set (v ∷ vs) k w) (sym at)
    ]

pub inserted : (ws : List Await) (w d : Await) → (place_in w.agent ws < length ws → (get_or ws (place_in w.agent ws) d).agent ≢ w.agent) → with_leaving ws w ≡ insert ws (place_in w.agent ws) w
inserted [] w d ne = refl
inserted (v ∷ vs) w d ne =
    let P = λ (k : ℕ). (k < length (v ∷ vs) → (get_or (v ∷ vs) k d).agent ≢ w.agent) in
    elim (cases_lt v.agent w.agent) [
      | inl m ↦
          let at = place_in-later w.agent v vs m in
          let q = subst P at ne in
          put_after v vs w m ∙ ap (λ zs. v ∷ zs) (inserted vs w d (λ h. q (omega arith))) ∙ ap (λ k. insert (v ∷ vs) k w) (sym at)
      | inr m ↦
          let at = place_in-here w.agent v vs m in
          let q = subst P at ne in
          let apart : v.agent ≢ w.agent = q (omega arith) in
          put_before v vs w (omega arith) ∙ ap (λ k. insert (v ∷ vs) k w) (sym at)
    ]

pub place_in-position : (a : ℕ) (ws : List Await) (n : ℕ) → n ≡ length ws → unwrap_or (position (λ w. nat_le a w.agent) ws) n ≡ place_in a ws
place_in-position a ws n e =
    let k = place_in a ws in
    let within : k ≤ length ws = prefix_len-le-length (λ w. not (nat_le a w.agent)) ws in
    elim (cases_lt k (length ws)) [
      | inl l ↦ ap (λ b. unwrap_or (cond b (Some k) None) n) (lt-ltb k (length ws) l)
      | inr l ↦ ap (λ b. unwrap_or (cond b (Some k) None) n) (le-ltb k (length ws) l) ∙ (let z : n ≡ k = omega arith in z)
    ]

-- what the code finds: k is the place for w, of n, and v stands there
pub place_within : (ws : List Await) (w : Await) (o : Option ℕ) (n k : ℕ) → o ≡ position (λ v. nat_le w.agent v.agent) ws → n ≡ length ws → k ≡ unwrap_or o n → k ≡ place_in w.agent ws
place_within ws w o n k e long h = h ∙ ap (λ p. unwrap_or p n) e ∙ place_in-position w.agent ws n long

pub place_le : (a : ℕ) (ws : List Await) → place_in a ws ≤ length ws
place_le a ws = prefix_len-le-length (λ w. not (nat_le a w.agent)) ws

pub put_in_place : (ws : List Await) (w v : Await) (k : ℕ) → k ≡ place_in w.agent ws → k < length ws → v ≡ get_or ws k v → v.agent ≡ w.agent → set ws k w ≡ with_leaving ws w
put_in_place ws w v k e l is same =
    ap (λ n. set ws n w) e ∙ sym (replaced ws w v (subst (λ n. n < length ws) e l) (ap (λ (u : Await). u.agent) (sym (is ∙ ap (λ n. get_or ws n v) e)) ∙ same))

pub put_before_place : (ws : List Await) (w v : Await) (k : ℕ) → k ≡ place_in w.agent ws → v ≡ get_or ws k v → v.agent ≢ w.agent → insert ws k w ≡ with_leaving ws w
put_before_place ws w v k e is apart =
    ap (λ n. insert ws n w) e ∙ sym (inserted ws w v (λ l s. apart (ap (λ (u : Await). u.agent) (is ∙ ap (λ n. get_or ws n v) e) ∙ s)))

pub put_last : (ws : List Await) (w : Await) (k : ℕ) → k ≡ place_in w.agent ws → length ws ≤ k → insert ws k w ≡ with_leaving ws w
put_last ws w k e l = ap (λ n. insert ws n w) e ∙ sym (inserted ws w w (λ h s. omega arith))
