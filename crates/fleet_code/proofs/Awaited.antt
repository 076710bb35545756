-- The awaits that an action has so far, and the first agent that it may await next.
use Rattle.fleet_code.proofs.Words.{◌≡◌, ℕ, suc, ◌+◌, ◌≤◌, ◌<◌, List, [], ◌∷◌, ◌++◌, All, refl, arith, inl, inr, ◌⊎◌, Any, All-nil, All-cons, All-head, All-tail, Await, IsNextAwait, AwaitsFrom}

abbrev pub least_after : ℕ → List Await → ℕ
least_after least [] = least
least_after least (w ∷ ws) = least_after (w.agent + 1) ws

pub after_more : (least : ℕ) (ws : List Await) (w : Await) → least_after least (ws ++ w ∷ []) ≡ w.agent + 1
after_more least [] w = refl
after_more least (v ∷ ws) w = after_more (v.agent + 1) ws w

pub from_more : (n i least : ℕ) (ws : List Await) (w : Await) → AwaitsFrom n i least ws → IsNextAwait n i (least_after least ws) w → AwaitsFrom n i least (ws ++ w ∷ [])
from_more n i least [] w h next = (next, tt)
from_more n i least (v ∷ ws) w h next = (h.0, from_more n i (v.agent + 1) ws w h.1 next)

at_least : (n i least : ℕ) (ws : List Await) → AwaitsFrom n i least ws → least ≤ least_after least ws
at_least n i least [] h = omega arith
at_least n i least (w ∷ ws) h =
    let rest = at_least n i (w.agent + 1) ws h.1 in
    let first = h.0.above in
    omega (arith, rest, first)

-- agents from there on are above all that are awaited
pub all_below : (n i least : ℕ) (ws : List Await) (j : ℕ) → AwaitsFrom n i least ws → least_after least ws ≤ j → All (λ w. w.agent < j) ws
all_below n i least [] j h le = All-nil (λ (w : Await). w.agent < j)
all_below n i least (w ∷ ws) j h le =
    let rest = at_least n i (w.agent + 1) ws h.1 in
    All-cons (λ (w : Await). w.agent < j) w ws (omega (arith, rest, le)) (all_below n i (w.agent + 1) ws j h.1 le)

pub from_below : (least : ℕ) (ws : List Await) (j : ℕ) → least ≤ j → All (λ w. w.agent < j) ws → least_after least ws ≤ j
from_below least [] j le h = le
from_below least (w ∷ ws) j le h =
    let first = All-head (λ (w : Await). w.agent < j) w ws h in
    from_below (w.agent + 1) ws j (omega (arith, first)) (All-tail (λ (w : Await). w.agent < j) w ws h)

-- and agents before it are not
pub some_above : (least : ℕ) (ws : List Await) (j : ℕ) → j < least_after least ws → (j < least) ⊎ Any (λ w. j ≤ w.agent) ws
some_above least [] j lt = inl lt
some_above least (w ∷ ws) j lt =
    elim (some_above (w.agent + 1) ws j lt) [
      | inl before ↦ inr (0, w, omega arith, refl, omega (arith, before))
      | inr later ↦ (let within = later.2 in inr (suc later.0, later.1, omega (arith, within), later.3, later.4))
    ]

pub below_some : (n i least : ℕ) (ws : List Await) (j : ℕ) → AwaitsFrom n i least ws → Any (λ w. j ≤ w.agent) ws → j < least_after least ws
below_some n i least ws j h above =
    let all = all_below n i least ws (least_after least ws) h (omega arith) above.0 above.1 above.2 in
    let here : above.1.agent < least_after least ws = rw above.3 at all in
    let le = above.4 in
    omega (arith, here, le)
