-- Whether a path fits depends on each of its steps and the reserved paths alone.
use Rattle.fleet_search.proofs.Words.{◌≡◌, ◌≢◌, ℕ, zero, suc, ◌+◌, ◌-◌, ◌<◌, ◌≤◌, false, List, [], ◌∷◌, ◌++◌, length, get_or, All, ◌⊎◌, inl, inr, refl, sym, ap, ◌∙◌, subst, arith, add-one, ◌==◌, length-append, AllByRecursion, cases_eq, cases_lt, ne_eqb, eqb-false, get_or_append_left, get_or_push, get_or_past, get_or_default, IsDistinct-head, IsDistinct-tail, Cell, place_of, HasSwappingConflict, HasCycleConflict, after_in, Plan, cell_at, cell_of, motion_of, place_of-injective, with_path, Fits, Follow, EachStepFits}
use Rattle.std.specs.List.{IsDistinct}

-- ---- the cells of the plan with one more path

pub with_path-old : (reserved : Plan) (path : List Cell) (j t : ℕ) → j < length reserved → cell_of (with_path reserved path) j t ≡ cell_of reserved j t
unfolding cell_of
with_path-old reserved path j t h = ap (λ p. cell_at p t) (get_or_append_left reserved (path ∷ []) [] j h)

pub with_path-new : (reserved : Plan) (path : List Cell) (t : ℕ) → cell_of (with_path reserved path) (length reserved) t ≡ cell_at path t
unfolding cell_of
with_path-new reserved path t = ap (λ p. cell_at p t) (get_or_push reserved path [] (length reserved) refl)

pub length-with_path : (reserved : Plan) (path : List Cell) → length (with_path reserved path) ≡ length reserved + 1
length-with_path reserved path = omega (arith, length-append reserved (path ∷ []))

-- ---- followers, each once

pub Follow-append : (reserved : Plan) (t : ℕ) (c : Cell) (js : List ℕ) (d : Cell) (ks : List ℕ) (e : Cell) → Follow reserved t c js d → Follow reserved t d ks e → Follow reserved t c (js ++ ks) e
Follow-append reserved t c [] d ks e f g = subst (λ z. Follow reserved t z ks e) (sym f) g
Follow-append reserved t c (j ∷ js) d ks e f g = (f.0, f.1, f.2, Follow-append reserved t (cell_of reserved j (t + 1)) js d ks e f.3 g)

-- followers with none twice
abbrev pub Shortened : Plan → ℕ → Cell → Cell → Type 0
Shortened reserved t c d = (ks : List ℕ) × Follow reserved t c ks d × IsDistinct ◌==◌ ks

-- the followers from the agent on, or it is none of them
abbrev FromOn : Plan → ℕ → List ℕ → Cell → ℕ → Type 0
FromOn reserved t ks d j = ((ls : List ℕ) × Follow reserved t (cell_of reserved j t) ls d × IsDistinct ◌==◌ ls) ⊎ AllByRecursion (λ k. (j == k) ≡ false) ks

from_on : (reserved : Plan) (t : ℕ) (c : Cell) (ks : List ℕ) (d : Cell) (j : ℕ) → Follow reserved t c ks d → IsDistinct ◌==◌ ks → FromOn reserved t ks d j
from_on reserved t c [] d j f u = inr tt
from_on reserved t c (k ∷ ks) d j f u =
    elim (cases_eq j k) [
      | inl e ↦ inl (k ∷ ks, subst (λ z. Follow reserved t z (k ∷ ks) d) (sym f.1 ∙ ap (λ z. cell_of reserved z t) (sym e)) f, u)
      | inr ne ↦ elim (from_on reserved t (cell_of reserved k (t + 1)) ks d j f.3 (IsDistinct-tail ◌==◌ k ks u)) [
        | inl w ↦ inl w
        | inr w ↦ inr (ne_eqb j k ne, w)
      ]
    ]

pub shortened : (reserved : Plan) (t : ℕ) (c : Cell) (js : List ℕ) (d : Cell) → Follow reserved t c js d → Shortened reserved t c d
unfolding IsDistinct
shortened reserved t c [] d f = ([], f, tt)
shortened reserved t c (j ∷ js) d f =
    let s = shortened reserved t (cell_of reserved j (t + 1)) js d f.3 in
    elim (from_on reserved t (cell_of reserved j (t + 1)) s.0 d j s.1 s.2) [
      | inl w ↦ (w.0, subst (λ z. Follow reserved t z w.0 d) f.1 w.1, w.2)
      | inr w ↦ (j ∷ s.0, (f.0, f.1, f.2, s.1), (w, s.2))
    ]

-- ---- what holds of each follower

below-all : (reserved : Plan) (t : ℕ) (c : Cell) (js : List ℕ) (d : Cell) → Follow reserved t c js d → (k e : ℕ) → k < length js → get_or js k e < length reserved
below-all reserved t c [] d f k e h = absurd (omega arith)
below-all reserved t c (j ∷ js) d f zero e h = f.0
below-all reserved t c (j ∷ js) d f (suc k) e h = below-all reserved t (cell_of reserved j (t + 1)) js d f.3 k e (omega arith)

moves-all : (reserved : Plan) (t : ℕ) (c : Cell) (js : List ℕ) (d : Cell) → Follow reserved t c js d → (k e : ℕ) → k < length js → cell_of reserved (get_or js k e) (t + 1) ≢ cell_of reserved (get_or js k e) t
moves-all reserved t c [] d f k e h = absurd (omega arith)
moves-all reserved t c (j ∷ js) d f zero e h = λ same. f.2 (same ∙ f.1)
moves-all reserved t c (j ∷ js) d f (suc k) e h = moves-all reserved t (cell_of reserved j (t + 1)) js d f.3 k e (omega arith)

-- the first of them stands on the first cell
first-on : (plan : Plan) (reserved : Plan) (t : ℕ) (c : Cell) (js : List ℕ) (d : Cell) (e : ℕ) → ((j : ℕ) → j < length reserved → cell_of plan j t ≡ cell_of reserved j t) → Follow reserved t c js d → cell_of plan e t ≡ d → cell_of plan (get_or js 0 e) t ≡ c
first-on plan reserved t c [] d e same f last = last ∙ sym f
first-on plan reserved t c (j ∷ js) d e same f last = same j f.0 ∙ f.1

next-on : (plan : Plan) (reserved : Plan) (t : ℕ) (c : Cell) (js : List ℕ) (d : Cell) (e : ℕ) → ((j u : ℕ) → j < length reserved → cell_of plan j u ≡ cell_of reserved j u) → Follow reserved t c js d → cell_of plan e t ≡ d → (k b : ℕ) → k < length js → cell_of plan (get_or js k b) (t + 1) ≡ cell_of plan (get_or js (suc k) e) t
next-on plan reserved t c [] d e same f last k b h = absurd (omega arith)
next-on plan reserved t c (j ∷ js) d e same f last zero b h = same j (t + 1) f.0 ∙ sym (first-on plan reserved t (cell_of reserved j (t + 1)) js d e (λ j. same j t) f.3 last)
next-on plan reserved t c (j ∷ js) d e same f last (suc k) b h = next-on plan reserved t (cell_of reserved j (t + 1)) js d e same f.3 last k b (omega arith)

apart-all : (n : ℕ) (js : List ℕ) → ((k e : ℕ) → k < length js → get_or js k e < n) → AllByRecursion (λ j. (n == j) ≡ false) js
apart-all n [] h = tt
apart-all n (j ∷ js) h = (ne_eqb n j (let l : j < n = h 0 0 (omega arith) in omega arith), apart-all n js (λ k e l. h (suc k) e (omega arith)))

-- ---- from the whole to each step

module _ (reserved : Plan) (path : List Cell) where
  here : (j t : ℕ) → j < length reserved → cell_of (with_path reserved path) j t ≡ cell_of reserved j t
  here = with_path-old reserved path

  new : (t : ℕ) → cell_of (with_path reserved path) (length reserved) t ≡ cell_at path t
  new = with_path-new reserved path

  no_vertex : Fits reserved path → (x j : ℕ) → j < length reserved → cell_of reserved j x ≢ cell_at path x
  no_vertex fits x j h e = fits.vertex x j h (record { apart = omega arith; same = ap place_of (new x ∙ sym e ∙ sym (here j x h)) })

  no_swap : Fits reserved path → (t j : ℕ) → cell_at path t ≢ cell_at path (t + 1) → Follow reserved t (cell_at path (t + 1)) (j ∷ []) (cell_at path t) → ⊥
  no_swap fits t j ne f =
      fits.swapping t j f.0 (record {
        apart = let l : j < length reserved = f.0 in omega arith;
        there = ap place_of (new (t + 1) ∙ sym f.1 ∙ sym (here j t f.0));
        back = ap place_of (here j (t + 1) f.0 ∙ f.3 ∙ sym (new t));
        changed = λ same. ne (sym (new t) ∙ place_of-injective (cell_of (with_path reserved path) (length reserved) t) (cell_of (with_path reserved path) j t) same ∙ here j t f.0 ∙ f.1);
      })

  no_cycle : Fits reserved path → (t i j : ℕ) (js : List ℕ) → cell_at path t ≢ cell_at path (t + 1) → Follow reserved t (cell_at path (t + 1)) (i ∷ j ∷ js) (cell_at path t) → IsDistinct ◌==◌ (i ∷ j ∷ js) → ⊥
  unfolding IsDistinct
  no_cycle fits t i j js ne f u =
      let n = length reserved in
      let plan = with_path reserved path in
      let ks = i ∷ j ∷ js in
      let from = cell_at path t in
      let to = cell_at path (t + 1) in
      let below = below-all reserved t to ks from f in
      fits.cycle t (n ∷ ks) (inside below) (0, omega arith, refl) (record {
        three = omega arith;
        distinct = (apart-all n ks below, u);
        next = next f;
        moves = moves f;
      })
    where
      inside : ((k e : ℕ) → k < length (i ∷ j ∷ js) → get_or (i ∷ j ∷ js) k e < length reserved) → All (λ k. k < length (with_path reserved path)) (length reserved ∷ i ∷ j ∷ js)
      inside below zero d h = omega (arith, length-with_path reserved path)
      inside below (suc k) d h = omega (arith, length-with_path reserved path, below k d (omega arith))

      next : Follow reserved t (cell_at path (t + 1)) (i ∷ j ∷ js) (cell_at path t) → (k : ℕ) → k < length (length reserved ∷ i ∷ j ∷ js) → motion_of (with_path reserved path) (t + 1) (get_or (length reserved ∷ i ∷ j ∷ js) k 0) ≡ motion_of (with_path reserved path) t (after_in (length reserved ∷ i ∷ j ∷ js) k)
      next f zero h = ap place_of (new (t + 1) ∙ sym (first-on (with_path reserved path) reserved t (cell_at path (t + 1)) (i ∷ j ∷ js) (cell_at path t) (length reserved) (λ k. here k t) f (new t)))
      next f (suc k) h = ap place_of (next-on (with_path reserved path) reserved t (cell_at path (t + 1)) (i ∷ j ∷ js) (cell_at path t) (length reserved) here f (new t) k 0 (omega arith)) ∙ ap (λ z. place_of (cell_of (with_path reserved path) (get_or (length reserved ∷ i ∷ j ∷ js) z (length reserved)) t)) (sym (add-one (suc k)))

      moves : Follow reserved t (cell_at path (t + 1)) (i ∷ j ∷ js) (cell_at path t) → (k : ℕ) → k < length (length reserved ∷ i ∷ j ∷ js) → motion_of (with_path reserved path) (t + 1) (get_or (length reserved ∷ i ∷ j ∷ js) k 0) ≢ motion_of (with_path reserved path) t (get_or (length reserved ∷ i ∷ j ∷ js) k 0)
      moves f zero h e = ne (sym (new t) ∙ sym (place_of-injective (cell_of (with_path reserved path) (length reserved) (t + 1)) (cell_of (with_path reserved path) (length reserved) t) e) ∙ new (t + 1))
      moves f (suc k) h e =
          let a = get_or (i ∷ j ∷ js) k 0 in
          let l : a < length reserved = below-all reserved t (cell_at path (t + 1)) (i ∷ j ∷ js) (cell_at path t) f k 0 (omega arith) in
          moves-all reserved t (cell_at path (t + 1)) (i ∷ j ∷ js) (cell_at path t) f k 0 (omega arith) (sym (here a (t + 1) l) ∙ place_of-injective (cell_of (with_path reserved path) a (t + 1)) (cell_of (with_path reserved path) a t) e ∙ here a t l)

  no_ring : Fits reserved path → (t : ℕ) → cell_at path t ≢ cell_at path (t + 1) → (ks : List ℕ) → Follow reserved t (cell_at path (t + 1)) ks (cell_at path t) → IsDistinct ◌==◌ ks → ⊥
  no_ring fits t ne [] f u = ne (sym f)
  no_ring fits t ne (j ∷ []) f u = no_swap fits t j ne f
  no_ring fits t ne (i ∷ j ∷ js) f u = no_cycle fits t i j js ne f u

  pub each_step : Fits reserved path → EachStepFits reserved path
  each_step fits = record {
    first = no_vertex fits 0;
    steps = λ t. record {
      vertex = no_vertex fits (t + 1);
      ring = λ ne js f. let s = shortened reserved t (cell_at path (t + 1)) js (cell_at path t) f in no_ring fits t ne s.0 s.1 s.2;
    };
  }

-- ---- from each step to the whole

-- m numbers from i on
values_from : (ℕ → ℕ) → ℕ → ℕ → List ℕ
values_from r i zero = []
values_from r i (suc m) = r i ∷ values_from r (suc i) m

values_from-follow : (reserved : Plan) (t : ℕ) (r : ℕ → ℕ) (on : ℕ → Cell) (i m : ℕ) → ((k : ℕ) → i ≤ k → k < i + m → (r k < length reserved) × (cell_of reserved (r k) t ≡ on k) × (cell_of reserved (r k) (t + 1) ≢ on k) × (cell_of reserved (r k) (t + 1) ≡ on (suc k))) → Follow reserved t (on i) (values_from r i m) (on (i + m))
unfolding values_from
values_from-follow reserved t r on i zero h = ap on (omega arith)
values_from-follow reserved t r on i (suc m) h =
    let w = h i (omega arith) (omega arith) in
    let e : suc i + m ≡ i + suc m = omega arith in
    let rest = values_from-follow reserved t r on (suc i) m (λ k p q. h k (omega arith) (omega arith)) in
    (w.0, w.1, w.2, subst (λ z. Follow reserved t z (values_from r (suc i) m) (on (i + suc m))) (sym w.3) (subst (λ z. Follow reserved t (on (suc i)) (values_from r (suc i) m) (on z)) e rest))

-- of distinct numbers two at different places differ
differs : (x : ℕ) (ks : List ℕ) (b d : ℕ) → AllByRecursion (λ y. (x == y) ≡ false) ks → b < length ks → x ≢ get_or ks b d
differs x [] b d h l = absurd (omega arith)
differs x (k ∷ ks) zero d h l = eqb-false x k h.0
differs x (k ∷ ks) (suc b) d h l = differs x ks b d h.1 (omega arith)

distinct-apart : (ks : List ℕ) (a b d : ℕ) → IsDistinct ◌==◌ ks → a < b → b < length ks → get_or ks a d ≢ get_or ks b d
distinct-apart [] a b d u l h = absurd (omega arith)
distinct-apart (k ∷ ks) zero zero d u l h = absurd (omega arith)
distinct-apart (k ∷ ks) zero (suc b) d u l h = differs k ks b d (IsDistinct-head ◌==◌ k ks u) (omega arith)
distinct-apart (k ∷ ks) (suc a) zero d u l h = absurd (omega arith)
distinct-apart (k ∷ ks) (suc a) (suc b) d u l h = distinct-apart ks a b d (IsDistinct-tail ◌==◌ k ks u) (omega arith) (omega arith)

other-apart : (ks : List ℕ) (a b d : ℕ) → IsDistinct ◌==◌ ks → a ≢ b → a < length ks → b < length ks → get_or ks a d ≢ get_or ks b d
other-apart ks a b d u ne p q = elim (cases_lt a b) [
  | inl h ↦ distinct-apart ks a b d u h q
  | inr h ↦ λ e. distinct-apart ks b a d u (omega arith) p (sym e)
]

module _ (reserved : Plan) (path : List Cell) where
  vertex-free : EachStepFits reserved path → (x j : ℕ) → j < length reserved → cell_of reserved j x ≢ cell_at path x
  vertex-free each zero j h = each.first j h
  vertex-free each (suc x) j h = rw (← add-one) ((each.steps x).vertex j h)

  old : (j t : ℕ) → j < length reserved → cell_of (with_path reserved path) j t ≡ cell_of reserved j t
  old = with_path-old reserved path

  own : (t : ℕ) → cell_of (with_path reserved path) (length reserved) t ≡ cell_at path t
  own = with_path-new reserved path

  -- from places to cells
  cells-from : (i j t u : ℕ) → motion_of (with_path reserved path) t i ≡ motion_of (with_path reserved path) u j → cell_of (with_path reserved path) i t ≡ cell_of (with_path reserved path) j u
  cells-from i j t u e = place_of-injective (cell_of (with_path reserved path) i t) (cell_of (with_path reserved path) j u) e

  no-swapping : EachStepFits reserved path → (x j : ℕ) → j < length reserved → HasSwappingConflict (motion_of (with_path reserved path)) x (length reserved) j → ⊥
  no-swapping each x j h w =
      let n = length reserved in
      let there : cell_at path (x + 1) ≡ cell_of reserved j x = sym (own (x + 1)) ∙ cells-from n j (x + 1) x w.there ∙ old j x h in
      let back : cell_of reserved j (x + 1) ≡ cell_at path x = sym (old j (x + 1) h) ∙ cells-from j n (x + 1) x w.back ∙ own x in
      let ne : cell_at path x ≢ cell_at path (x + 1) = λ e. w.changed (ap place_of (own x ∙ e ∙ there ∙ sym (old j x h))) in
      (each.steps x).ring ne (j ∷ []) (h, sym there, λ e. ne (sym back ∙ e), back)

  -- the agents of a ring after the one at place p, and on from its front to that one
  round : (ring : List ℕ) (p x : ℕ) → All (λ i. i < length (with_path reserved path)) ring → p < length ring → get_or ring p (get_or ring 0 0) ≡ length reserved → HasCycleConflict (motion_of (with_path reserved path)) x ring → (js : List ℕ) × Follow reserved x (cell_at path (x + 1)) js (cell_at path x)
  round ring p x inside l e w =
      let n = length reserved in
      let plan = with_path reserved path in
      let r = λ (k : ℕ). get_or ring k (get_or ring 0 0) in
      let on = λ (k : ℕ). cell_of plan (r k) x in
      let m = length ring - (p + 1) in
      let one = values_from-follow reserved x r on (suc p) m (λ k a b. part k (omega arith) (omega arith)) in
      let two = values_from-follow reserved x r on 0 p (λ k a b. part k (omega arith) (omega arith)) in
      let first : r 0 ≡ get_or ring 0 0 = get_or_default ring 0 (get_or ring 0 0) 0 (omega arith) in
      let past : r (suc p + m) ≡ r 0 = get_or_past ring (suc p + m) (get_or ring 0 0) (omega arith) ∙ sym first in
      let from : on (suc p) ≡ cell_at path (x + 1) = sym (next p l) ∙ ap (λ z. cell_of plan z (x + 1)) e ∙ own (x + 1) in
      let to : on (0 + p) ≡ cell_at path x = ap on (omega arith) ∙ ap (λ z. cell_of plan z x) e ∙ own x in
      let one' : Follow reserved x (on (suc p)) (values_from r (suc p) m) (on 0) = subst (λ z. Follow reserved x (on (suc p)) (values_from r (suc p) m) (cell_of plan z x)) past one in
      let both = Follow-append reserved x (on (suc p)) (values_from r (suc p) m) (on 0) (values_from r 0 p) (on (0 + p)) one' two in (
        values_from r (suc p) m ++ values_from r 0 p,
        subst (λ z. Follow reserved x z (values_from r (suc p) m ++ values_from r 0 p) (cell_at path x)) from (subst (λ z. Follow reserved x (on (suc p)) (values_from r (suc p) m ++ values_from r 0 p) z) to both),
      )
    where
      next : (k : ℕ) → k < length ring → cell_of (with_path reserved path) (get_or ring k (get_or ring 0 0)) (x + 1) ≡ cell_of (with_path reserved path) (get_or ring (suc k) (get_or ring 0 0)) x
      next k h =
          let d = get_or ring 0 0 in
          let same : get_or ring k d ≡ get_or ring k 0 = get_or_default ring k d 0 h in
          let c = cells-from (get_or ring k 0) (after_in ring k) (x + 1) x (w.next k h) in
          ap (λ z. cell_of (with_path reserved path) z (x + 1)) same ∙ c ∙ ap (λ z. cell_of (with_path reserved path) (get_or ring z d) x) (add-one k)

      part : (k : ℕ) → k ≢ p → k < length ring → (get_or ring k (get_or ring 0 0) < length reserved) × (cell_of reserved (get_or ring k (get_or ring 0 0)) x ≡ cell_of (with_path reserved path) (get_or ring k (get_or ring 0 0)) x) × (cell_of reserved (get_or ring k (get_or ring 0 0)) (x + 1) ≢ cell_of (with_path reserved path) (get_or ring k (get_or ring 0 0)) x) × (cell_of reserved (get_or ring k (get_or ring 0 0)) (x + 1) ≡ cell_of (with_path reserved path) (get_or ring (suc k) (get_or ring 0 0)) x)
      part k ne h =
          let d = get_or ring 0 0 in
          let plan = with_path reserved path in
          let a = get_or ring k d in
          let apart : a ≢ get_or ring p d = other-apart ring k p d w.distinct ne h l in
          let apart' : a ≢ length reserved = λ z. apart (z ∙ sym e) in
          let b : a < length plan = inside k d h in
          let below : a < length reserved = omega (arith, length-with_path reserved path) in
          let same : get_or ring k 0 ≡ a = get_or_default ring k 0 d h in (
            below,
            sym (old a x below),
            λ z. w.moves k h (ap (λ i. place_of (cell_of plan i (x + 1))) same ∙ ap place_of (old a (x + 1) below ∙ z) ∙ ap (λ i. place_of (cell_of plan i x)) (sym same)),
            sym (old a (x + 1) below) ∙ next k h,
          )

  pub from_each_step : EachStepFits reserved path → Fits reserved path
  from_each_step each = record {
    vertex = λ x j h w. vertex-free each x j h (sym (sym (own x) ∙ cells-from (length reserved) j x x w.same ∙ old j x h));
    swapping = no-swapping each;
    cycle = λ x ring inside has w.
        let e : get_or ring has.0 (get_or ring 0 0) ≡ length reserved = get_or_default ring has.0 (get_or ring 0 0) (length reserved) has.1 ∙ has.2 in
        let r = round ring has.0 x inside has.1 e w in
        let ne : cell_at path x ≢ cell_at path (x + 1) = λ z.
        let s : get_or ring has.0 0 ≡ length reserved = get_or_default ring has.0 0 (length reserved) has.1 ∙ has.2 in
        w.moves has.0 has.1 (ap (λ i. place_of (cell_of (with_path reserved path) i (x + 1))) s ∙ ap place_of (own (x + 1) ∙ sym z ∙ sym (own x)) ∙ ap (λ i. place_of (cell_of (with_path reserved path) i x)) (sym s)) in
        (each.steps x).ring ne r.0 r.1;
  }
