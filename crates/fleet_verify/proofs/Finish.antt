-- What a run finishes, after which ticks, and that no list of holds finishes a ring.
use Rattle.fleet_verify.proofs.Words.{◌≡◌, ℕ, suc, ◌+◌, ◌≤◌, ap, subst, arith, inl, inr, zero, ◌-◌, ◌<◌, true, List, [], length, get_or, Some, sym, ◌∙◌, Contains, slice_get, nat_le, ◌⊎◌, Await, ActionId, Program, moves, awaits_of, Configuration, count_at, Holds, is_held, run, IsDone, is_finished, IsLeast, DirectlyNeeds, IsAction, IsNumbering, IsLongestChain, AreInRange, IsFinish, Reaches, cases_lt, le-leb, leb-true, slice_get-get_or, slice_get_within, get_or_from_slice_get, IsRing, IsNumberedTo}
use Rattle.fleet_verify.proofs.RunCounts.{counts, readies, run_counts, grows, grows_once, within_moves, count_past, count_opening, finished_all, first_passing, first_is, chain_before, longest_finishes}
use Rattle.fleet_verify.proofs.Waiting.{IsReadyTo, step}

-- ---- what is finished in a run: more with each tick, and with an action all that it needs through chains

pub count_grows : (p : Program) (holds : Holds) (t i : ℕ) → count_at (run p holds t) i ≤ count_at (run p holds (suc t)) i
count_grows p holds t i = grows_once p (is_held holds) (readies p holds) (counts p holds) (run_counts p holds) t i

-- what an action that is ready next needs is finished
pub needs_of_ready : (p : Program) (c : Configuration) (a b : ActionId) → IsReadyTo p c a.agent → a.number ≡ suc (count_at c a.agent) → DirectlyNeeds p a b → IsDone c b
needs_of_ready p c a b r e (inl (s, n, f)) =
    let g : count_at c a.agent ≡ count_at c b.agent = ap (count_at c) s in
    omega arith
needs_of_ready p c a b r e (inr h) =
    let w : Await = record { agent = b.agent; count = b.number } in
    r.met w (subst (λ n. Contains (awaits_of p a.agent n) w) e h)

pub count_grows_to : (p : Program) (holds : Holds) (t k i : ℕ) → count_at (run p holds t) i ≤ count_at (run p holds (t + k)) i
count_grows_to p holds t k i = grows p (is_held holds) (readies p holds) (counts p holds) (run_counts p holds) t (t + k) i (omega arith)

-- no agent finishes more actions than it has
pub count_within : (p : Program) (holds : Holds) (t i : ℕ) → count_at (run p holds t) i ≤ moves p i
count_within p holds t i = within_moves p (is_held holds) (readies p holds) (counts p holds) (run_counts p holds) t i

-- ---- what finishes under some list of holds has a numbering, and no list of holds finishes a ring

pub finished_says : (p : Program) (c : Configuration) → is_finished p c ≡ true → (a : ActionId) → IsAction p a → IsDone c a
finished_says p c h a act = omega (arith, act.last, finished_all p c h a.agent act.agent)

-- an action that is finished in a tick had what it needs finished before
pub newly : (p : Program) (holds : Holds) (t : ℕ) (a b : ActionId) → DirectlyNeeds p a b → count_at (run p holds t) a.agent < a.number → IsDone (run p holds (suc t)) a → IsDone (run p holds t) b
newly p holds t a b n l d =
    elim (cases_lt a.agent (length p)) [
      | inr g ↦ absurd (let e : count_at (run p holds (suc t)) a.agent ≡ 0 = count_past p holds (suc t) a.agent g in omega arith)
      | inl g ↦ (elim (step p holds t a.agent g) [
        | inl m ↦ (let e : count_at (run p holds (suc t)) a.agent ≡ suc (count_at (run p holds t) a.agent) = m.count in needs_of_ready p (run p holds t) a b m.ready (omega arith) n)
        | inr s ↦ absurd (let e : count_at (run p holds (suc t)) a.agent ≡ count_at (run p holds t) a.agent = s.count in omega arith)
      ])
    ]

-- the tick of a run after which an action is finished
pub done_after : (p : Program) (holds : Holds) (f : ℕ) → ActionId → ℕ
done_after p holds f a = first_passing (λ t. nat_le a.number (count_at (run p holds t) a.agent)) f

-- it is the first one after which the action is finished
pub done_first : (p : Program) (holds : Holds) (f : ℕ) → is_finished p (run p holds f) ≡ true → (a : ActionId) → IsAction p a → IsLeast (λ t. nat_le a.number (count_at (run p holds t) a.agent)) (done_after p holds f a)
unfolding done_after
done_first p holds f h a k = first_is (λ t. nat_le a.number (count_at (run p holds t) a.agent)) f f (omega arith) (le-leb a.number (count_at (run p holds f) a.agent) (finished_says p (run p holds f) h a k))

-- the action of a ring that one of them needs
ring_need : (p : Program) (ring : List ActionId) → IsRing p ring → (k : ℕ) (a : ActionId) → slice_get ring k ≡ Some a → (j : ℕ) × (b : ActionId) × (slice_get ring j ≡ Some b) × DirectlyNeeds p a b
ring_need p ring r zero a e =
    let l : 0 < length ring = slice_get_within ring 0 a e in
    let last : slice_get ring (length ring - 1) ≡ Some (get_or ring (length ring - 1) a) = slice_get-get_or ring (length ring - 1) a (omega arith) in
    (length ring - 1, get_or ring (length ring - 1) a, last, r.closes a (get_or ring (length ring - 1) a) e last)
ring_need p ring r (suc k) a e =
    let l : suc k < length ring = slice_get_within ring (suc k) a e in
    let there : slice_get ring k ≡ Some (get_or ring k a) = slice_get-get_or ring k a (omega arith) in
    let g : suc k ≡ k + 1 = omega arith in
    (k, get_or ring k a, there, r.next k (get_or ring k a) a there (ap (slice_get ring) (sym g) ∙ e))

-- no list of holds ever finishes an action of a ring
pub ring_never : (p : Program) (ring : List ActionId) → IsRing p ring → (holds : Holds) (t k : ℕ) (a : ActionId) → slice_get ring k ≡ Some a → count_at (run p holds t) a.agent < a.number
ring_never p ring r holds zero k a e =
    let h : IsAction p a = subst (IsAction p) (get_or_from_slice_get ring k a a e) (r.actions k a (slice_get_within ring k a e)) in
    let first : 1 ≤ a.number = h.first in
    let none : count_at (run p holds 0) a.agent ≡ 0 = count_opening p holds a.agent in
    omega arith
ring_never p ring r holds (suc t) k a e =
    let n : (j : ℕ) × (b : ActionId) × (slice_get ring j ≡ Some b) × DirectlyNeeds p a b = ring_need p ring r k a e in
    let not_yet : count_at (run p holds t) a.agent < a.number = ring_never p ring r holds t k a e in
    let other : count_at (run p holds t) (n.1).agent < (n.1).number = ring_never p ring r holds t n.0 n.1 n.2 in
    elim (cases_lt (count_at (run p holds (suc t)) a.agent) a.number) [
      | inl l ↦ l
      | inr l ↦ absurd (let d : (n.1).number ≤ count_at (run p holds t) (n.1).agent = newly p holds t a n.1 n.3 not_yet l in omega arith)
    ]

ring_action : (p : Program) (ring : List ActionId) → IsRing p ring → (k : ℕ) (a : ActionId) → slice_get ring k ≡ Some a → IsAction p a
ring_action p ring r k a e = subst (IsAction p) (get_or_from_slice_get ring k a a e) (r.actions k a (slice_get_within ring k a e))

-- and no numbering numbers one
pub ring_unnumbered : (p : Program) (ring : List ActionId) → IsRing p ring → (number : ActionId → ℕ) → IsNumbering p number → (n k : ℕ) (a : ActionId) → slice_get ring k ≡ Some a → number a ≤ n → ⊥
ring_unnumbered p ring r number s zero k a e l = omega (arith, s.positive a (ring_action p ring r k a e))
ring_unnumbered p ring r number s (suc n) k a e l =
    let b = ring_need p ring r k a e in
    ring_unnumbered p ring r number s n b.0 b.1 b.2 (omega (arith, s.rising a b.1 (ring_action p ring r k a e) (ring_action p ring r b.0 b.1 b.2) b.3))

-- ---- the ticks after which the actions of a run are finished

-- if an action is finished, so is all that begins a chain that ends with it
pub Reaches-done : (p : Program) (holds : Holds) (t : ℕ) (a b : ActionId) → Reaches p a b → IsDone (run p holds t) b → IsDone (run p holds t) a
Reaches-done p holds t a b (cs, h) d =
    let r = chain_before p (is_held holds) (readies p holds) (counts p holds) (run_counts p holds) t a cs b h d in
    omega (arith, r.2, grows p (is_held holds) (readies p holds) (counts p holds) (run_counts p holds) r.0 t a.agent (omega (arith, r.1)))

-- the ticks of a run that finishes are a numbering
pub run_numbers : (p : Program) (holds : Holds) (f : ℕ) → is_finished p (run p holds f) ≡ true → IsNumbering p (done_after p holds f)
run_numbers p holds f h = record { positive = λ a k. later a k (done_after p holds f a) (done_first p holds f h a k); rising = λ a b k m n. before a b k m n (done_after p holds f a) (done_first p holds f h a k) }
  where
    later : (a : ActionId) → IsAction p a → (n : ℕ) → IsLeast (λ t. nat_le a.number (count_at (run p holds t) a.agent)) n → 1 ≤ n
    later a k zero l =
        let e : count_at (run p holds 0) a.agent ≡ 0 = count_opening p holds a.agent in
        let g : a.number ≤ count_at (run p holds 0) a.agent = leb-true a.number (count_at (run p holds 0) a.agent) l.holds in
        let i : 1 ≤ a.number = k.first in
        omega arith
    later a k (suc n) l = omega arith

    before : (a b : ActionId) → IsAction p a → IsAction p b → DirectlyNeeds p a b → (n : ℕ) → IsLeast (λ t. nat_le a.number (count_at (run p holds t) a.agent)) n → done_after p holds f b < n
    before a b k m n zero l = absurd (let g : 1 ≤ 0 = later a k zero l in omega arith)
    before a b k m n (suc t) l =
        let not_yet : count_at (run p holds t) a.agent < a.number = open_at (cases_lt (count_at (run p holds t) a.agent) a.number) in
        let there : b.number ≤ count_at (run p holds t) b.agent = newly p holds t a b n not_yet (leb-true a.number (count_at (run p holds (suc t)) a.agent) l.holds) in
        let low : done_after p holds f b ≤ t = (done_first p holds f h b m).least t (le-leb b.number (count_at (run p holds t) b.agent) there) in
        omega arith
      where
        open_at : (count_at (run p holds t) a.agent < a.number) ⊎ (a.number ≤ count_at (run p holds t) a.agent) → count_at (run p holds t) a.agent < a.number
        open_at (inl x) = x
        open_at (inr x) = absurd (let g : suc t ≤ t = l.least t (le-leb a.number (count_at (run p holds t) a.agent) x) in omega arith)

-- .. so a program that finishes has numbers that rise along chains, of which none is greater than its ticks
pub finish_numbers : (p : Program) → AreInRange p → (f : ℕ) → IsFinish p [] f → IsNumberedTo p f
finish_numbers p range f finish = record {
  range = range;
  number = done_after p [] f;
  rising = run_numbers p [] f finish.holds;
  upto = λ a is. (done_first p [] f finish.holds a is).least f (le-leb a.number (count_at (run p [] f) a.agent) (finished_says p (run p [] f) finish.holds a is));
}

-- .. and one with a longest chain numbers that are no greater than that is long
pub longest_numbers : (p : Program) → AreInRange p → (l : ℕ) → IsLongestChain p l → IsNumberedTo p l
longest_numbers p range l h = finish_numbers p range l (longest_finishes p range l h)
