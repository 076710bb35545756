-- The awaits of an action, one after another.
use Rattle.fleet_verify.proofs.Words.{◌≡◌, ◌≢◌, ℕ, ◌+◌, ◌<◌, ◌≤◌, length, get_or, Some, slice_get, sym, ap, ◌∙◌, subst, arith, inl, inr, cases_eq, same_Some, slice_get-get_or, slice_get_within, get_or_from_slice_get, Await, Program, moves, awaits_of, IsInRange, IsWellFormed, AwaitsRight}

-- the first k awaits can be met
abbrev pub AwaitsRightTo : Program → ℕ → ℕ → ℕ → Type 0
AwaitsRightTo p i n k = (m : ℕ) (w : Await) → m < k → slice_get (awaits_of p i n) m ≡ Some w → IsInRange p i w

-- of a well-formed program an await can be met if the awaited agent has as many moves
pub one_in_range : (p : Program) → IsWellFormed p → (i n k : ℕ) (v : Await) → slice_get (awaits_of p i n) k ≡ Some v → v.count ≤ moves p v.agent → IsInRange p i v
one_in_range p h i n k v e l =
    let awaits = h.awaits i n in
    let inside : k < length (awaits_of p i n) = slice_get_within (awaits_of p i n) k v e in
    let here : get_or (awaits_of p i n) k v ≡ v = get_or_from_slice_get (awaits_of p i n) k v v e in
    record {
      agent = subst (λ (w : Await). w.agent < length p) here (awaits.agents k v inside);
      other = subst (λ (w : Await). w.agent ≢ i) here (awaits.others k v inside);
      first = subst (λ (w : Await). 1 ≤ w.count) here (awaits.counts k v inside);
      last = l;
    }

pub in_range_more : (p : Program) → IsWellFormed p → (i n k : ℕ) (v : Await) → AwaitsRightTo p i n k → slice_get (awaits_of p i n) k ≡ Some v → v.count ≤ moves p v.agent → AwaitsRightTo p i n (k + 1)
in_range_more p wf i n k v before e h m w l f =
    elim (cases_eq m k) [
      | inl g ↦ let same : v ≡ w = same_Some v w (sym e ∙ ap (slice_get (awaits_of p i n)) (sym g) ∙ f) in subst (IsInRange p i) same (one_in_range p wf i n k v e h)
      | inr ne ↦ before m w (omega arith) f
    ]

pub in_range_all : (p : Program) (i n k : ℕ) → AwaitsRightTo p i n k → length (awaits_of p i n) ≤ k → AwaitsRight p i n
in_range_all p i n k before h = record { met = λ w (m, l, e). before m w (omega arith) (slice_get-get_or (awaits_of p i n) m w l ∙ ap Some e) }

pub out_of_range : (p : Program) (i n k : ℕ) (v : Await) → slice_get (awaits_of p i n) k ≡ Some v → moves p v.agent < v.count → AwaitsRight p i n → ⊥
out_of_range p i n k v e h right =
    let r = right.met v (k, slice_get_within (awaits_of p i n) k v e, get_or_from_slice_get (awaits_of p i n) k v v e) in omega (arith, r.last)

-- what holds of all numbers up to n, and of the next
pub up_to_more : (P : ℕ → Type 0) (n : ℕ) → ((m : ℕ) → m ≤ n → P m) → P (n + 1) → (m : ℕ) → m ≤ n + 1 → P m
up_to_more P n before here m h = elim (cases_eq m (n + 1)) [ inl e ↦ subst P (sym e) here | inr ne ↦ before m (omega arith) ]

-- what holds of all actions of the agents before, and of those of the next
pub agents_more : (P : ℕ → ℕ → Type 0) (last : ℕ → ℕ) (i : ℕ) → ((j n : ℕ) → j < i → n ≤ last j → P j n) → ((n : ℕ) → n ≤ last i → P i n) → (j n : ℕ) → j < i + 1 → n ≤ last j → P j n
agents_more P last i before here j n h l =
    elim (cases_eq j i) [ inl e ↦ subst (λ (k : ℕ). P k n) (sym e) (here n (subst (λ (k : ℕ). n ≤ last k) e l)) | inr ne ↦ before j n (omega arith) l ]
