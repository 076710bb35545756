-- Levels, and how they are counted up.
use Rattle.fleet_verify.proofs.Words.{◌≡◌, ◌≢◌, ℕ, suc, ◌+◌, ◌<◌, ◌≤◌, true, false, subst, arith, inl, inr, ◌⊎◌, zero, sym, ap, ActionId, Program, AreInRange, Holds, is_held, run, IsDone, IsDue, IsAction, DirectlyNeeds, Reaches, unit_cost, IsLevel, IsNumbering, EndsChain, ends_more, own_reach, LastStep, chain_ends_by_step, Reaches-trans, ends_one, ends_within, Reaches-first, Reaches-last, Reaches-need, cases_eq, AreLevels, IsCountedUp, IsRow, IsRowOfNeeds}
use Rattle.fleet_verify.proofs.RunCounts.{counts, readies, run_counts, chain_due, ready_or_needs}
use Rattle.fleet_verify.proofs.Timed.{critical}

-- an action's level is the cost of its critical path at unit cost
pub level_exists : (p : Program) → AreInRange p → (number : ActionId → ℕ) → IsNumbering p number → (b : ActionId) → IsAction p b → (n : ℕ) × IsLevel p b n
level_exists p in_range number is b act = critical p unit_cost in_range number is b act

pub least_due : (p : Program) → AreInRange p → (number : ActionId → ℕ) → IsNumbering p number → (holds : Holds) (t : ℕ) (a : ActionId) (n : ℕ) → IsAction p a
    → (IsDone (run p holds t) a → ⊥) → IsLevel p a n
    → ((b : ActionId) (m : ℕ) → IsAction p b → (IsDone (run p holds t) b → ⊥) → IsLevel p b m → n ≤ m) → IsDue p (run p holds t) a
least_due p in_range number is holds t a n act open' level least =
    go (ready_or_needs p (is_held holds) (readies p holds) (counts p holds) (run_counts p holds) in_range t a act (omega arith))
  where
    go : ((readies p holds t a.agent ≡ true) × (a.number ≡ counts p holds t a.agent + 1)) ⊎ ((d : ActionId) × IsAction p d × (counts p holds t d.agent < d.number) × DirectlyNeeds p a d)
        → IsDue p (run p holds t) a
    go (inl r) = record { next = r.1; ready = r.0 }
    go (inr d) =
        let below = level_exists p in_range number is d.0 d.1 in
        let more : below.0 + 1 ≤ n = level.most (below.0 + 1) (ends_more p below.0 d.0 a below.1.some act d.3) in
        absurd (omega (arith, least d.0 below.0 d.1 (λ h. omega (arith, d.2)) below.1))

pub due_done : (p : Program) (holds : Holds) (t : ℕ) (a : ActionId) → IsAction p a → IsDue p (run p holds t) a → is_held holds t a.agent ≡ false → IsDone (run p holds (t + 1)) a
due_done p holds t a act due free =
    let next : suc t ≡ t + 1 = omega arith in
    subst (λ (s : ℕ). IsDone (run p holds s) a) next (omega (arith, due.next, (run_counts p holds).free t a.agent act.agent due.ready free))

pub chain_done : (p : Program) (holds : Holds) (t : ℕ) (a b : ActionId) → Reaches p a b → a ≢ b → (IsDone (run p holds t) b → ⊥) → IsDone (run p holds (t + 1)) b → IsDone (run p holds t) a
chain_done p holds t a b chain apart before after = go ((run_counts p holds).step t b.agent) (subst (λ (s : ℕ). IsDone (run p holds s) b) next after)
  where
    next : t + 1 ≡ suc t
    next = omega arith

    due : (a ≡ b) ⊎ (a.number ≤ counts p holds t a.agent) → IsDone (run p holds t) a
    due (inl e) = absurd (apart e)
    due (inr h) = h

    go : (counts p holds (suc t) b.agent ≡ counts p holds t b.agent) ⊎ ((readies p holds t b.agent ≡ true) × (counts p holds (suc t) b.agent ≡ counts p holds t b.agent + 1))
        → b.number ≤ counts p holds (suc t) b.agent → IsDone (run p holds t) a
    go (inl e) h = absurd (before (omega arith))
    go (inr e) h = due (chain_due p (is_held holds) (readies p holds) (counts p holds) (run_counts p holds) t a chain.0 b chain.1 e.0 (omega (arith, e.1, before)))

module _ (p : Program) (level : ActionId → ℕ) (h : (a : ActionId) → IsAction p a → IsCountedUp p level a) where
  some_level : (a : ActionId) → IsAction p a → 1 ≤ level a
  some_level a k = go ((h a k).least)
    where
      go : (level a ≡ 1) ⊎ ((b : ActionId) × IsAction p b × DirectlyNeeds p a b × (level a ≡ level b + 1)) → 1 ≤ level a
      go (inl e) = omega arith
      go (inr (b, m, n, e)) = omega arith

  pub counted_numbers : IsNumbering p level
  counted_numbers = record { positive = some_level; rising = λ a b k m n. (h a k).above b m n }

  longer : (a b : ActionId) → IsAction p a → DirectlyNeeds p a b → EndsChain p (level b) b → level a ≡ level b + 1 → EndsChain p (level a) a
  longer a b k n r g = subst (λ (m : ℕ). EndsChain p m a) (sym g) (ends_more p (level b) b a r k n)

  ends : (fuel : ℕ) (a : ActionId) → IsAction p a → level a ≤ fuel → EndsChain p (level a) a
  ends zero a k l = absurd (let s : 1 ≤ level a = some_level a k in omega arith)
  ends (suc fuel) a k l =
      elim ((h a k).least) [
        | inl e ↦ subst (λ (m : ℕ). EndsChain p m a) (sym e) (ends_one p a k)
        | inr r ↦ longer a r.0 k r.2 (ends fuel r.0 r.1 (let e : level a ≡ level r.0 + 1 = r.3 in omega arith)) r.3
      ]

  pub counted_levels : AreLevels p level
  counted_levels a k = record { some = ends (level a) a k (omega arith); most = most }
    where
      most : (m : ℕ) → EndsChain p m a → m ≤ level a
      most m h = ends_within p level counted_numbers m a h

-- the row of an action, joined from those of what it directly needs
pub joined_row : (p : Program) (a : ActionId) → IsAction p a → (rows : ActionId → ℕ → ℕ) → ((b : ActionId) → IsAction p b → DirectlyNeeds p a b → IsRow p b (rows b)) → (row : ℕ → ℕ) → IsRowOfNeeds p a rows row → IsRow p a row
joined_row p a k rows h row r j c = ((λ g. into (chain_ends_by_step p x g.0 a g.1) (Reaches-first p x a g)), (λ (f, l). out f l (cases_eq j a.agent)))
  where
    x : ActionId
    x = record { agent = j; number = c }

    into : (x ≡ a) ⊎ LastStep p x a → IsAction p x → (1 ≤ c) × (c ≤ row j)
    into (inl e) m =
        let own : row a.agent ≡ a.number = r.own in
        let same : row j ≡ row a.agent = ap (λ y. row y.agent) e in
        let count : c ≡ a.number = ap (λ y. y.number) e in
        (m.first, (omega arith))
    into (inr l) m =
        let last : IsAction p l.before = Reaches-last p x l.before l.reaches in
        let both : (1 ≤ c) × (c ≤ rows l.before j) = (h l.before last l.needs j c).0 l.reaches in
        let up : rows l.before j ≤ row j = r.above l.before last l.needs j in
        let low : c ≤ rows l.before j = both.1 in
        (m.first, (omega arith))

    other : 1 ≤ c → c ≤ row j → (row j ≡ 0) ⊎ ((b : ActionId) × IsAction p b × DirectlyNeeds p a b × (row j ≡ rows b j)) → Reaches p x a
    other f l (inl e) = absurd (omega arith)
    other f l (inr (b, m, n, e)) = Reaches-trans p x b a ((h b m n j c).1 (f, (omega arith))) (Reaches-need p b a m k n)

    out : 1 ≤ c → c ≤ row j → (j ≡ a.agent) ⊎ (j ≡ a.agent → ⊥) → Reaches p x a
    out f l (inl e) =
        let own : row a.agent ≡ a.number = r.own in
        let same : row j ≡ row a.agent = ap row e in
        subst (λ i. Reaches p (record { agent = i; number = c }) a) (sym e) (own_reach p a.agent c a.number k.agent f (omega arith) k.last)
    out f l (inr n) = other f l (r.least j n)
