-- Stretches that are followed back along levels that rise by one.
use Rattle.fleet_verify.proofs.Words.{◌≡◌, ◌≢◌, ℕ, zero, suc, ◌+◌, ◌-◌, ◌<◌, ◌≤◌, List, refl, sym, ap, subst, arith, inl, ActionId, Program, IsAction, IsCriticalCost, level_in, AreCostRows, LeadsBack, IsStretchTo, IsWholeTo, of_agent, LONGEST}
use Rattle.fleet_verify.proofs.CriticalPaths.{stretch_begins, stretch_on}
use Rattle.fleet_verify.proofs.Members.{same_action}
use Rattle.fleet_verify.proofs.Timed.{one_cost}

-- a stretch goes on to an action from which on each leads back to the one before
pub stretch_down : (p : Program) (cost : ActionId → ℕ) (last : ActionId) (total low time : ℕ) → last.number < low + LONGEST → IsCriticalCost p cost (of_agent last low) time
    → (d first end : ℕ) → low + d ≡ first → IsStretchTo p cost last total first end → ((n : ℕ) → low < n → n ≤ first → LeadsBack p cost (of_agent last n) (of_agent last (n - 1))) → IsStretchTo p cost last total low time
stretch_down p cost last total low time room critical zero first end is h leads =
    let same : first ≡ low = omega (arith, is) in
    let when : end ≡ time = one_cost p cost (of_agent last low) end time (subst (λ (n : ℕ). IsCriticalCost p cost (of_agent last n) end) same h.way.critical) critical in
    subst (IsStretchTo p cost last total low) when (subst (λ (n : ℕ). IsStretchTo p cost last total n end) same h)
stretch_down p cost last total low time room critical (suc d) first end is h leads =
    let back = leads first (omega (arith, is)) (omega arith) in
    stretch_down p cost last total low time room critical d (first - 1) back.end (omega (arith, is))
    (stretch_on p cost last total first end h (omega (arith, room, is)) (of_agent last (first - 1)) back.end (record { agent = refl; number = omega (arith, is); before = back; end = back.critical }))
    (λ n l m. leads n l (omega (arith, m)))

-- ---- levels

-- from one action of the agent of a on, each level up to that of a is one above the one before
abbrev pub Climbs : List (List ℕ) → ActionId → ℕ → Type 0
Climbs rows a first = (n : ℕ) → first < n → n ≤ a.number → level_in rows (of_agent a n) ≡ level_in rows (of_agent a (n - 1)) + 1

pub level_climbed : (rows : List (List ℕ)) (a : ActionId) (first : ℕ) → Climbs rows a first → (d k : ℕ) → first + d ≡ k → k ≤ a.number → level_in rows (of_agent a k) ≡ level_in rows (of_agent a first) + d
level_climbed rows a first climbs zero k is l =
    let same : k ≡ first = omega (arith, is) in
    let e : level_in rows (of_agent a k) ≡ level_in rows (of_agent a first) = ap (λ (n : ℕ). level_in rows (of_agent a n)) same in
    omega (arith, e)
level_climbed rows a first climbs (suc d) k is l =
    let up = climbs k (omega (arith, is)) l in
    let rest = level_climbed rows a first climbs d (k - 1) (omega (arith, is)) (omega (arith, l)) in
    omega (arith, up, rest)

module _ (p : Program) (cost : ActionId → ℕ) (rows : List (List ℕ)) (h : AreCostRows p cost rows) (ones : (a : ActionId) → cost a ≡ 1) (a : ActionId) (act : IsAction p a) (end : ℕ) (critical : IsCriticalCost p cost a end)
    (first : ℕ) (some : 1 ≤ first) (within : first ≤ a.number) (climbs : Climbs rows a first) where
  act_at : (n : ℕ) → 1 ≤ n → n ≤ a.number → IsAction p (of_agent a n)
  act_at n l m = record { agent = act.agent; first = l; last = omega (arith, m, act.last) }

  leads_back : (n : ℕ) → first < n → n ≤ a.number → LeadsBack p cost (of_agent a n) (of_agent a (n - 1))
  leads_back n l m =
      let here : level_in rows (of_agent a n) ≡ level_in rows (of_agent a (n - 1)) + cost (of_agent a n) = omega (arith, climbs n l m, ones (of_agent a n)) in
      record {
        action = act_at (n - 1) (omega (arith, l, some)) (omega (arith, m));
        needs = inl (refl, omega (arith, l), omega (arith, l, some));
        end = level_in rows (of_agent a (n - 1));
        critical = h.each (of_agent a (n - 1)) (act_at (n - 1) (omega (arith, l, some)) (omega (arith, m)));
        all = subst (IsCriticalCost p cost (of_agent a n)) here (h.each (of_agent a n) (act_at n (omega (arith, l)) m));
      }

  climbed : end ≡ level_in rows (of_agent a first) + (a.number - first)
  climbed = omega (arith, one_cost p cost a end (level_in rows a) critical (h.each a act), level_climbed rows a first climbs (a.number - first) a.number (omega (arith, within)) (omega arith))

  climbed_end : IsCriticalCost p cost (of_agent a first) (end - (a.number - first))
  climbed_end =
      let low : level_in rows (of_agent a first) ≡ end - (a.number - first) = omega (arith, climbed) in
      subst (IsCriticalCost p cost (of_agent a first)) low (h.each (of_agent a first) (act_at first some within))

  -- the actions up to a are a stretch, which has no room for one more or cannot begin sooner
  pub climbed_back : a.number < first + LONGEST → (a.number + 1 < first + LONGEST → 1 < first → level_in rows (of_agent a first) ≢ level_in rows (of_agent a (first - 1)) + 1) → (m : ℕ) → m ≡ a.number - first
      → (a.number - first ≤ end) × IsStretchTo p cost a end first (end - m) × IsWholeTo p cost a first (end - m)
  climbed_back few jump m is = subst (λ (k : ℕ). (a.number - first ≤ end) × IsStretchTo p cost a end first (end - k) × IsWholeTo p cost a first (end - k)) (sym is) (
    (omega (arith, climbed)),
    stretch_down p cost a end first (end - (a.number - first)) few climbed_end (a.number - first) a.number end (omega (arith, within)) (stretch_begins p cost a end act critical) leads_back,
    (λ room b f.
        let at : b ≡ of_agent a (first - 1) = same_action b (of_agent a (first - 1)) (sym f.2.agent) (omega (arith, f.2.before)) in
        let before = one_cost p cost (of_agent a (first - 1)) f.0 (level_in rows (of_agent a (first - 1))) (subst (λ (x : ActionId). IsCriticalCost p cost x f.0) at f.2.critical)
        (h.each (of_agent a (first - 1)) (act_at (first - 1) (omega (arith, f.2.before, f.2.some)) (omega (arith, within)))) in
        jump room (omega (arith, f.2.before, f.2.some)) (omega (arith, f.1, before, ones (of_agent a first), climbed))),
  )
