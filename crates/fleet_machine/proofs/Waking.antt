-- Agents that are taken off lists.
use Rattle.std.proofs.Common.{◌≡◌, ◌≢◌, ◌<◌, ◌≤◌, ◌+◌, ℕ, Bool, true, false, ◌||◌, ◌&&◌, List, length, set, Option, Some, None, refl, ap, sym, ◌∙◌, inl, inr, ◌⊎◌, arith, cond, get_or-set_same, get_or-set_other, length-set}
use Rattle.std.specs.Prelude.{is_some, IfSome, IfNone, ◌==◌, nat_lt, nat_le}
use Rattle.std.specs.List.{count_by}
use Rattle.std.proofs.lemmas.Bool.{cases_eq, cases_lt, eqb-true, ne_eqb, lt-ltb, le-ltb, le-leb, leb-true, and_parts, or_parts, true≢false}
use Rattle.std.proofs.lemmas.Bool.Decides.{eqb_tells}
use Rattle.std.proofs.lemmas.Option.{same_Some, none-some}
use Rattle.std.proofs.lemmas.List.Sums.{sum_by-set}
use Rattle.std.proofs.Math.Bool.{or-true, or-false}
use Rattle.fleet_machine.specs.AgentSet.{AreNoneFrom, IsNextFrom}
use Rattle.fleet_machine.specs.WaitLists.{home_of}
use Rattle.fleet_model.specs.Machine.{count_at}
use Rattle.fleet_machine.specs.Machine.{MachineState, flag_of, is_reached, least_of, list_of, agent_of}
use Rattle.fleet_machine.proofs.Waiting.{agent_of_list}
use Rattle.fleet_machine.specs.Waking.{is_on, if_not_on, is_woken_by, IsWoken}

pub eqb-refl : (n : ℕ) → (n == n) ≡ true
eqb-refl n = elim (eqb_tells n n) [ inl h ↦ h.0 | inr h ↦ absurd (h.1 refl) ]

-- ---- one list

-- how many agents stand in lists
abbrev pub standing_in : MachineState → ℕ
standing_in m = count_by is_some m.waiting.homes

-- so far some have been taken off list j
pub record IsWaking (j : ℕ) (a b : MachineState) : Type 0 where
  pub same : b ≡ record a { due = b.due; waiting = record a.waiting { homes = b.waiting.homes } }
  pub long_due : length b.due ≡ length a.due
  pub long_homes : length b.waiting.homes ≡ length a.waiting.homes
  pub each : (i : ℕ) → ((home_of b.waiting.homes i ≡ home_of a.waiting.homes i) × (flag_of b.due i ≡ flag_of a.due i))
      ⊎ ((home_of a.waiting.homes i ≡ Some j) × (home_of b.waiting.homes i ≡ None) × (i < length a.due → flag_of b.due i ≡ true))

pub not_yet : (j : ℕ) (a : MachineState) → IsWaking j a a
not_yet j a = record { same = refl; long_due = refl; long_homes = refl; each = λ i. inl (refl, refl) }

module _ (j : ℕ) (a b : MachineState) (before : IsWaking j a b) where
  pub one_taken : (i : ℕ) → i < length b.waiting.homes → home_of b.waiting.homes i ≡ Some j
      → IsWaking j a (record b { due = set b.due i true; waiting = record b.waiting { homes = set b.waiting.homes i None } })
  one_taken i there at = record {
    same = ap (λ (m : MachineState). record m { due = set b.due i true; waiting = record m.waiting { homes = set b.waiting.homes i None } }) before.same;
    long_due = length-set b.due i true ∙ before.long_due;
    long_homes = length-set b.waiting.homes i None ∙ before.long_homes;
    each = λ k. elim (cases_eq k i) [
      | inl same ↦ inr (
        rw same (first (before.each i)),
        rw same (get_or-set_same b.waiting.homes i None None there),
        λ inside. rw same (get_or-set_same b.due i true false (let here : k < length a.due = inside in omega (arith, before.long_due))),
      )
      | inr other ↦ elim (before.each k) [
        | inl kept ↦ inl (get_or-set_other b.waiting.homes i k None None other ∙ kept.0, get_or-set_other b.due i k true false other ∙ kept.1)
        | inr taken ↦ inr (taken.0, get_or-set_other b.waiting.homes i k None None other ∙ taken.1, λ inside. get_or-set_other b.due i k true false other ∙ taken.2 inside)
      ]
    ];
  }
    where
      first : ((home_of b.waiting.homes i ≡ home_of a.waiting.homes i) × (flag_of b.due i ≡ flag_of a.due i))
          ⊎ ((home_of a.waiting.homes i ≡ Some j) × (home_of b.waiting.homes i ≡ None) × (i < length a.due → flag_of b.due i ≡ true)) → home_of a.waiting.homes i ≡ Some j
      first (inl kept) = sym kept.0 ∙ at
      first (inr taken) = taken.0

  pub all_taken : (most : ℕ) → ((i : ℕ) → home_of b.waiting.homes i ≢ Some j) → IsWoken (λ k. k == j) a (record b { least = set b.least j most })
  all_taken most none = record {
    same = ap (λ (m : MachineState). record m { least = set b.least j most }) before.same;
    long_due = before.long_due;
    long_least = length-set b.least j most ∙ ap (λ (m : MachineState). length m.least) before.same;
    least = λ k off. let other : k ≢ j = λ same. absurd (true≢false (sym (eqb-refl j) ∙ ap (λ n. n == j) (sym same) ∙ off)) in
        get_or-set_other b.least j k most 0 other ∙ ap (λ (m : MachineState). least_of m.least k) before.same;
    long_homes = before.long_homes;
    homes = λ i. homes_of (home_of a.waiting.homes i) refl (before.each i);
    due = λ i inside. due_of (home_of a.waiting.homes i) refl inside (before.each i);
  }
    where
      Each : ℕ → Type 0
      Each i = ((home_of b.waiting.homes i ≡ home_of a.waiting.homes i) × (flag_of b.due i ≡ flag_of a.due i))
          ⊎ ((home_of a.waiting.homes i ≡ Some j) × (home_of b.waiting.homes i ≡ None) × (i < length a.due → flag_of b.due i ≡ true))

      off : (i k : ℕ) → home_of a.waiting.homes i ≡ Some k → home_of b.waiting.homes i ≡ home_of a.waiting.homes i → (k == j) ≡ false
      off i k at kept = ne_eqb k j (λ same. none i (kept ∙ at ∙ ap Some same))

      homes_of : {i : ℕ} (h : Option ℕ) → home_of a.waiting.homes i ≡ h → Each i → home_of b.waiting.homes i ≡ if_not_on (λ k. k == j) h
      homes_of {i} None e (inl kept) = kept.0 ∙ e
      homes_of {i} None e (inr taken) = taken.1
      homes_of {i} (Some k) e (inl kept) = rw (off i k e kept.0) (kept.0 ∙ e)
      homes_of {i} (Some k) e (inr taken) = let same : k ≡ j = same_Some _ _ (sym e ∙ taken.0) in rw (same, eqb-refl j) taken.1

      due_of : {i : ℕ} (h : Option ℕ) → home_of a.waiting.homes i ≡ h → i < length a.due → Each i → flag_of b.due i ≡ (flag_of a.due i || is_on (λ k. k == j) h)
      due_of {i} None e inside (inl kept) = kept.1 ∙ sym (or-false (flag_of a.due i))
      due_of {i} None e inside (inr taken) = absurd (none-some _ (sym e ∙ taken.0))
      due_of {i} (Some k) e inside (inl kept) = rw (off i k e kept.0) (kept.1 ∙ sym (or-false (flag_of a.due i)))
      due_of {i} (Some k) e inside (inr taken) = let same : k ≡ j = same_Some _ _ (sym e ∙ taken.0) in rw (same, eqb-refl j) (taken.2 inside ∙ sym (or-true (flag_of a.due i)))

-- fewer stand in lists
pub fewer : (homes : List (Option ℕ)) (i j : ℕ) → i < length homes → home_of homes i ≡ Some j → count_by is_some (set homes i None) < count_by is_some homes
fewer homes i j there at = less (sum_by-set one homes i None None there) (ap one at)
  where
    one : Option ℕ → ℕ
    one h = cond (is_some h) 1 0

    less : {before after here : ℕ} → after + here ≡ before + 0 → here ≡ 1 → after < before
    less e h = omega arith

fewer_after : (j : ℕ) (before after : MachineState) (i : ℕ) → (i < length before.waiting.homes) × (home_of before.waiting.homes i ≡ Some j)
    × (after ≡ record before { due = set before.due i true; waiting = record before.waiting { homes = set before.waiting.homes i None } })
    → standing_in after < standing_in before
fewer_after j before after i h = rw h.2 (fewer before.waiting.homes i j h.0 h.1)

-- what was taken off list j, if something was: an agent that stood there. It is due now
abbrev pub IsTakenOff : ℕ → (before after : MachineState) → ℕ → Type 0
IsTakenOff j before after i =
    (i < length before.waiting.homes) × (home_of before.waiting.homes i ≡ Some j)
    × (after ≡ record before { due = set before.due i true; waiting = record before.waiting { homes = set before.waiting.homes i None } })

pub one_woken : (j : ℕ) (a b c : MachineState) (taken : Option ℕ) → IsWaking j a b → true ≡ is_some taken → IfSome taken (IsTakenOff j b c) → IsWaking j a c
one_woken j a b c None before is h = absurd (cc is)
one_woken j a b c (Some i) before is h = rw h.2 (one_taken j a b before i h.0 h.1)

pub fewer_woken : (j : ℕ) (b c : MachineState) (taken : Option ℕ) → true ≡ is_some taken → IfSome taken (IsTakenOff j b c) → standing_in c < standing_in b
fewer_woken j b c None is h = absurd (cc is)
fewer_woken j b c (Some i) is h = fewer_after j b c i h

pub all_woken : (j most : ℕ) (a b c d : MachineState) (taken : Option ℕ) → IsWaking j a b → false ≡ is_some taken → IfNone taken ((i : ℕ) → home_of b.waiting.homes i ≢ Some j)
    → IfNone taken (c ≡ b) → d ≡ record c { least = set c.least j most } → IsWoken (λ k. k == j) a d
all_woken j most a b c d None before is none same then = rw (then, same) (all_taken j a b before most none)
all_woken j most a b c d (Some i) before is none same then = absurd (cc is)

-- ---- all lists of some

-- the same lists by another test
pub same_lists : (t u : ℕ → Bool) (a b : MachineState) → ((k : ℕ) → u k ≡ t k) → IsWoken t a b → IsWoken u a b
same_lists t u a b e woken = record {
  same = woken.same;
  long_due = woken.long_due;
  long_least = woken.long_least;
  long_homes = woken.long_homes;
  homes = λ i. woken.homes i ∙ homes_by (home_of a.waiting.homes i);
  due = λ i inside. woken.due i inside ∙ ap (λ b. flag_of a.due i || b) (on_by (home_of a.waiting.homes i));
  least = λ j off. woken.least j (sym (e j) ∙ off);
}
  where
    homes_by : (h : Option ℕ) → if_not_on t h ≡ if_not_on u h
    homes_by None = refl
    homes_by (Some k) = rw (e k) refl

    on_by : (h : Option ℕ) → is_on t h ≡ is_on u h
    on_by None = refl
    on_by (Some k) = sym (e k)

home_law : (t u v : ℕ → Bool) (h : Option ℕ) → ((k : ℕ) → v k ≡ (t k || u k)) → if_not_on u (if_not_on t h) ≡ if_not_on v h
home_law t u v None e = refl
home_law t u v (Some k) e = rw (e k) (go (t k) (u k) refl)
  where
    go : (a b : Bool) → u k ≡ b → if_not_on u (cond a None (Some k)) ≡ cond (a || b) None (Some k)
    go true b is = refl
    go false b is = rw is refl

due_law : (t u v : ℕ → Bool) (d : Bool) (h : Option ℕ) → ((k : ℕ) → v k ≡ (t k || u k)) → ((d || is_on t h) || is_on u (if_not_on t h)) ≡ (d || is_on v h)
due_law t u v true h e = refl
due_law t u v false None e = refl
due_law t u v false (Some k) e = rw (e k) (go (t k) (u k) refl)
  where
    go : (a b : Bool) → u k ≡ b → (a || is_on u (cond a None (Some k))) ≡ (a || b)
    go true b is = refl
    go false b is = is

pub none_woken : (t : ℕ → Bool) (m : MachineState) → ((k : ℕ) → t k ≡ false) → IsWoken t m m
none_woken t m none = record {
  same = refl;
  long_due = refl;
  long_least = refl;
  least = λ j off. refl;
  long_homes = refl;
  homes = λ i. kept (home_of m.waiting.homes i);
  due = λ i inside. undue (home_of m.waiting.homes i) (flag_of m.due i);
}
  where
    kept : (h : Option ℕ) → h ≡ if_not_on t h
    kept None = refl
    kept (Some k) = rw (none k) refl

    undue : (h : Option ℕ) (d : Bool) → d ≡ (d || is_on t h)
    undue None d = sym (or-false d)
    undue (Some k) d = rw (none k) (sym (or-false d))

pub more_woken : (t u v : ℕ → Bool) (a b c : MachineState) → ((k : ℕ) → v k ≡ (t k || u k)) → IsWoken t a b → IsWoken u b c → IsWoken v a c
more_woken t u v a b c e first then = record {
  same = then.same ∙ ap (λ (m : MachineState). record m { due = c.due; waiting = record m.waiting { homes = c.waiting.homes }; least = c.least }) first.same;
  long_due = then.long_due ∙ first.long_due;
  long_least = then.long_least ∙ first.long_least;
  least = λ j off. let calm = or_parts (t j) (u j) (sym (e j) ∙ off) in then.least j calm.1 ∙ first.least j calm.0;
  long_homes = then.long_homes ∙ first.long_homes;
  homes = λ i. then.homes i ∙ (ap (if_not_on u) (first.homes i) ∙ home_law t u v (home_of a.waiting.homes i) e);
  due = λ i inside.
      then.due i (omega (arith, first.long_due))
      ∙ (rw (first.due i inside, first.homes i) (due_law t u v (flag_of a.due i) (home_of a.waiting.homes i) e));
}

-- those of the flagged agents that are below n
abbrev pub below : List Bool → ℕ → ℕ → Bool
below flags n k = flag_of flags k && nat_lt k n

pub one_more_below : (flags : List Bool) (from i : ℕ) → IsNextFrom flags from i → (k : ℕ) → below flags (i + 1) k ≡ (below flags from k || (k == i))
one_more_below flags from i next k =
    elim (cases_lt k from) [
      | inl lt ↦
          let later = next.later in
          rw (lt-ltb k from lt, lt-ltb k (i + 1) (omega arith), ne_eqb k i (omega arith)) (sym (or-false _))
      | inr ge ↦ elim (cases_eq k i) [
        | inl same ↦ rw (same, next.member, lt-ltb i (i + 1) (omega arith), eqb-refl i) (sym (or-true _))
        | inr other ↦ elim (cases_lt k i) [
          | inl lt ↦ rw (next.between k ge lt, ne_eqb k i other) refl
          | inr past ↦ rw (le-ltb k (i + 1) (omega arith), le-ltb k from ge, ne_eqb k i other) (sym (or-false _))
        ]
      ]
    ]

pub all_below : (flags : List Bool) (from : ℕ) → AreNoneFrom flags from → (k : ℕ) → flag_of flags k ≡ (below flags from k || false)
all_below flags from none k =
    elim (cases_lt k from) [
      | inl lt ↦ rw (lt-ltb k from lt) (and_yes (flag_of flags k))
      | inr ge ↦ rw (none k ge) refl
    ]
  where
    and_yes : (a : Bool) → a ≡ ((a && true) || false)
    and_yes true = refl
    and_yes false = refl

pub none_below : (flags : List Bool) (k : ℕ) → below flags 0 k ≡ false
none_below flags k = and_no (flag_of flags k)
  where
    and_no : (a : Bool) → (a && nat_lt k 0) ≡ false
    and_no true = le-ltb k 0 (omega arith)
    and_no false = refl

-- ---- the lists of those whose least counts are reached

-- the lists of the flagged agents below n whose least counts are reached
abbrev pub reached_below : MachineState → ℕ → ℕ → Bool
reached_below m n k = below m.moving n (agent_of k) && is_reached m k

reached_law : (a b r s v : Bool) → v ≡ (a || b) → (b ≡ true → r ≡ s) → (v && r) ≡ ((a && r) || (b && s))
reached_law true true r s v is same = rw (is, same refl) (sym (or_same s))
  where
    or_same : (x : Bool) → (x || x) ≡ x
    or_same true = refl
    or_same false = refl
reached_law true false r s v is same = rw is (sym (or-false r))
reached_law false true r s v is same = rw is (same refl)
reached_law false false r s v is same = rw is refl

-- what is reached at a list is reached still while the lists of agents before its own are woken
pub reached_still : (m now : MachineState) (from k : ℕ) → IsWoken (reached_below m from) m now → from ≤ agent_of k → is_reached m k ≡ is_reached now k
reached_still m now from k woken later =
    let off : reached_below m from k ≡ false = rw (le-ltb (agent_of k) from later) (no_more (flag_of m.moving (agent_of k)) (is_reached m k)) in
    let least : least_of now.least k ≡ least_of m.least k = woken.least k off in
    let count : count_at now.configuration (agent_of k) ≡ count_at m.configuration (agent_of k) = ap (λ (w : MachineState). count_at w.configuration (agent_of k)) woken.same in
    rw (least, count) refl
  where
    no_more : (a r : Bool) → ((a && false) && r) ≡ false
    no_more true r = refl
    no_more false r = refl

pub one_more_reached : (m now : MachineState) (from j : ℕ) → IsWoken (reached_below m from) m now → IsNextFrom m.moving from j
    → (k : ℕ) → reached_below m (j + 1) k ≡ (reached_below m from k || ((agent_of k == j) && is_reached now k))
one_more_reached m now from j woken next k =
    reached_law (below m.moving from (agent_of k)) (agent_of k == j) (is_reached m k) (is_reached now k) (below m.moving (j + 1) (agent_of k)) (one_more_below m.moving from j next (agent_of k))
    (λ here. let same : agent_of k ≡ j = eqb-true (agent_of k) j here in let later = next.later in reached_still m now from k woken (omega (arith, same, later)))

pub all_reached : (m : MachineState) (from : ℕ) → AreNoneFrom m.moving from → (k : ℕ) → is_woken_by m k ≡ (reached_below m from k || false)
all_reached m from none k = ap (λ b. b && is_reached m k) (all_below m.moving from none (agent_of k) ∙ or-false (below m.moving from (agent_of k))) ∙ sym (or-false (reached_below m from k))

pub none_reached : (m : MachineState) (k : ℕ) → reached_below m 0 k ≡ false
none_reached m k = ap (λ b. b && is_reached m k) (none_below m.moving (agent_of k))

-- of an agent's lists that of its count alone, if its least count is reached
module _ (j count list : ℕ) (a : MachineState) (count_is : count ≡ count_at a.configuration j) (list_is : list ≡ list_of (record { agent = j; count = count })) where
  agent_is : agent_of list ≡ j
  agent_is = rw list_is (agent_of_list (record { agent = j; count = count }))

  -- a list of the agent that is reached is this one
  reached_is : (k : ℕ) → agent_of k ≡ j → is_reached a k ≡ true → k ≡ list
  reached_is k here reached =
      let of_count : (list_of (record { agent = agent_of k; count = count_at a.configuration (agent_of k) }) == k) ≡ true = (and_parts (list_of (record { agent = agent_of k; count = count_at a.configuration (agent_of k) }) == k) (nat_le (least_of a.least k) (count_at a.configuration (agent_of k))) reached).0 in
      let is = eqb-true _ _ of_count in
      sym is ∙ (ap (λ (n : ℕ). list_of (record { agent = n; count = count_at a.configuration n })) here ∙ (ap (λ (n : ℕ). list_of (record { agent = j; count = n })) (sym count_is) ∙ sym list_is))

  here_reached : is_reached a list ≡ nat_le (least_of a.least list) count
  here_reached =
      let same : list_of (record { agent = agent_of list; count = count_at a.configuration (agent_of list) }) ≡ list = ap (λ (n : ℕ). list_of (record { agent = n; count = count_at a.configuration n })) agent_is ∙ (ap (λ (n : ℕ). list_of (record { agent = j; count = n })) (sym count_is) ∙ sym list_is) in
      let counts : count_at a.configuration (agent_of list) ≡ count = ap (λ (n : ℕ). count_at a.configuration n) agent_is ∙ sym count_is in
      let own : (list_of (record { agent = agent_of list; count = count_at a.configuration (agent_of list) }) == list) ≡ true = rw same (eqb-refl list) in
      ap (λ b. b && nat_le (least_of a.least list) (count_at a.configuration (agent_of list))) own ∙ ap (λ n. nat_le (least_of a.least list) n) counts

  pub woken_if : (b : MachineState) → least_of a.least list ≤ count → IsWoken (λ k. k == list) a b → IsWoken (λ k. (agent_of k == j) && is_reached a k) a b
  woken_if b reached woken = same_lists (λ k. k == list) (λ k. (agent_of k == j) && is_reached a k) a b (λ k. same k (k == list) refl) woken
    where
      same : (k : ℕ) (h : Bool) → (k == list) ≡ h → ((agent_of k == j) && is_reached a k) ≡ (k == list)
      same k true e =
          let here : k ≡ list = eqb-true k list e in
          let own : (agent_of list == j) ≡ true = rw agent_is (eqb-refl j) in
          rw (here, own, here_reached, le-leb (least_of a.least list) count reached) (sym (eqb-refl list))
      same k false e = go (agent_of k == j) (is_reached a k) refl refl ∙ sym e
        where
          go : (x y : Bool) → (agent_of k == j) ≡ x → is_reached a k ≡ y → (x && y) ≡ false
          go true true at reached = absurd (true≢false (sym (ap (λ n. n == list) (reached_is k (eqb-true (agent_of k) j at) reached) ∙ eqb-refl list) ∙ e))
          go true false at reached = refl
          go false y at reached = refl

  pub not_woken : count < least_of a.least list → IsWoken (λ k. (agent_of k == j) && is_reached a k) a a
  not_woken early = none_woken (λ k. (agent_of k == j) && is_reached a k) a (λ k. off k (agent_of k == j) (is_reached a k) refl refl)
    where
      off : (k : ℕ) (x y : Bool) → (agent_of k == j) ≡ x → is_reached a k ≡ y → (x && y) ≡ false
      off k true true at reached =
          let is = reached_is k (eqb-true (agent_of k) j at) reached in
          let le = leb-true _ _ (sym here_reached ∙ (ap (λ n. is_reached a n) (sym is) ∙ reached)) in
          absurd (omega (arith, le, early))
      off k true false at reached = refl
      off k false y at reached = refl
