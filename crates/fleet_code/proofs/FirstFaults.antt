-- What reading refuses is the first fault.
use Rattle.fleet_code.proofs.Words.{◌≡◌, ◌≢◌, ℕ, zero, suc, ◌+◌, ◌-◌, ◌≤◌, ◌<◌, ◌||◌, Bool, true, false, cond, not, ltb, leb, eqb, List, [], ◌∷◌, ◌++◌, length, get_or, take, drop, All, Option, Some, None, Result, Ok, Err, refl, sym, ap, subst, ◌∙◌, append_assoc, arith, inl, inr, ◌⊎◌, nat_eq, IsTrue, slice_get, w16, w32, from_be_bytes, Any, flat_map, starts_with, or_cases, or_parts, ltb-true, ltb-false, leb-true, leb-false, eqb-true, eqb-false, not-true, not-false, false_from_ne_true, Decides-eqb, starts_is, length-append, get_or_append_left, All-nil, All-cons, All-append, Step, Await, Action, AgentProgram, Program, AreAwaits, IsAgent, total_moves, AwaitsFrom, awaits_are, ◌>>=◌, ◌>>◌, fault_if, bind_err, test_err, err_is, Version, One, Two, LoadFault, Truncated, AgentCount, Total, AwaitAgent, AwaitOrder, AwaitCount, Trailing, magic, two_bytes, count_len, most_count, most_moves, cell, opcode, has_opcode, agent, IsSpellable, AreSpellable, IsSpellableAgent, CanSpell, Field, magic_at, number_at, long_number_at, count_from, cell_from, await_at, step_at, step_or, action_at, actions_at, agent_at, agents_at, program_as, BeginsWithNumber, BeginsWithCount, HasHead, IsOffset, ReachesAgent, ReachesAction, ReachesOpcode, ReachesAwait, ReachesOrder, ReachesCount, IsWithoutMagic, EndsWithin, IsFirstFaultIn, MAX_AGENTS, MAX_MOVES_IN_ALL}
use Rattle.fleet_model.specs.declared.geometry.Cell.{Cell}
use Rattle.fleet_code.specs.declared.fault.LoadFault.TheVariants.{Magic, Opcode}
use Rattle.fleet_code.specs.Spelling.{count as count_of, await, action}
use Rattle.fleet_code.proofs.Parts.{IsBytes, TakesFront, number_takes, count_takes, cell_takes, await_takes}
use Rattle.fleet_code.proofs.RoundTrip.{with_await, magic_long, step_again, action_takes, agent_takes, agents_take, after_count, after_start, after_agents, after_agent_count}
use Rattle.fleet_code.proofs.Awaited.{least_after, after_more, from_more, all_below, some_above}
use Rattle.fleet_code.proofs.Reached.{each_from, to_first, total_from, total_more, parts_more, agent_reached, opcode_left, agent_left}

-- ---- steps that fail

no_fault : {A : Type 0} (x : A) (f : LoadFault) → Ok x ≡ Err f → ⊥
no_fault x f e = cc

short : {A : Type 0} (b : Bool) (d : LoadFault) (x : A) (f : LoadFault) → cond b (Err d) (Ok x) ≡ Err f → (b ≡ true) × (d ≡ f)
short true d x f e = (refl, cc)
short false d x f e = absurd cc

number_fails : (bytes : List ℕ) (f : LoadFault) → number_at bytes ≡ Err f → (Truncated ≡ f) × (length bytes < 2)
number_fails bytes f e =
    let s = short (ltb (length bytes) 2) Truncated (from_be_bytes w16 (take 2 bytes), drop 2 bytes) f e in
    (s.1, ltb-true (length bytes) 2 s.0)

long_number_fails : (bytes : List ℕ) (f : LoadFault) → long_number_at bytes ≡ Err f → (Truncated ≡ f) × (length bytes < 4)
long_number_fails bytes f e =
    let s = short (ltb (length bytes) 4) Truncated (from_be_bytes w32 (take 4 bytes), drop 4 bytes) f e in
    (s.1, ltb-true (length bytes) 4 s.0)

count_fails : (v : Version) (bytes : List ℕ) (f : LoadFault) → count_from v bytes ≡ Err f → (Truncated ≡ f) × (length bytes < (count_len v))
count_fails One bytes f e = number_fails bytes f e
count_fails Two bytes f e = long_number_fails bytes f e

number_len : (bytes : List ℕ) (n : ℕ) (rest : List ℕ) → TakesFront bytes (two_bytes n) rest → length bytes ≡ 2 + length rest
number_len bytes n rest t = let all = ap length t.parts in omega (arith, all)

cell_len : (bytes : List ℕ) (c : Cell) (rest : List ℕ) → TakesFront bytes (cell c) rest → length bytes ≡ 4 + length rest
cell_len bytes c rest t = let all = ap length t.parts in omega (arith, all)

cell_fails : (bytes : List ℕ) (f : LoadFault) → IsBytes bytes → cell_from bytes ≡ Err f → (Truncated ≡ f) × (length bytes < 4)
unfolding cell_from
cell_fails bytes f fits e =
    elim (bind_err (number_at bytes) (λ x. number_at x.1 >>= λ y. Ok (record { x = x.0; y = y.0 }, y.1)) f e) [
      | inl h ↦ (let s = number_fails bytes f h in let few = s.1 in (s.0, omega (arith, few)))
      | inr x ↦ (
          let first = number_len bytes x.0.0 x.0.1 (number_takes bytes x.0.0 x.0.1 fits x.1).0 in
          elim (bind_err (number_at x.0.1) (λ y. Ok (record { x = x.0.0; y = y.0 }, y.1)) f x.2) [
            | inl h ↦ (let s = number_fails x.0.1 f h in let few = s.1 in (s.0, omega (arith, first, few)))
            | inr y ↦ absurd (no_fault (record { x = x.0.0; y = y.0.0 }, y.0.1) f y.2)
          ])
    ]

number_is_read : (bytes : List ℕ) (n : ℕ) (rest : List ℕ) → IsBytes bytes → number_at bytes ≡ Ok (n, rest) → BeginsWithNumber bytes n rest
number_is_read bytes n rest fits e = let t = number_takes bytes n rest fits e in record { fits = t.1; parts = t.0.parts }

count_is_read : (v : Version) (bytes : List ℕ) (n : ℕ) (rest : List ℕ) → IsBytes bytes → count_from v bytes ≡ Ok (n, rest) → BeginsWithCount v bytes n rest
count_is_read v bytes n rest fits e = let t = count_takes v bytes n rest fits e in record { fits = t.1; parts = t.0.parts }

ends : (v : Version) (bytes : List ℕ) (f : LoadFault) → Truncated ≡ f → EndsWithin v bytes → IsFirstFaultIn v bytes f
ends v bytes f e h = subst (IsFirstFaultIn v bytes) e h

-- ---- an await

await_fails : (v : Version) (bytes : List ℕ) (n i : ℕ) (ws : List Await) (at : ℕ) (rest : List ℕ) (f : LoadFault) → ReachesAwait v bytes n i ws at rest → AwaitsFrom n i 0 ws → IsBytes rest
    → await_at v at n i (least_after 0 ws) rest ≡ Err f → IsFirstFaultIn v bytes f
unfolding await_at
await_fails v bytes n i ws at rest f r from fits e =
    let least = least_after 0 ws in
    let counted : ℕ → ℕ × List ℕ → Field Await = λ j count. fault_if (eqb count.0 0) (AwaitCount at) >> Ok (record { agent = j; count = count.0 }, count.1) in
    let ordered : ℕ × List ℕ → Field Await = λ a. fault_if (ltb a.0 least) (AwaitOrder at) >> (count_from v a.1 >>= counted a.0) in
    elim (bind_err (number_at rest) (λ a. fault_if (leb n a.0 || eqb a.0 i) (AwaitAgent at) >> ordered a) f e) [
      | inl h ↦ (let s = number_fails rest f h in ends v bytes f s.0 (inr (inr (inr (inr (inl (n, i, ws, at, rest, r, s.1)))))))
      | inr a ↦ (
          let j = a.0.0 in
          let after = a.0.1 in
          let named = number_takes rest j after fits a.1 in
          let has = number_is_read rest j after fits a.1 in
          elim (test_err (leb n j || eqb j i) (AwaitAgent at) (ordered a.0) f a.2) [
            | inl wrong ↦ (
                let which : (n ≤ j) ⊎ (j ≡ i) =
                elim (or_cases (leb n j) (eqb j i) wrong.0) [
                  | inl none ↦ inl (leb-true n j none)
                  | inr own ↦ inr (eqb-true j i own)
                ] in
                subst (IsFirstFaultIn v bytes) wrong.1 (n, i, ws, rest, j, after, r, has, which))
            | inr right ↦ (
                let tests = or_parts (leb n j) (eqb j i) right.0 in
                let reached : ReachesOrder v bytes n ws at j after = record { i = i; at_agent = rest; opcode = r; agent = has; within = leb-false n j tests.0; other = eqb-false j i tests.1 } in
                elim (test_err (ltb j least) (AwaitOrder at) (count_from v after >>= counted j) f right.1) [
                  | inl low ↦ (
                      let above : Any (λ w. j ≤ w.agent) ws =
                      elim (some_above 0 ws j (ltb-true j least low.0)) [
                        | inl none ↦ absurd (omega (arith, none))
                        | inr some ↦ some
                      ] in
                      subst (IsFirstFaultIn v bytes) low.1 (n, ws, j, after, reached, above))
                  | inr high ↦ (
                      let counts : ReachesCount v bytes at after = record { n = n; awaits = ws; j = j; agent = reached; rising = all_below n i 0 ws j from (ltb-false j least high.0) } in
                      elim (bind_err (count_from v after) (counted j) f high.1) [
                        | inl h ↦ (let s = count_fails v after f h in ends v bytes f s.0 (inr (inr (inr (inr (inr (at, after, counts, s.1)))))))
                        | inr c ↦ elim (test_err (eqb c.0.0 0) (AwaitCount at) (Ok (record { agent = j; count = c.0.0 }, c.0.1)) f c.2) [
                          | inl nothing ↦ (
                              let zero_is = eqb-true c.0.0 0 nothing.0 in
                              let counted_so = count_is_read v after c.0.0 c.0.1 named.0.rest_fits c.1 in
                              subst (IsFirstFaultIn v bytes) nothing.1 (after, c.0.1, counts, subst (λ (k : ℕ). BeginsWithCount v after k c.0.1) zero_is counted_so))
                          | inr fine ↦ absurd (no_fault (record { agent = j; count = c.0.0 }, c.0.1) f fine.1)
                        ]
                      ])
                ])
          ])
    ]

-- ---- an action

step_fails : (o : Option Step) (rest : List ℕ) (read : Field Action) (f : LoadFault) → step_or o rest read ≡ Err f → (o ≡ None) × (read ≡ Err f)
step_fails None rest read f e = (refl, e)
step_fails (Some s) rest read f e = absurd cc

no_step : (v : Version) (b : ℕ) → step_at v b ≡ None → (s : Step) → IsTrue (has_opcode v s) → b ≢ opcode s
no_step v b none s has e = let step : step_at v b ≡ Some s = ap (step_at v) e ∙ step_again v s has in cc

await_begins : (v : Version) (bytes : List ℕ) (n i : ℕ) (ws : List Await) (b : ℕ) (rest : List ℕ) (at : ℕ) → b ≡ 16 → ReachesOpcode v bytes n i ws (b ∷ rest) → IsOffset bytes (b ∷ rest) at → ReachesAwait v bytes n i ws at rest
await_begins v bytes n i ws b rest at is r offset = record { opcode = subst (λ (c : ℕ). ReachesOpcode v bytes n i ws (c ∷ rest)) is r; offset = offset }

opcode_fails : (v : Version) (bytes : List ℕ) (n i turns : ℕ) (ws : List Await) (at_action rest : List ℕ) (f : LoadFault) → ReachesAction v bytes n i at_action → AwaitsFrom n i 0 ws → All (λ w. w.count ≤ (most_count v)) ws → at_action ≡ flat_map (await v) ws ++ rest → IsBytes rest
    → length rest ≤ turns → action_at v turns (length bytes) n i (least_after 0 ws) rest ≡ Err f → IsFirstFaultIn v bytes f
unfolding action_at
opcode_fails v bytes n i zero ws at_action [] f r from fit parts fits le e =
    ends v bytes f (err_is {A = Action × List ℕ} Truncated f e) (inr (inr (inr (inl (n, i, ws, record { at_action = at_action; actions = r; right = awaits_are n i 0 ws from; fit = fit; parts = parts })))))
opcode_fails v bytes n i zero ws at_action (b ∷ rest) f r from fit parts fits le e = absurd (omega (arith, le))
opcode_fails v bytes n i (suc turns) ws at_action [] f r from fit parts fits le e =
    ends v bytes f (err_is {A = Action × List ℕ} Truncated f e) (inr (inr (inr (inl (n, i, ws, record { at_action = at_action; actions = r; right = awaits_are n i 0 ws from; fit = fit; parts = parts })))))
opcode_fails v bytes n i (suc turns) ws at_action (b ∷ rest) f r from fit parts fits le e =
    let whole = length bytes in
    let at = whole - length (b ∷ rest) in
    let reached : ReachesOpcode v bytes n i ws (b ∷ rest) = record { at_action = at_action; actions = r; right = awaits_are n i 0 ws from; fit = fit; parts = parts } in
    let offset : IsOffset bytes (b ∷ rest) at = omega (arith, opcode_left v bytes n i ws (b ∷ rest) reached) in
    let more = λ (one : Await × List ℕ). action_at v turns whole n i (one.0.agent + 1) one.1 >>= λ others. Ok (with_await one others) in
    let read = await_at v at n i (least_after 0 ws) rest in
    let m = step_fails (step_at v b) rest (fault_if (not (eqb b 16)) (Opcode at) >> (read >>= more)) f e in
    elim (test_err (not (eqb b 16)) (Opcode at) (read >>= more) f m.1) [
      | inl other ↦ subst (IsFirstFaultIn v bytes) other.1 (n, i, ws, b, rest, reached, offset, eqb-false b 16 (not-true (eqb b 16) other.0), no_step v b m.0)
      | inr awaits ↦ (
          let is16 = eqb-true b 16 (not-false (eqb b 16) awaits.0) in
          let rest_fits : IsBytes rest = λ k. fits (suc k) in
          elim (bind_err read more f awaits.1) [
            | inl h ↦ await_fails v bytes n i ws at rest f (await_begins v bytes n i ws b rest at is16 reached offset) from rest_fits h
            | inr one ↦ (
                let w = one.0.0 in
                let after = one.0.1 in
                let taken = await_takes v at n i (least_after 0 ws) rest one.0 rest_fits one.1 in
                let here : b ∷ rest ≡ await v w ++ after = rw is16 (ap (λ (t : List ℕ). 16 ∷ t) taken.0.parts) in
                let shorter = ap length here in
                let long = length-append (await v w) after in
                elim (bind_err (action_at v turns whole n i (w.agent + 1) after) (λ others. Ok (with_await one.0 others)) f one.2) [
                  | inl h ↦ opcode_fails v bytes n i turns (ws ++ w ∷ []) at_action after f r (from_more n i 0 ws w from taken.1) (All-append (λ (w : Await). w.count ≤ (most_count v)) ws (w ∷ []) fit (All-cons (λ (w : Await). w.count ≤ (most_count v)) w [] taken.2 (All-nil (λ (w : Await). w.count ≤ (most_count v))))) (parts_more (await v) ws w at_action (b ∷ rest) after parts here) taken.0.rest_fits
                      (omega (arith, le, shorter, long)) (rw (after_more 0 ws w) h)
                  | inr others ↦ absurd (no_fault (with_await one.0 others.0) f others.2)
                ])
          ])
    ]

-- ---- the actions of an agent

module _ (v : Version) (bytes : List ℕ) (n : ℕ) (p : Program) (at_agent : List ℕ) (count : ℕ) (at_actions : List ℕ) (reached : ReachesAgent v bytes n p at_agent) (within : length p < n) (head : HasHead v at_agent count at_actions) (few : count ≤ (most_moves v)) (total : total_moves p + count ≤ MAX_MOVES_IN_ALL) where
  actions_fail : (left : ℕ) (actions : List Action) (rest : List ℕ) (f : LoadFault) → length actions + left ≡ count → All (λ s. AreAwaits n (length p) s.awaits) actions → AreSpellable v actions → at_actions ≡ flat_map (action v) actions ++ rest
      → IsBytes rest → actions_at v left (length bytes) n (length p) rest ≡ Err f → IsFirstFaultIn v bytes f
  unfolding actions_at
  actions_fail zero actions rest f size awaits moves parts fits e = absurd (no_fault ([], rest) f e)
  actions_fail (suc left) actions rest f size awaits moves parts fits e =
      let whole = length bytes in
      let i = length p in
      let more : Action × List ℕ → Field (List Action) = λ first. actions_at v left whole n i first.1 >>= λ others. Ok (first.0 ∷ others.0, others.1) in
      let here : ReachesAction v bytes n i rest = record { before = p; at_agent = at_agent; agents = reached; own = refl; within = within; count = count; at_actions = at_actions; head = head; few = few; total = total; actions = actions; more = omega (arith, size); awaits = awaits; spellable = moves; parts = parts } in
      elim (bind_err (action_at v (length rest) whole n i 0 rest) more f e) [
        | inl h ↦ opcode_fails v bytes n i (length rest) [] rest rest f here tt (All-nil (λ (w : Await). w.count ≤ (most_count v))) refl fits (omega arith) h
        | inr first ↦ (
            let a = first.0.0 in
            let after = first.0.1 in
            let taken = action_takes v (length rest) whole n i 0 rest first.0 fits first.1 in
            elim (bind_err (actions_at v left whole n i after) (λ others. Ok (a ∷ others.0, others.1)) f first.2) [
              | inl h ↦ actions_fail left (actions ++ a ∷ []) after f (omega (arith, size, length-append actions (a ∷ [])))
                  (All-append (λ (s : Action). AreAwaits n i s.awaits) actions (a ∷ []) awaits (All-cons (λ (s : Action). AreAwaits n i s.awaits) a [] (awaits_are n i 0 a.awaits taken.1) (All-nil (λ (s : Action). AreAwaits n i s.awaits))))
                  (All-append (IsSpellable v) actions (a ∷ []) moves (All-cons (IsSpellable v) a [] taken.2 (All-nil (IsSpellable v))))
                  (parts_more (action v) actions a at_actions rest after parts taken.0.parts) taken.0.rest_fits h
              | inr others ↦ absurd (no_fault (a ∷ others.0.0, others.0.1) f others.2)
            ])
      ]

-- ---- agents

ends_agent : (v : Version) (bytes : List ℕ) (n : ℕ) (p : Program) (rest : List ℕ) (f : LoadFault) → ReachesAgent v bytes n p rest → length p < n → Truncated ≡ f → length rest < 8 + (count_len v) → IsFirstFaultIn v bytes f
ends_agent v bytes n p rest f r within e few = ends v bytes f e (inr (inr (inl (n, p, rest, r, within, few))))

agent_fails : (v : Version) (bytes : List ℕ) (n : ℕ) (p : Program) (rest : List ℕ) (f : LoadFault) → ReachesAgent v bytes n p rest → length p < n → IsBytes rest → agent_at v (length bytes) n (length p) (total_moves p) rest ≡ Err f → IsFirstFaultIn v bytes f
unfolding agent_at
agent_fails v bytes n p rest f r within fits e =
    let whole = length bytes in
    let i = length p in
    let total = total_moves p in
    elim (bind_err (cell_from rest) (after_start v whole n i total) f e) [
      | inl h ↦ (let s = cell_fails rest f fits h in let few = s.1 in ends_agent v bytes n p rest f r within s.0 (omega (arith, few)))
      | inr start ↦ (
          let c = start.0.0 in
          let first = cell_takes rest start.0 fits start.1 in
          let len1 = cell_len rest c start.0.1 first.0 in
          elim (bind_err (cell_from start.0.1) (λ goal. count_from v goal.1 >>= after_count v whole n i total c goal.0) f start.2) [
            | inl h ↦ (let s = cell_fails start.0.1 f first.0.rest_fits h in let few = s.1 in ends_agent v bytes n p rest f r within s.0 (omega (arith, few, len1)))
            | inr goal ↦ (
                let d = goal.0.0 in
                let second = cell_takes start.0.1 goal.0 first.0.rest_fits goal.1 in
                let len2 = cell_len start.0.1 d goal.0.1 second.0 in
                elim (bind_err (count_from v goal.0.1) (after_count v whole n i total c d) f goal.2) [
                  | inl h ↦ (let s = count_fails v goal.0.1 f h in let few = s.1 in ends_agent v bytes n p rest f r within s.0 (omega (arith, few, len1, len2)))
                  | inr counted ↦ (
                      let many = counted.0.0 in
                      let after = counted.0.1 in
                      let third = count_takes v goal.0.1 many after second.0.rest_fits counted.1 in
                      let parts : rest ≡ cell c ++ cell d ++ count_of v many ++ after =
                      first.0.parts ∙ ap (λ (t : List ℕ). cell c ++ t) (second.0.parts ∙ ap (λ (t : List ℕ). cell d ++ t) third.0.parts) ∙ (simp append_assoc) in
                      let head : HasHead v rest many after = record { start = c; goal = d; start_fits = first.1; goal_fits = second.1; moves_fit = third.1; parts = parts } in
                      let made : List Action × List ℕ → Field AgentProgram = λ actions. Ok (record { start = c; goal = d; actions = actions.0 }, actions.1) in
                      elim (test_err (ltb (most_moves v) many || ltb MAX_MOVES_IN_ALL (total + many)) Total (actions_at v many whole n i after >>= made) f counted.2) [
                        | inl over ↦ (
                            let which : ((most_moves v) < many) ⊎ (MAX_MOVES_IN_ALL < total + many) =
                            elim (or_cases (ltb (most_moves v) many) (ltb MAX_MOVES_IN_ALL (total + many)) over.0) [
                              | inl own ↦ inl (ltb-true (most_moves v) many own)
                              | inr all ↦ inr (ltb-true MAX_MOVES_IN_ALL (total + many) all)
                            ] in
                            subst (IsFirstFaultIn v bytes) over.1 (n, p, rest, many, after, r, within, head, which))
                        | inr few ↦ (let tests = or_parts (ltb (most_moves v) many) (ltb MAX_MOVES_IN_ALL (total + many)) few.0 in elim (bind_err (actions_at v many whole n i after) made f few.1) [
                          | inl h ↦ actions_fail v bytes n p rest many after r within head (ltb-false (most_moves v) many tests.0) (ltb-false MAX_MOVES_IN_ALL (total + many) tests.1) many [] after f (omega arith) (All-nil (λ (s : Action). AreAwaits n i s.awaits)) (All-nil (IsSpellable v)) refl third.0.rest_fits h
                          | inr actions ↦ absurd (no_fault (record { start = c; goal = d; actions = actions.0.0 }, actions.0.1) f actions.2)
                        ])
                      ])
                ])
          ])
    ]

agents_fail : (v : Version) (bytes : List ℕ) (n left i total : ℕ) (p : Program) (rest : List ℕ) (f : LoadFault) → ReachesAgent v bytes n p rest → i ≡ length p → total ≡ total_moves p → i + left ≡ n → IsBytes rest
    → agents_at v left (length bytes) n i total rest ≡ Err f → IsFirstFaultIn v bytes f
unfolding agents_at
agents_fail v bytes n zero i total p rest f r own moves size fits e = absurd (no_fault ([], rest) f e)
agents_fail v bytes n (suc left) i total p rest f r own moves size fits e =
    let whole = length bytes in
    let more : AgentProgram × List ℕ → Field Program = λ first. agents_at v left whole n (i + 1) (total + length first.0.actions) first.1 >>= λ others. Ok (first.0 ∷ others.0, others.1) in
    elim (bind_err (agent_at v whole n i total rest) more f e) [
      | inl h ↦ agent_fails v bytes n p rest f r (omega (arith, own, size)) fits (sym (ap (λ (k : ℕ). agent_at v whole n k total rest) own ∙ ap (λ (t : ℕ). agent_at v whole n (length p) t rest) moves) ∙ h)
      | inr first ↦ (
          let a = first.0.0 in
          let after = first.0.1 in
          let taken = agent_takes v whole n i total rest first.0 fits first.1 in
          let few = taken.2 in
          elim (bind_err (agents_at v left whole n (i + 1) (total + length a.actions) after) (λ others. Ok (a ∷ others.0, others.1)) f first.2) [
            | inl h ↦ agents_fail v bytes n left (i + 1) (total + length a.actions) (p ++ a ∷ []) after f
                (agent_reached v bytes n p a rest after r (subst (λ (k : ℕ). IsAgent n k a) own taken.1) taken.3 (omega (arith, few, moves)) taken.0.parts) (omega (arith, own, length-append p (a ∷ []))) (omega (arith, moves, total_more p a)) (omega (arith, size))
                taken.0.rest_fits h
            | inr others ↦ absurd (no_fault (a ∷ others.0.0, others.0.1) f others.2)
          ])
    ]

-- ---- the magic

-- the bytes begin with the text, or the text with the bytes, which are fewer, or they differ somewhere
abbrev pub Compared : List ℕ → List ℕ → Type 0
Compared bytes text =
    ((rest : List ℕ) × (bytes ≡ text ++ rest)) ⊎ ((rest : List ℕ) × (text ≡ bytes ++ rest) × (length bytes < length text)) ⊎ ((k : ℕ) × (k < length text) × (k < length bytes) × (get_or bytes k 0 ≢ get_or text k 0))

pub differs : (bytes text : List ℕ) → Compared bytes text
differs bytes [] = inl (bytes, refl)
differs [] (c ∷ text) = inr (inl (c ∷ text, refl, omega arith))
differs (b ∷ bytes) (c ∷ text) = first (differs bytes text) (eqb b c) refl
  where
    first : Compared bytes text → (t : Bool) → eqb b c ≡ t → Compared (b ∷ bytes) (c ∷ text)
    first others false t = inr (inr (0, omega arith, omega arith, eqb-false b c t))
    first others true t =
        let same = eqb-true b c t in
        elim others [
          | inl m ↦ (let e = m.1 in inl (m.0, cc))
          | inr (inl m) ↦ (let e = m.1 in let lt = m.2 in inr (inl (m.0, cc, omega (arith, lt))))
          | inr (inr m) ↦ (let lt = m.1 in let lt2 = m.2 in inr (inr (suc m.0, omega (arith, lt), omega (arith, lt2), m.3)))
        ]

pub begun : (s p rest : List ℕ) → s ≡ p ++ rest → starts_with nat_eq s p ≡ true
begun s p rest e = (starts_is Decides-eqb s p (starts_with nat_eq s p) refl).1 rest e

pub magic_read : (v : Version) (bytes rest : List ℕ) → bytes ≡ (magic v) ++ rest → magic_at v bytes ≡ Ok rest
unfolding magic_at
magic_read One bytes rest e = rw e refl
magic_read Two bytes rest e = rw e refl

pub magic_ends : (v : Version) (bytes rest : List ℕ) → magic v ≡ bytes ++ rest → length bytes < 4 → magic_at v bytes ≡ Err Truncated
unfolding magic_at
magic_ends v bytes rest e few =
    let not_whole : starts_with nat_eq bytes (magic v) ≡ false =
    false_from_ne_true (starts_with nat_eq bytes (magic v)) (λ t.
    let same = ap length ((starts_is Decides-eqb bytes (magic v) (starts_with nat_eq bytes (magic v)) refl).0 t) in
    omega (arith, same, few, length-append (magic v) (drop (length (magic v)) bytes), (magic_long v))) in
    rw (not_whole, begun (magic v) bytes rest e) refl

pub magic_differs : (v : Version) (bytes : List ℕ) → IsWithoutMagic v bytes → magic_at v bytes ≡ Err Magic
unfolding magic_at
magic_differs v bytes h =
    let k = h.0 in
    let not_whole : starts_with nat_eq bytes (magic v) ≡ false =
    false_from_ne_true (starts_with nat_eq bytes (magic v)) (λ t.
    let e = (starts_is Decides-eqb bytes (magic v) (starts_with nat_eq bytes (magic v)) refl).0 t in
    h.3 (ap (λ (b : List ℕ). get_or b k 0) e ∙ get_or_append_left (magic v) (drop (length (magic v)) bytes) 0 k (let within = h.1 in omega (arith, within, (magic_long v))))) in
    let no_part : starts_with nat_eq (magic v) bytes ≡ false =
    false_from_ne_true (starts_with nat_eq (magic v) bytes) (λ t.
    let e = (starts_is Decides-eqb (magic v) bytes (starts_with nat_eq (magic v) bytes) refl).0 t in
    h.3 (sym (ap (λ (b : List ℕ). get_or b k 0) e ∙ get_or_append_left bytes (drop (length bytes) (magic v)) 0 k h.2))) in
    rw (not_whole, no_part) refl

pub without_magic : (v : Version) (bytes : List ℕ) → (k : ℕ) × (k < length (magic v)) × (k < length bytes) × (get_or bytes k 0 ≢ get_or (magic v) k 0) → IsWithoutMagic v bytes
without_magic v bytes h = (h.0, (let within = h.1 in omega (arith, within, (magic_long v))), h.2, h.3)

-- ---- all of the bytes

agents_reached : (v : Version) (bytes at_number : List ℕ) (n : ℕ) (at_agents : List ℕ) (p : Program) (rest : List ℕ) → bytes ≡ (magic v) ++ at_number → at_number ≡ two_bytes n ++ at_agents → 1 ≤ n → n ≤ MAX_AGENTS
    → ((i : ℕ) (a : AgentProgram) → slice_get p i ≡ Some a → IsAgent n i a) → CanSpell v p → total_moves p ≤ MAX_MOVES_IN_ALL → at_agents ≡ flat_map (agent v) p ++ rest → ReachesAgent v bytes n p rest
agents_reached v bytes at_number n at_agents p rest e1 e2 some few agents moves total e3 = record {
  some = some;
  few = few;
  agents = agents;
  spellable = moves;
  total = total;
  parts = e1 ∙ ap (λ (t : List ℕ). (magic v) ++ t) (e2 ∙ ap (λ (t : List ℕ). two_bytes n ++ t) e3) ∙ (simp append_assoc);
}

trailing : (v : Version) (bytes : List ℕ) (n : ℕ) (p : Program) (rest : List ℕ) (f : LoadFault) → ReachesAgent v bytes n p rest → length p ≡ n → after_agents (length bytes) (p, rest) ≡ Err f → IsFirstFaultIn v bytes f
trailing v bytes n p [] f r size e = absurd (no_fault p f e)
trailing v bytes n p (b ∷ rest) f r size e =
    elim (test_err (not (eqb (length (b ∷ rest)) 0)) (Trailing (length bytes - length (b ∷ rest))) (Ok p) f e) [
      | inl h ↦ subst (IsFirstFaultIn v bytes) h.1 (p, b, rest, subst (λ (k : ℕ). ReachesAgent v bytes k p (b ∷ rest)) (sym size) r, omega (arith, agent_left v bytes n p (b ∷ rest) r))
      | inr h ↦ absurd (no_fault p f h.1)
    ]

rest_bytes : (v : Version) (bytes rest : List ℕ) → bytes ≡ (magic v) ++ rest → IsBytes bytes → IsBytes rest
rest_bytes One bytes rest e fits = λ k. rw e at fits (suc (suc (suc (suc k))))
rest_bytes Two bytes rest e fits = λ k. rw e at fits (suc (suc (suc (suc k))))

pub is_first : (v : Version) (bytes : List ℕ) (f : LoadFault) → IsBytes bytes → program_as v bytes ≡ Err f → IsFirstFaultIn v bytes f
unfolding program_as
is_first v bytes f fits e =
    let whole = length bytes in
    let after = λ (rest : List ℕ). number_at rest >>= after_agent_count v whole in
    elim (differs bytes (magic v)) [
      | inl m ↦ (
          let at_number = m.0 in
          let number_fits : IsBytes at_number = rest_bytes v bytes at_number m.1 fits in
          elim (bind_err (number_at at_number) (after_agent_count v whole) f (sym (ap (λ (r : Result (List ℕ) LoadFault). r >>= after) (magic_read v bytes at_number m.1)) ∙ e)) [
            | inl h ↦ (let s = number_fails at_number f h in ends v bytes f s.0 (inr (inl (at_number, m.1, s.1))))
            | inr counted ↦ (
                let n = counted.0.0 in
                let at_agents = counted.0.1 in
                let taken = number_takes at_number n at_agents number_fits counted.1 in
                let all = agents_at v n whole n 0 0 at_agents in
                elim (test_err (eqb n 0 || ltb MAX_AGENTS n) AgentCount (all >>= after_agents whole) f counted.2) [
                  | inl wrong ↦ (
                      let which : (n ≡ 0) ⊎ (MAX_AGENTS < n) =
                      elim (or_cases (eqb n 0) (ltb MAX_AGENTS n) wrong.0) [
                        | inl none ↦ inl (eqb-true n 0 none)
                        | inr many ↦ inr (ltb-true MAX_AGENTS n many)
                      ] in
                      subst (IsFirstFaultIn v bytes) wrong.1 (n, at_number, at_agents, m.1, number_is_read at_number n at_agents number_fits counted.1, which))
                  | inr right ↦ (
                      let tests = or_parts (eqb n 0) (ltb MAX_AGENTS n) right.0 in
                      let some_agents = eqb-false n 0 tests.0 in
                      let some : 1 ≤ n = omega (arith, some_agents) in
                      let few = ltb-false MAX_AGENTS n tests.1 in
                      let reached = agents_reached v bytes at_number n at_agents in
                      elim (bind_err all (after_agents whole) f right.1) [
                        | inl h ↦ agents_fail v bytes n n 0 0 [] at_agents f (reached [] at_agents m.1 taken.0.parts some few (λ i a none. absurd cc) (All-nil (IsSpellableAgent v)) (omega arith) refl) refl refl (omega arith) taken.0.rest_fits h
                        | inr q ↦ (
                            let p = q.0.0 in
                            let read = agents_take v n whole n 0 0 at_agents q.0 taken.0.rest_fits q.1 in
                            trailing v bytes n p q.0.1 f (reached p q.0.1 m.1 taken.0.parts some few (to_first n p (each_from n 0 0 p read.2)) read.3 (total_from n p read.2) read.0.parts) read.1 q.2)
                      ])
                ])
          ])
      | inr (inl m) ↦ ends v bytes f (err_is {A = Program} Truncated f (sym (ap (λ (r : Result (List ℕ) LoadFault). r >>= after) (magic_ends v bytes m.0 m.1 (let few = m.2 in omega (arith, few, (magic_long v))))) ∙ e)) (inl (m.0, m.1, (let few = m.2 in omega (arith, few, (magic_long v)))))
      | inr (inr m) ↦ subst (IsFirstFaultIn v bytes) (err_is {A = Program} Magic f (sym (ap (λ (r : Result (List ℕ) LoadFault). r >>= after) (magic_differs v bytes (without_magic v bytes m))) ∙ e)) (without_magic v bytes m)
    ]
