-- The first fault is what reading refuses. So there is one at most, and none if the bytes spell a program.
use Rattle.fleet_code.proofs.Words.{◌≡◌, ◌≢◌, ℕ, zero, suc, ◌+◌, ◌-◌, ◌≤◌, ◌<◌, ◌||◌, Bool, true, false, ltb, leb, eqb, List, [], ◌∷◌, ◌++◌, length, All, None, Result, Ok, Err, refl, ap, ◌∙◌, append_assoc, arith, inl, inr, ◌⊎◌, IsTrue, flat_map, or_left, or_right, or_from, lt-ltb, le-ltb, le-leb, lt-leb, ne_eqb, eq-eqb, length-append, All-head, All-tail, flat_map-cons, sum_by-cons, North, East, South, West, Step, Go, Dwell, Await, Action, AgentProgram, Program, AreAwaits, total_moves, AwaitsFrom, AgentsFrom, awaits_from, any_begins, ◌>>=◌, ◌>>◌, fault_if, Version, One, Two, LoadFault, OutOfMemory, Truncated, AgentCount, Total, AwaitAgent, AwaitOrder, AwaitCount, Trailing, magic, two_bytes, count_len, most_count, most_moves, cell, opcode, has_opcode, agent, IsSpellable, AreSpellable, IsSpellableAgent, CanSpell, Field, magic_at, number_at, count_from, cell_from, await_at, stay_in, step_at, action_at, actions_at, agent_at, agents_at, program_as, HasHead, IsOffset, ReachesAgent, ReachesAction, ReachesOpcode, ReachesAwait, ReachesOrder, ReachesCount, EndsWithin, IsFirstFaultIn, MAX_AGENTS, MAX_MOVES_IN_ALL}
use Rattle.fleet_code.specs.declared.fault.LoadFault.TheVariants.{Magic, Opcode}
use Rattle.fleet_code.specs.Spelling.{count as count_of, await, action}
use Rattle.fleet_code.proofs.Parts.{number_again, count_again, cell_again, await_again}
use Rattle.fleet_code.proofs.RoundTrip.{with_await, move_has, action_again, agent_again, agents_again, regroup_three, after_count, after_start, after_agents, after_agent_count}
use Rattle.fleet_code.proofs.Awaited.{least_after, from_below, below_some}
use Rattle.fleet_code.proofs.Reached.{from_first, from_each}
use Rattle.fleet_code.proofs.FirstFaults.{magic_read, magic_ends, magic_differs}

-- a step that fails fails what it begins
pub fails_with : {A B : Type 0} (r : Result A LoadFault) (g : A → Result B LoadFault) (f : LoadFault) → r ≡ Err f → (r >>= g) ≡ Err f
fails_with {A = A} r g f e = ap (λ (s : Result A LoadFault). s >>= g) e

-- and one that does not hands on
goes_on : {A B : Type 0} (r : Result A LoadFault) (g : A → Result B LoadFault) (x : A) → r ≡ Ok x → (r >>= g) ≡ g x
goes_on {A = A} r g x e = ap (λ (s : Result A LoadFault). s >>= g) e

few_bytes : (bytes : List ℕ) → length bytes < 2 → number_at bytes ≡ Err Truncated
few_bytes bytes lt = rw (lt-ltb (length bytes) 2 lt) refl

few_count_bytes : (v : Version) (bytes : List ℕ) → length bytes < (count_len v) → count_from v bytes ≡ Err Truncated
few_count_bytes One bytes lt = few_bytes bytes lt
few_count_bytes Two bytes lt = rw (lt-ltb (length bytes) 4 lt) refl

-- ---- the awaits of an action

-- a fault that is met after some awaits, with any turns that suffice
awaits_front : (v : Version) (turns whole n i least : ℕ) (ws : List Await) (rest : List ℕ) (f : LoadFault) → n ≤ 65536 → AwaitsFrom n i least ws → All (λ w. w.count ≤ (most_count v)) ws → length (flat_map (await v) ws ++ rest) ≤ turns
    → ((t : ℕ) → length rest ≤ t → action_at v t whole n i (least_after least ws) rest ≡ Err f) → action_at v turns whole n i least (flat_map (await v) ws ++ rest) ≡ Err f
unfolding action_at
awaits_front v turns whole n i least [] rest f few from fit le fails = fails turns le
awaits_front v zero whole n i least (w ∷ ws) rest f few from fit le fails = absurd (omega (arith, le))
awaits_front v (suc turns) whole n i least (w ∷ ws) rest f few from fit le fails =
    let others = flat_map (await v) ws ++ rest in
    let regrouped : flat_map (await v) (w ∷ ws) ++ rest ≡ 16 ∷ ((two_bytes w.agent ++ count_of v w.count) ++ others) = ap (λ (t : List ℕ). t ++ rest) (flat_map-cons (await v) w ws) ∙ append_assoc (await v w) (flat_map (await v) ws) rest in
    let shorter = ap length regrouped in
    let long = length-append (two_bytes w.agent ++ count_of v w.count) others in
    let at = whole - length (16 ∷ ((two_bytes w.agent ++ count_of v w.count) ++ others)) in
    let more : Await × List ℕ → Field Action = λ one. action_at v turns whole n i (one.0.agent + 1) one.1 >>= λ x. Ok (with_await one x) in
    ap (action_at v (suc turns) whole n i least) regrouped
    ∙ goes_on (await_at v at n i least ((two_bytes w.agent ++ count_of v w.count) ++ others)) more (w, others) (await_again v at n i least w others few from.0 (All-head (λ (w : Await). w.count ≤ (most_count v)) w ws fit))
    ∙ fails_with (action_at v turns whole n i (w.agent + 1) others) (λ x. Ok (with_await (w, others) x)) f (awaits_front v turns whole n i (w.agent + 1) ws rest f few from.1 (All-tail (λ (w : Await). w.count ≤ (most_count v)) w ws fit) (omega (arith, le, shorter, long)) fails)

-- ---- the actions of an agent

actions_front : (v : Version) (actions : List Action) (left whole n i : ℕ) (rest : List ℕ) (f : LoadFault) → n ≤ 65536 → All (λ s. AreAwaits n i s.awaits) actions → AreSpellable v actions
    → action_at v (length rest) whole n i 0 rest ≡ Err f → actions_at v (length actions + suc left) whole n i (flat_map (action v) actions ++ rest) ≡ Err f
unfolding actions_at
actions_front v [] left whole n i rest f few awaits moves fails =
    let size : 0 + suc left ≡ suc left = omega arith in
    rw size (fails_with (action_at v (length rest) whole n i 0 rest) (λ first. actions_at v left whole n i first.1 >>= λ x. Ok (first.0 ∷ x.0, x.1)) f fails)
actions_front v (a ∷ actions) left whole n i rest f few awaits moves fails =
    let others = flat_map (action v) actions ++ rest in
    let regrouped : flat_map (action v) (a ∷ actions) ++ rest ≡ action v a ++ others = ap (λ (t : List ℕ). t ++ rest) (flat_map-cons (action v) a actions) ∙ append_assoc (action v a) (flat_map (action v) actions) rest in
    let size : length (a ∷ actions) + suc left ≡ suc (length actions + suc left) = omega arith in
    let from = awaits_from n i 0 a.awaits (any_begins a.awaits) (All-head (λ (s : Action). AreAwaits n i s.awaits) a actions awaits) in
    let one = action_again v (length (action v a ++ others)) whole n i 0 a.awaits a.step others few from (All-head (IsSpellable v) a actions moves).step (All-head (IsSpellable v) a actions moves).counts (omega arith) in
    let again = actions_front v actions left whole n i rest f few (All-tail (λ (s : Action). AreAwaits n i s.awaits) a actions awaits) (All-tail (IsSpellable v) a actions moves) fails in
    let more : Action × List ℕ → Field (List Action) = λ first. actions_at v (length actions + suc left) whole n i first.1 >>= λ x. Ok (first.0 ∷ x.0, x.1) in
    rw (size, regrouped)
    (goes_on (action_at v (length (action v a ++ others)) whole n i 0 (action v a ++ others)) more (a, others) one
    ∙ fails_with (actions_at v (length actions + suc left) whole n i others) (λ x. Ok (a ∷ x.0, x.1)) f again)

-- ---- agents

agents_front : (v : Version) (p : Program) (left whole n i total : ℕ) (rest : List ℕ) (f : LoadFault) → n ≤ 65536 → AgentsFrom n i total p → CanSpell v p
    → agent_at v whole n (i + length p) (total + total_moves p) rest ≡ Err f → agents_at v (length p + suc left) whole n i total (flat_map (agent v) p ++ rest) ≡ Err f
unfolding agents_at
agents_front v [] left whole n i total rest f few from moves fails =
    let size : 0 + suc left ≡ suc left = omega arith in
    let own : i + 0 ≡ i = omega arith in
    let sum : total + 0 ≡ total = omega arith in
    rw size (fails_with (agent_at v whole n i total rest) (λ first. agents_at v left whole n (i + 1) (total + length first.0.actions) first.1 >>= λ x. Ok (first.0 ∷ x.0, x.1)) f (rw (own, sum) at fails))
agents_front v (a ∷ p) left whole n i total rest f few from moves fails =
    let others = flat_map (agent v) p ++ rest in
    let regrouped : flat_map (agent v) (a ∷ p) ++ rest ≡ agent v a ++ others = ap (λ (t : List ℕ). t ++ rest) (flat_map-cons (agent v) a p) ∙ append_assoc (agent v a) (flat_map (agent v) p) rest in
    let size : length (a ∷ p) + suc left ≡ suc (length p + suc left) = omega arith in
    let own : i + length (a ∷ p) ≡ i + 1 + length p = omega arith in
    let sum : total + total_moves (a ∷ p) ≡ total + length a.actions + total_moves p = omega (arith, sum_by-cons (λ (b : AgentProgram). length b.actions) a p) in
    let one = agent_again v whole n i total a others few from.0 from.1 (All-head (IsSpellableAgent v) a p moves) in
    let again = agents_front v p left whole n (i + 1) (total + length a.actions) rest f few from.2 (All-tail (IsSpellableAgent v) a p moves) (rw (own, sum) at fails) in
    let more : AgentProgram × List ℕ → Field Program = λ first. agents_at v (length p + suc left) whole n (i + 1) (total + length first.0.actions) first.1 >>= λ x. Ok (first.0 ∷ x.0, x.1) in
    rw (size, regrouped)
    (goes_on (agent_at v whole n i total (agent v a ++ others)) more (a, others) one
    ∙ fails_with (agents_at v (length p + suc left) whole n (i + 1) (total + length a.actions) others) (λ x. Ok (a ∷ x.0, x.1)) f again)

-- ---- all of the bytes

-- the number of agents was read, and nothing refused it
after_number : (v : Version) (bytes : List ℕ) (n : ℕ) (rest : List ℕ) → bytes ≡ (magic v) ++ two_bytes n ++ rest → 1 ≤ n → n ≤ MAX_AGENTS → program_as v bytes ≡ (agents_at v n (length bytes) n 0 0 rest >>= after_agents (length bytes))
unfolding program_as
after_number v bytes n rest e some few =
    let at = length bytes in
    let all = agents_at v n at n 0 0 rest >>= after_agents at in
    let no_fault : (eqb n 0 || ltb MAX_AGENTS n) ≡ false = or_from (eqb n 0) (ltb MAX_AGENTS n) (ne_eqb n 0 (λ z. omega (arith, some, z))) (le-ltb MAX_AGENTS n few) in
    goes_on (magic_at v bytes) (λ r. number_at r >>= after_agent_count v at) (two_bytes n ++ rest) (magic_read v bytes (two_bytes n ++ rest) (e ∙ append_assoc (magic v) (two_bytes n) rest))
    ∙ goes_on (number_at (two_bytes n ++ rest)) (after_agent_count v at) (n, rest) (number_again n rest (omega (arith, few)))
    ∙ ap (λ (b : Bool). fault_if b AgentCount >> all) no_fault

agents_from : (v : Version) (bytes : List ℕ) (n : ℕ) (p : Program) (rest : List ℕ) → ReachesAgent v bytes n p rest → AgentsFrom n 0 0 p
agents_from v bytes n p rest r = let total = r.total in from_each n 0 0 p (from_first n p r.agents) (omega (arith, total))

told_agent : (v : Version) (bytes : List ℕ) (n : ℕ) (p : Program) (rest : List ℕ) (f : LoadFault) → ReachesAgent v bytes n p rest → length p < n → agent_at v (length bytes) n (length p) (total_moves p) rest ≡ Err f → program_as v bytes ≡ Err f
told_agent v bytes n p rest f r within fails =
    let few = r.few in
    let at = length bytes in
    let size : length p + suc (n - suc (length p)) ≡ n = omega (arith, within) in
    let own : 0 + length p ≡ length p = omega arith in
    let sum : 0 + total_moves p ≡ total_moves p = omega arith in
    let agents : agents_at v n at n 0 0 (flat_map (agent v) p ++ rest) ≡ Err f =
    rw size at (agents_front v p (n - suc (length p)) at n 0 0 rest f (omega (arith, few)) (agents_from v bytes n p rest r) r.spellable (rw (own, sum) fails)) in
    after_number v bytes n (flat_map (agent v) p ++ rest) (r.parts ∙ append_assoc ((magic v) ++ two_bytes n) (flat_map (agent v) p) rest) r.some r.few
    ∙ fails_with (agents_at v n at n 0 0 (flat_map (agent v) p ++ rest)) (after_agents at) f agents

-- an agent, up to its number of actions
head_read : (v : Version) (whole n i total : ℕ) (bytes : List ℕ) (count : ℕ) (rest : List ℕ) (f : LoadFault) → (h : HasHead v bytes count rest) → after_count v whole n i total h.start h.goal (count, rest) ≡ Err f → agent_at v whole n i total bytes ≡ Err f
unfolding agent_at
head_read v whole n i total bytes count rest f h fails =
    let c = h.start in
    let d = h.goal in
    let numbered = count_of v count ++ rest in
    let regrouped : bytes ≡ cell c ++ (cell d ++ numbered) = h.parts ∙ regroup_three (cell c) (cell d) (count_of v count) rest in
    ap (agent_at v whole n i total) regrouped
    ∙ goes_on (cell_from (cell c ++ (cell d ++ numbered))) (after_start v whole n i total) (c, cell d ++ numbered) (cell_again c (cell d ++ numbered) h.start_fits)
    ∙ goes_on (cell_from (cell d ++ numbered)) (λ goal. count_from v goal.1 >>= after_count v whole n i total c goal.0) (d, numbered) (cell_again d numbered h.goal_fits)
    ∙ goes_on (count_from v numbered) (after_count v whole n i total c d) (count, rest) (count_again v count rest h.moves_fit)
    ∙ fails

told_action : (v : Version) (bytes : List ℕ) (n i : ℕ) (rest : List ℕ) (f : LoadFault) → ReachesAction v bytes n i rest → action_at v (length rest) (length bytes) n i 0 rest ≡ Err f → program_as v bytes ≡ Err f
told_action v bytes n i rest f r fails =
    let at = length bytes in
    let p = r.before in
    let own = r.own in
    let within = r.within in
    let few = r.agents.few in
    let more = r.more in
    let count = r.count in
    let size : length r.actions + suc (count - suc (length r.actions)) ≡ count = omega (arith, more) in
    let actions : actions_at v count at n i r.at_actions ≡ Err f =
    ap (actions_at v count at n i) r.parts ∙ rw size at (actions_front v r.actions (count - suc (length r.actions)) at n i rest f (omega (arith, few)) r.awaits r.spellable fails) in
    let fine : (ltb (most_moves v) count || ltb MAX_MOVES_IN_ALL (total_moves p + count)) ≡ false = or_from (ltb (most_moves v) count) (ltb MAX_MOVES_IN_ALL (total_moves p + count)) (le-ltb (most_moves v) count r.few) (le-ltb MAX_MOVES_IN_ALL (total_moves p + count) r.total) in
    let head : agent_at v at n i (total_moves p) r.at_agent ≡ Err f =
    head_read v at n i (total_moves p) r.at_agent count r.at_actions f r.head
    (rw fine (fails_with (actions_at v count at n i r.at_actions) (λ x. Ok (record { start = r.head.start; goal = r.head.goal; actions = x.0 }, x.1)) f actions)) in
    told_agent v bytes n p r.at_agent f r.agents (omega (arith, own, within)) (rw own head)

told_opcode : (v : Version) (bytes : List ℕ) (n i : ℕ) (ws : List Await) (rest : List ℕ) (f : LoadFault) → ReachesOpcode v bytes n i ws rest
    → ((t : ℕ) → length rest ≤ t → action_at v t (length bytes) n i (least_after 0 ws) rest ≡ Err f) → program_as v bytes ≡ Err f
told_opcode v bytes n i ws rest f r fails =
    let few = r.actions.agents.few in
    let from = awaits_from n i 0 ws (any_begins ws) r.right in
    told_action v bytes n i r.at_action f r.actions
    (rw r.parts (awaits_front v (length (flat_map (await v) ws ++ rest)) (length bytes) n i 0 ws rest f (omega (arith, few)) from r.fit (omega arith) fails))

told_await : (v : Version) (bytes : List ℕ) (n i : ℕ) (ws : List Await) (at : ℕ) (rest : List ℕ) (f : LoadFault) → ReachesAwait v bytes n i ws at rest → await_at v at n i (least_after 0 ws) rest ≡ Err f → program_as v bytes ≡ Err f
unfolding action_at
told_await v bytes n i ws at rest f r fails =
    let whole = length bytes in
    let offset = r.offset in
    let here : whole - length (16 ∷ rest) ≡ at = omega (arith, offset) in
    told_opcode v bytes n i ws (16 ∷ rest) f r.opcode (turned here)
  where
    turned : length bytes - length (16 ∷ rest) ≡ at → (t : ℕ) → length (16 ∷ rest) ≤ t → action_at v t (length bytes) n i (least_after 0 ws) (16 ∷ rest) ≡ Err f
    turned here zero le = absurd (omega (arith, le))
    turned here (suc t) le =
        let more : Await × List ℕ → Field Action = λ one. action_at v t (length bytes) n i (one.0.agent + 1) one.1 >>= λ x. Ok (with_await one x) in
        rw here (fails_with (await_at v at n i (least_after 0 ws) rest) more f fails)

-- an await, after its count
abbrev counted : (at j : ℕ) → ℕ × List ℕ → Field Await
counted at j count = fault_if (eqb count.0 0) (AwaitCount at) >> Ok (record { agent = j; count = count.0 }, count.1)

-- an await whose agent is there and is not the own one
told_order : (v : Version) (bytes : List ℕ) (n : ℕ) (ws : List Await) (at j : ℕ) (rest : List ℕ) (f : LoadFault) → (r : ReachesOrder v bytes n ws at j rest)
    → (fault_if (ltb j (least_after 0 ws)) (AwaitOrder at) >> (count_from v rest >>= counted at j)) ≡ Err f → program_as v bytes ≡ Err f
unfolding await_at
told_order v bytes n ws at j rest f r fails =
    let i = r.i in
    let right : (leb n j || eqb j i) ≡ false = or_from (leb n j) (eqb j i) (lt-leb n j r.within) (ne_eqb j i r.other) in
    told_await v bytes n i ws at r.at_agent f r.opcode
    (ap (await_at v at n i (least_after 0 ws)) r.agent.parts ∙ rw (number_again j rest r.agent.fits, right) fails)

told_count : (v : Version) (bytes : List ℕ) (at : ℕ) (rest : List ℕ) (f : LoadFault) → ReachesCount v bytes at rest → ((j : ℕ) → (count_from v rest >>= counted at j) ≡ Err f) → program_as v bytes ≡ Err f
told_count v bytes at rest f r fails =
    let high : ltb r.j (least_after 0 r.awaits) ≡ false = le-ltb r.j (least_after 0 r.awaits) (from_below 0 r.awaits r.j (omega arith) r.rising) in
    told_order v bytes r.n r.awaits at r.j rest f r.agent (rw high (fails r.j))

no_stay_opcode : (v : Version) → (IsTrue (has_opcode v Dwell) → ⊥) → stay_in v ≡ None
no_stay_opcode One h = refl
no_stay_opcode Two h = absurd (h refl)

no_opcode : (v : Version) (b : ℕ) → ((s : Step) → IsTrue (has_opcode v s) → b ≢ opcode s) → step_at v b ≡ None
no_opcode v zero h = absurd (h (Go North) (move_has v North) refl)
no_opcode v (suc zero) h = absurd (h (Go East) (move_has v East) refl)
no_opcode v (suc (suc zero)) h = absurd (h (Go South) (move_has v South) refl)
no_opcode v (suc (suc (suc zero))) h = absurd (h (Go West) (move_has v West) refl)
no_opcode v (suc (suc (suc (suc zero)))) h = no_stay_opcode v (λ has. h Dwell has refl)
no_opcode v (suc (suc (suc (suc (suc b))))) h = refl

-- an agent whose head is not wholly there
head_ends : (v : Version) (whole n i total : ℕ) (rest : List ℕ) → length rest < 8 + (count_len v) → agent_at v whole n i total rest ≡ Err Truncated
unfolding agent_at cell_from
head_ends One whole n own total [] lt = refl
head_ends One whole n own total (a ∷ []) lt = refl
head_ends One whole n own total (a ∷ b ∷ []) lt = refl
head_ends One whole n own total (a ∷ b ∷ c ∷ []) lt = refl
head_ends One whole n own total (a ∷ b ∷ c ∷ d ∷ []) lt = refl
head_ends One whole n own total (a ∷ b ∷ c ∷ d ∷ e ∷ []) lt = refl
head_ends One whole n own total (a ∷ b ∷ c ∷ d ∷ e ∷ f ∷ []) lt = refl
head_ends One whole n own total (a ∷ b ∷ c ∷ d ∷ e ∷ f ∷ g ∷ []) lt = refl
head_ends One whole n own total (a ∷ b ∷ c ∷ d ∷ e ∷ f ∷ g ∷ h ∷ []) lt = refl
head_ends One whole n own total (a ∷ b ∷ c ∷ d ∷ e ∷ f ∷ g ∷ h ∷ j ∷ []) lt = refl
head_ends One whole n own total (a ∷ b ∷ c ∷ d ∷ e ∷ f ∷ g ∷ h ∷ j ∷ k ∷ rest) lt = absurd (omega (arith, lt))
head_ends Two whole n own total [] lt = refl
head_ends Two whole n own total (a ∷ []) lt = refl
head_ends Two whole n own total (a ∷ b ∷ []) lt = refl
head_ends Two whole n own total (a ∷ b ∷ c ∷ []) lt = refl
head_ends Two whole n own total (a ∷ b ∷ c ∷ d ∷ []) lt = refl
head_ends Two whole n own total (a ∷ b ∷ c ∷ d ∷ e ∷ []) lt = refl
head_ends Two whole n own total (a ∷ b ∷ c ∷ d ∷ e ∷ f ∷ []) lt = refl
head_ends Two whole n own total (a ∷ b ∷ c ∷ d ∷ e ∷ f ∷ g ∷ []) lt = refl
head_ends Two whole n own total (a ∷ b ∷ c ∷ d ∷ e ∷ f ∷ g ∷ h ∷ []) lt = refl
head_ends Two whole n own total (a ∷ b ∷ c ∷ d ∷ e ∷ f ∷ g ∷ h ∷ j ∷ []) lt = refl
head_ends Two whole n own total (a ∷ b ∷ c ∷ d ∷ e ∷ f ∷ g ∷ h ∷ j ∷ k ∷ []) lt = refl
head_ends Two whole n own total (a ∷ b ∷ c ∷ d ∷ e ∷ f ∷ g ∷ h ∷ j ∷ k ∷ l ∷ []) lt = refl
head_ends Two whole n own total (a ∷ b ∷ c ∷ d ∷ e ∷ f ∷ g ∷ h ∷ j ∷ k ∷ l ∷ m ∷ rest) lt = absurd (omega (arith, lt))

told_end : (v : Version) (bytes : List ℕ) → EndsWithin v bytes → program_as v bytes ≡ Err Truncated
unfolding program_as action_at agent_at await_at cell_from
told_end v bytes (inl m) = fails_with (magic_at v bytes) (λ r. number_at r >>= after_agent_count v (length bytes)) Truncated (magic_ends v bytes m.0 m.1 m.2)
told_end v bytes (inr (inl m)) =
    goes_on (magic_at v bytes) (λ r. number_at r >>= after_agent_count v (length bytes)) m.0 (magic_read v bytes m.0 m.1)
    ∙ fails_with (number_at m.0) (after_agent_count v (length bytes)) Truncated (few_bytes m.0 m.2)
told_end v bytes (inr (inr (inl m))) = told_agent v bytes m.0 m.1 m.2 Truncated m.3 m.4 (head_ends v (length bytes) m.0 (length m.1) (total_moves m.1) m.2 m.5)
told_end v bytes (inr (inr (inr (inl m)))) = told_opcode v bytes m.0 m.1 m.2 [] Truncated m.3 nothing_left
  where
    nothing_left : (t : ℕ) → length {A = ℕ} [] ≤ t → action_at v t (length bytes) m.0 m.1 (least_after 0 m.2) [] ≡ Err Truncated
    nothing_left zero le = refl
    nothing_left (suc t) le = refl
told_end v bytes (inr (inr (inr (inr (inl m))))) = told_await v bytes m.0 m.1 m.2 m.3 m.4 Truncated m.5 (rw (few_bytes m.4 m.6) refl)
told_end v bytes (inr (inr (inr (inr (inr m))))) = told_count v bytes m.0 m.1 Truncated m.2 (λ j. rw (few_count_bytes v m.1 m.3) refl)

pub is_told : (v : Version) (bytes : List ℕ) (f : LoadFault) → IsFirstFaultIn v bytes f → program_as v bytes ≡ Err f
unfolding program_as action_at await_at
is_told v bytes OutOfMemory h = absurd h
is_told v bytes Magic h = fails_with (magic_at v bytes) (λ r. number_at r >>= after_agent_count v (length bytes)) Magic (magic_differs v bytes h)
is_told v bytes Truncated h = told_end v bytes h
is_told v bytes AgentCount h =
    let n = h.0 in
    let at = length bytes in
    let wrong : (eqb n 0 || ltb MAX_AGENTS n) ≡ true =
    elim h.5 [
      | inl none ↦ or_left (eqb n 0) (ltb MAX_AGENTS n) (eq-eqb n 0 none)
      | inr many ↦ or_right (eqb n 0) (ltb MAX_AGENTS n) (lt-ltb MAX_AGENTS n many)
    ] in
    goes_on (magic_at v bytes) (λ r. number_at r >>= after_agent_count v at) h.1 (magic_read v bytes h.1 h.3)
    ∙ goes_on (number_at h.1) (after_agent_count v at) (n, h.2) (ap number_at h.4.parts ∙ number_again n h.2 h.4.fits)
    ∙ rw wrong refl
is_told v bytes Total h =
    let p = h.1 in
    told_agent v bytes h.0 p h.2 Total h.5 h.6 (head_read v (length bytes) h.0 (length p) (total_moves p) h.2 h.3 h.4 Total h.7 (rw (over h.8) refl))
  where
    over : ((most_moves v) < h.3) ⊎ (MAX_MOVES_IN_ALL < total_moves h.1 + h.3) → (ltb (most_moves v) h.3 || ltb MAX_MOVES_IN_ALL (total_moves h.1 + h.3)) ≡ true
    over (inl own) = or_left (ltb (most_moves v) h.3) (ltb MAX_MOVES_IN_ALL (total_moves h.1 + h.3)) (lt-ltb (most_moves v) h.3 own)
    over (inr all) = or_right (ltb (most_moves v) h.3) (ltb MAX_MOVES_IN_ALL (total_moves h.1 + h.3)) (lt-ltb MAX_MOVES_IN_ALL (total_moves h.1 + h.3) all)
is_told v bytes (Opcode at) h = told_opcode v bytes h.0 h.1 h.2 (h.3 ∷ h.4) (Opcode at) h.5 (turned (offset_is h.6))
  where
    offset_is : IsOffset bytes (h.3 ∷ h.4) at → length bytes - length (h.3 ∷ h.4) ≡ at
    offset_is o = omega (arith, o)

    turned : length bytes - length (h.3 ∷ h.4) ≡ at → (t : ℕ) → length (h.3 ∷ h.4) ≤ t → action_at v t (length bytes) h.0 h.1 (least_after 0 h.2) (h.3 ∷ h.4) ≡ Err (Opcode at)
    turned here zero le = absurd (omega (arith, le))
    turned here (suc t) le = rw (no_opcode v h.3 h.8, ne_eqb h.3 16 h.7, here) refl
is_told v bytes (AwaitAgent at) h =
    let n = h.0 in
    let i = h.1 in
    let j = h.4 in
    let wrong : (leb n j || eqb j i) ≡ true =
    elim h.8 [
      | inl none ↦ or_left (leb n j) (eqb j i) (le-leb n j none)
      | inr own ↦ or_right (leb n j) (eqb j i) (eq-eqb j i own)
    ] in
    told_await v bytes n i h.2 at h.3 (AwaitAgent at) h.6 (ap (await_at v at n i (least_after 0 h.2)) h.7.parts ∙ rw (number_again j h.5 h.7.fits, wrong) refl)
is_told v bytes (AwaitOrder at) h =
    let r = h.4 in
    let from = awaits_from h.0 r.i 0 h.1 (any_begins h.1) r.opcode.opcode.right in
    told_order v bytes h.0 h.1 at h.2 h.3 (AwaitOrder at) r (rw (lt-ltb h.2 (least_after 0 h.1) (below_some h.0 r.i 0 h.1 h.2 from h.5)) refl)
is_told v bytes (AwaitCount at) h = told_count v bytes at h.0 (AwaitCount at) h.2 (λ j. rw (h.3.parts, count_again v 0 h.1 h.3.fits) refl)
is_told v bytes (Trailing at) h =
    let p = h.0 in
    let rest = h.1 ∷ h.2 in
    let r = h.3 in
    let few = r.few in
    let offset = h.4 in
    let whole = length bytes in
    let here : whole - length rest ≡ at = omega (arith, offset) in
    let some : eqb (length rest) 0 ≡ false = ne_eqb (length rest) 0 (λ z. omega (arith, z)) in
    after_number v bytes (length p) (flat_map (agent v) p ++ rest) (r.parts ∙ append_assoc ((magic v) ++ two_bytes (length p)) (flat_map (agent v) p) rest) r.some r.few
    ∙ goes_on (agents_at v (length p) whole (length p) 0 0 (flat_map (agent v) p ++ rest)) (after_agents whole) (p, rest) (agents_again v whole (length p) 0 0 p rest (omega (arith, few)) (agents_from v bytes (length p) p rest r) r.spellable)
    ∙ rw (some, here) refl
