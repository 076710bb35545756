-- A program is read after its head, and an agent's actions after the agent's.
use Rattle.fleet_code.proofs.Words.{◌≡◌, ◌≢◌, ℕ, ◌+◌, ◌-◌, ◌≤◌, Bool, true, false, not, ◌||◌, eqb, ltb, List, length, Result, Ok, Err, refl, ◌∙◌, arith, ne_eqb, Action, AgentProgram, Program, ◌>>=◌, ◌>>◌, fault_if, LoadFault, AgentCount, Total, Trailing, Version, One, Two, most_moves, Field, magic_at, number_at, count_from, cell_from, actions_at, agent_at, agents_at, program_as, MAX_AGENTS, MAX_MOVES_IN_ALL}
use Rattle.fleet_model.specs.declared.geometry.Cell.{Cell}
use Rattle.fleet_code.specs.Heads.{head_at, agent_head_at}

-- ---- steps and a test, of which the value goes to the next

module _ {W D : Type 0} (f : LoadFault) (next : W → Result D LoadFault) where
  tested : (b : Bool) (w : W) → (fault_if b f >> next w) ≡ ((fault_if b f >> Ok w) >>= next)
  tested true w = refl
  tested false w = refl

  one_step : {C : Type 0} (r : Result C LoadFault) (test : C → Bool) (w : C → W) → (r >>= λ z. fault_if (test z) f >> next (w z)) ≡ ((r >>= λ z. fault_if (test z) f >> Ok (w z)) >>= next)
  one_step (Ok z) test w = tested (test z) (w z)
  one_step (Err e) test w = refl

  two_steps : {B C : Type 0} (r : Result B LoadFault) (g : B → Result C LoadFault) (test : C → Bool) (w : B → C → W)
      → (r >>= λ y. g y >>= λ z. fault_if (test z) f >> next (w y z)) ≡ ((r >>= λ y. g y >>= λ z. fault_if (test z) f >> Ok (w y z)) >>= next)
  two_steps (Ok y) g test w = one_step (g y) test (w y)
  two_steps (Err e) g test w = refl

  three_steps : {A B C : Type 0} (r : Result A LoadFault) (h : A → Result B LoadFault) (g : B → Result C LoadFault) (test : C → Bool) (w : A → B → C → W)
      → (r >>= λ x. h x >>= λ y. g y >>= λ z. fault_if (test z) f >> next (w x y z)) ≡ ((r >>= λ x. h x >>= λ y. g y >>= λ z. fault_if (test z) f >> Ok (w x y z)) >>= next)
  three_steps (Ok x) h g test w = two_steps (h x) g test (w x)
  three_steps (Err e) h g test w = refl

-- ---- the program

module _ (v : Version) (bytes : List ℕ) where
  abbrev after_head : ℕ × List ℕ → Result Program LoadFault
  after_head n = agents_at v n.0 (length bytes) n.0 0 0 n.1 >>= λ p. fault_if (not (eqb (length p.1) 0)) (Trailing (length bytes - length p.1)) >> Ok p.0

  after_its_head : program_as v bytes ≡ (head_at v bytes >>= after_head)
  unfolding program_as head_at
  after_its_head = two_steps AgentCount after_head (magic_at v bytes) number_at (λ (n : ℕ × List ℕ). eqb n.0 0 || ltb MAX_AGENTS n.0) (λ (rest : List ℕ) (n : ℕ × List ℕ). n)

  pub head_fails : (f : LoadFault) → head_at v bytes ≡ Err f → program_as v bytes ≡ Err f
  head_fails f e = after_its_head ∙ rw e refl

  module _ (count : ℕ × List ℕ) (head : head_at v bytes ≡ Ok count) where
    pub agents_fail : (f : LoadFault) → agents_at v count.0 (length bytes) count.0 0 0 count.1 ≡ Err f → program_as v bytes ≡ Err f
    agents_fail f e = after_its_head ∙ rw (head, e) refl

    pub program_is : (x : Program × List ℕ) → agents_at v count.0 (length bytes) count.0 0 0 count.1 ≡ Ok x → length x.1 ≡ 0 → program_as v bytes ≡ Ok x.0
    program_is x e all = after_its_head ∙ rw (head, e, all) refl

    pub bytes_follow : (x : Program × List ℕ) → agents_at v count.0 (length bytes) count.0 0 0 count.1 ≡ Ok x → length x.1 ≢ 0 → program_as v bytes ≡ Err (Trailing (length bytes - length x.1))
    bytes_follow x e more = let some = ne_eqb (length x.1) 0 more in after_its_head ∙ rw (head, e, some) refl

-- ---- an agent

module _ (v : Version) (whole n i total : ℕ) (bytes : List ℕ) where
  abbrev after_agent_head : (Cell × Cell × ℕ) × List ℕ → Field AgentProgram
  after_agent_head h = actions_at v h.0.2 whole n i h.1 >>= λ x. Ok (record { start = h.0.0; goal = h.0.1; actions = x.0 }, x.1)

  after_the_head : agent_at v whole n i total bytes ≡ (agent_head_at v total bytes >>= after_agent_head)
  unfolding agent_at agent_head_at
  after_the_head =
      three_steps Total after_agent_head (cell_from bytes) (λ (s : Cell × List ℕ). cell_from s.1) (λ (g : Cell × List ℕ). count_from v g.1) (λ (c : ℕ × List ℕ). ltb (most_moves v) c.0 || ltb MAX_MOVES_IN_ALL (total + c.0))
      (λ (s g : Cell × List ℕ) (c : ℕ × List ℕ). ((s.0, g.0, c.0), c.1))

  pub agent_head_fails : (f : LoadFault) → agent_head_at v total bytes ≡ Err f → agent_at v whole n i total bytes ≡ Err f
  agent_head_fails f e = after_the_head ∙ rw e refl

  module _ (h : (Cell × Cell × ℕ) × List ℕ) (head : agent_head_at v total bytes ≡ Ok h) where
    pub actions_fail : (f : LoadFault) → actions_at v h.0.2 whole n i h.1 ≡ Err f → agent_at v whole n i total bytes ≡ Err f
    actions_fail f e = after_the_head ∙ rw (head, e) refl

    pub agent_is : (x : List Action × List ℕ) → actions_at v h.0.2 whole n i h.1 ≡ Ok x → agent_at v whole n i total bytes ≡ Ok (record { start = h.0.0; goal = h.0.1; actions = x.0 }, x.1)
    agent_is x e = after_the_head ∙ rw (head, e) refl

-- no version lets an agent have more actions than one agent of a program may have
pub most_moves-le : (v : Version) → most_moves v ≤ 1000000
most_moves-le One = omega arith
most_moves-le Two = omega arith
