-- Bytes that go on: what was reached is reached again, and a fault other than missing bytes stays.
use Rattle.fleet_code.proofs.Words.{◌≡◌, ◌≢◌, ℕ, List, ◌∷◌, ◌++◌, length, refl, sym, ap, ◌∙◌, append_assoc, arith, flat_map, length-append, get_or_append_left, Await, Program, Version, LoadFault, OutOfMemory, Truncated, AgentCount, Total, AwaitAgent, AwaitOrder, AwaitCount, Trailing, magic, two_bytes, cell, agent, BeginsWithNumber, BeginsWithCount, HasHead, IsOffset, ReachesAgent, ReachesAction, ReachesOpcode, ReachesAwait, ReachesOrder, ReachesCount, IsFirstFaultIn}
use Rattle.fleet_code.specs.declared.fault.LoadFault.TheVariants.{Magic, Opcode}
use Rattle.fleet_code.specs.Spelling.{count as count_of, await, action}

module _ (v : Version) (more : List ℕ) where
  goes_on : (bytes front rest : List ℕ) → bytes ≡ front ++ rest → bytes ++ more ≡ front ++ (rest ++ more)
  goes_on bytes front rest e = ap (λ (t : List ℕ). t ++ more) e ∙ append_assoc front rest more

  number_stays : (bytes : List ℕ) (n : ℕ) (rest : List ℕ) → BeginsWithNumber bytes n rest → BeginsWithNumber (bytes ++ more) n (rest ++ more)
  number_stays bytes n rest h = record { fits = h.fits; parts = goes_on bytes (two_bytes n) rest h.parts }

  count_stays_there : (bytes : List ℕ) (n : ℕ) (rest : List ℕ) → BeginsWithCount v bytes n rest → BeginsWithCount v (bytes ++ more) n (rest ++ more)
  count_stays_there bytes n rest h = record { fits = h.fits; parts = goes_on bytes (count_of v n) rest h.parts }

  head_stays : (bytes : List ℕ) (count : ℕ) (rest : List ℕ) → HasHead v bytes count rest → HasHead v (bytes ++ more) count (rest ++ more)
  head_stays bytes count rest h = record {
    start = h.start;
    goal = h.goal;
    start_fits = h.start_fits;
    goal_fits = h.goal_fits;
    moves_fit = h.moves_fit;
    parts = goes_on bytes (cell h.start ++ cell h.goal ++ count_of v count) rest h.parts;
  }

  offset_stays : (bytes rest : List ℕ) (at : ℕ) → IsOffset bytes rest at → IsOffset (bytes ++ more) (rest ++ more) at
  offset_stays bytes rest at o = omega (arith, o, length-append bytes more, length-append rest more)

  agent_stays : (bytes : List ℕ) (n : ℕ) (p : Program) (rest : List ℕ) → ReachesAgent v bytes n p rest → ReachesAgent v (bytes ++ more) n p (rest ++ more)
  agent_stays bytes n p rest r = record {
    some = r.some;
    few = r.few;
    agents = r.agents;
    spellable = r.spellable;
    total = r.total;
    parts = goes_on bytes ((magic v) ++ two_bytes n ++ flat_map (agent v) p) rest r.parts;
  }

  action_stays : (bytes : List ℕ) (n i : ℕ) (rest : List ℕ) → ReachesAction v bytes n i rest → ReachesAction v (bytes ++ more) n i (rest ++ more)
  action_stays bytes n i rest r = record {
    before = r.before;
    at_agent = r.at_agent ++ more;
    agents = agent_stays bytes n r.before r.at_agent r.agents;
    own = r.own;
    within = r.within;
    count = r.count;
    at_actions = r.at_actions ++ more;
    head = head_stays r.at_agent r.count r.at_actions r.head;
    few = r.few;
    total = r.total;
    actions = r.actions;
    more = r.more;
    awaits = r.awaits;
    spellable = r.spellable;
    parts = goes_on r.at_actions (flat_map (action v) r.actions) rest r.parts;
  }

  opcode_stays : (bytes : List ℕ) (n i : ℕ) (ws : List Await) (rest : List ℕ) → ReachesOpcode v bytes n i ws rest → ReachesOpcode v (bytes ++ more) n i ws (rest ++ more)
  opcode_stays bytes n i ws rest r = record {
    at_action = r.at_action ++ more;
    actions = action_stays bytes n i r.at_action r.actions;
    right = r.right;
    fit = r.fit;
    parts = goes_on r.at_action (flat_map (await v) ws) rest r.parts;
  }

  await_stays : (bytes : List ℕ) (n i : ℕ) (ws : List Await) (at : ℕ) (rest : List ℕ) → ReachesAwait v bytes n i ws at rest → ReachesAwait v (bytes ++ more) n i ws at (rest ++ more)
  await_stays bytes n i ws at rest r = record { opcode = opcode_stays bytes n i ws (16 ∷ rest) r.opcode; offset = offset_stays bytes (16 ∷ rest) at r.offset }

  order_stays : (bytes : List ℕ) (n : ℕ) (ws : List Await) (at j : ℕ) (rest : List ℕ) → ReachesOrder v bytes n ws at j rest → ReachesOrder v (bytes ++ more) n ws at j (rest ++ more)
  order_stays bytes n ws at j rest r = record {
    i = r.i;
    at_agent = r.at_agent ++ more;
    opcode = await_stays bytes n r.i ws at r.at_agent r.opcode;
    agent = number_stays r.at_agent j rest r.agent;
    within = r.within;
    other = r.other;
  }

  count_stays : (bytes : List ℕ) (at : ℕ) (rest : List ℕ) → ReachesCount v bytes at rest → ReachesCount v (bytes ++ more) at (rest ++ more)
  count_stays bytes at rest r = record { n = r.n; awaits = r.awaits; j = r.j; agent = order_stays bytes r.n r.awaits at r.j rest r.agent; rising = r.rising }

  pub fault_stays : (bytes : List ℕ) (f : LoadFault) → IsFirstFaultIn v bytes f → f ≢ Truncated → IsFirstFaultIn v (bytes ++ more) f
  fault_stays bytes OutOfMemory h other = h
  fault_stays bytes Magic h other =
      let within = h.2 in
      (h.0, h.1, omega (arith, within, length-append bytes more), λ same. h.3 (sym (get_or_append_left bytes more 0 h.0 h.2) ∙ same))
  fault_stays bytes Truncated h other = absurd (other refl)
  fault_stays bytes AgentCount h other = (h.0, h.1 ++ more, h.2 ++ more, goes_on bytes (magic v) h.1 h.3, number_stays h.1 h.0 h.2 h.4, h.5)
  fault_stays bytes Total h other = (h.0, h.1, h.2 ++ more, h.3, h.4 ++ more, agent_stays bytes h.0 h.1 h.2 h.5, h.6, head_stays h.2 h.3 h.4 h.7, h.8)
  fault_stays bytes (Opcode at) h other = (h.0, h.1, h.2, h.3, h.4 ++ more, opcode_stays bytes h.0 h.1 h.2 (h.3 ∷ h.4) h.5, offset_stays bytes (h.3 ∷ h.4) at h.6, h.7, h.8)
  fault_stays bytes (AwaitAgent at) h other = (h.0, h.1, h.2, h.3 ++ more, h.4, h.5 ++ more, await_stays bytes h.0 h.1 h.2 at h.3 h.6, number_stays h.3 h.4 h.5 h.7, h.8)
  fault_stays bytes (AwaitOrder at) h other = (h.0, h.1, h.2, h.3 ++ more, order_stays bytes h.0 h.1 at h.2 h.3 h.4, h.5)
  fault_stays bytes (AwaitCount at) h other = (h.0 ++ more, h.1 ++ more, count_stays bytes at h.0 h.2, count_stays_there h.0 0 h.1 h.3)
  fault_stays bytes (Trailing at) h other = (h.0, h.1, h.2 ++ more, agent_stays bytes (length h.0) h.0 (h.1 ∷ h.2) h.3, offset_stays bytes (h.1 ∷ h.2) at h.4)
