-- What the pass over the bytes finds, action by action and agent by agent.
use Rattle.fleet_code.proofs.Words.{◌≡◌, ℕ, suc, ◌-◌, ◌+◌, ◌≤◌, ◌<◌, List, [], ◌∷◌, ◌++◌, length, take, set, replicate, Option, Some, None, Ok, Err, refl, sym, ap, ◌∙◌, append_assoc, arith, append-nil, length-append, take_more_set, Step, Action, AgentProgram, Program, ◌>>=◌, ok_is, Version, LoadFault, agent, Field, action_at, actions_at, agent_at, agents_at, PartOffsets, opcodes, ends_of, part_of, parts_of, with_ends, with_parts}
use Rattle.fleet_code.specs.Spelling.{action}
use Rattle.fleet_code.proofs.Parts.{IsBytes}
use Rattle.fleet_code.proofs.RoundTrip.{action_takes, agent_takes}

-- ---- one action

pub no_step : (o : Option Step) → ((s : Step) → o ≡ Some s → ⊥) → o ≡ None
no_step None h = refl
no_step (Some s) h = absurd (h s refl)

pub action_length : (v : Version) (turns whole n i least : ℕ) (bytes : List ℕ) (x : Action × List ℕ) → IsBytes bytes → action_at v turns whole n i least bytes ≡ Ok x
    → length bytes ≡ length (action v x.0) + length x.1
action_length v turns whole n i least bytes x fits e = ap length (action_takes v turns whole n i least bytes x fits e).0.parts ∙ length-append (action v x.0) x.1

-- ---- actions

-- after k of count actions, what is due is what the bytes that are left give, after the ends that are known
pub record EndsGoOn (v : Version) (whole n i count k : ℕ) (bytes : List ℕ) (known : List ℕ) (at : ℕ) (due : Field (List ℕ)) : Type 0 where
  pub gives : with_ends known at (actions_at v (count - k) whole n i bytes) ≡ due

one_end : (known : List ℕ) (at : ℕ) (a : Action) (read : Field (List Action)) → with_ends known at (read >>= λ x. Ok (a ∷ x.0, x.1)) ≡ with_ends (known ++ (at + opcodes a) ∷ []) (at + opcodes a) read
one_end known at a (Ok x) = ap (λ (ends : List ℕ). Ok (ends, x.1)) (sym (append_assoc known ((at + opcodes a) ∷ []) (ends_of (at + opcodes a) x.0)))
one_end known at a (Err f) = refl

module _ (v : Version) {whole n i count k : ℕ} {bytes known : List ℕ} {at : ℕ} {due : Field (List ℕ)} (h : EndsGoOn v whole n i count k bytes known at due) where
  after_one : (x : Action × List ℕ) → k < count → action_at v (length bytes) whole n i 0 bytes ≡ Ok x
      → EndsGoOn v whole n i count (k + 1) x.1 (known ++ (at + opcodes x.0) ∷ []) (at + opcodes x.0) due
  unfolding actions_at
  after_one x lt read =
      let e : count - k ≡ suc (count - (k + 1)) = omega arith in
      let one : with_ends known at (actions_at v (count - k) whole n i bytes) ≡ with_ends (known ++ (at + opcodes x.0) ∷ []) (at + opcodes x.0) (actions_at v (count - (k + 1)) whole n i x.1)
      = rw (e, read) (one_end known at x.0 (actions_at v (count - (k + 1)) whole n i x.1)) in
      record { gives = sym one ∙ h.gives }

  pub end_goes_on : (x : Action × List ℕ) (rest : List ℕ) (end : ℕ) → k < count → action_at v (length bytes) whole n i 0 bytes ≡ Ok x → rest ≡ x.1 → end ≡ at + opcodes x.0
      → EndsGoOn v whole n i count (k + 1) rest (known ++ end ∷ []) end due
  end_goes_on x rest end lt read same ends = rw (same, ends) (after_one x lt read)

  pub end_fails : (f : LoadFault) → k < count → action_at v (length bytes) whole n i 0 bytes ≡ Err f → due ≡ Err f
  unfolding actions_at
  end_fails f lt read =
      let e : count - k ≡ suc (count - (k + 1)) = omega arith in
      let one : with_ends known at (actions_at v (count - k) whole n i bytes) ≡ Err f = rw (e, read) refl in
      sym h.gives ∙ one

  pub ends_done : count ≤ k → due ≡ Ok (known, bytes)
  unfolding actions_at
  ends_done le =
      let e : count - k ≡ 0 = omega arith in
      let one : with_ends known at (actions_at v (count - k) whole n i bytes) ≡ Ok (known, bytes) = rw e (ap (λ (ends : List ℕ). Ok (ends, bytes)) (append-nil known)) in
      sym h.gives ∙ one

-- what was read, of which the ends are known
pub ends_found : (v : Version) (known : List ℕ) (at : ℕ) (read : Field (List Action)) (ends rest : List ℕ) → with_ends known at read ≡ Ok (ends, rest)
    → (x : List Action × List ℕ) × (read ≡ Ok x) × (ends ≡ known ++ ends_of at x.0) × (rest ≡ x.1)
ends_found v known at (Ok x) ends rest e =
    let same = ok_is (known ++ ends_of at x.0, x.1) (ends, rest) e in
    (x, refl, sym (ap (λ (p : List ℕ × List ℕ). p.0) same), sym (ap (λ (p : List ℕ × List ℕ). p.1) same))
ends_found v known at (Err f) ends rest e = absurd cc

pub ends_failed : (known : List ℕ) (at : ℕ) (read : Field (List Action)) (f : LoadFault) → with_ends known at read ≡ Err f → read ≡ Err f
ends_failed known at (Ok x) f e = absurd cc
ends_failed known at (Err g) f e = cc

-- ---- agents

-- before agent i of n, where those before it have moves, what is due is what the bytes that are left give, after the
-- parts that are known
pub record PartsGoOn (v : Version) (whole n i moves : ℕ) (bytes : List ℕ) (known : List PartOffsets) (at : ℕ) (due : Field (List PartOffsets)) : Type 0 where
  pub gives : with_parts v known at (agents_at v (n - i) whole n i moves bytes) ≡ due

one_part : (v : Version) (known : List PartOffsets) (at : ℕ) (a : AgentProgram) (read : Field Program) → with_parts v known at (read >>= λ x. Ok (a ∷ x.0, x.1)) ≡ with_parts v (known ++ part_of v at a ∷ []) (at + length (agent v a)) read
one_part v known at a (Ok x) = ap (λ (parts : List PartOffsets). Ok (parts, x.1)) (sym (append_assoc known (part_of v at a ∷ []) (parts_of v (at + length (agent v a)) x.0)))
one_part v known at a (Err f) = refl

module _ (v : Version) {whole n i moves : ℕ} {bytes : List ℕ} {known : List PartOffsets} {at : ℕ} {due : Field (List PartOffsets)} (h : PartsGoOn v whole n i moves bytes known at due) where
  after_part : (x : AgentProgram × List ℕ) → i < n → agent_at v whole n i moves bytes ≡ Ok x
      → PartsGoOn v whole n (i + 1) (moves + length x.0.actions) x.1 (known ++ part_of v at x.0 ∷ []) (at + length (agent v x.0)) due
  unfolding agents_at
  after_part x lt read =
      let e : n - i ≡ suc (n - (i + 1)) = omega arith in
      let one : with_parts v known at (agents_at v (n - i) whole n i moves bytes) ≡ with_parts v (known ++ part_of v at x.0 ∷ []) (at + length (agent v x.0)) (agents_at v (n - (i + 1)) whole n (i + 1) (moves + length x.0.actions) x.1)
      = rw (e, read) (one_part v known at x.0 (agents_at v (n - (i + 1)) whole n (i + 1) (moves + length x.0.actions) x.1)) in
      record { gives = sym one ∙ h.gives }

  pub part_goes_on : (x : AgentProgram × List ℕ) (rest : List ℕ) (part : PartOffsets) (total end : ℕ) → i < n → agent_at v whole n i moves bytes ≡ Ok x
      → rest ≡ x.1 → part ≡ part_of v at x.0 → total ≡ moves + length x.0.actions → end ≡ at + length (agent v x.0)
      → PartsGoOn v whole n (i + 1) total rest (known ++ part ∷ []) end due
  part_goes_on x rest part total end lt read same is_part sum ends = rw (same, is_part, sum, ends) (after_part x lt read)

  pub part_fails : (f : LoadFault) → i < n → agent_at v whole n i moves bytes ≡ Err f → due ≡ Err f
  unfolding agents_at
  part_fails f lt read =
      let e : n - i ≡ suc (n - (i + 1)) = omega arith in
      let one : with_parts v known at (agents_at v (n - i) whole n i moves bytes) ≡ Err f = rw (e, read) refl in
      sym h.gives ∙ one

  pub parts_done : n ≤ i → due ≡ Ok (known, bytes)
  unfolding agents_at
  parts_done le =
      let e : n - i ≡ 0 = omega arith in
      let one : with_parts v known at (agents_at v (n - i) whole n i moves bytes) ≡ Ok (known, bytes) = rw e (ap (λ (parts : List PartOffsets). Ok (parts, bytes)) (append-nil known)) in
      sym h.gives ∙ one

pub parts_found : (v : Version) (at : ℕ) (read : Field Program) (parts : List PartOffsets) (rest : List ℕ) → with_parts v [] at read ≡ Ok (parts, rest)
    → (x : Program × List ℕ) × (read ≡ Ok x) × (parts ≡ parts_of v at x.0) × (rest ≡ x.1)
parts_found v at (Ok x) parts rest e =
    let same = ok_is (parts_of v at x.0, x.1) (parts, rest) e in
    (x, refl, sym (ap (λ (p : List PartOffsets × List ℕ). p.0) same), sym (ap (λ (p : List PartOffsets × List ℕ). p.1) same))
parts_found v at (Err f) parts rest e = absurd cc

pub parts_failed : (v : Version) (at : ℕ) (read : Field Program) (f : LoadFault) → with_parts v [] at read ≡ Err f → read ≡ Err f
parts_failed v at (Ok x) f e = absurd cc
parts_failed v at (Err g) f e = cc

pub agent_length : (v : Version) (whole n i total : ℕ) (bytes : List ℕ) (x : AgentProgram × List ℕ) → IsBytes bytes → agent_at v whole n i total bytes ≡ Ok x
    → length bytes ≡ length (agent v x.0) + length x.1
agent_length v whole n i total bytes x fits e = ap length (agent_takes v whole n i total bytes x fits e).0.parts ∙ length-append (agent v x.0) x.1

pub ends_length : (at : ℕ) (actions : List Action) → length (ends_of at actions) ≡ length actions
ends_length at [] = refl
ends_length at (a ∷ actions) = ap suc (ends_length (at + opcodes a) actions)

-- ---- a row that is filled from the front

-- before an action is read, one offset is known
pub ends_begin : (v : Version) (whole n i count most : ℕ) (bytes row : List ℕ) → row ≡ replicate (most + 1) 0
    → EndsGoOn v whole n i count 0 bytes (take 1 row) 0 (with_ends (0 ∷ []) 0 (actions_at v count whole n i bytes))
ends_begin v whole n i count most bytes row e =
    let more : most + 1 ≡ suc most = omega arith in
    let first : take 1 row ≡ 0 ∷ [] = ap (take 1) (e ∙ ap (λ (m : ℕ). replicate m 0) more) in
    let all : count - 0 ≡ count = omega arith in
    record { gives = rw (first, all) refl }

-- one offset more is written
pub one_filled : (row : List ℕ) (k end : ℕ) → k + 1 < length row → take (k + 1) row ++ end ∷ [] ≡ take (k + 1 + 1) (set row (k + 1) end)
one_filled row k end lt = sym (take_more_set row (k + 1) end lt)
