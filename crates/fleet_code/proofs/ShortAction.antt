-- An action of version 1 that has one await, and then a move, seen at one look.
use Rattle.fleet_code.proofs.Words.{◌≡◌, ◌≢◌, ℕ, ◌+◌, ◌-◌, ◌≤◌, ◌<◌, true, false, ltb, List, [], ◌∷◌, ◌++◌, length, get_or, drop, None, Ok, refl, sym, ap, arith, IsTrue, w16, from_be_bytes, ne_eqb, le-ltb, lt-leb, from_be_bytes-to_be_bytes_2, All-head, North, East, South, West, Step, Go, Dwell, Await, Action, AwaitsFrom, One, most_count, opcode, has_opcode, IsSpellable, await_at, step_at, action_at, opcodes}
use Rattle.fleet_code.specs.Spelling.{action}
use Rattle.fleet_code.proofs.ActionLoop.{action_begins, await_goes_on, step_ends}
use Rattle.fleet_code.proofs.Bare.{step_there}
use Rattle.fleet_code.proofs.Parts.{IsBytes}
use Rattle.fleet_code.proofs.RoundTrip.{action_takes}

await_there : (at n i a b c d agent count : ℕ) (rest : List ℕ) → agent ≡ from_be_bytes w16 (a ∷ b ∷ []) → count ≡ from_be_bytes w16 (c ∷ d ∷ []) → agent < n → agent ≢ i → count ≢ 0
    → await_at One at n i 0 (a ∷ b ∷ c ∷ d ∷ rest) ≡ Ok (record { agent = agent; count = count }, rest)
unfolding await_at
await_there at n i a b c d agent count rest is_agent is_count few other some =
    let two : ltb (length (a ∷ b ∷ c ∷ d ∷ rest)) 2 ≡ false = le-ltb _ 2 (omega arith) in
    let four : ltb (length (c ∷ d ∷ rest)) 2 ≡ false = le-ltb _ 2 (omega arith) in
    rw (two, four, sym is_agent, sym is_count, lt-leb n agent few, ne_eqb agent i other, le-ltb agent 0 (omega arith), ne_eqb count 0 some) refl

-- its bytes are six: the opcode of an await, its agent, its count, and the move
pub short_action : (whole n i agent count : ℕ) (bytes : List ℕ) → 6 ≤ length bytes → get_or bytes 0 0 ≡ 16 → agent ≡ from_be_bytes w16 (get_or bytes 1 0 ∷ get_or bytes 2 0 ∷ [])
    → count ≡ from_be_bytes w16 (get_or bytes 3 0 ∷ get_or bytes 4 0 ∷ []) → get_or bytes 5 0 ≤ 3 → agent < n → agent ≢ i → count ≢ 0
    → (x : Action) × (opcodes x ≡ 2) × (action_at One (length bytes) whole n i 0 bytes ≡ Ok (x, drop 6 bytes))
short_action whole n i agent count [] long opcode is_agent is_count step few other some = absurd (omega (arith, long))
short_action whole n i agent count (o ∷ []) long opcode is_agent is_count step few other some = absurd (omega (arith, long))
short_action whole n i agent count (o ∷ a ∷ []) long opcode is_agent is_count step few other some = absurd (omega (arith, long))
short_action whole n i agent count (o ∷ a ∷ b ∷ []) long opcode is_agent is_count step few other some = absurd (omega (arith, long))
short_action whole n i agent count (o ∷ a ∷ b ∷ c ∷ []) long opcode is_agent is_count step few other some = absurd (omega (arith, long))
short_action whole n i agent count (o ∷ a ∷ b ∷ c ∷ d ∷ []) long opcode is_agent is_count step few other some = absurd (omega (arith, long))
short_action whole n i agent count (o ∷ a ∷ b ∷ c ∷ d ∷ s ∷ after) long opcode is_agent is_count step few other some =
    let bytes : List ℕ = o ∷ a ∷ b ∷ c ∷ d ∷ s ∷ after in
    let one : Await = record { agent = agent; count = count } in
    let no_step : step_at One o ≡ None = ap (step_at One) opcode in
    let move = step_there One s step in
    let read = await_there (whole - length bytes) n i a b c d agent count (s ∷ after) is_agent is_count few other some in
    let on = await_goes_on One refl (action_begins One whole n i bytes) one (s ∷ after) no_step opcode read in
    (record { step = move.0; awaits = one ∷ [] }, refl, step_ends One refl on move.0 move.1)

-- ---- and no other action has one await

pub record HasOneAwait (n i : ℕ) (bytes : List ℕ) : Type 0 where
  pub long : 6 ≤ length bytes
  pub opcode : get_or bytes 0 0 ≡ 16
  pub agent : from_be_bytes w16 (get_or bytes 1 0 ∷ get_or bytes 2 0 ∷ []) < n
  pub other : from_be_bytes w16 (get_or bytes 1 0 ∷ get_or bytes 2 0 ∷ []) ≢ i
  pub count : from_be_bytes w16 (get_or bytes 3 0 ∷ get_or bytes 4 0 ∷ []) ≢ 0
  pub step : get_or bytes 5 0 ≤ 3

move_opcode : (s : Step) → IsTrue (has_opcode One s) → opcode s ≤ 3
move_opcode (Go North) h = omega arith
move_opcode (Go East) h = omega arith
move_opcode (Go South) h = omega arith
move_opcode (Go West) h = omega arith
move_opcode Dwell h = absurd (let f : false ≡ true = h in cc)

module _ (n i : ℕ) (few : n ≤ 65536) where
  one_await : (ws : List Await) (s : Step) (rest : List ℕ) → AwaitsFrom n i 0 ws → IsSpellable One (record { step = s; awaits = ws }) → length ws + 1 ≡ 2 → HasOneAwait n i (action One (record { step = s; awaits = ws }) ++ rest)
  one_await [] s rest awaits fit one = absurd (omega arith)
  one_await (w ∷ v ∷ ws) s rest awaits fit one = absurd (omega arith)
  one_await (w ∷ []) s rest awaits fit one =
      let next = awaits.0 in
      let is_agent = from_be_bytes-to_be_bytes_2 w.agent (omega (arith, next.agent)) in
      let is_count = from_be_bytes-to_be_bytes_2 w.count (omega (arith, All-head (λ (w : Await). w.count ≤ most_count One) w [] fit.counts)) in
      record {
        long = omega arith;
        opcode = refl;
        agent = rw is_agent next.agent;
        other = rw is_agent next.other;
        count = rw is_count (λ e. omega (arith, e, next.count));
        step = move_opcode s fit.step;
      }

  pub reads_one_await : (whole : ℕ) (bytes : List ℕ) (x : Action × List ℕ) → IsBytes bytes → action_at One (length bytes) whole n i 0 bytes ≡ Ok x → opcodes x.0 ≡ 2 → HasOneAwait n i bytes
  reads_one_await whole bytes x fits read two =
      let t = action_takes One (length bytes) whole n i 0 bytes x fits read in
      rw t.0.parts (one_await x.0.awaits x.0.step x.1 t.1 t.2 two)
