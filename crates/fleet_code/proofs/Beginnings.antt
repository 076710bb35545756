-- A spelling is bytes, and so is each beginning of it.
use Rattle.fleet_code.proofs.Words.{ℕ, ◌<◌, List, [], ◌∷◌, ◌++◌, length, take, All, sym, refl, arith, byte_at, flat_map, take_at, All-nil, All-cons, All-append, All-take, All-same, flat_map-cons, North, East, South, West, Step, Go, Dwell, Await, Action, AgentProgram, Program, Version, One, Two, magic, two_bytes, cell, opcode, agent, spelling}
use Rattle.fleet_model.specs.declared.geometry.Cell.{Cell}
use Rattle.fleet_code.specs.Spelling.{count as count_of, await, action}

-- ---- a spelling is bytes

abbrev pub AreBytes : List ℕ → Type 0
AreBytes bytes = All (λ b. b < 256) bytes

one_byte : (b : ℕ) (bytes : List ℕ) → b < 256 → AreBytes bytes → AreBytes (b ∷ bytes)
one_byte b bytes lt h = All-cons (λ (c : ℕ). c < 256) b bytes lt h

no_bytes : AreBytes []
no_bytes = All-nil (λ (c : ℕ). c < 256)

both : (a b : List ℕ) → AreBytes a → AreBytes b → AreBytes (a ++ b)
both a b h k = All-append (λ (c : ℕ). c < 256) a b h k

each : {X : Type 0} (f : X → List ℕ) → ((x : X) → AreBytes (f x)) → (xs : List X) → AreBytes (flat_map f xs)
each f h [] = no_bytes
each f h (x ∷ xs) = rw flat_map-cons (both (f x) (flat_map f xs) (h x) (each f h xs))

pub front_bytes : (front rest : List ℕ) → AreBytes (front ++ rest) → AreBytes front
front_bytes front rest h =
    All-same (λ (b : ℕ). b < 256) front (take (length front) (front ++ rest)) (sym (take_at front rest (length front) refl)) (All-take (λ (b : ℕ). b < 256) (length front) (front ++ rest) h)

number_bytes : (n : ℕ) → AreBytes (two_bytes n)
number_bytes n = one_byte (byte_at 1 n) (byte_at 0 n ∷ []) (omega arith) (one_byte (byte_at 0 n) [] (omega arith) no_bytes)

count_bytes : (v : Version) (n : ℕ) → AreBytes (count_of v n)
count_bytes One n = number_bytes n
count_bytes Two n = one_byte (byte_at 3 n) (byte_at 2 n ∷ byte_at 1 n ∷ byte_at 0 n ∷ []) (omega arith) (one_byte (byte_at 2 n) (byte_at 1 n ∷ byte_at 0 n ∷ []) (omega arith) (number_bytes n))

cell_bytes : (c : Cell) → AreBytes (cell c)
cell_bytes c = both (two_bytes c.x) (two_bytes c.y) (number_bytes c.x) (number_bytes c.y)

opcode_byte : (s : Step) → opcode s < 256
opcode_byte (Go North) = omega arith
opcode_byte (Go East) = omega arith
opcode_byte (Go South) = omega arith
opcode_byte (Go West) = omega arith
opcode_byte Dwell = omega arith

await_bytes : (v : Version) (w : Await) → AreBytes (await v w)
await_bytes v w = one_byte 16 (two_bytes w.agent ++ count_of v w.count) (omega arith) (both (two_bytes w.agent) (count_of v w.count) (number_bytes w.agent) (count_bytes v w.count))

action_bytes : (v : Version) (a : Action) → AreBytes (action v a)
action_bytes v a = both (flat_map (await v) a.awaits) (opcode a.step ∷ []) (each (await v) (await_bytes v) a.awaits) (one_byte (opcode a.step) [] (opcode_byte a.step) no_bytes)

agent_bytes : (v : Version) (a : AgentProgram) → AreBytes (agent v a)
agent_bytes v a =
    let head = both (cell a.start) (cell a.goal) (cell_bytes a.start) (cell_bytes a.goal) in
    both (cell a.start ++ cell a.goal ++ count_of v (length a.actions)) (flat_map (action v) a.actions) (both (cell a.start ++ cell a.goal) (count_of v (length a.actions)) head (count_bytes v (length a.actions))) (each (action v) (action_bytes v) a.actions)

magic_bytes : (v : Version) → AreBytes (magic v)
magic_bytes One = one_byte 77 (80 ∷ 70 ∷ 49 ∷ []) (omega arith) (one_byte 80 (70 ∷ 49 ∷ []) (omega arith) (one_byte 70 (49 ∷ []) (omega arith) (one_byte 49 [] (omega arith) no_bytes)))
magic_bytes Two = one_byte 77 (80 ∷ 70 ∷ 50 ∷ []) (omega arith) (one_byte 80 (70 ∷ 50 ∷ []) (omega arith) (one_byte 70 (50 ∷ []) (omega arith) (one_byte 50 [] (omega arith) no_bytes)))

pub spelling_bytes : (v : Version) (p : Program) → AreBytes (spelling v p)
spelling_bytes v p = both ((magic v) ++ two_bytes (length p)) (flat_map (agent v) p) (both (magic v) (two_bytes (length p)) (magic_bytes v) (number_bytes (length p))) (each (agent v) (agent_bytes v) p)
