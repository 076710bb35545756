-- Where the parts of a program stand in its bytes.
use Rattle.fleet_code.proofs.Words.{◌≡◌, ℕ, zero, suc, ◌-◌, ◌+◌, ◌*◌, ◌/◌, ◌%◌, get_or, ◌≤◌, ◌<◌, Bool, List, [], ◌∷◌, ◌++◌, length, take, drop, slice_get, slice_index_or, Option, Some, Result, Ok, refl, sym, ap, subst, ◌∙◌, append_assoc, arith, inl, inr, All, ◌⊎◌, flat_map, w32, to_be_bytes, be_bytes_4, append-nil, length-append, drop-drop, length-drop, length-take-le, drop_at, get_or-drop, slice_get_cases, slice_get_past, slice_get_within, get_or_from_slice_get, same_Some, none-some, All-get_or, option_map_or, sum_by, option_map, cases_order, sum_by-cons, Step, Await, Action, AgentProgram, Program, actions_of, action_of, moves, start_of, goal_of, awaits_of, awaits_before, step_of, Version, One, Two, magic, two_bytes, most_count, cell, opcode, agent, spelling, IsSpellable, IsSpellableAgent, SpellsIn, PartOffsets, Viewed, program_in, StandsAt, IsViewOf, opcodes, head_len, await_len, after_opcodes, ends_of, part_of, parts_of, part_at, begin_of, end_of, LoadFault, step_at, program_at}
use Rattle.std.proofs.Math.Nat.{add-zero, mul-add, mul-le-mul_left}
use Rattle.fleet_code.specs.Spelling.{count as count_of, await, action}
use Rattle.std.specs.Result.{result_unwrap_or}
use Rattle.fleet_model.proofs.Totals.{actions_more as awaits_more}
use Rattle.fleet_code.proofs.Parts.{count_long}
use Rattle.fleet_code.proofs.Written.{awaits_len, actions_len}
use Rattle.fleet_code.proofs.RoundTrip.{step_again, magic_long}
use Rattle.fleet_code.proofs.OffsetLoop.{ends_length}

-- ---- texts in bytes

pub whole_stands : (text : List ℕ) → StandsAt text 0 text
whole_stands text = ([], sym (append-nil text))

pub front_stands : (bytes : List ℕ) (at : ℕ) (x y : List ℕ) → StandsAt bytes at (x ++ y) → StandsAt bytes at x
front_stands bytes at x y h = (y ++ h.0, h.1 ∙ append_assoc x y h.0)

pub back_stands : (bytes : List ℕ) (at : ℕ) (x y : List ℕ) → StandsAt bytes at (x ++ y) → StandsAt bytes (at + length x) y
back_stands bytes at x y h = (h.0, sym (drop-drop (length x) at bytes) ∙ ap (drop (length x)) (h.1 ∙ append_assoc x y h.0) ∙ drop_at x (y ++ h.0) (length x) refl)

pub stands_within : (bytes : List ℕ) (at : ℕ) (text : List ℕ) → StandsAt bytes at text → 1 ≤ length text → at + length text ≤ length bytes
stands_within bytes at text h some =
    let left = length-drop at bytes in
    let same = ap length h.1 in
    let sum = length-append text h.0 in
    omega (arith, left, same, sum, some)

-- two numbers of two bytes each are one of four

small_bytes : (a b c d : ℕ) → a < 256 → b < 256 → c < 256 → d < 256 → (i : ℕ) → get_or (a ∷ b ∷ c ∷ d ∷ []) i 0 < 256
small_bytes a b c d a' b' c' d' zero = a'
small_bytes a b c d a' b' c' d' (suc zero) = b'
small_bytes a b c d a' b' c' d' (suc (suc zero)) = c'
small_bytes a b c d a' b' c' d' (suc (suc (suc zero))) = d'
small_bytes a b c d a' b' c' d' (suc (suc (suc (suc i)))) = omega arith

pub both_numbers : (m n : ℕ) → m < 65536 → n < 65536 → to_be_bytes w32 (m * 65536 + n) ≡ two_bytes m ++ two_bytes n
both_numbers m n m_fits n_fits =
    be_bytes_4 (two_bytes m ++ two_bytes n) (m * 65536 + n) refl
    (small_bytes (m / 256 % 256) (m % 256) (n / 256 % 256) (n % 256) (omega arith) (omega arith) (omega arith) (omega arith))
    (omega (arith, m_fits, n_fits))

pub both_parts : (w : Await) (both : ℕ) → w.agent < 65536 → w.count < 65536 → both ≡ w.agent * 65536 + w.count → record { agent = both / 65536; count = both % 65536 } ≡ w
both_parts w both agent_fits count_fits is =
    let agent : both / 65536 ≡ w.agent = omega (arith, is, count_fits) in
    let count : both % 65536 ≡ w.count = omega (arith, is, count_fits) in
    λ i. record { agent = agent i; count = count i }

-- the piece for one of several items
pub piece_stands : {A : Type 0} (f : A → List ℕ) (bytes : List ℕ) (at : ℕ) (xs : List A) (n : ℕ) (x : A) → StandsAt bytes at (flat_map f xs) → slice_get xs n ≡ Some x
    → StandsAt bytes (at + length (flat_map f (take n xs))) (f x)
piece_stands f bytes at [] n x h e = absurd cc
piece_stands f bytes at (y ∷ xs) zero x h e =
    let same : y ≡ x = same_Some _ _ e in
    subst (λ z. StandsAt bytes (at + 0) (f z)) same (front_stands bytes (at + 0) (f y) (flat_map f xs) (rw add-zero h))
piece_stands f bytes at (y ∷ xs) (suc n) x h e =
    let next = piece_stands f bytes (at + length (f y)) xs n x (back_stands bytes at (f y) (flat_map f xs) h) e in
    let sum : at + length (f y) + length (flat_map f (take n xs)) ≡ at + length (f y ++ flat_map f (take n xs)) = let parts = length-append (f y) (flat_map f (take n xs)) in omega (arith, parts) in
    subst (λ (k : ℕ). StandsAt bytes k (f x)) sum next

-- with one item more, the pieces are longer by its piece
pub one_more_piece : {A : Type 0} (f : A → List ℕ) (xs : List A) (n : ℕ) (x : A) → slice_get xs n ≡ Some x
    → length (flat_map f (take (suc n) xs)) ≡ length (flat_map f (take n xs)) + length (f x)
one_more_piece f [] n x e = absurd cc
one_more_piece f (y ∷ xs) zero x e =
    let same : y ≡ x = same_Some _ _ e in
    let sum = length-append (f y) [] in
    subst (λ z. length (f y ++ []) ≡ 0 + length (f z)) same (omega (arith, sum))
one_more_piece f (y ∷ xs) (suc n) x e =
    let next = one_more_piece f xs n x e in
    let longer = length-append (f y) (flat_map f (take (suc n) xs)) in
    let long = length-append (f y) (flat_map f (take n xs)) in
    omega (arith, next, longer, long)

pub some_pieces : {A : Type 0} (f : A → List ℕ) (xs : List A) (n : ℕ) → length (flat_map f (take n xs)) ≤ length (flat_map f xs)
some_pieces f [] zero = omega arith
some_pieces f [] (suc n) = omega arith
some_pieces f (y ∷ xs) zero = omega arith
some_pieces f (y ∷ xs) (suc n) =
    let next = some_pieces f xs n in
    let longer = length-append (f y) (flat_map f xs) in
    let long = length-append (f y) (flat_map f (take n xs)) in
    omega (arith, next, longer, long)

-- ---- ends and parts

-- how many awaits these actions have together
abbrev pub awaits_in : List Action → ℕ
awaits_in actions = sum_by (λ s. length s.awaits) actions

pub end_found : (at : ℕ) (actions : List Action) (n : ℕ) → n ≤ length actions → slice_get (at ∷ ends_of at actions) n ≡ Some (at + (n + awaits_in (take n actions)))
end_found at [] zero le = let same : at ≡ at + (0 + 0) = omega arith in ap (λ (k : ℕ). Some k) same
end_found at [] (suc n) le = absurd (omega arith)
end_found at (a ∷ actions) zero le = let same : at ≡ at + (0 + 0) = omega arith in ap (λ (k : ℕ). Some k) same
end_found at (a ∷ actions) (suc n) le =
    let sum : at + opcodes a + (n + awaits_in (take n actions)) ≡ at + (suc n + awaits_in (a ∷ take n actions)) = let all = sum_by-cons (λ (s : Action). length s.awaits) a (take n actions) in omega (arith, all) in
    subst (λ (k : ℕ). slice_get (ends_of at (a ∷ actions)) n ≡ Some k) sum (end_found (at + opcodes a) actions n (omega (arith, le)))

pub parts_length : (version : Version) (at : ℕ) (p : Program) → length (parts_of version at p) ≡ length p
parts_length version at [] = refl
parts_length version at (a ∷ p) = ap suc (parts_length version (at + length (agent version a)) p)

part_found : (version : Version) (at : ℕ) (p : Program) (i : ℕ) (a : AgentProgram) → slice_get p i ≡ Some a → slice_get (parts_of version at p) i ≡ Some (part_of version (at + length (flat_map (agent version) (take i p))) a)
part_found version at [] i a e = absurd cc
part_found version at (b ∷ p) zero a e = let same : b ≡ a = same_Some _ _ e in subst (λ z. Some (part_of version at b) ≡ Some (part_of version (at + 0) z)) same (rw add-zero refl)
part_found version at (b ∷ p) (suc i) a e =
    let sum : at + length (agent version b) + length (flat_map (agent version) (take i p)) ≡ at + length (agent version b ++ flat_map (agent version) (take i p)) = let parts = length-append (agent version b) (flat_map (agent version) (take i p)) in omega (arith, parts) in
    subst (λ (k : ℕ). slice_get (parts_of version (at + length (agent version b)) p) i ≡ Some (part_of version k a)) sum (part_found version (at + length (agent version b)) p i a e)

-- ---- what stands in the bytes of a program

pub agent_there : (p : Program) (i : ℕ) → i < length p → (a : AgentProgram) × (slice_get p i ≡ Some a)
agent_there p i lt = elim ((slice_get_cases p i).1) [ inl found ↦ (found.0, found.2) | inr past ↦ (let le = past.0 in absurd (omega (arith, lt, le))) ]

pub action_there : (p : Program) (i n : ℕ) → 1 ≤ n → n ≤ moves p i → (a : Action) × (action_of p i n ≡ Some a) × (slice_get (actions_of p i) (n - 1) ≡ Some a)
action_there p i zero some le = absurd (omega arith)
action_there p i (suc n) some le =
    elim ((slice_get_cases (actions_of p i) n).1) [
      | inl found ↦ (found.0, found.2, let same : suc n - 1 ≡ n = omega arith in rw same found.2)
      | inr past ↦ (let few = past.0 in absurd (omega (arith, few, le)))
    ]

-- an agent has its head, and then its actions
agent_long : (version : Version) (a : AgentProgram) → (1 ≤ length (agent version a)) × (length (agent version a) ≡ (head_len version) + length (flat_map (action version) a.actions))
agent_long version a =
    let wide = count_long version (length a.actions) in
    let all = length-append (cell a.start ++ cell a.goal ++ count_of version (length a.actions)) (flat_map (action version) a.actions) in
    let front = length-append (cell a.start ++ cell a.goal) (count_of version (length a.actions)) in
    (omega (arith, wide, all, front), omega (arith, wide, all, front))

module _ {version : Version} {bytes : List ℕ} {p : Program} {parts : List PartOffsets} (v : IsViewOf version bytes p parts) where
  agents_stand : StandsAt bytes 6 (flat_map (agent version) p)
  agents_stand =
      let front = length-append (magic version) (two_bytes (length p)) in
      let six : 0 + length (magic version ++ two_bytes (length p)) ≡ 6 = omega (arith, front, magic_long version) in
      rw v.spelled.spelled (subst (λ (k : ℕ). StandsAt (spelling version p) k (flat_map (agent version) p)) six (back_stands (spelling version p) 0 (magic version ++ two_bytes (length p)) (flat_map (agent version) p) (whole_stands (spelling version p))))

  agent_stands : (i : ℕ) (a : AgentProgram) → slice_get p i ≡ Some a → StandsAt bytes (begin_of version p i) (agent version a)
  agent_stands i a e = piece_stands (agent version) bytes 6 p i a agents_stand e

  pub part_is : (i : ℕ) → i < length p → slice_get parts i ≡ Some (part_at version p i)
  part_is i lt =
      let a = agent_there p i lt in
      rw (v.parts_are, a.1) (part_found version 6 p i a.0 a.1)

  pub as_many_parts : length parts ≡ length p
  as_many_parts = rw v.parts_are (parts_length version 6 p)

  pub start_stands : (i : ℕ) → i < length p → StandsAt bytes (begin_of version p i) (cell (start_of p i))
  start_stands i lt =
      let a = agent_there p i lt in
      rw a.1 (front_stands bytes (begin_of version p i) (cell a.0.start) (cell a.0.goal ++ count_of version (length a.0.actions) ++ flat_map (action version) a.0.actions) (agent_stands i a.0 a.1))

  goal_on : (i : ℕ) (a : AgentProgram) → slice_get p i ≡ Some a → StandsAt bytes (begin_of version p i + 4) (cell a.goal ++ count_of version (length a.actions) ++ flat_map (action version) a.actions)
  goal_on i a e = back_stands bytes (begin_of version p i) (cell a.start) (cell a.goal ++ count_of version (length a.actions) ++ flat_map (action version) a.actions) (agent_stands i a e)

  pub goal_stands : (i : ℕ) → i < length p → StandsAt bytes (begin_of version p i + 4) (cell (goal_of p i))
  goal_stands i lt =
      let a = agent_there p i lt in
      rw a.1 (front_stands bytes (begin_of version p i + 4) (cell a.0.goal) (count_of version (length a.0.actions) ++ flat_map (action version) a.0.actions) (goal_on i a.0 a.1))

  pub actions_stand : (i : ℕ) → i < length p → StandsAt bytes (begin_of version p i + (head_len version)) (flat_map (action version) (actions_of p i))
  actions_stand i lt =
      let a = agent_there p i lt in
      let number_on = back_stands bytes (begin_of version p i + 4) (cell a.0.goal) (count_of version (length a.0.actions) ++ flat_map (action version) a.0.actions) (goal_on i a.0 a.1) in
      let last = back_stands bytes (begin_of version p i + 4 + 4) (count_of version (length a.0.actions)) (flat_map (action version) a.0.actions) number_on in
      let sum : begin_of version p i + 4 + 4 + length (count_of version (length a.0.actions)) ≡ begin_of version p i + head_len version = let wide = count_long version (length a.0.actions) in omega (arith, wide) in
      rw a.1 (subst (λ k. StandsAt bytes k (flat_map (action version) a.0.actions)) sum last)

  pub end_within : (i n : ℕ) → i < length p → end_of version p i n ≤ length bytes
  end_within i n lt =
      let a = agent_there p i lt in
      let all = stands_within bytes (begin_of version p i) (agent version a.0) (agent_stands i a.0 a.1) (agent_long version a.0).0 in
      let long = (agent_long version a.0).1 in
      let some = some_pieces (action version) a.0.actions n in
      rw a.1 (omega (arith, all, some, long))

  pub action_stands : (i n : ℕ) (s : Action) → i < length p → slice_get (actions_of p i) n ≡ Some s → StandsAt bytes (end_of version p i n) (action version s)
  action_stands i n s lt e = piece_stands (action version) bytes (begin_of version p i + (head_len version)) (actions_of p i) n s (actions_stand i lt) e

pub next_end : (version : Version) (p : Program) (i n : ℕ) (s : Action) → slice_get (actions_of p i) n ≡ Some s → end_of version p i (suc n) ≡ end_of version p i n + length (action version s)
next_end version p i n s e = let more = one_more_piece (action version) (actions_of p i) n s e in omega (arith, more)

-- ---- what stands in the bytes of an action

pub action_long : (version : Version) (s : Action) → length (action version s) ≡ await_len version * length s.awaits + 1
action_long version s = let awaits = awaits_len version s.awaits in let sum = length-append (flat_map (await version) s.awaits) (opcode s.step ∷ []) in omega (arith, awaits, sum)

module _ {version : Version} {bytes : List ℕ} {p : Program} {parts : List PartOffsets} (v : IsViewOf version bytes p parts) where
  pub await_stands : (i n k : ℕ) (s : Action) (w : Await) → i < length p → slice_get (actions_of p i) n ≡ Some s → slice_get s.awaits k ≡ Some w
      → StandsAt bytes (end_of version p i n + (await_len version) * k) (await version w)
  await_stands i n k s w lt e f =
      let all = front_stands bytes (end_of version p i n) (flat_map (await version) s.awaits) (opcode s.step ∷ []) (action_stands v i n s lt e) in
      let few = slice_get_within s.awaits k w f in
      let before : length (flat_map (await version) (take k s.awaits)) ≡ await_len version * k = awaits_len version (take k s.awaits) ∙ ap (λ (n : ℕ). await_len version * n) (length-take-le k s.awaits (omega (arith, few))) in
      subst (λ (m : ℕ). StandsAt bytes (end_of version p i n + m) (await version w)) before (piece_stands (await version) bytes (end_of version p i n) s.awaits k w all f)

  -- the last byte of an action
  pub opcode_stands : (i n : ℕ) (s : Action) → i < length p → slice_get (actions_of p i) n ≡ Some s → StandsAt bytes (end_of version p i (suc n) - 1) (opcode s.step ∷ [])
  opcode_stands i n s lt e =
      let next = next_end version p i n s e in
      let long = action_long version s in
      let awaits = awaits_len version s.awaits in
      let same : end_of version p i n + length (flat_map (await version) s.awaits) ≡ end_of version p i (suc n) - 1 = omega (arith, next, long, awaits) in
      subst (λ (m : ℕ). StandsAt bytes m (opcode s.step ∷ [])) same (back_stands bytes (end_of version p i n) (flat_map (await version) s.awaits) (opcode s.step ∷ []) (action_stands v i n s lt e))

-- the byte that stands there
pub byte_is : (bytes : List ℕ) (at b d : ℕ) → StandsAt bytes at (b ∷ []) → slice_index_or bytes at d ≡ b
byte_is bytes at b d h =
    let moved : slice_index_or (drop at bytes) 0 d ≡ slice_index_or bytes at d = get_or-drop at bytes 0 d ∙ ap (λ (k : ℕ). slice_index_or bytes k d) (add-zero at) in
    sym moved ∙ ap (λ (text : List ℕ). slice_index_or text 0 d) h.1

-- what is read of the bytes is the program in them
pub program_found : (bytes : List ℕ) (p : Program) → program_at bytes ≡ Ok p → program_in bytes ≡ p
program_found bytes p e = ap (λ (r : Result Program LoadFault). result_unwrap_or r []) e

pub view_is : (version : Version) (bytes : List ℕ) (p : Program) (parts : List PartOffsets) → program_at bytes ≡ Ok p → SpellsIn version bytes p → parts ≡ parts_of version 6 p → IsViewOf version bytes (program_in bytes) parts
view_is version bytes p parts e spelled parts_are = subst (λ (q : Program). IsViewOf version bytes q parts) (sym (program_found bytes p e)) (record { spelled = spelled; parts_are = parts_are })

-- the view of a program is that of what its bytes spell
pub viewed : {version : Version} {bytes : List ℕ} {p : Program} {all_move : Bool} {parts : List PartOffsets} {w : Viewed} → ◌≡◌ {A = Viewed} (record { version = version; program = p; all_move = all_move }) w → IsViewOf version bytes p parts → IsViewOf w.version bytes w.program parts
viewed {bytes = bytes} {parts = parts} same v = subst (λ (w : Viewed). IsViewOf w.version bytes w.program parts) same v

-- what is kept of an action's offset
pub offset_is : (version : Version) (p : Program) (i n offset : ℕ) (part : PartOffsets) → part ≡ part_at version p i → offset ≡ slice_index_or part.offsets n 0 → n ≤ moves p i → offset ≡ n + awaits_before p i n
offset_is version p i n offset part e g le =
    let found = get_or_from_slice_get (0 ∷ ends_of 0 (actions_of p i)) n _ 0 (end_found 0 (actions_of p i) n le) in
    let read : offset ≡ 0 + (n + awaits_in (take n (actions_of p i))) = g ∙ ap (λ (part : PartOffsets). slice_index_or part.offsets n 0) e ∙ found in
    omega (arith, read)

-- so many steps and awaits of an agent end there, if its part begins where it does
pub after_is : (version : Version) (p : Program) (i n awaits begin : ℕ) (part : PartOffsets) → part ≡ part_at version p i → begin ≡ part.begin → begin + n + await_len version * awaits ≡ after_opcodes version p i n awaits
after_is version p i n awaits begin part e f =
    let begins : begin ≡ begin_of version p i + head_len version = f ∙ ap (λ (part : PartOffsets). part.begin) e in
    omega (arith, begins)

-- and where all awaits of the first actions are passed, these end
pub after_end : (version : Version) (p : Program) (i n awaits : ℕ) → awaits ≡ awaits_before p i n → n ≤ moves p i → after_opcodes version p i n awaits ≡ end_of version p i n
after_end version p i n awaits g le =
    let times : await_len version * awaits ≡ await_len version * awaits_in (take n (actions_of p i)) = ap (λ (k : ℕ). await_len version * k) g in
    let long = actions_len version (take n (actions_of p i)) in
    let taken = length-take-le n (actions_of p i) le in
    omega (arith, times, long, taken)

-- as many offsets as actions, and one
pub as_many_offsets : (version : Version) (p : Program) (i : ℕ) (part : PartOffsets) → part ≡ part_at version p i → length part.offsets ≡ moves p i + 1
as_many_offsets version p i part e =
    let all = ap (λ (part : PartOffsets). length part.offsets) e in
    let many = ends_length 0 (actions_of p i) in
    omega (arith, all, many)

-- ---- the answers

module _ {version : Version} {bytes : List ℕ} {p : Program} {parts : List PartOffsets} (v : IsViewOf version bytes p parts) where
  -- action n of agent i ends with its opcode
  pub action_read : (i n : ℕ) → i < length p → 1 ≤ n → n ≤ moves p i → (s : Action) × (action_of p i n ≡ Some s) × StandsAt bytes (end_of version p i n - 1) (opcode s.step ∷ [])
  action_read i zero lt some le = absurd (omega arith)
  action_read i (suc n) lt some le =
      let s = action_there p i (suc n) some le in
      let same : suc n - 1 ≡ n = omega arith in
      (s.0, s.1, opcode_stands v i n s.0 lt (rw same at s.2))

  pub is_spellable : (i n : ℕ) (s : Action) → i < length p → action_of p i n ≡ Some s → IsSpellable version s
  is_spellable i zero s lt e = absurd cc
  is_spellable i (suc n) s lt e =
      let a = agent_there p i lt in
      let there : slice_get a.0.actions n ≡ Some s = rw a.1 at e in
      let own = subst (IsSpellableAgent version) (get_or_from_slice_get p i a.0 a.0 a.1) (All-get_or (IsSpellableAgent version) p i a.0 lt v.spelled.spellable) in
      subst (IsSpellable version) (get_or_from_slice_get a.0.actions n s s there) (All-get_or (IsSpellable version) a.0.actions n s (slice_get_within a.0.actions n s there) own.actions)

  -- await k of action n of agent i is there
  pub await_read : (i n k : ℕ) → i < length p → 1 ≤ n → n ≤ moves p i → k < length (awaits_of p i n)
      → (w : Await) × (slice_get (awaits_of p i n) k ≡ Some w) × (w.agent < 65536) × (w.count ≤ (most_count version)) × StandsAt bytes (end_of version p i (n - 1) + (await_len version) * k) (await version w)
  await_read i n k lt some le within =
      let s = action_there p i n some le in
      let same : awaits_of p i n ≡ s.0.awaits = ap (λ (o : Option Action). option_map_or (λ a. a.awaits) o []) s.1 in
      elim ((slice_get_cases (awaits_of p i n) k).1) [
        | inl found ↦ (
            let w = found.0 in
            let right = v.spelled.well_formed.awaits i n in
            let few = v.spelled.well_formed.few_agents in
            let named : w.agent < length p = subst (λ (w : Await). w.agent < length p) found.3 (All-get_or (λ (w : Await). w.agent < length p) (awaits_of p i n) k w within right.agents) in
            let counts : All (λ (w : Await). w.count ≤ (most_count version)) (awaits_of p i n) = rw same (is_spellable i n s.0 lt s.1).counts in
            let fits : w.count ≤ most_count version = subst (λ (w : Await). w.count ≤ (most_count version)) found.3 (All-get_or (λ (w : Await). w.count ≤ (most_count version)) (awaits_of p i n) k w within counts) in
            (w, found.2, omega (arith, named, few), fits, await_stands v i (n - 1) k s.0 w lt s.2 (rw same at found.2)))
        | inr past ↦ (let over = past.0 in absurd (omega (arith, over, within)))
      ]

  -- the byte there is the opcode of action n of agent i, which the version has
  pub opcode_read : (i n at : ℕ) (s : Action) → i < length p → action_of p i n ≡ Some s → at ≡ end_of version p i n - 1 → StandsAt bytes (end_of version p i n - 1) (opcode s.step ∷ [])
      → step_at version (slice_index_or bytes at 0) ≡ Some s.step
  opcode_read i n at s lt e f there = ap (step_at version) (ap (λ (k : ℕ). slice_index_or bytes k 0) f ∙ byte_is bytes (end_of version p i n - 1) (opcode s.step) 0 there) ∙ step_again version s.step (is_spellable i n s lt e).step

-- an await's bytes
pub await_long : (version : Version) (w : Await) → length (await version w) ≡ await_len version
await_long One w = refl
await_long Two w = refl

-- an action's own awaits
pub own_awaits : (p : Program) (i n : ℕ) → 1 ≤ n → awaits_before p i n ≡ awaits_before p i (n - 1) + length (awaits_of p i n)
own_awaits p i zero some = absurd (omega arith)
own_awaits p i (suc n) some =
    let one : suc n - 1 ≡ n = omega arith in
    let next : n + 1 ≡ suc n = omega arith in
    let more : awaits_before p i (suc n) ≡ awaits_before p i n + length (awaits_of p i (suc n)) = rw next at (awaits_more p i n) in
    rw one more

-- ---- instructions

-- await k of an action stands so many awaits after the end of the action before
pub after_more : (version : Version) (p : Program) (i n before k : ℕ) → before ≡ awaits_before p i n → n ≤ moves p i → after_opcodes version p i n (before + k) ≡ end_of version p i n + await_len version * k
after_more version p i n before k e le =
    let end = after_end version p i n before e le in
    let times : await_len version * (before + k) ≡ await_len version * before + await_len version * k = mul-add (await_len version) before k in
    omega (arith, end, times)

pub instruction_within : (version : Version) (p : Program) (i n before k : ℕ) → n < moves p i → before ≡ awaits_before p i n → k ≤ length (awaits_of p i (n + 1)) → after_opcodes version p i n (before + k) ≤ end_of version p i (n + 1)
instruction_within version p i n before k left e le =
    let more = own_awaits p i (n + 1) (omega arith) in
    let one : n + 1 - 1 ≡ n = omega arith in
    let before_one = ap (awaits_before p i) one in
    let last = after_end version p i (n + 1) (awaits_before p i (n + 1)) refl (omega (arith, left)) in
    let fewer : before + k ≤ awaits_before p i (n + 1) = omega (arith, more, e, le, before_one) in
    let times : await_len version * (before + k) ≤ await_len version * awaits_before p i (n + 1) = mul-le-mul_left (await_len version) fewer in
    omega (arith, last, times)

-- after the last action there is no await
none_after : (p : Program) (i n : ℕ) → moves p i ≤ n → length (awaits_of p i (n + 1)) ≡ 0
none_after p i n over =
    let none = slice_get_past (actions_of p i) n over in
    let one : suc n ≡ n + 1 = omega arith in
    let own : length (awaits_of p i (suc n)) ≡ 0 = ap (λ (o : Option Action). length (option_map_or (λ a. a.awaits) o [])) none in
    subst (λ (m : ℕ). length (awaits_of p i m) ≡ 0) one own

-- an instruction begins within the agent's actions, or where they end
pub offset_within : (version : Version) (p : Program) (i n k awaits : ℕ) → awaits ≡ awaits_before p i n + k → n ≤ moves p i → k ≤ length (awaits_of p i (n + 1)) → (m : ℕ) × (after_opcodes version p i n awaits ≤ end_of version p i m)
offset_within version p i n k awaits e le few =
    let same = ap (after_opcodes version p i n) e in
    elim (cases_order n (moves p i)) [
      | inl last ↦ (
          let none = none_after p i n (omega (arith, last)) in
          let all : awaits ≡ awaits_before p i n = omega (arith, e, none, few) in
          let end = after_end version p i n awaits all le in
          (n, omega (arith, end)))
      | inr (inl left) ↦ (
          let within = instruction_within version p i n (awaits_before p i n) k left refl few in
          (n + 1, omega (arith, within, same)))
      | inr (inr over) ↦ absurd (omega (arith, over, le))
    ]

-- after an action's step the next action begins
pub step_after : (version : Version) (p : Program) (i n k : ℕ) → k ≡ length (awaits_of p i (n + 1)) → after_opcodes version p i n (awaits_before p i n + k) + 1 ≡ after_opcodes version p i (n + 1) (awaits_before p i (n + 1) + 0)
step_after version p i n k last =
    let more = own_awaits p i (n + 1) (omega arith) in
    let one : n + 1 - 1 ≡ n = omega arith in
    let before_one = ap (awaits_before p i) one in
    let all : awaits_before p i n + k ≡ awaits_before p i (n + 1) + 0 = omega (arith, more, last, before_one) in
    let times = ap (λ (m : ℕ). await_len version * m) all in
    omega (arith, times)

-- what is read of an await
pub record AwaitRead (version : Version) (bytes : List ℕ) (p : Program) (i n k at : ℕ) : Type 0 where
  pub one : Await
  pub is : slice_get (awaits_of p i n) k ≡ Some one
  pub agent : one.agent < 65536
  pub count : one.count ≤ most_count version
  pub there : StandsAt bytes at (await version one)
  pub opcode : slice_index_or bytes at 0 ≡ 16
  pub within : at + await_len version ≤ length bytes

-- what is read of a step
pub record StepRead (version : Version) (bytes : List ℕ) (p : Program) (i n k at : ℕ) : Type 0 where
  pub one : Step
  pub last : k ≡ length (awaits_of p i n)
  pub is : step_of p i n ≡ Some one
  pub opcode : step_at version (slice_index_or bytes at 0) ≡ Some one
  pub within : at + 1 ≤ length bytes

module _ {version : Version} {bytes : List ℕ} {p : Program} {parts : List PartOffsets} (v : IsViewOf version bytes p parts) where
  await_instruction : (i n before k : ℕ) → i < length p → n < moves p i → before ≡ awaits_before p i n → k < length (awaits_of p i (n + 1)) → AwaitRead version bytes p i (n + 1) k (after_opcodes version p i n (before + k))
  await_instruction i n before k lt left e within =
      let read = await_read v i (n + 1) k lt (omega arith) (omega (arith, left)) within in
      let one : n + 1 - 1 ≡ n = omega arith in
      let at : after_opcodes version p i n (before + k) ≡ end_of version p i n + await_len version * k = after_more version p i n before k e (omega (arith, left)) in
      let stands : StandsAt bytes (end_of version p i n + await_len version * k) (await version read.0) = subst (λ (m : ℕ). StandsAt bytes (end_of version p i m + await_len version * k) (await version read.0)) one read.4 in
      let there : StandsAt bytes (after_opcodes version p i n (before + k)) (await version read.0) = subst (λ (m : ℕ). StandsAt bytes m (await version read.0)) (sym at) stands in
      let long = await_long version read.0 in
      record {
        one = read.0;
        is = read.1;
        agent = read.2;
        count = read.3;
        there = there;
        opcode = byte_is bytes (after_opcodes version p i n (before + k)) 16 0 (front_stands bytes (after_opcodes version p i n (before + k)) (16 ∷ []) (two_bytes read.0.agent ++ count_of version read.0.count) there);
        within = (let all = stands_within bytes (after_opcodes version p i n (before + k)) (await version read.0) there (omega (arith, long)) in omega (arith, all, long));
      }

  step_instruction : (i n before k : ℕ) → i < length p → n < moves p i → before ≡ awaits_before p i n → k ≡ length (awaits_of p i (n + 1)) → StepRead version bytes p i (n + 1) k (after_opcodes version p i n (before + k))
  step_instruction i n before k lt left e last =
      let read = action_read v i (n + 1) lt (omega arith) (omega (arith, left)) in
      let more = own_awaits p i (n + 1) (omega arith) in
      let one : n + 1 - 1 ≡ n = omega arith in
      let all : before + k ≡ awaits_before p i (n + 1) = (let before_one = ap (awaits_before p i) one in omega (arith, more, e, last, before_one)) in
      let end = after_end version p i (n + 1) (before + k) all (omega (arith, left)) in
      let at : after_opcodes version p i n (before + k) ≡ end_of version p i (n + 1) - 1 = omega (arith, end) in
      let stands : StandsAt bytes (after_opcodes version p i n (before + k)) (opcode read.0.step ∷ []) = subst (λ (m : ℕ). StandsAt bytes m (opcode read.0.step ∷ [])) (sym at) read.2 in
      record {
        one = read.0.step;
        last = last;
        is = ap (λ (o : Option Action). option_map (λ a. a.step) o) read.1;
        opcode = opcode_read v i (n + 1) (after_opcodes version p i n (before + k)) read.0 lt read.1 at read.2;
        within = stands_within bytes (after_opcodes version p i n (before + k)) (opcode read.0.step ∷ []) stands (omega arith);
      }

  pub instruction_read : (i n before k : ℕ) → i < length p → n < moves p i → before ≡ awaits_before p i n → k ≤ length (awaits_of p i (n + 1))
      → AwaitRead version bytes p i (n + 1) k (after_opcodes version p i n (before + k)) ⊎ StepRead version bytes p i (n + 1) k (after_opcodes version p i n (before + k))
  instruction_read i n before k lt left e le =
      elim (cases_order k (length (awaits_of p i (n + 1)))) [
        | inl last ↦ inr (step_instruction i n before k lt left e last)
        | inr (inl within) ↦ inl (await_instruction i n before k lt left e within)
        | inr (inr over) ↦ absurd (omega (arith, over, le))
      ]

-- no step has the byte of an await
pub step_no_await : (version : Version) (byte : ℕ) (s : Step) → step_at version byte ≡ Some s → byte ≡ 16 → ⊥
step_no_await version byte s e f = none-some _ (sym (ap (step_at version) f) ∙ e)
