-- The parts of the agents joined to the bytes of a program.
use Rattle.fleet_adg.proofs.Words.{◌≡◌, ℕ, zero, suc, ◌+◌, ◌<◌, ◌≤◌, true, List, [], ◌∷◌, ◌++◌, map, replicate, length, get_or, All, sum_by, Bool, refl, sym, ap, ◌∙◌, subst, arith, add-one, append_assoc, Result, Ok, IsTrue, ◌↔◌, flat_map, append-nil, map_push, length-replicate, length-append, flat_map-cons, flat_map-append, sum_by-cons, and_parts, both_ways, ne_eqb, Place, Task, Action, AgentProgram, Deps, MAX_HORIZON, MAX_MOVES, MAX_MOVES_V1, is_move, indices, Program, moves, total_moves, IsWellFormed, NeverStays, AreShort, Version, One, Two, written, magic, two_bytes, agent, spelling, most_count, CanSpell, SpellsIn, SpellsShortest, Plan, cell_of, steps, IsConflictFree, IsWithinLimits, moves_by, agent_program, compiled, stay, with_stays, compiled_staying, each_has_few, all_have_few, has_few_actions, actions_by, all_bytes_by}
use Rattle.std.specs.Prelude.{if◌then◌else◌}
use Rattle.fleet_code.specs.declared.fault.LoadFault.{LoadFault}
use Rattle.fleet_code.specs.Written.{Written}
use Rattle.fleet_adg.specs.ProgramBytes.{version_for}
use Rattle.fleet_adg.proofs.Basics.{indices_push}
use Rattle.fleet_adg.proofs.Moves.{moves_by-le}
use Rattle.fleet_adg.proofs.SweepSteps.{bytes_at, length-all_bytes_by, moved_so_far}
use Rattle.fleet_adg.proofs.Limits.{steps_few}
use Rattle.fleet_adg.proofs.Short.{short_in_range}
use Rattle.fleet_adg.proofs.Programs.{length-compiled}
use Rattle.fleet_adg.proofs.Staying.{length-added, few_each, few_moves, staying_none, staying-well_formed, staying-accepted, never_stays-plain}

-- the programs of the first agents
abbrev pub parts : Plan → Deps → ℕ → ℕ → List AgentProgram
parts plan deps stays i = map (with_stays stays) (map (agent_program plan deps) (indices i))

parts_more : (plan : Plan) (deps : Deps) (stays i : ℕ) → parts plan deps stays (i + 1) ≡ parts plan deps stays i ++ with_stays stays (agent_program plan deps i) ∷ []
parts_more plan deps stays i =
    ap (parts plan deps stays) (add-one i)
    ∙ ap (λ (xs : List ℕ). map (with_stays stays) (map (agent_program plan deps) xs)) (indices_push i)
    ∙ ap (map (with_stays stays)) (map_push (agent_program plan deps) (indices i) i)
    ∙ map_push (with_stays stays) (map (agent_program plan deps) (indices i)) (agent_program plan deps i)

-- one agent more
pub join_more : (plan : Plan) (deps : Deps) (v : Version) (stays i : ℕ) (rows : List Written) (row : Written) (before out more : List ℕ) → rows ≡ all_bytes_by plan deps v (steps plan) → i < length plan → row ≡ get_or rows i row → out ≡ before ++ flat_map (agent v) (parts plan deps stays i) → ((actions : List Action) → row ≡ written v actions → more ≡ out ++ agent v (record { start = cell_of plan i 0; goal = cell_of plan i (steps plan); actions = actions ++ replicate stays stay })) → more ≡ before ++ flat_map (agent v) (parts plan deps stays (i + 1))
unfolding agent_program
join_more plan deps v stays i rows row before out more all lt is so_far added =
    let one = with_stays stays (agent_program plan deps i) in
    let front = flat_map (agent v) (parts plan deps stays i) in
    let this : more ≡ out ++ agent v one = added (actions_by plan deps (steps plan) i) (bytes_at plan deps v (steps plan) i rows row all lt is) in
    let joined : flat_map (agent v) (parts plan deps stays (i + 1)) ≡ front ++ agent v one =
    ap (flat_map (agent v)) (parts_more plan deps stays i) ∙ flat_map-append (agent v) (parts plan deps stays i) (one ∷ [])
    ∙ ap (λ (t : List ℕ). front ++ t) (flat_map-cons (agent v) one [] ∙ append-nil (agent v one)) in
    this ∙ ap (λ (t : List ℕ). t ++ agent v one) so_far ∙ append_assoc before front (agent v one) ∙ ap (λ (t : List ℕ). before ++ t) (sym joined)

-- how many actions all agents have
module _ (plan : Plan) (deps : Deps) (v : Version) (stays : ℕ) where
  row_actions : (i : ℕ) → (written v (actions_by plan deps (steps plan) i)).count + stays ≡ length (with_stays stays (agent_program plan deps i)).actions
  unfolding agent_program
  row_actions i =
      let acts = actions_by plan deps (steps plan) i in
      let e = length-append acts (replicate stays stay) in
      omega (arith, e, length-replicate stays stay)

  total_of : (xs : List ℕ) → sum_by (λ (row : Written). row.count + stays) (map (written v) (map (actions_by plan deps (steps plan)) xs)) ≡ total_moves (map (with_stays stays) (map (agent_program plan deps) xs))
  total_of [] = refl
  total_of (i ∷ xs) =
      sum_by-cons (λ (row : Written). row.count + stays) (written v (actions_by plan deps (steps plan) i)) (map (written v) (map (actions_by plan deps (steps plan)) xs))
      ∙ (λ t. row_actions i t + total_of xs t)
      ∙ sym (sum_by-cons (λ (a : AgentProgram). length a.actions) (with_stays stays (agent_program plan deps i)) (map (with_stays stays) (map (agent_program plan deps) xs)))

  pub total_is : sum_by (λ (row : Written). row.count + stays) (all_bytes_by plan deps v (steps plan)) ≡ total_moves (compiled_staying plan deps stays)
  unfolding compiled
  total_is = total_of (indices (length plan))

-- the version has bytes for the numbers of actions
version_some : (n : ℕ) → version_for (suc n) ≡ Two
version_some n = ap (λ (b : Bool). if b then One else Two) (ne_eqb (suc n) 0 (λ e. absurd (omega (arith, e))))

count_fits : (stays n : ℕ) → n ≤ MAX_HORIZON → n + stays ≤ MAX_MOVES → n + stays ≤ most_count (version_for stays)
count_fits zero n few all = omega (arith, few)
count_fits (suc m) n few all = subst (λ (v : Version). n + suc m ≤ most_count v) (sym (version_some m)) (omega (arith, all))

pub rows_fit : (plan : Plan) (deps : Deps) (stays : ℕ) (v : Version) (rows : List Written) → IsWithinLimits plan → has_few_actions plan stays ≡ true → v ≡ version_for stays → rows ≡ all_bytes_by plan deps v (steps plan) → All (λ (row : Written). row.count + stays ≤ most_count v) rows
rows_fit plan deps stays v rows limits few e is k d lt =
    let here : k < length plan = omega (arith, lt, ap length is, length-all_bytes_by plan deps v (steps plan)) in
    let row = get_or rows k d in
    let at : row ≡ written v (actions_by plan deps (steps plan) k) = bytes_at plan deps v (steps plan) k rows row is here (package.Rattle.std.proofs.lemmas.List.get_or_default rows k d row lt) in
    let many : row.count ≡ moves_by plan k (steps plan) = ap (λ (w : Written). w.count) at ∙ moved_so_far plan deps (steps plan) k in
    let each = few_each plan stays (and_parts (each_has_few plan stays) (all_have_few plan stays) few).0 k here in
    subst (λ (u : Version). row.count + stays ≤ most_count u) (sym e) (count_fits stays row.count (omega (arith, many, moves_by-le plan k (steps plan), steps_few plan limits)) (omega (arith, many, each)))

pub rows_total : (plan : Plan) (deps : Deps) (stays : ℕ) (v : Version) (rows : List Written) → rows ≡ all_bytes_by plan deps v (steps plan) → sum_by (λ (row : Written). row.count + stays) rows ≡ total_moves (compiled_staying plan deps stays)
rows_total plan deps stays v rows is = ap (sum_by (λ (row : Written). row.count + stays)) is ∙ total_is plan deps v stays

pub length-staying : (plan : Plan) (deps : Deps) (stays : ℕ) → length (compiled_staying plan deps stays) ≡ length plan
length-staying plan deps stays = length-added stays (compiled plan deps) ∙ length-compiled plan deps

all_parts : (plan : Plan) (deps : Deps) (stays : ℕ) → parts plan deps stays (length plan) ≡ compiled_staying plan deps stays
unfolding compiled
all_parts plan deps stays = refl

-- all agents, after what stands before them
pub join_all : (plan : Plan) (deps : Deps) (v : Version) (stays i n : ℕ) (out head : List ℕ) → i ≡ length plan → n ≡ length plan → head ≡ magic v ++ two_bytes n → out ≡ head ++ flat_map (agent v) (parts plan deps stays i) → out ≡ spelling v (compiled_staying plan deps stays)
join_all plan deps v stays i n out head all agents begins made =
    let p = compiled_staying plan deps stays in
    let long : n ≡ length p = agents ∙ sym (length-staying plan deps stays) in
    let whole : parts plan deps stays i ≡ p = ap (parts plan deps stays) all ∙ all_parts plan deps stays in
    let front : head ≡ magic v ++ two_bytes (length p) = begins ∙ ap (λ (m : ℕ). magic v ++ two_bytes m) long in
    made ∙ (λ t. front t ++ flat_map (agent v) (whole t))

-- an agent that stays is in no spelling of version 1
stays_somewhere : (plan : Plan) (deps : Deps) (n : ℕ) → 1 ≤ length plan → NeverStays (compiled_staying plan deps (suc n)) → ⊥
unfolding compiled
stays_somewhere [] deps n some never = absurd (omega (arith, some))
stays_somewhere (path ∷ plan) deps n some never =
    let own = (agent_program (path ∷ plan) deps 0).actions in
    let all = own ++ replicate (suc n) stay in
    let here : length own < length all = omega (arith, length-append own (replicate (suc n) stay), length-replicate (suc n) stay) in
    let last : get_or all (length own) stay ≡ stay = package.Rattle.std.proofs.lemmas.List.get_or_at own stay (replicate n stay) stay (length own) refl in
    let moved : IsTrue (is_move (get_or all (length own) stay).step) = never 0 (with_stays (suc n) (agent_program (path ∷ plan) deps 0)) (omega arith) (length own) stay here in
    both_ways (is_move stay.step) refl (subst (λ (s : Action). IsTrue (is_move s.step)) last moved)

module _ (passable : Place → Bool) (tasks : List Task) (plan : Plan) (deps : Deps) (free : IsConflictFree passable tasks plan) (limits : IsWithinLimits plan)
    (first : (p : Program) → CanSpell One p ↔ AreShort p × NeverStays p) (second : (p : Program) → IsWellFormed p → CanSpell Two p) where
  in_first : CanSpell One (compiled_staying plan deps 0)
  in_first =
      let p = compiled_staying plan deps 0 in
      let is = staying_none plan deps in
      let accepted = staying-accepted passable tasks plan free 0 deps in
      (first p).1 (short_in_range p accepted.right.in_range (λ i. subst (λ (q : Program). moves q i ≤ MAX_MOVES_V1) (sym is) (few_moves plan deps limits i)), never_stays-plain plan deps p is)

  pub shortest_bytes : (stays : ℕ) (bytes : List ℕ) → has_few_actions plan stays ≡ true → bytes ≡ spelling (version_for stays) (compiled_staying plan deps stays) → SpellsShortest bytes (compiled_staying plan deps stays)
  shortest_bytes zero bytes few is =
      let spelled : SpellsIn One bytes (compiled_staying plan deps 0) = record { well_formed = staying-well_formed plan deps 0 limits few; spellable = in_first; spelled = is } in
      record { spelled = record { version = One; spelling = spelled }; first = λ _. spelled }
  shortest_bytes (suc n) bytes few is =
      let p = compiled_staying plan deps (suc n) in
      let formed = staying-well_formed plan deps (suc n) limits few in
      let here : bytes ≡ spelling Two p = is ∙ ap (λ (v : Version). spelling v p) (version_some n) in
      record {
        spelled = record { version = Two; spelling = record { well_formed = formed; spellable = second p formed; spelled = here } };
        first = λ can. absurd (stays_somewhere plan deps n limits.fleet.some_agents ((first p).0 can).1);
      }

  -- without stays they are those of version 1
  pub first_bytes : (stays : ℕ) → stays ≡ 0 → (bytes : List ℕ) → has_few_actions plan stays ≡ true → bytes ≡ spelling (version_for stays) (compiled_staying plan deps stays) → SpellsIn One bytes (compiled_staying plan deps stays)
  first_bytes zero none bytes few is = record { well_formed = staying-well_formed plan deps 0 limits few; spellable = in_first; spelled = is }
  first_bytes (suc n) none bytes few is = absurd cc

-- ---- the program that is read from the bytes

pub read_is : (p q : Program) (due : Result Program LoadFault) → due ≡ Ok p → due ≡ Ok q → q ≡ p
read_is p q due e f = let both = sym e ∙ f in cc
