-- The bytes of a program whose implied awaits are gone, as they are put together.
use Rattle.fleet_adg.proofs.Words.{◌≡◌, ℕ, zero, suc, ◌+◌, ◌<◌, ◌≤◌, List, [], ◌∷◌, ◌++◌, length, map, refl, sym, ap, subst, ◌∙◌, arith, append_assoc, ◌↔◌, Some, slice_get, flat_map, append-nil, flat_map-cons, flat_map-append, slice_get-map, Cell, Step, Task, Await, Action, ActionId, AgentProgram, Program, actions_of, moves, start_of, goal_of, step_of, awaits_of, AreInRange, IsWellFormed, NeverStays, AreShort, Ground, is_passable, Version, One, Two, count, opcode, agent, spelling, CanSpell, SpellsIn, SpellsShortest, IsImplied, IsAcceptedFor, IsThinned, same_moves, thinned_reduced, thinned_again, reduced_chains, thinned_range, thinned_least, longest_over, accepted_over, run_over, FitsFirst, IsThinnedFor, Adds, AddsAwaits, AddsAction, AddsActions, AreUnimplied, AreThinnedActions, AreThinnedAgents}
use Rattle.fleet_code.specs.Spelling.{cell, await, action}
use Rattle.fleet_code.proofs.Stays.{none_stays}
use Rattle.fleet_adg.proofs.Short.{short_in_range, short_moves}
use Rattle.fleet_adg.proofs.Thinning.{none_yet, drop_implied, action_more, agent_more, thinned_is, thinned_formed}

-- one more was added
pub adds_more : {X : Type 0} (f : X → List ℕ) (P Q : List X → Type 0) (x : X) (before out end : List ℕ) → Adds (flat_map f) P before out → ((xs : List X) → P xs → Q (xs ++ x ∷ [])) → end ≡ out ++ f x → Adds (flat_map f) Q before end
adds_more f P Q x before out end h more is =
    let own = flat_map f h.added in
    let all : flat_map f (h.added ++ x ∷ []) ≡ own ++ f x = flat_map-append f h.added (x ∷ []) ∙ ap (λ (t : List ℕ). own ++ t) (flat_map-cons f x [] ∙ append-nil (f x)) in
    record {
      added = h.added ++ x ∷ [];
      holds = more h.added h.holds;
      is = is ∙ ap (λ (t : List ℕ). t ++ f x) h.is ∙ append_assoc before own (f x) ∙ ap (λ (t : List ℕ). before ++ t) (sym all);
    }

pub adds_none : (v : Version) (p : Program) (a : ActionId) (out : List ℕ) → AddsAwaits v p a 0 out out
adds_none v p a out = record { added = []; holds = none_yet p a; is = sym (append-nil out) }

-- an await that is implied is not
pub adds_same : (v : Version) (p : Program) → IsWellFormed p → (a : ActionId) (k : ℕ) (before out : List ℕ) → AddsAwaits v p a k before out → k < length (awaits_of p a.agent a.number)
    → ((w : Await) → slice_get (awaits_of p a.agent a.number) k ≡ Some w → IsImplied p a w) → AddsAwaits v p a (k + 1) before out
adds_same v p formed a k before out h lt implied = record { added = h.added; holds = drop_implied p formed a k h.added h.holds lt implied; is = h.is }

-- the step after the awaits
pub adds_step : (v : Version) (p : Program) (a : ActionId) (k : ℕ) (s : Step) (before out end : List ℕ) → AddsAwaits v p a k before out → k ≡ length (awaits_of p a.agent a.number) → step_of p a.agent a.number ≡ Some s → end ≡ out ++ opcode s ∷ [] → AddsAction v p a before end
adds_step v p a k s before out end h all step is = record {
  added = record { step = s; awaits = h.added };
  holds = record { step = step; awaits = subst (λ (n : ℕ). AreUnimplied p a n h.added) all h.holds };
  is = is ∙ ap (λ (t : List ℕ). t ++ opcode s ∷ []) h.is ∙ append_assoc before (flat_map (await v) h.added) (opcode s ∷ []);
}

pub adds_action : (v : Version) (p : Program) (i n : ℕ) (before out end : List ℕ) → AddsActions v p i n before out → AddsAction v p (record { agent = i; number = n + 1 }) out end → AddsActions v p i (n + 1) before end
adds_action v p i n before out end h one = adds_more (action v) (AreThinnedActions p i n) (AreThinnedActions p i (n + 1)) one.added before out end h (λ actions made. action_more p i n actions one.added made one.holds) one.is

regroup : (out a b c d : List ℕ) → (((out ++ a) ++ b) ++ c) ++ d ≡ out ++ (a ++ (b ++ (c ++ d)))
regroup out a b c d = append_assoc ((out ++ a) ++ b) c d ∙ append_assoc (out ++ a) b (c ++ d) ∙ append_assoc out a (b ++ (c ++ d))

-- an agent after its head
pub adds_agent : (v : Version) (p : Program) (i n : ℕ) (start goal : Cell) (before out head end : List ℕ) → start ≡ start_of p i → goal ≡ goal_of p i → n ≡ moves p i → Adds (flat_map (agent v)) (AreThinnedAgents p i) before out
    → head ≡ ((out ++ cell start) ++ cell goal) ++ count v n → AddsActions v p i (moves p i) head end → Adds (flat_map (agent v)) (AreThinnedAgents p (i + 1)) before end
adds_agent v p i n start goal before out head end begins ends long h is own =
    let a : AgentProgram = record { start = start; goal = goal; actions = own.added } in
    let same : n ≡ length own.added = long ∙ sym own.holds.long in
    let bytes = flat_map (action v) own.added in
    let all : end ≡ out ++ agent v a =
    own.is ∙ ap (λ (t : List ℕ). t ++ bytes) (is ∙ ap (λ (m : ℕ). ((out ++ cell start) ++ cell goal) ++ count v m) same) ∙ regroup out (cell start) (cell goal) (count v (length own.added)) bytes in
    adds_more (agent v) (AreThinnedAgents p i) (AreThinnedAgents p (i + 1)) a before out end h (λ agents made. agent_more p i agents a made (record { start = begins; goal = ends; actions = own.holds })) all

-- ---- what the bytes spell

step_over : (p q : Program) → ((i : ℕ) → map (λ (s : Action). s.step) (actions_of q i) ≡ map (λ (s : Action). s.step) (actions_of p i)) → (i n : ℕ) → step_of q i n ≡ step_of p i n
step_over p q steps i zero = refl
step_over p q steps i (suc m) = sym (slice_get-map (λ (s : Action). s.step) (actions_of q i) m) ∙ ap (λ (l : List Step). slice_get l m) (steps i) ∙ slice_get-map (λ (s : Action). s.step) (actions_of p i) m

-- programs with the same steps stay both or neither
pub never_over : (p q : Program) → length q ≡ length p → ((i : ℕ) → map (λ (s : Action). s.step) (actions_of q i) ≡ map (λ (s : Action). s.step) (actions_of p i)) → NeverStays p → NeverStays q
never_over p q long steps never = (none_stays q).0 (λ i lt n s e. (none_stays p).1 never i (omega (arith, lt, long)) n s (sym (step_over p q steps i n) ∙ e))

-- what is left of an accepted program
pub thinned_for : (ground : Ground) (tasks : List Task) (p : Program) (chain : ℕ) (q : Program) → IsAcceptedFor ground tasks p chain → IsThinned p q → IsThinnedFor (is_passable ground) tasks p chain q
thinned_for ground tasks p chain q known is =
    let less = reduced_chains p q (thinned_reduced p q known.accepted.numbering.0 known.accepted.numbering.1 is) in
    let range = thinned_range p q is known.accepted.right.in_range in
    record {
      is = is;
      accepted = accepted_over p q range less (is_passable ground) tasks known.accepted;
      longest = longest_over p q known.accepted.right.in_range range less chain known.longest;
      equally = λ holds t. run_over p q known.accepted.right.in_range range less holds t;
      again = thinned_again p q known.accepted.numbering.0 known.accepted.numbering.1 is;
      least = thinned_least p q known.accepted.numbering.0 known.accepted.numbering.1 known.accepted.right.in_range is;
    }

-- in the version that is shortest for the program, they are the shortest for what is left of it
pub thinned_shortest : ((q : Program) → CanSpell One q ↔ AreShort q × NeverStays q) → ((q : Program) → IsWellFormed q → CanSpell Two q) → (p q : Program) → IsWellFormed p → AreInRange p → AreThinnedAgents p (length p) q
    → (v : Version) → v ≡ One ↔ FitsFirst p → (bytes : List ℕ) → bytes ≡ spelling v q → SpellsShortest bytes q
thinned_shortest first second p q formed range h One fits bytes is =
    let few = (fits.0 refl).few in
    let gone = thinned_is p q h in
    let short = short_in_range q (thinned_range p q gone range) (λ i. let l = few i in omega (arith, l, same_moves p q gone.rest i)) in
    let spelled : SpellsIn One bytes q = record { well_formed = thinned_formed p q h formed; spellable = (first q).1 (short, never_over p q gone.rest.agents gone.rest.steps (fits.0 refl).moves_only); spelled = is } in
    record { spelled = record { version = One; spelling = spelled }; first = λ _. spelled }
thinned_shortest first second p q formed range h Two fits bytes is =
    let gone = thinned_is p q h in
    let left = thinned_formed p q h formed in
    record {
      spelled = record { version = Two; spelling = record { well_formed = left; spellable = second q left; spelled = is } };
      first = λ can.
          let could = (first q).0 can in
          let few : (i : ℕ) → moves p i ≤ 65535 = λ i. (let l = short_moves q could.0 i in omega (arith, l, same_moves p q gone.rest i)) in
          let one = fits.1 (record { few = few; moves_only = never_over q p (sym gone.rest.agents) (λ i. sym (gone.rest.steps i)) could.1 }) in
          absurd cc;
    }
