-- Open pairs asked for.
use Rattle.fleet_verify.proofs.Words.{◌≡◌, ℕ, ◌+◌, ◌<◌, ◌≤◌, Bool, true, false, List, [], ◌∷◌, ◌++◌, length, get_or, Option, Some, None, slice_get, refl, sym, ap, ◌∙◌, subst, arith, inl, inr, All, cases_lt, cases_eq, cases_order, cases_Bool, ne_eqb, get_or_append_left, get_or_push, slice_get-get_or, slice_get_within, get_or_from_slice_get, same_Some, ActionId, Await, Visit, Program, AreInRange, IsAction, Reaches, Reaches-last, Reaches-need, Reaches-trans, awaited, awaits_of, entering, leaving, eqb, Question, AreAnswers, AreCountedUp, level_in, AreKnown, IsChained, IsAskedOf, AreAsked, BeginsLater, IsFlagOf, EndApart, EnterApart, AreAmong, key_of, HasLevels, AreVisits, question_of, OpenPair, IsFoundByAsking, IsFoundOfPairs}
use Rattle.fleet_verify.specs.declared.chained.Answers.{Answers}
use Rattle.fleet_verify.specs.declared.chained.TheConstants.{NUMBERS}
use Rattle.fleet_needs.proofs.Joining.{awaited_action, own_first}
use Rattle.fleet_verify.proofs.Decide.{Reaches-dec}
use Rattle.fleet_verify.proofs.Levels.{counted_numbers}
use Rattle.fleet_verify.proofs.Listing.{levels_number, rank_rises}

-- the question for a pair
pub asked_of : (p : Program) (o : OpenPair) (first : ActionId) → AreVisits p o → first ≡ leaving p o.first → 1 ≤ first.number → 1 ≤ o.second.position
    → IsAskedOf p o (record { first = first; last = record { agent = o.second.agent; number = o.second.position } })
asked_of p o first visits leaves number entered = record {
  question = record {
    agent = subst (λ (a : ActionId). a.agent < length p) (sym leaves) visits.first.agent;
    number = number;
    last = record { agent = visits.second.agent; first = entered; last = visits.second.position };
  };
  of = λ i. record { first = leaves i; last = entering o.second };
}

-- no questions are answered by no flags
pub known_none : (p : Program) (known : Answers) → known.questions.items ≡ [] → known.flags.items ≡ [] → AreKnown p known
known_none p known questions flags = record {
  answers = subst (λ (qs : List Question). AreAnswers p qs known.flags.items) (sym questions) (subst (λ (fs : List Bool). AreAnswers p [] fs) (sym flags) (record {
    all = refl;
    each = λ k q here. absurd (omega (arith, slice_get_within [] k q here));
  }));
  apart = subst EndApart (sym questions) (λ j k q r here there same. absurd (omega (arith, slice_get_within [] j q here)));
}

-- of a pair with a chain the second visit begins later
pub chained_later : (p : Program) (rows : List (List ℕ)) (o : OpenPair) → HasLevels p rows → IsChained p o → BeginsLater rows o
chained_later p rows o levels chained = rank_rises p (level_in rows) (levels_number p (level_in rows) levels.each) o.first o.second chained

-- one question more
pub asked_more : (p : Program) (pairs : List OpenPair) (k : ℕ) (asked : List Question) (pair : OpenPair) (question : Question) → length asked ≡ k → ((o : OpenPair) → get_or pairs k o ≡ pair) → IsAskedOf p pair question
    → ((j : ℕ) (o : OpenPair) (q : Question) → j < k → IsAskedOf p (get_or pairs j o) (get_or asked j q)) → (j : ℕ) (o : OpenPair) (q : Question) → j < k + 1 → IsAskedOf p (get_or pairs j o) (get_or (asked ++ question ∷ []) j q)
asked_more p pairs k asked pair question long here is each j o q l = elim (cases_lt j k) [
  | inl less ↦ subst (IsAskedOf p (get_or pairs j o)) (sym (get_or_append_left asked (question ∷ []) q j (omega (arith, long)))) (each j o q less)
  | inr high ↦
      let e : j ≡ k = omega (arith, l, high) in
      let at : get_or (asked ++ question ∷ []) j q ≡ question = ap (λ (n : ℕ). get_or (asked ++ question ∷ []) n q) (e ∙ sym long) ∙ get_or_push asked question q (length asked) refl in
      subst (IsAskedOf p (get_or pairs j o)) (sym at) (subst (λ (x : OpenPair). IsAskedOf p x question) (sym (ap (λ (n : ℕ). get_or pairs n o) e ∙ here o)) is)
]

-- if no question is flagged, there is a chain for each pair
pub all_chained : (p : Program) (rows : List (List ℕ)) (pairs : List OpenPair) (asked : List Question) (flags : List Bool) → AreCountedUp p (level_in rows) → AreAsked p pairs asked → AreAnswers p asked flags
    → ((k : ℕ) → k < length flags → get_or flags k false ≡ false) → (k : ℕ) (o : OpenPair) → k < length pairs → IsChained p (get_or pairs k o)
all_chained p rows pairs asked flags counted h answers none k o l =
    let q : Question = get_or asked k (question_of p o) in
    let here : slice_get asked k ≡ Some q = slice_get-get_or asked k (question_of p o) (omega (arith, l, h.all)) in
    elim (Reaches-dec p (level_in rows) (counted_numbers p (level_in rows) counted) q.first q.last) [
      | yes r ↦ subst (λ (x : Question). Reaches p x.first x.last) (h.each k o (question_of p o) l).of r
      | no m ↦ absurd (let set : get_or flags k false ≡ true = (answers.each k q here).1 m in let clear : get_or flags k false ≡ false = none k (omega (arith, l, h.all, answers.all)) in cc)
    ]

-- and if there is a chain for each pair, none is flagged
pub none_flagged : (p : Program) (pairs : List OpenPair) (asked : List Question) (flags : List Bool) → AreAsked p pairs asked → AreAnswers p asked flags → All (IsChained p) pairs → (k : ℕ) → k < length flags → get_or flags k false ≡ false
none_flagged p pairs asked flags h answers all k l = elim (cases_Bool (get_or flags k false)) [
  | inr clear ↦ clear
  | inl set ↦
      let none : Visit = record { agent = 0; position = 0 } in
      let o : OpenPair = get_or pairs k (record { cell = record { x = 0; y = 0 }; first = none; second = none }) in
      let within : k < length pairs = omega (arith, l, h.all, answers.all) in
      let q : Question = get_or asked k (question_of p o) in
      let here : slice_get asked k ≡ Some q = slice_get-get_or asked k (question_of p o) (omega (arith, within, h.all)) in
      let of : q ≡ question_of p o = (h.each k _ (question_of p o) within).of in
      absurd ((answers.each k q here).0 set (subst (λ (x : Question). Reaches p x.first x.last) (sym of) (all k _ within)))
]

-- the questions of pairs with other second visits end apart
pub asked_apart : (p : Program) (pairs : List OpenPair) (asked : List Question) → AreAsked p pairs asked → EnterApart pairs → EndApart asked
asked_apart p pairs asked h apart j k q r at there same =
    let none : Visit = record { agent = 0; position = 0 } in
    let d : OpenPair = record { cell = record { x = 0; y = 0 }; first = none; second = none } in
    let low : j < length pairs = omega (arith, slice_get_within asked j q at, h.all) in
    let high : k < length pairs = omega (arith, slice_get_within asked k r there, h.all) in
    let first : q ≡ question_of p (get_or pairs j d) = sym (get_or_from_slice_get asked j q q at) ∙ (h.each j d q low).of in
    let second : r ≡ question_of p (get_or pairs k d) = sym (get_or_from_slice_get asked k r r there) ∙ (h.each k d r high).of in
    let ends : entering (get_or pairs j d).second ≡ entering (get_or pairs k d).second = sym (ap (λ (x : Question). x.last) first) ∙ same ∙ ap (λ (x : Question). x.last) second in
    let visits : (get_or pairs j d).second ≡ (get_or pairs k d).second = λ i. record { agent = (ends i).agent; position = (ends i).number } in
    elim (cases_order j k) [
      | inl e ↦ e
      | inr (inl l) ↦ absurd (apart j k d l high visits)
      | inr (inr l) ↦ absurd (apart k j d l low (sym visits))
    ]

-- what was answered to such questions is known of the pairs
pub found_asked : (p : Program) (rows : List (List ℕ)) (pairs : List OpenPair) (asked : List Question) → AreAsked p pairs asked → EnterApart pairs → (found : Option Answers) → IsFoundByAsking p pairs asked found → IsFoundOfPairs p rows pairs found
found_asked p rows pairs asked h apart (Some known) told = record {
  chained = tt;
  unchained = told.unchained;
  known = record { answers = told.answers; apart = subst EndApart (sym told.questions) (asked_apart p pairs asked h apart) };
  asked = λ _. subst (AreAsked p pairs) (sym told.questions) h;
}
found_asked p rows pairs asked h apart None told = record { chained = told.chained; unchained = tt; known = tt; asked = tt }

-- ---- the places of questions, by the numbers of their last actions

same_action : (a b : ActionId) → a.number < NUMBERS → b.number < NUMBERS → key_of a ≡ key_of b → a ≡ b
same_action a b few_a few_b e =
    let agent : a.agent ≡ b.agent = omega (arith, few_a, few_b, e) in
    let number : a.number ≡ b.number = omega (arith, agent, e) in
    λ i. record { agent = agent i; number = number i }

-- each question before this one has its place, if no two end with the same action
abbrev pub HavePlaces : List Question → ℕ → (ℕ → Option ℕ) → Type 0
HavePlaces asked k place = (j : ℕ) (q : Question) → j < k → slice_get asked j ≡ Some q → (q.last.number < NUMBERS) × (EndApart asked → place (key_of q.last) ≡ Some j)

pub place_more : (asked : List Question) (k : ℕ) (q : Question) (old new : ℕ → Option ℕ) → slice_get asked k ≡ Some q → q.last.number < NUMBERS
    → new (key_of q.last) ≡ Some k → ((n : ℕ) → eqb (key_of q.last) n ≡ false → new n ≡ old n) → HavePlaces asked k old → HavePlaces asked (k + 1) new
place_more asked k q old new at few here others before j r l is = elim (cases_lt j k) [
  | inl less ↦
      let b = before j r less is in (
        b.0,
        λ apart. elim (cases_eq (key_of q.last) (key_of r.last)) [
          | inl e ↦ absurd (let same = apart k j q r at is (same_action q.last r.last few b.0 e) in omega (arith, same, less))
          | inr other ↦ others (key_of r.last) (ne_eqb (key_of q.last) (key_of r.last) other) ∙ b.1 apart
        ],
      )
  | inr high ↦
      let e : j ≡ k = omega (arith, l, high) in
      let same : q ≡ r = same_Some q r (sym at ∙ ap (slice_get asked) (sym e) ∙ is) in
      (subst (λ (x : Question). x.last.number < NUMBERS) same few, λ _. subst (λ (x : Question). new (key_of x.last) ≡ Some j) same (here ∙ ap Some (sym e)))
]

-- one flag more
pub flag_more : (known : Answers) (questions : List Question) (flags : List Bool) (k : ℕ) (q : Question) (flag : Bool) → length flags ≡ k → slice_get questions k ≡ Some q → IsFlagOf known q flag
    → ((j : ℕ) (r : Question) → j < k → IsFlagOf known (get_or questions j r) (get_or flags j false)) → (j : ℕ) (r : Question) → j < k + 1 → IsFlagOf known (get_or questions j r) (get_or (flags ++ flag ∷ []) j false)
flag_more known questions flags k q flag long at is each j r l = elim (cases_lt j k) [
  | inl less ↦ subst (IsFlagOf known (get_or questions j r)) (sym (get_or_append_left flags (flag ∷ []) false j (omega (arith, long)))) (each j r less)
  | inr high ↦
      let e : j ≡ k = omega (arith, l, high) in
      let there : get_or questions j r ≡ q = ap (λ (n : ℕ). get_or questions n r) e ∙ get_or_from_slice_get questions k q r at in
      let here : get_or (flags ++ flag ∷ []) j false ≡ flag = ap (λ (n : ℕ). get_or (flags ++ flag ∷ []) n false) (e ∙ sym long) ∙ get_or_push flags flag false (length flags) refl in
      subst (λ (x : Question). IsFlagOf known x (get_or (flags ++ flag ∷ []) j false)) (sym there) (subst (IsFlagOf known q) (sym here) is)
]

-- a question that was asked has a flag, if no two that were asked end with one action
pub flag_there : (known : Answers) (questions : List Question) (k : ℕ) (q : Question) (place : ℕ → Option ℕ) → slice_get questions k ≡ Some q
    → (EndApart known.questions.items → (j : ℕ) (r : Question) → slice_get known.questions.items j ≡ Some r → place (key_of r.last) ≡ Some j)
    → ((j : ℕ) → j < length known.flags.items → place (key_of q.last) ≡ Some j → slice_get known.questions.items j ≡ Some q → ⊥)
    → EndApart known.questions.items → length known.flags.items ≡ length known.questions.items → AreAmong known.questions.items questions → ⊥
flag_there known questions k q place at places none apart all among =
    let asked = among k q (slice_get_within questions k q at) in
    let is : slice_get known.questions.items asked.0 ≡ Some q = asked.1 ∙ ap Some (get_or_from_slice_get questions k q q at) in
    none asked.0 (omega (arith, slice_get_within known.questions.items asked.0 q is, all)) (places apart asked.0 q is) is

-- ---- short chains

-- what reaches an awaited action reaches the one that awaits it
pub reached_on : (p : Program) → AreInRange p → (x a : ActionId) (k : ℕ) (w : Await) → IsAction p a → slice_get (awaits_of p a.agent a.number) k ≡ Some w → Reaches p x (awaited w) → Reaches p x a
reached_on p range x a k w is at r =
    Reaches-trans p x (awaited w) a r (Reaches-need p (awaited w) a (Reaches-last p x (awaited w) r) is (inr (k, slice_get_within (awaits_of p a.agent a.number) k w at, get_or_from_slice_get (awaits_of p a.agent a.number) k w w at)))

-- so does an action that it awaits, or an earlier one of that one's agent
pub awaited_reaches : (p : Program) → AreInRange p → (x a : ActionId) (k : ℕ) (w : Await) → IsAction p a → slice_get (awaits_of p a.agent a.number) k ≡ Some w → 1 ≤ x.number → w.agent ≡ x.agent → x.number ≤ w.count → Reaches p x a
awaited_reaches p range x a k w is at some same l =
    reached_on p range x a k w is at (own_first p x (awaited w) some (awaited_action p range a.agent a.number k w at) same l)
