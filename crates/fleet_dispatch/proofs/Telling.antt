-- How many of its actions an agent is told.
use Rattle.fleet_dispatch.proofs.Cited.{◌≡◌, ℕ, ◌+◌, ◌-◌, ◌<◌, ◌≤◌, Bool, true, false, not, List, [], length, get_or, drop, Contains, refl, ap, sym, ◌∙◌, subst, arith, add-one, leb-true, leb-false, length-take, length-drop, min, position_or_len, get_or-take, get_or-drop, All-contains, AllPass-from_list_all, position_or_len_is, prefix_len-le-length, fails_before_first, passes_at_first, slice_get-get_or, Action, Dwell, Await, Program, actions_of, moves, awaits_of, fails_at, Counts, count_of, is_done, is_open, next_actions, told_to, AreDone, MayBeTold}

any_action : Action
any_action = record { step = Dwell; awaits = [] }

-- ---- what an action awaits

module _ (p : Program) (counts : Counts) where
  awaits_at : (i n : ℕ) → n < moves p i → awaits_of p i (n + 1) ≡ (get_or (actions_of p i) n any_action).awaits
  awaits_at i n l = let e = slice_get-get_or (actions_of p i) n any_action l in rw (add-one, e) refl

  open_done : (i n : ℕ) → n < moves p i → is_open counts (get_or (actions_of p i) n any_action) ≡ true → AreDone p counts i (n + 1)
  open_done i n l e w h =
      let h' : Contains (get_or (actions_of p i) n any_action).awaits w = subst (λ (xs : List Await). Contains xs w) (awaits_at i n l) h in
      let t : is_done counts w ≡ true = All-contains (λ v. is_done counts v ≡ true) _ w (AllPass-from_list_all (is_done counts) _ e) h' in
      leb-true _ _ t

  done_open : (i n : ℕ) → n < moves p i → AreDone p counts i (n + 1) → is_open counts (get_or (actions_of p i) n any_action) ≡ true
  done_open i n l done = go (is_open counts (get_or (actions_of p i) n any_action)) refl
    where
      go : (b : Bool) → is_open counts (get_or (actions_of p i) n any_action) ≡ b → is_open counts (get_or (actions_of p i) n any_action) ≡ true
      go true e = e
      go false e =
          let f = fails_at (is_done counts) _ e in
          let h : Contains (awaits_of p i (n + 1)) f.0 = subst (λ (xs : List Await). Contains xs f.0) (sym (awaits_at i n l)) f.1 in
          absurd (omega (arith, done f.0 h, leb-false _ _ f.2))

-- ---- what is told

-- agent i can be told no more than n: it has no more, or as many as are told ahead, or one waits
pub record CannotBeTold (p : Program) (k : ℕ) (counts : Counts) (i n : ℕ) : Type 0 where
  pub stop : n < moves p i → n < count_of counts i + k → AreDone p counts i (n + 1) → ⊥

module _ (p : Program) (k : ℕ) (counts : Counts) (i : ℕ) where
  abbrev blocked : Action → Bool
  blocked a = not (is_open counts a)

  abbrev c : ℕ
  c = count_of counts i

  abbrev ahead : List Action
  ahead = next_actions p k counts i

  long : length ahead ≡ min k (moves p i - c)
  long = length-take k (drop c (actions_of p i)) ∙ ap (min k) (length-drop c (actions_of p i))

  at : (j : ℕ) → j < length ahead → get_or ahead j any_action ≡ get_or (actions_of p i) (c + j) any_action
  at j l = get_or-take k (drop c (actions_of p i)) j any_action (omega (arith, long)) ∙ get_or-drop c (actions_of p i) j any_action

  free : (j : ℕ) → j < length ahead → AreDone p counts i (c + j + 1) → blocked (get_or ahead j any_action) ≡ false
  free j l done = ap (λ a. not (is_open counts a)) (at j l) ∙ ap not (done_open p counts i (c + j) (omega (arith, long)) done)

  freed : (j : ℕ) → j < length ahead → blocked (get_or ahead j any_action) ≡ false → AreDone p counts i (c + j + 1)
  freed j l e =
      let o : not (is_open counts (get_or (actions_of p i) (c + j) any_action)) ≡ false = ap (λ a. not (is_open counts a)) (sym (at j l)) ∙ e in
      open_done p counts i (c + j) (omega (arith, long)) (unnot _ o)
    where
      unnot : (b : Bool) → not b ≡ false → b ≡ true
      unnot true h = refl
      unnot false h = absurd cc

  abbrev m : ℕ
  m = position_or_len (λ a. not (is_open counts a)) ahead

  inside : m ≤ length ahead
  inside = prefix_len-le-length (λ a. not (not (is_open counts a))) ahead

  pub told_is : (n : ℕ) → MayBeTold p k counts i n → CannotBeTold p k counts i n → told_to p k counts i ≡ n
  unfolding told_to
  told_is n may cannot =
      let from : c ≤ n = may.from in
      let within : n ≤ moves p i = may.within in
      let few : n ≤ c + k = may.few in
      let sum : c + (n - c) ≡ n = omega arith in
      let place : m ≡ n - c =
      position_or_len_is (λ a. not (is_open counts a)) ahead (n - c) any_action (omega (arith, long))
      (λ j l. free j (omega (arith, long)) (may.met (c + j + 1) (omega arith) (omega arith)))
      (λ l. go l (blocked (get_or ahead (n - c) any_action)) refl)
      in
      ap (λ x. c + x) place ∙ sum
    where
      go : (l : n - c < length ahead) → (b : Bool) → blocked (get_or ahead (n - c) any_action) ≡ b → blocked (get_or ahead (n - c) any_action) ≡ true
      go l true e = e
      go l false e =
          let from : c ≤ n = may.from in
          let same : c + (n - c) + 1 ≡ n + 1 = omega arith in
          absurd (cannot.stop (omega (arith, long)) (omega (arith, long)) (subst (AreDone p counts i) same (freed (n - c) l e)))

  pub told_may : c ≤ moves p i → MayBeTold p k counts i (told_to p k counts i)
  unfolding told_to
  told_may le = record {
    from = omega arith;
    within = omega (arith, inside, long);
    few = omega (arith, inside, long);
    met = λ n low high.
        let j : ℕ = n - c - 1 in
        let same : c + (n - c - 1) + 1 ≡ n = omega arith in
        subst (AreDone p counts i) same
        (freed (n - c - 1) (omega (arith, inside)) (fails_before_first (λ a. not (is_open counts a)) ahead (n - c - 1) any_action (omega arith)));
  }

  pub told_cannot : c ≤ moves p i → CannotBeTold p k counts i (told_to p k counts i)
  unfolding told_to
  told_cannot le = record {
    stop = λ left room done.
        let l : m < length ahead = omega (arith, long) in
        absurd (let no : blocked (get_or ahead m any_action) ≡ false = free m l done in
        let yes : blocked (get_or ahead m any_action) ≡ true = passes_at_first (λ a. not (is_open counts a)) ahead any_action l in
        cc);
  }
