-- What a fold over the agents of a step makes: the leavings and the actions of one step more.
use Rattle.fleet_adg.proofs.Words.{◌≡◌, ◌≢◌, ℕ, zero, suc, ◌+◌, ◌-◌, ◌<◌, ◌≤◌, min, Bool, true, false, cond, eqb, ltb, List, [], ◌∷◌, ◌++◌, map, set, filter, filter_map, length, get_or, Option, Some, None, option_map, option_to_list, inl, inr, refl, sym, ap, ◌∙◌, arith, add-one, range_with_len, cons_option, fold, option_or, cases_Bool, cases_lt, cases_eq, lt-ltb, le-ltb, eq-eqb, false_from_ne_true, length-set, get_or-set_same, get_or-set_other, same_lists, length-map-range_with_len, get_or-map-range_with_len, fold_push, Cell, Await, Action, indices, origin, Deps, Plan, cell_of, changes_in, leaves, await_of, last_below, leaver, last_leaving_by, last_leaving, leavings, action_in, with_leaving, leavings_after, under_way, actions_by, all_actions_by, is_under_way}
use Rattle.fleet_plan.specs.Plan.{cell_at}
use Rattle.fleet_adg.proofs.Basics.{indices_push, last_below-zero, last_below-here, last_below-before}
use Rattle.fleet_adg.proofs.Moves.{changes_in-ne}
use Rattle.fleet_adg.proofs.Entry.{leaves-parts, last_leaving_by-agent}
use Rattle.fleet_adg.proofs.Pass.{last_leaving-next, last_leaving-same, last_leaving_by-next, last_leaving_by-same, actions-next, actions-same}

-- ---- folds

pub fold-filter : {A B : Type 0} (f : B → A → B) (p : A → Bool) → ((b : B) (x : A) → p x ≡ false → f b x ≡ b) → (b : B) (xs : List A) → fold f b (filter p xs) ≡ fold f b xs
fold-filter f p skip b [] = refl
fold-filter f p skip b (x ∷ xs) =
    elim (cases_Bool (p x)) [
      | inl h ↦ ap (λ c. fold f b (cond c (x ∷ filter p xs) (filter p xs))) h ∙ fold-filter f p skip (f b x) xs
      | inr h ↦ ap (λ c. fold f b (cond c (x ∷ filter p xs) (filter p xs))) h ∙ fold-filter f p skip b xs ∙ ap (λ z. fold f z xs) (sym (skip b x h))
    ]

fold-indices : {B : Type 0} (f : B → ℕ → B) (at : ℕ → B) (n : ℕ) → ((m : ℕ) → m < n → f (at m) m ≡ at (suc m)) → fold f (at 0) (indices n) ≡ at n
fold-indices f at zero h = refl
fold-indices f at (suc n) h =
    ap (fold f (at 0)) (indices_push n) ∙ fold_push f (at 0) (range_with_len 0 n) n
    ∙ ap (λ b. f b n) (fold-indices f at n (λ m l. h m (omega arith)))
    ∙ h n (omega arith)

-- ---- who does not go on leaves nothing

pub still : (plan : Plan) (x j : ℕ) → is_under_way plan x j ≡ false → changes_in plan j x ≡ false
unfolding cell_of cell_at
still plan x j h =
    let k = length (get_or plan j []) - 1 in
    let past : k ≤ x = elim (cases_lt x k) [ inl l ↦ absurd (package.Rattle.std.proofs.lemmas.Bool.both_ways (ltb x k) h (lt-ltb x k l)) | inr l ↦ l ] in
    let e : min x k ≡ min (suc x) k = omega arith in
    let same : cell_of plan j x ≡ cell_of plan j (suc x) = ap (λ m. get_or (get_or plan j []) m origin) e in
    false_from_ne_true (changes_in plan j x) (λ c. changes_in-ne plan j x c same)

pub leaves-still : (plan : Plan) (q : Cell) (x j : ℕ) → changes_in plan j x ≡ false → leaves plan q x j ≡ false
leaves-still plan q x j h = false_from_ne_true (leaves plan q x j) (λ l. package.Rattle.std.proofs.lemmas.Bool.both_ways (changes_in plan j x) h (leaves-parts plan q x j l).1)

-- ---- the leavings of a cell

-- those of cell q, after what agent j does in step x
unfoldable pub note_by : Plan → Deps → Cell → ℕ → List Await → ℕ → List Await
note_by plan deps q x ws j = cond (leaves plan q x j) (leavings_after deps ws (await_of plan x j)) ws

pub note_by-leaves : (plan : Plan) (deps : Deps) (q : Cell) (x : ℕ) (ws : List Await) (j : ℕ) → leaves plan q x j ≡ true → note_by plan deps q x ws j ≡ leavings_after deps ws (await_of plan x j)
unfolding note_by
note_by-leaves plan deps q x ws j h = ap (λ b. cond b (leavings_after deps ws (await_of plan x j)) ws) h

pub note_by-stays : (plan : Plan) (deps : Deps) (q : Cell) (x : ℕ) (ws : List Await) (j : ℕ) → leaves plan q x j ≡ false → note_by plan deps q x ws j ≡ ws
unfolding note_by
note_by-stays plan deps q x ws j h = ap (λ b. cond b (leavings_after deps ws (await_of plan x j)) ws) h

-- under `Last`, after the agents below m
last_at : Plan → Cell → ℕ → ℕ → List Await
last_at plan q x m = option_to_list (option_or (option_map (await_of plan x) (last_below (leaves plan q x) m)) (last_leaving plan q x))

last_at-more : (plan : Plan) (q : Cell) (x m : ℕ) → note_by plan Deps.Last q x (last_at plan q x m) m ≡ last_at plan q x (suc m)
unfolding last_at
last_at-more plan q x m =
    let of = λ (o : Option ℕ). option_to_list (option_or (option_map (await_of plan x) o) (last_leaving plan q x)) in
    elim (cases_Bool (leaves plan q x m)) [
      | inl h ↦ note_by-leaves plan Deps.Last q x (last_at plan q x m) m h ∙ sym (ap of (last_below-here (leaves plan q x) m h))
      | inr h ↦ note_by-stays plan Deps.Last q x (last_at plan q x m) m h ∙ sym (ap of (last_below-before (leaves plan q x) m h))
    ]

last_at-begin : (plan : Plan) (q : Cell) (x : ℕ) → last_at plan q x 0 ≡ leavings plan Deps.Last q x
unfolding last_at leavings
last_at-begin plan q x = ap (λ o. option_to_list (option_or (option_map (await_of plan x) o) (last_leaving plan q x))) (last_below-zero (leaves plan q x))

last_leaving_of : Plan → Cell → ℕ → Option ℕ → List Await
last_leaving_of plan q x o = option_to_list (option_or (option_map (await_of plan x) o) (last_leaving plan q x))

last_leaving_of-leaver : (plan : Plan) (q : Cell) (x : ℕ) (o : Option ℕ) → leaver plan q x ≡ o → last_leaving_of plan q x o ≡ option_to_list (last_leaving plan q (suc x))
unfolding last_leaving_of
last_leaving_of-leaver plan q x None e = ap option_to_list (sym (last_leaving-same plan q x e))
last_leaving_of-leaver plan q x (Some j) e = ap option_to_list (sym (last_leaving-next plan q x j e))

last_at-end : (plan : Plan) (q : Cell) (x : ℕ) → last_at plan q x (length plan) ≡ leavings plan Deps.Last q (suc x)
unfolding last_at leavings leaver last_leaving_of
last_at-end plan q x = last_leaving_of-leaver plan q x (leaver plan q x) refl

-- under `All`, of agent j, after the agents below m
by_agent : Plan → Cell → ℕ → ℕ → ℕ → Option Await
by_agent plan q x m j = cond (ltb j m) (last_leaving_by plan q (suc x) j) (last_leaving_by plan q x j)

by_agent-done : (plan : Plan) (q : Cell) (x m j : ℕ) → j < m → by_agent plan q x m j ≡ last_leaving_by plan q (suc x) j
unfolding by_agent
by_agent-done plan q x m j h = ap (λ b. cond b (last_leaving_by plan q (suc x) j) (last_leaving_by plan q x j)) (lt-ltb j m h)

by_agent-open : (plan : Plan) (q : Cell) (x m j : ℕ) → m ≤ j → by_agent plan q x m j ≡ last_leaving_by plan q x j
unfolding by_agent
by_agent-open plan q x m j h = ap (λ b. cond b (last_leaving_by plan q (suc x) j) (last_leaving_by plan q x j)) (le-ltb j m h)

by_agent-other : (plan : Plan) (q : Cell) (x m j : ℕ) → j ≢ m → by_agent plan q x (suc m) j ≡ by_agent plan q x m j
by_agent-other plan q x m j ne = elim (cases_lt j m) [
  | inl l ↦ by_agent-done plan q x (suc m) j (omega arith) ∙ sym (by_agent-done plan q x m j l)
  | inr l ↦ by_agent-open plan q x (suc m) j (omega arith) ∙ sym (by_agent-open plan q x m j l)
]

by_agent-agent : (plan : Plan) (q : Cell) (x m j : ℕ) (w : Await) → by_agent plan q x m j ≡ Some w → w.agent ≡ j
by_agent-agent plan q x m j w e = elim (cases_lt j m) [
  | inl l ↦ last_leaving_by-agent plan q (suc x) j w (sym (by_agent-done plan q x m j l) ∙ e)
  | inr l ↦ last_leaving_by-agent plan q x j w (sym (by_agent-open plan q x m j l) ∙ e)
]

filter_map-same : {Y : Type 0} (f g : ℕ → Option Y) (a n : ℕ) → ((j : ℕ) → a ≤ j → j < a + n → f j ≡ g j) → filter_map f (range_with_len a n) ≡ filter_map g (range_with_len a n)
filter_map-same f g a zero h = refl
filter_map-same f g a (suc n) h =
    ap (λ o. cons_option o (filter_map f (range_with_len (a + 1) n))) (h a (omega arith) (omega arith))
    ∙ ap (cons_option (g a)) (filter_map-same f g (a + 1) n (λ j l r. h j (omega arith) (omega arith)))

-- a leaving put before, in place of, or after another
pub put_before : (v : Await) (vs : List Await) (w : Await) → w.agent < v.agent → with_leaving (v ∷ vs) w ≡ w ∷ v ∷ vs
put_before v vs w l =
    ap (λ b. cond b (v ∷ with_leaving vs w) (cond (eqb v.agent w.agent) (w ∷ vs) (w ∷ v ∷ vs))) (le-ltb v.agent w.agent (omega arith))
    ∙ ap (λ b. cond b (w ∷ vs) (w ∷ v ∷ vs)) (package.Rattle.std.proofs.lemmas.Bool.ne_eqb v.agent w.agent (λ e. omega arith))

pub put_here : (v : Await) (vs : List Await) (w : Await) → v.agent ≡ w.agent → with_leaving (v ∷ vs) w ≡ w ∷ vs
put_here v vs w e =
    ap (λ b. cond b (v ∷ with_leaving vs w) (cond (eqb v.agent w.agent) (w ∷ vs) (w ∷ v ∷ vs))) (le-ltb v.agent w.agent (omega arith))
    ∙ ap (λ b. cond b (w ∷ vs) (w ∷ v ∷ vs)) (eq-eqb v.agent w.agent e)

pub put_after : (v : Await) (vs : List Await) (w : Await) → v.agent < w.agent → with_leaving (v ∷ vs) w ≡ v ∷ with_leaving vs w
put_after v vs w l = ap (λ b. cond b (v ∷ with_leaving vs w) (cond (eqb v.agent w.agent) (w ∷ vs) (w ∷ v ∷ vs))) (lt-ltb v.agent w.agent l)

put_first_option : (o : Option Await) (vs : List Await) (w : Await) → ((v : Await) → o ≡ Some v → w.agent < v.agent) → with_leaving vs w ≡ w ∷ vs → with_leaving (cons_option o vs) w ≡ w ∷ cons_option o vs
put_first_option None vs w p h = h
put_first_option (Some v) vs w p h = put_before v vs w (p v refl)

put_here_option : (o : Option Await) (vs : List Await) (w : Await) → ((v : Await) → o ≡ Some v → v.agent ≡ w.agent) → with_leaving vs w ≡ w ∷ vs → with_leaving (cons_option o vs) w ≡ w ∷ vs
put_here_option None vs w p h = h
put_here_option (Some v) vs w p h = put_here v vs w (p v refl)

put_after_option : (o : Option Await) (vs us : List Await) (w : Await) → ((v : Await) → o ≡ Some v → v.agent < w.agent) → with_leaving vs w ≡ us → with_leaving (cons_option o vs) w ≡ cons_option o us
put_after_option None vs us w p h = h
put_after_option (Some v) vs us w p h = put_after v vs w (p v refl) ∙ ap (λ zs. v ∷ zs) h

put_first : (f : ℕ → Option Await) (w : Await) → ((j : ℕ) (v : Await) → f j ≡ Some v → v.agent ≡ j) → (a n : ℕ) → w.agent < a → with_leaving (filter_map f (range_with_len a n)) w ≡ w ∷ filter_map f (range_with_len a n)
put_first f w own a zero l = refl
put_first f w own a (suc n) l =
    put_first_option (f a) (filter_map f (range_with_len (a + 1) n)) w (λ v e. let s : v.agent ≡ a = own a v e in omega arith) (put_first f w own (a + 1) n (omega arith))

-- what is put where agent m stands in the order
put_at : (f g : ℕ → Option Await) (w : Await) (m : ℕ) → w.agent ≡ m → g m ≡ Some w → ((j : ℕ) → j ≢ m → g j ≡ f j) → ((j : ℕ) (v : Await) → f j ≡ Some v → v.agent ≡ j) → (a n : ℕ) → a ≤ m → m < a + n → with_leaving (filter_map f (range_with_len a n)) w ≡ filter_map g (range_with_len a n)
put_at f g w m is here other own a zero p r = absurd (omega arith)
put_at f g w m is here other own a (suc n) p r =
    let fs = filter_map f (range_with_len (a + 1) n) in
    let gs = filter_map g (range_with_len (a + 1) n) in
    let before = λ (l : a + 1 ≤ m). put_at f g w m is here other own (a + 1) n l (omega arith) in
    elim (cases_lt a m) [
      | inl l ↦
          put_after_option (f a) fs gs w (λ v e. let s : v.agent ≡ a = own a v e in omega arith) (before (omega arith))
          ∙ ap (λ o. cons_option o gs) (sym (other a (λ e. omega arith)))
      | inr l ↦
          let z : a ≡ m = omega arith in
          put_here_option (f a) fs w (λ v e. let s : v.agent ≡ a = own a v e in omega arith) (put_first f w own (a + 1) n (omega arith))
          ∙ ap (λ zs. w ∷ zs) (sym (filter_map-same g f (a + 1) n (λ j l r. other j (λ e. omega arith))))
          ∙ sym (ap (λ o. cons_option o gs) (ap g z ∙ here))
    ]

all_at : Plan → Cell → ℕ → ℕ → List Await
all_at plan q x m = filter_map (by_agent plan q x m) (indices (length plan))

all_at-more : (plan : Plan) (q : Cell) (x m : ℕ) → m < length plan → note_by plan Deps.All q x (all_at plan q x m) m ≡ all_at plan q x (suc m)
unfolding all_at await_of
all_at-more plan q x m l = elim (cases_Bool (leaves plan q x m)) [
  | inl h ↦
      note_by-leaves plan Deps.All q x (all_at plan q x m) m h
      ∙ put_at (by_agent plan q x m) (by_agent plan q x (suc m)) (await_of plan x m) m refl (by_agent-done plan q x (suc m) m (omega arith) ∙ last_leaving_by-next plan q x m h) (by_agent-other plan q x m) (by_agent-agent plan q x m) 0
      (length plan) (omega arith) (omega arith)
  | inr h ↦
      note_by-stays plan Deps.All q x (all_at plan q x m) m h
      ∙ filter_map-same (by_agent plan q x m) (by_agent plan q x (suc m)) 0 (length plan) (λ j p r. elim (cases_eq j m) [
        | inl e ↦
            by_agent-open plan q x m j (omega arith)
            ∙ sym (last_leaving_by-same plan q x j (ap (leaves plan q x) e ∙ h))
            ∙ sym (by_agent-done plan q x (suc m) j (omega arith))
        | inr ne ↦ sym (by_agent-other plan q x m j ne)
      ])
]

all_at-begin : (plan : Plan) (q : Cell) (x : ℕ) → all_at plan q x 0 ≡ leavings plan Deps.All q x
unfolding all_at leavings
all_at-begin plan q x = filter_map-same (by_agent plan q x 0) (last_leaving_by plan q x) 0 (length plan) (λ j p r. by_agent-open plan q x 0 j (omega arith))

all_at-end : (plan : Plan) (q : Cell) (x : ℕ) → all_at plan q x (length plan) ≡ leavings plan Deps.All q (suc x)
unfolding all_at leavings
all_at-end plan q x = filter_map-same (by_agent plan q x (length plan)) (last_leaving_by plan q (suc x)) 0 (length plan) (λ j p r. by_agent-done plan q x (length plan) j (omega arith))

noted_by_all : (plan : Plan) (deps : Deps) (q : Cell) (x : ℕ) → fold (note_by plan deps q x) (leavings plan deps q x) (indices (length plan)) ≡ leavings plan deps q (suc x)
noted_by_all plan Deps.All q x =
    ap (λ ws. fold (note_by plan Deps.All q x) ws (indices (length plan))) (sym (all_at-begin plan q x))
    ∙ fold-indices (note_by plan Deps.All q x) (all_at plan q x) (length plan) (all_at-more plan q x)
    ∙ all_at-end plan q x
noted_by_all plan Deps.Last q x =
    ap (λ ws. fold (note_by plan Deps.Last q x) ws (indices (length plan))) (sym (last_at-begin plan q x))
    ∙ fold-indices (note_by plan Deps.Last q x) (last_at plan q x) (length plan) (λ m l. last_at-more plan q x m)
    ∙ last_at-end plan q x

-- what the agents under way do in step x makes the leavings of one step more
pub leavings-next : (plan : Plan) (deps : Deps) (q : Cell) (x : ℕ) → fold (note_by plan deps q x) (leavings plan deps q x) (under_way plan x) ≡ leavings plan deps q (x + 1)
leavings-next plan deps q x =
    fold-filter (note_by plan deps q x) (is_under_way plan x) (λ ws j h. note_by-stays plan deps q x ws j (leaves-still plan q x j (still plan x j h))) (leavings plan deps q x) (indices (length plan))
    ∙ noted_by_all plan deps q x
    ∙ ap (leavings plan deps q) (sym (add-one x))

-- ---- the actions

-- those of all agents, after what agent j does in step x
unfoldable pub add_by : Plan → Deps → ℕ → List (List Action) → ℕ → List (List Action)
add_by plan deps x rows j = cond (changes_in plan j x) (set rows j (get_or rows j [] ++ action_in plan deps j x ∷ [])) rows

pub add_by-changes : (plan : Plan) (deps : Deps) (x : ℕ) (rows : List (List Action)) (j : ℕ) → changes_in plan j x ≡ true → add_by plan deps x rows j ≡ set rows j (get_or rows j [] ++ action_in plan deps j x ∷ [])
unfolding add_by
add_by-changes plan deps x rows j h = ap (λ b. cond b (set rows j (get_or rows j [] ++ action_in plan deps j x ∷ [])) rows) h

pub add_by-stays : (plan : Plan) (deps : Deps) (x : ℕ) (rows : List (List Action)) (j : ℕ) → changes_in plan j x ≡ false → add_by plan deps x rows j ≡ rows
unfolding add_by
add_by-stays plan deps x rows j h = ap (λ b. cond b (set rows j (get_or rows j [] ++ action_in plan deps j x ∷ [])) rows) h

-- of agent j, after the agents below m
row_at : Plan → Deps → ℕ → ℕ → ℕ → List Action
row_at plan deps x m j = cond (ltb j m) (actions_by plan deps (suc x) j) (actions_by plan deps x j)

row_at-done : (plan : Plan) (deps : Deps) (x m j : ℕ) → j < m → row_at plan deps x m j ≡ actions_by plan deps (suc x) j
unfolding row_at
row_at-done plan deps x m j h = ap (λ b. cond b (actions_by plan deps (suc x) j) (actions_by plan deps x j)) (lt-ltb j m h)

row_at-open : (plan : Plan) (deps : Deps) (x m j : ℕ) → m ≤ j → row_at plan deps x m j ≡ actions_by plan deps x j
unfolding row_at
row_at-open plan deps x m j h = ap (λ b. cond b (actions_by plan deps (suc x) j) (actions_by plan deps x j)) (le-ltb j m h)

row_at-other : (plan : Plan) (deps : Deps) (x m j : ℕ) → j ≢ m → row_at plan deps x m j ≡ row_at plan deps x (suc m) j
row_at-other plan deps x m j ne = elim (cases_lt j m) [
  | inl l ↦ row_at-done plan deps x m j l ∙ sym (row_at-done plan deps x (suc m) j (omega arith))
  | inr l ↦ row_at-open plan deps x m j l ∙ sym (row_at-open plan deps x (suc m) j (omega arith))
]

rows_at : Plan → Deps → ℕ → ℕ → List (List Action)
rows_at plan deps x m = map (row_at plan deps x m) (indices (length plan))

length-rows_at : (plan : Plan) (deps : Deps) (x m : ℕ) → length (rows_at plan deps x m) ≡ length plan
unfolding rows_at
length-rows_at plan deps x m = length-map-range_with_len (row_at plan deps x m) 0 (length plan)

get_or-rows_at : (plan : Plan) (deps : Deps) (x m j : ℕ) (d : List Action) → j < length plan → get_or (rows_at plan deps x m) j d ≡ row_at plan deps x m j
unfolding rows_at
get_or-rows_at plan deps x m j d l = get_or-map-range_with_len (row_at plan deps x m) 0 (length plan) j j d l (omega arith)

rows_at-same : (plan : Plan) (deps : Deps) (x m : ℕ) (rows : List (List Action)) → length rows ≡ length plan → ((j : ℕ) (d : List Action) → j < length plan → get_or rows j d ≡ row_at plan deps x m j) → rows ≡ rows_at plan deps x m
rows_at-same plan deps x m rows long each =
    same_lists rows (rows_at plan deps x m) (long ∙ sym (length-rows_at plan deps x m)) (λ j d l. each j d (omega (arith, long)) ∙ sym (get_or-rows_at plan deps x m j d (omega (arith, long))))

rows_at-more : (plan : Plan) (deps : Deps) (x m : ℕ) → m < length plan → add_by plan deps x (rows_at plan deps x m) m ≡ rows_at plan deps x (suc m)
rows_at-more plan deps x m l =
    let rows = rows_at plan deps x m in
    let row = get_or rows m [] ++ action_in plan deps m x ∷ [] in
    elim (cases_Bool (changes_in plan m x)) [
      | inl h ↦
          add_by-changes plan deps x rows m h
          ∙ rows_at-same plan deps x (suc m) (set rows m row) (length-set rows m row ∙ length-rows_at plan deps x m) (λ j d b. elim (cases_eq j m) [
            | inl e ↦
                ap (λ k. get_or (set rows m row) k d) e
                ∙ get_or-set_same rows m row d (omega (arith, length-rows_at plan deps x m))
                ∙ ap (λ zs. zs ++ action_in plan deps m x ∷ []) (get_or-rows_at plan deps x m m [] l ∙ row_at-open plan deps x m m (omega arith))
                ∙ sym (actions-next plan deps m x h)
                ∙ sym (row_at-done plan deps x (suc m) m (omega arith))
                ∙ ap (row_at plan deps x (suc m)) (sym e)
            | inr ne ↦ get_or-set_other rows m j row d ne ∙ get_or-rows_at plan deps x m j d b ∙ row_at-other plan deps x m j ne
          ])
      | inr h ↦
          add_by-stays plan deps x rows m h
          ∙ rows_at-same plan deps x (suc m) rows (length-rows_at plan deps x m) (λ j d b. elim (cases_eq j m) [
            | inl e ↦
                get_or-rows_at plan deps x m j d b
                ∙ row_at-open plan deps x m j (omega arith)
                ∙ sym (actions-same plan deps j x (ap (λ k. changes_in plan k x) e ∙ h))
                ∙ sym (row_at-done plan deps x (suc m) j (omega arith))
            | inr ne ↦ get_or-rows_at plan deps x m j d b ∙ row_at-other plan deps x m j ne
          ])
    ]

rows_at-begin : (plan : Plan) (deps : Deps) (x : ℕ) → all_actions_by plan deps x ≡ rows_at plan deps x 0
rows_at-begin plan deps x =
    rows_at-same plan deps x 0 (all_actions_by plan deps x) (length-map-range_with_len (actions_by plan deps x) 0 (length plan))
    (λ j d l. get_or-map-range_with_len (actions_by plan deps x) 0 (length plan) j j d l (omega arith) ∙ sym (row_at-open plan deps x 0 j (omega arith)))

rows_at-end : (plan : Plan) (deps : Deps) (x : ℕ) → all_actions_by plan deps (suc x) ≡ rows_at plan deps x (length plan)
rows_at-end plan deps x =
    rows_at-same plan deps x (length plan) (all_actions_by plan deps (suc x)) (length-map-range_with_len (actions_by plan deps (suc x)) 0 (length plan))
    (λ j d l. get_or-map-range_with_len (actions_by plan deps (suc x)) 0 (length plan) j j d l (omega arith) ∙ sym (row_at-done plan deps x (length plan) j l))

-- what the agents under way do in step x makes the actions of one step more
pub all_actions_by-next : (plan : Plan) (deps : Deps) (x : ℕ) → fold (add_by plan deps x) (all_actions_by plan deps x) (under_way plan x) ≡ all_actions_by plan deps (x + 1)
all_actions_by-next plan deps x =
    fold-filter (add_by plan deps x) (is_under_way plan x) (λ rows j h. add_by-stays plan deps x rows j (still plan x j h)) (all_actions_by plan deps x) (indices (length plan))
    ∙ ap (λ rows. fold (add_by plan deps x) rows (indices (length plan))) (rows_at-begin plan deps x)
    ∙ fold-indices (add_by plan deps x) (rows_at plan deps x) (length plan) (rows_at-more plan deps x)
    ∙ sym (rows_at-end plan deps x)
    ∙ ap (all_actions_by plan deps) (sym (add-one x))
