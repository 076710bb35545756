-- The actions in three rows: how many they are, each of them, and one more.
use Rattle.std.proofs.Common.{◌≡◌, ℕ, zero, suc, ◌+◌, ◌-◌, ◌<◌, ◌≤◌, List, [], ◌∷◌, ◌++◌, length, take, drop, get_or, refl, sym, ap, ◌∙◌, arith}
use Rattle.std.specs.Prelude.{slice_get, slice_range, sum_by, option_map, Some, All}
use Rattle.std.proofs.lemmas.List.Elements.{All-get_or, All-more}
use Rattle.std.proofs.lemmas.Option.{same_Some, slice_get-get_or}
use Rattle.std.proofs.lemmas.List.{get_or_default, take-append-le, drop-append-le, length-append, length-drop, length-take-le, length-map, map-append, get_or-map}
use Rattle.std.proofs.Math.Seq.{drop-append_seam, take-length}
use Rattle.std.proofs.lemmas.List.Sums.{sum_by-cons}
use Rattle.fleet_model.specs.declared.geometry.Step.{Step}
use Rattle.fleet_model.specs.declared.geometry.Step.TheVariants.{Dwell}
use Rattle.fleet_model.specs.declared.program.Await.{Await}
use Rattle.fleet_model.specs.declared.program.Action.{Action}
use Rattle.fleet_model.specs.declared.geometry.StepCode.{StepCode}
use Rattle.fleet_model.specs.ActionRows.{coded_step, steps_in, actions_after, actions_in, RiseTo, AreRows}

-- as many as there are steps
length_after : (begin : ℕ) (steps : List Step) (ends : List ℕ) (awaits : List Await) → length ends ≡ length steps
    → length (actions_after begin steps ends awaits) ≡ length steps
length_after begin [] ends awaits same = refl
length_after begin (s ∷ steps) [] awaits same = absurd (omega (arith, same))
length_after begin (s ∷ steps) (e ∷ ends) awaits same = ap suc (length_after e steps ends awaits (omega (arith, same)))

pub actions_long : (steps : List Step) (ends : List ℕ) (awaits : List Await) → AreRows steps ends awaits → length (actions_in steps ends awaits) ≡ length steps
actions_long steps ends awaits rows = length_after 0 steps ends awaits rows.count

-- as many as there are codes
pub codes_long : (codes : List StepCode) (ends : List ℕ) (awaits : List Await) → AreRows (steps_in codes) ends awaits
    → length (actions_in (steps_in codes) ends awaits) ≡ length codes
codes_long codes ends awaits rows = actions_long (steps_in codes) ends awaits rows ∙ length-map codes coded_step

-- the step at a place, by its code
pub code_there : (codes : List StepCode) (k : ℕ) (code : StepCode) (s : Step) → k < length (steps_in codes) → code ≡ get_or codes k code → s ≡ coded_step code
    → s ≡ get_or (steps_in codes) k s
code_there codes k code s lt is coded =
    let within : k < length codes = rw (length-map codes coded_step) at lt in
    coded ∙ ap coded_step is ∙ sym (get_or-map coded_step codes k code s within)

-- one more step, by its code
pub code_more : (codes codes' : List StepCode) (code : StepCode) (s : Step) → codes' ≡ codes ++ code ∷ [] → coded_step code ≡ s
    → steps_in codes' ≡ steps_in codes ++ s ∷ []
code_more codes codes' code s more coded = ap steps_in more ∙ map-append coded_step codes (code ∷ []) ∙ ap (λ x. steps_in codes ++ x ∷ []) coded

-- the action at a place
there_after : (begin : ℕ) (steps : List Step) (ends : List ℕ) (awaits : List Await) (k : ℕ) (d : Step) → length ends ≡ length steps → k < length steps
    → slice_get (actions_after begin steps ends awaits) k
    ≡ Some (record { step = get_or steps k d; awaits = slice_range awaits (get_or (begin ∷ ends) k 0) (get_or ends k 0) })
there_after begin [] ends awaits k d same lt = absurd (omega (arith, lt))
there_after begin (s ∷ steps) [] awaits k d same lt = absurd (omega (arith, same))
there_after begin (s ∷ steps) (e ∷ ends) awaits zero d same lt = refl
there_after begin (s ∷ steps) (e ∷ ends) awaits (suc k) d same lt = there_after e steps ends awaits k d (omega (arith, same)) (omega (arith, lt))

pub action_there : (steps : List Step) (ends : List ℕ) (awaits : List Await) (k : ℕ) (d : Step) → AreRows steps ends awaits → k < length steps
    → slice_get (actions_in steps ends awaits) k
    ≡ Some (record { step = get_or steps k d; awaits = slice_range awaits (get_or (0 ∷ ends) k 0) (get_or ends k 0) })
action_there steps ends awaits k d rows lt = there_after 0 steps ends awaits k d rows.count lt

-- an end is at least the one before, and at most the last
rises_to_last : (begin : ℕ) (ends : List ℕ) (n : ℕ) → RiseTo begin ends n → begin ≤ n
rises_to_last begin [] n rise = omega (arith, rise)
rises_to_last begin (e ∷ ends) n rise = let rest = rises_to_last e ends n rise.1 in omega (arith, rise.0, rest)

pub rises_at : (begin : ℕ) (ends : List ℕ) (n k : ℕ) → RiseTo begin ends n → k < length ends → (get_or (begin ∷ ends) k 0 ≤ get_or ends k 0) × (get_or ends k 0 ≤ n)
rises_at begin [] n k rise lt = absurd (omega (arith, lt))
rises_at begin (e ∷ ends) n zero rise lt = (rise.0, rises_to_last e ends n rise.1)
rises_at begin (e ∷ ends) n (suc k) rise lt = rises_at e ends n k rise.1 (omega (arith, lt))

-- one more end
rises_further : (begin : ℕ) (ends : List ℕ) (n m : ℕ) → RiseTo begin ends n → n ≤ m → RiseTo begin (ends ++ m ∷ []) m
rises_further begin [] n m rise le = (omega (arith, rise, le), refl)
rises_further begin (e ∷ ends) n m rise le = (rise.0, rises_further e ends n m rise.1 le)

-- one more action
one_after : (begin : ℕ) (steps : List Step) (ends : List ℕ) (awaits : List Await) (s : Step) (more : List Await) (end : ℕ)
    → length ends ≡ length steps → RiseTo begin ends (length awaits) → end ≡ length awaits + length more
    → actions_after begin (steps ++ s ∷ []) (ends ++ end ∷ []) (awaits ++ more)
    ≡ actions_after begin steps ends awaits ++ record { step = s; awaits = more } ∷ []
one_after begin [] [] awaits s more end same rise is =
    let rest : end - begin ≡ length more = omega (arith, rise, is) in
    let own : slice_range (awaits ++ more) begin end ≡ more = rw (rest, rise, drop-append_seam awaits more, take-length more) refl in
    ap (λ (ws : List Await). record { step = s; awaits = ws } ∷ []) own
one_after begin [] (e ∷ ends) awaits s more end same rise is = absurd (omega (arith, same))
one_after begin (t ∷ steps) [] awaits s more end same rise is = absurd (omega (arith, same))
one_after begin (t ∷ steps) (e ∷ ends) awaits s more end same rise is =
    let within = rises_to_last e ends (length awaits) rise.1 in
    let before = rise.0 in
    let long : length (drop begin awaits) ≡ length awaits - begin = length-drop begin awaits in
    let own : slice_range (awaits ++ more) begin e ≡ slice_range awaits begin e =
    rw (drop-append-le begin awaits more (omega (arith, within, before)), take-append-le (e - begin) (drop begin awaits) more (omega (arith, within, long))) refl in
    let rest = one_after e steps ends awaits s more end (omega (arith, same)) rise.1 is in
    rw (own, rest) refl

pub one_action_more : (steps : List Step) (ends : List ℕ) (awaits : List Await) (s : Step) (more : List Await) (end : ℕ)
    → AreRows steps ends awaits → end ≡ length awaits + length more
    → actions_in (steps ++ s ∷ []) (ends ++ end ∷ []) (awaits ++ more) ≡ actions_in steps ends awaits ++ record { step = s; awaits = more } ∷ []
one_action_more steps ends awaits s more end rows is = one_after 0 steps ends awaits s more end rows.count rows.rising is

pub rows_further : (steps : List Step) (ends : List ℕ) (awaits : List Await) (s : Step) (more : List Await) (end : ℕ)
    → AreRows steps ends awaits → end ≡ length awaits + length more → AreRows (steps ++ s ∷ []) (ends ++ end ∷ []) (awaits ++ more)
rows_further steps ends awaits s more end rows is =
    let long : length (awaits ++ more) ≡ end = length-append awaits more ∙ sym is in
    record {
      count = length-append ends (end ∷ []) ∙ ap (λ n. n + 1) rows.count ∙ sym (length-append steps (s ∷ []));
      rising = rw long (rises_further 0 ends (length awaits) end rows.rising (omega (arith, is)));
    }

-- ---- what the calls on rows read and leave

pub step_there : (steps : List Step) (ends : List ℕ) (awaits : List Await) (k : ℕ) (s : Step) → AreRows steps ends awaits → k < length steps → s ≡ get_or steps k s
    → option_map (λ a. a.step) (slice_get (actions_in steps ends awaits) k) ≡ Some s
step_there steps ends awaits k s rows lt is = ap (option_map (λ (a : Action). a.step)) (action_there steps ends awaits k s rows lt) ∙ ap (λ (x : Step). Some x) (sym is)

pub bounds_there : (steps : List Step) (ends : List ℕ) (awaits : List Await) (k begin end : ℕ) → AreRows steps ends awaits → k < length steps
    → begin ≡ get_or (0 ∷ ends) k 0 → end ≡ get_or ends k end → (begin ≤ end) × (end ≤ length awaits)
bounds_there steps ends awaits k begin end rows lt first last =
    let within : k < length ends = omega (arith, lt, rows.count) in
    let rise = rises_at 0 ends (length awaits) k rows.rising within in
    let same : end ≡ get_or ends k 0 = last ∙ get_or_default ends k end 0 within in
    let least = rise.0 in
    let most = rise.1 in
    (omega (arith, least, first, same), omega (arith, most, same))

pub awaits_there : (steps : List Step) (ends : List ℕ) (awaits : List Await) (k begin end : ℕ) (d : Step) → AreRows steps ends awaits → k < length steps
    → begin ≡ get_or (0 ∷ ends) k 0 → end ≡ get_or ends k end
    → option_map (λ a. a.awaits) (slice_get (actions_in steps ends awaits) k) ≡ Some (slice_range awaits begin end)
awaits_there steps ends awaits k begin end d rows lt first last =
    let within : k < length ends = omega (arith, lt, rows.count) in
    let same : end ≡ get_or ends k 0 = last ∙ get_or_default ends k end 0 within in
    ap (option_map (λ (a : Action). a.awaits)) (action_there steps ends awaits k d rows lt)
    ∙ (λ t. Some (slice_range awaits (sym first t) (sym same t)))

pub pushed : (steps steps' : List Step) (ends ends' : List ℕ) (awaits awaits' : List Await) (s : Step) (more : List Await) (end : ℕ) → AreRows steps ends awaits
    → end ≡ length awaits + length more → steps' ≡ steps ++ s ∷ [] → ends' ≡ ends ++ end ∷ [] → awaits' ≡ awaits ++ more
    → AreRows steps' ends' awaits' × (actions_in steps' ends' awaits' ≡ actions_in steps ends awaits ++ record { step = s; awaits = more } ∷ [])
pushed steps steps' ends ends' awaits awaits' s more end rows is a b c =
    rw (a, b, c) (rows_further steps ends awaits s more end rows is, one_action_more steps ends awaits s more end rows is)

-- ---- a pass over the actions, by their places

free : Action
free = record { step = Dwell; awaits = [] }

-- what is read of an action
read_is : {Y : Type 0} (f : Action → Y) (actions : List Action) (k : ℕ) (y : Y) → k < length actions → option_map f (slice_get actions k) ≡ Some y → f (get_or actions k free) ≡ y
read_is f actions k y lt is = same_Some (f (get_or actions k free)) y ((λ t. option_map f (sym (slice_get-get_or actions k free lt) t)) ∙ is)

-- it holds of one action more
pub all_more : {Y : Type 0} (f : Action → Y) (P : Y → Type 0) (actions : List Action) (k : ℕ) (y : Y) → k < length actions → option_map f (slice_get actions k) ≡ Some y
    → All (λ s. P (f s)) (take k actions) → P y → All (λ s. P (f s)) (take (k + 1) actions)
all_more f P actions k y lt is before this = All-more (λ (s : Action). P (f s)) actions k free lt before (rw (read_is f actions k y lt is) this)

pub all_at : {Y : Type 0} (f : Action → Y) (P : Y → Type 0) (actions : List Action) (k : ℕ) (y : Y) → k < length actions → option_map f (slice_get actions k) ≡ Some y
    → All (λ s. P (f s)) actions → P y
all_at f P actions k y lt is all = rw (read_is f actions k y lt is) at (All-get_or (λ (s : Action). P (f s)) actions k free lt all)

-- an action is its step and its awaits
pub action_is : (actions : List Action) (k : ℕ) (s : Step) (ws : List Await) → k < length actions → option_map (λ a. a.step) (slice_get actions k) ≡ Some s
    → option_map (λ a. a.awaits) (slice_get actions k) ≡ Some ws → slice_get actions k ≡ Some (record { step = s; awaits = ws })
action_is actions k s ws lt step awaits =
    slice_get-get_or actions k free lt
    ∙ (λ t. Some (record { step = read_is (λ (a : Action). a.step) actions k s lt step t; awaits = read_is (λ (a : Action). a.awaits) actions k ws lt awaits t }))

-- ---- how many awaits the first actions have

sum_after : (begin : ℕ) (steps : List Step) (ends : List ℕ) (awaits : List Await) (k : ℕ) → length ends ≡ length steps → RiseTo begin ends (length awaits) → k ≤ length steps
    → begin + sum_by (λ (a : Action). length a.awaits) (take k (actions_after begin steps ends awaits)) ≡ get_or (begin ∷ ends) k 0
sum_after begin steps ends awaits zero same rise le = omega arith
sum_after begin [] ends awaits (suc k) same rise le = absurd (omega (arith, le))
sum_after begin (s ∷ steps) [] awaits (suc k) same rise le = absurd (omega (arith, same))
sum_after begin (s ∷ steps) (e ∷ ends) awaits (suc k) same rise le =
    let low : begin ≤ e = rise.0 in
    let last : e ≤ length awaits = rises_to_last e ends (length awaits) rise.1 in
    let own : length (slice_range awaits begin e) ≡ e - begin = length-take-le (e - begin) (drop begin awaits) (omega (arith, low, last, length-drop begin awaits)) in
    let rest = sum_after e steps ends awaits k (omega (arith, same)) rise.1 (omega (arith, le)) in
    let first = sum_by-cons (λ (a : Action). length a.awaits) (record { step = s; awaits = slice_range awaits begin e }) (take k (actions_after e steps ends awaits)) in
    ap (λ (n : ℕ). begin + n) first ∙ omega (arith, low, own) ∙ rest

pub sum_there : (steps : List Step) (ends : List ℕ) (awaits : List Await) (k : ℕ) → AreRows steps ends awaits → k ≤ length steps
    → get_or (0 ∷ ends) k 0 ≡ sum_by (λ (a : Action). length a.awaits) (take k (actions_in steps ends awaits))
sum_there steps ends awaits k rows le = let sum = sum_after 0 steps ends awaits k rows.count rows.rising le in omega (arith, sum)
