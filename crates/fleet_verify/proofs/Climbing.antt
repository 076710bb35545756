-- Rows of levels that climb.
use Rattle.fleet_verify.proofs.Words.{◌≡◌, ◌≢◌, ℕ, zero, suc, ◌+◌, ◌-◌, ◌<◌, ◌≤◌, List, [], ◌∷◌, ◌++◌, length, get_or, set, slice_index, refl, sym, ap, ◌∙◌, subst, arith, inl, inr, All, get_or-set_same, get_or-set_other, length-set, length-append, get_or_default, Bool, IsTrue, Cell, Place, Await, place_of, stepped, Program, moves, path, MAX_COORDINATE, cases_lt, Ground, IsGround, is_passable, ℤ, pos, negsuc, passable_at, true, false, set-get_or, get_or-append_seam, Piece, level_at, levels_to, last_level, climbed_by, climbed, false≢true, off_map, Ahead, Needs, Runner, kept_at, AddsLevel, IsAhead, IsAheadBy, IsArrival, HasCome, IsRunner, AreNeeds, IsKeptBack, climbed_in, count_in, stand, IsStop, IsStopAt, LeavesGround}
use Rattle.std.proofs.Math.Nat.{add-zero}
use Rattle.fleet_verify.specs.declared.unheld_run.Stop.{Stop}
use Rattle.fleet_verify.specs.declared.unheld_run.Stop.TheVariants.{OutOfMemory, OffGround}
use Rattle.fleet_verify.proofs.NextLevel.{place_at, leads_on}
use Rattle.fleet_verify.proofs.PieceLaws.{row_last, push_same}

-- ---- rows

pub last_push : (row : List ℕ) (l : ℕ) → last_level (row ++ l ∷ []) ≡ l
last_push row l =
    let more = length-append row (l ∷ []) in
    let at : length (row ++ l ∷ []) - 1 ≡ length row = omega (arith, more) in
    ap (λ (n : ℕ). slice_index (row ++ l ∷ []) n) at ∙ get_or-append_seam row l [] 0

by_length : (n : ℕ) (row : List ℕ) → length (climbed_by n row) ≡ length row + n
by_length zero row = sym (add-zero (length row))
by_length (suc n) row =
    let before = by_length n row in
    let more = length-append (climbed_by n row) ((last_level (climbed_by n row) + 1) ∷ []) in
    omega (arith, before, more)

pub by_last : (n : ℕ) (row : List ℕ) → last_level (climbed_by n row) ≡ last_level row + n
by_last zero row = sym (add-zero (last_level row))
by_last (suc n) row =
    let before = by_last n row in
    let more = last_push (climbed_by n row) (last_level (climbed_by n row) + 1) in
    omega (arith, before, more)

-- the row is as long as it has climbed
pub climbed_length : (row : List ℕ) (count : ℕ) → length row ≤ count → length (climbed row count) ≡ count
climbed_length row count le =
    let long = by_length (count - length row) row in
    omega (arith, long, le)

pub climbed_last : (row : List ℕ) (count : ℕ) → last_level (climbed row count) ≡ last_level row + (count - length row)
climbed_last row count = by_last (count - length row) row

-- a row that does not climb
pub climbed_now : (row : List ℕ) (count : ℕ) → count ≡ length row → climbed row count ≡ row
climbed_now row count e =
    let none : count - length row ≡ 0 = omega (arith, e) in
    ap (λ (n : ℕ). climbed_by n row) none

-- one level more
pub climbed_next : (row : List ℕ) (count : ℕ) → length row ≤ count → climbed row (count + 1) ≡ climbed row count ++ (last_level (climbed row count) + 1) ∷ []
climbed_next row count le =
    let one : count + 1 - length row ≡ suc (count - length row) = omega (arith, le) in
    ap (λ (n : ℕ). climbed_by n row) one

-- ---- the rows of all agents

pub own_row : (rows : List (List ℕ)) (i count : ℕ) → i < length rows → get_or (climbed_in rows i count) i [] ≡ climbed (get_or rows i []) count
own_row rows i count lt = get_or-set_same rows i (climbed (get_or rows i []) count) [] lt

pub other_row : (rows : List (List ℕ)) (i count j : ℕ) → j ≢ i → get_or (climbed_in rows i count) j [] ≡ get_or rows j []
other_row rows i count j ne = get_or-set_other rows i j (climbed (get_or rows i []) count) [] ne

pub own_count : (rows : List (List ℕ)) (i count : ℕ) → i < length rows → count_in rows i ≤ count → count_in (climbed_in rows i count) i ≡ count
own_count rows i count lt le = ap (λ (row : List ℕ). length row) (own_row rows i count lt) ∙ climbed_length (get_or rows i []) count le

-- rows of which none climbs
pub none_climbs : (rows : List (List ℕ)) (i count : ℕ) → count ≡ count_in rows i → climbed_in rows i count ≡ rows
none_climbs rows i count e = ap (set rows i) (climbed_now (get_or rows i []) count e) ∙ set-get_or rows i []

-- an agent's row that climbs by one more
pub raised_next : (rows : List (List ℕ)) (i count level : ℕ) → i < length rows → count_in rows i ≤ count → level ≡ last_level (climbed (get_or rows i []) count) + 1
    → AddsLevel (climbed_in rows i count) (climbed_in rows i (count + 1)) i level
raised_next rows i count level lt le e = record {
  own =
      own_row rows i (count + 1) lt
      ∙ (climbed_next (get_or rows i []) count le
      ∙ (ap (λ (l : ℕ). climbed (get_or rows i []) count ++ l ∷ []) (sym e)
      ∙ ap (λ (row : List ℕ). row ++ level ∷ []) (sym (own_row rows i count lt))));
  others = λ j ne. other_row rows i (count + 1) j ne ∙ sym (other_row rows i count j ne);
}

-- an agent's row that jumps to another level
pub raised_begun : (rows : List (List ℕ)) (row : List ℕ) (i at count level : ℕ) → i < length rows → count_in rows i ≤ count → at ≡ i → row ≡ climbed (get_or rows i []) count ++ level ∷ [] → count_in (set rows at row) i ≤ count + 1
raised_begun rows row i at count level lt le same is =
    let here : get_or (set rows at row) i [] ≡ row = ap (λ (k : ℕ). get_or (set rows k row) i []) same ∙ get_or-set_same rows i row [] lt in
    let long = ap (λ (r : List ℕ). length r) (here ∙ is) in
    let more = length-append (climbed (get_or rows i []) count) (level ∷ []) in
    let before = climbed_length (get_or rows i []) count le in
    omega (arith, long, more, before)

pub raised_by : (rows new : List (List ℕ)) (row : List ℕ) (i count level : ℕ) → i < length rows → count_in rows i ≤ count → row ≡ climbed (get_or rows i []) count ++ level ∷ [] → new ≡ set rows i row
    → AddsLevel (climbed_in rows i count) (climbed_in new i (count + 1)) i level
raised_by rows new row i count level lt le is made = record {
  own =
      own_row new i (count + 1) there
      ∙ (climbed_now (get_or new i []) (count + 1) (sym long)
      ∙ (here ∙ (is ∙ ap (λ (r : List ℕ). r ++ level ∷ []) (sym (own_row rows i count lt)))));
  others = λ j ne.
      other_row new i (count + 1) j ne
      ∙ (ap (λ (rs : List (List ℕ)). get_or rs j []) made ∙ (get_or-set_other rows i j row [] ne ∙ sym (other_row rows i count j ne)));
}
  where
    there : i < length new
    there = (let same = ap (λ (rs : List (List ℕ)). length rs) made in let kept = length-set rows i row in omega (arith, same, kept, lt))

    here : get_or new i [] ≡ row
    here = ap (λ (rs : List (List ℕ)). get_or rs i []) made ∙ get_or-set_same rows i row [] lt

    long : length (get_or new i []) ≡ count + 1
    long =
        let own = ap (λ (r : List ℕ). length r) (here ∙ is) in
        let more = length-append (climbed (get_or rows i []) count) (level ∷ []) in
        let before = climbed_length (get_or rows i []) count le in
        omega (arith, own, more, before)

-- the row that stands there is that of the agent
pub row_there : (rows : List (List ℕ)) (i at : ℕ) (row : List ℕ) → i < length rows → at ≡ i → row ≡ get_or rows at row → row ≡ get_or rows i []
row_there rows i at row lt same is = is ∙ (ap (λ (k : ℕ). get_or rows k row) same ∙ get_or_default rows i row [] lt)

-- ---- pieces

pub record ClimbsTo (pieces : List Piece) (count last n : ℕ) : Type 0 where
  pub row : levels_to pieces (count + n) ≡ climbed_by n (levels_to pieces count)
  pub last_is : last + n ≡ level_at pieces (count + n)
  pub begun : All (λ q. q.first ≤ count + n) pieces

pub climb_on : (pieces : List Piece) (count last : ℕ) → last ≡ level_at pieces count → (count ≡ 0 → last ≡ 0) → All (λ q. q.first ≤ count) pieces → (n : ℕ) → ClimbsTo pieces count last n
climb_on pieces count last is none begun zero = record {
  row = ap (levels_to pieces) (add-zero count);
  last_is = add-zero last ∙ (is ∙ ap (level_at pieces) (sym (add-zero count)));
  begun = λ k d l. omega (arith, begun k d l);
}
climb_on pieces count last is none begun (suc n) =
    let before = climb_on pieces count last is none begun n in
    let next = push_same pieces (count + n) (last + n) (last + n + 1) before.last_is before.begun refl in
    let own = row_last pieces (count + n) (last + n) before.last_is (λ e. let zeros : count ≡ 0 = omega (arith, e) in omega (arith, none zeros, e)) in
    let one : count + suc n ≡ count + n + 1 = omega arith in
    let top : last + suc n ≡ last + n + 1 = omega arith in
    let level : last + n + 1 ≡ last_level (climbed_by n (levels_to pieces count)) + 1 = ap (λ (l : ℕ). l + 1) (own ∙ ap last_level before.row) in
    record {
      row = ap (levels_to pieces) one ∙ (next.0 ∙ (ap (λ (l : ℕ). levels_to pieces (count + n) ++ l ∷ []) level ∙ ap (λ (row : List ℕ). row ++ (last_level (climbed_by n (levels_to pieces count)) + 1) ∷ []) before.row));
      last_is = top ∙ (next.1 ∙ ap (level_at pieces) (sym one));
      begun = λ k d l. omega (arith, before.begun k d l);
    }

-- ---- one agent that runs on

pub own_there : (rows : List (List ℕ)) (i count n : ℕ) → length (climbed_in rows i count) ≡ n → i < n → i < length rows
own_there rows i count n e lt =
    let kept = length-set rows i (climbed (get_or rows i []) count) in
    omega (arith, kept, e, lt)

pub raised_last : (rows new : List (List ℕ)) (i count level : ℕ) → i < length new → AddsLevel rows (climbed_in new i count) i level → level ≡ last_level (climbed (get_or new i []) count)
raised_last rows new i count level lt adds = sym (last_push (get_or rows i []) level) ∙ ap last_level (sym adds.own ∙ own_row new i count lt)

module _ {passable : Place → Bool} {p : Program} {offset : (i finished k : ℕ) → ℕ} {a : Ahead} {i : ℕ} {r : Runner} (h : IsRunner passable p offset a i r) where
  pub runner_there : i < length a.rows.items
  runner_there = own_there a.rows.items i r.finished (length p) h.ahead.rows h.agent

  pub runner_count : count_in (climbed_in a.rows.items i r.finished) i ≡ r.finished
  runner_count = own_count a.rows.items i r.finished runner_there h.begun

  pub runner_within : r.finished ≤ moves p i
  runner_within = omega (arith, runner_count, h.ahead.ranked.within i)

  pub runner_place : place_of (stand r) ≡ path p i r.finished
  runner_place = place_at passable p (climbed_in a.rows.items i r.finished) a.cells.items (kept_at a.last) a.pairs.items i r.finished (stand r) h.ahead h.agent (sym runner_count)

  pub runner_rows : length a.rows.items ≡ length p
  runner_rows = sym (length-set a.rows.items i (climbed (get_or a.rows.items i []) r.finished)) ∙ h.ahead.rows

-- what keeps an agent back that stops
pub kept_back : (p : Program) (new rows : List (List ℕ)) (i n : ℕ) (w : Await) → new ≡ rows → count_in rows i ≡ n → IsKeptBack p rows i (n + 1) w → IsKeptBack p new i (count_in new i + 1) w
kept_back p new rows i n w same count kept =
    subst (λ (rs : List (List ℕ)). IsKeptBack p rs i (count_in rs i + 1) w) (sym same) (subst (λ (m : ℕ). IsKeptBack p rows i (m + 1) w) (sym count) kept)

-- an agent that has not run on yet
pub runner_begins : (passable : Place → Bool) (p : Program) (offset : (i finished k : ℕ) → ℕ) (a : Ahead) (i : ℕ) (r : Runner) → IsAhead passable p a → i < length p → HasCome offset a i r → IsRunner passable p offset a i r
runner_begins passable p offset a i r h agent come = record {
  agent = agent;
  begun = omega (arith, come.finished);
  level = come.level ∙ ap last_level (sym (climbed_now (get_or a.rows.items i []) r.finished come.finished));
  at = come.at;
  ahead =
      let rows = none_climbs a.rows.items i r.finished come.finished in
      let cells : set a.cells.items i (stand r) ≡ a.cells.items = ap (set a.cells.items i) come.cell ∙ set-get_or a.cells.items i (stand r) in
      subst (λ (rs : List (List ℕ)). IsAheadBy passable p rs (set a.cells.items i (stand r)) (kept_at a.last) a.pairs.items) (sym rows)
      (subst (λ (cs : List Cell). IsAheadBy passable p a.rows.items cs (kept_at a.last) a.pairs.items) (sym cells) h);
}

-- where an agent that runs on comes to by its next action
module _ {passable : Place → Bool} {p : Program} {offset : (i finished k : ℕ) → ℕ} {a : Ahead} {i : ℕ} {r : Runner} (h : IsRunner passable p offset a i r) where
  pub runner_ground : IsTrue (passable (place_of (stand r)))
  runner_ground =
      let count = runner_count h in
      subst (λ (q : Place). IsTrue (passable q)) (sym (runner_place h)) (h.ahead.begun.on_ground i r.finished h.agent (omega (arith, count)))

  pub arrival_by : {needs : Needs} → r.finished < moves p i → AreNeeds p offset (climbed_in a.rows.items i r.finished) i r.finished needs → IsArrival p (record { agent = i; position = r.finished + 1 }) needs
  arrival_by {needs = needs} left n = record {
    first = omega arith;
    last = omega (arith, left);
    step = n.step;
    latest = n.latest;
  }

  pub arrival_here : {needs : Needs} → AreNeeds p offset (climbed_in a.rows.items i r.finished) i r.finished needs → (cell : Cell) → place_of cell ≡ stepped (place_of (stand r)) needs.step → place_of cell ≡ path p i (r.finished + 1)
  arrival_here {needs = needs} n cell to = to ∙ leads_on p i r.finished needs.step (place_of (stand r)) n.step (runner_place h)

-- passable ground ends before the numbers of a cell do
pub within_numbers : (g : Ground) → IsGround g → (c : Cell) → IsTrue (is_passable g (place_of c)) → (c.x < MAX_COORDINATE) × (c.y < MAX_COORDINATE)
within_numbers g sizes c ground = (
  elim (cases_lt c.x g.width) [
    | inl lt ↦ omega (arith, lt, sizes.width.few)
    | inr ge ↦ absurd (false≢true (sym (off_map g c.x c.y sizes (inl ge)) ∙ ground))
  ],
  elim (cases_lt c.y g.height) [
    | inl lt ↦ omega (arith, lt, sizes.height.few)
    | inr ge ↦ absurd (false≢true (sym (off_map g c.x c.y sizes (inr ge)) ∙ ground))
  ],
)

-- a passable place is a cell
cell_of : (g : Ground) (x y : ℤ) → passable_at g x y ≡ true → (c : Cell) × (place_of c ≡ record { x = x; y = y })
cell_of g (pos x) (pos y) h = (record { x = x; y = y }, refl)
cell_of g (pos x) (negsuc y) h = absurd (false≢true h)
cell_of g (negsuc x) y h = absurd (false≢true h)

-- the one cell that this place of a path can be is not passable
pub off_ground : (g : Ground) (p : Program) (i n : ℕ) (q : Place) (cell : Cell) → i < length p → n ≤ moves p i → q ≡ path p i n → ((c : Cell) → place_of c ≡ q → cell ≡ c) → is_passable g (place_of cell) ≡ false → LeavesGround (is_passable g) p
off_ground g p i n q cell agent within there only blocked steps =
    let right : is_passable g q ≡ true = subst (λ (r : Place). is_passable g r ≡ true) (sym there) (steps i n agent within) in
    let is = cell_of g q.x q.y right in
    false≢true (sym blocked ∙ (ap (λ (c : Cell). is_passable g (place_of c)) (only is.0 is.1) ∙ (ap (is_passable g) is.1 ∙ right)))

pub stop_on : (g : Ground) (p : Program) (i n : ℕ) (q : Place) (cell : Cell) → i < length p → n ≤ moves p i → q ≡ path p i n → ((c : Cell) → place_of c ≡ q → cell ≡ c) → (e : Stop) → IsStopAt (is_passable g) (place_of cell) e → IsStop (is_passable g) p e
stop_on g p i n q cell agent within there only OutOfMemory at = tt
stop_on g p i n q cell agent within there only OffGround at = off_ground g p i n q cell agent within there only at
