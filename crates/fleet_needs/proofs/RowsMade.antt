-- The counts of rows that are made of rows in their slots.
use Rattle.fleet_needs.proofs.Words.{◌≡◌, ◌≢◌, ℕ, ◌+◌, ◌-◌, ◌*◌, ◌<◌, ◌≤◌, List, length, max, get_or, slice_get-get_or, slice_index, sym, ap, subst, ◌∙◌, arith, inl, inr, slice_get, Some, cases_lt, cases_eq, ActionId, Await, Program, AreInRange, awaits_of, moves, IsAction, awaited, HasColumn, counts_of, from_place, made_row, are_narrow, CanHold, AreKept, AreOfProgram, AreOfSame, IsNextBlock, Bool, AreWritten, Reaches, IsColumn, IsJoined, ByBeforeOr, OfOthers, action_before, Columns, SlotRows, Schedule, Counts, IsRow, AreOwn, IsJoinFor, IsNeedFor, TakesIn, joins_in, joins_of, next_action, base_of, end_of, need_at, IsSchedule, AreColumns, AreColumnsOf, AreCounts, AreRowsTo, StandsThere, IsNextJoin, IsNextNeed, AreRowCounts, count_from, count_in_slot, slot_of, Join, Need, StandsFor}
use Rattle.fleet_needs.proofs.{Counting.outside, Joining.quiet_on, Joining.column_stays, Joining.column_none, Joining.IsOwnTo, Joining.some_first, Joining.some_more, Joining.some_same, Joining.part_all, Joining.own_column, Joining.awaited_action}

-- ---- what row r stands for

module _ (p : Program) (schedule : Schedule) (columns : Columns) (r i b : ℕ) (s : StandsThere p schedule r i b) (count : ℕ → ℕ) where
  -- the counts of other agents stay as long as no chain is added
  counts_on : AreCounts p columns i s.stands.number count → AreCounts p columns i b count
  counts_on h j k has = (
    (λ ne. quiet_on p i (λ m. IsColumn p (record { agent = i; number = m }) j (count k)) (λ m last. column_stays p i m j (count k) (record { agent = s.agent; first = omega arith; last = last }) ne) s.stands.number b s.stands.upto s.last s.stands.quiet ((h j k has).0 ne)),
    (h j k has).1,
  )

  -- zeros, if there is no row
  pub counts_none : r ≡ 0 → ((k : ℕ) → count k ≡ 0) → AreCounts p columns i b count
  counts_none none zeros = counts_on (λ j k has. elim s.stands.row [
    | inl e ↦ ((λ ne. subst (λ (x : ℕ). IsColumn p (record { agent = i; number = x }) j (count k)) (sym e.1) (subst (IsColumn p (record { agent = i; number = 0 }) j) (sym (zeros k)) (column_none p i j))), (λ e. zeros k))
    | inr k ↦ absurd (omega (arith, k.some, none))
  ])

  -- else those of the row
  pub counts_row : 1 ≤ r → AreCounts p columns (next_action schedule (r - 1)).agent (next_action schedule (r - 1)).number count → AreCounts p columns i b count
  counts_row some of = elim s.stands.row [
    | inl e ↦ absurd (let z : r ≡ 0 = e.0 in omega arith)
    | inr is ↦ counts_on (subst (λ (a : ActionId). AreCounts p columns a.agent a.number count) is.of of)
  ]

-- the row that is made after n others
pub made_counts : (p : Program) (schedule : Schedule) (columns : Columns) (n : ℕ) (count : ℕ → ℕ) → AreCounts p columns (next_action schedule n).agent (next_action schedule n).number count → AreRowCounts p schedule columns (n + 1) count
made_counts p schedule columns n count made i b s =
    let e : n ≡ n + 1 - 1 = omega arith in
    counts_row p schedule columns (n + 1) i b s count (omega arith) (subst (λ (x : ℕ). AreCounts p columns (next_action schedule x).agent (next_action schedule x).number count) e made)

-- the counts in the slot of a row that the next join takes, from this place on
pub counts_at : (p : Program) (m : SlotRows) (n : ℕ) → AreRowsTo p m n → (r place : ℕ) → TakesIn m.schedule.joins n r → place ≡ slot_of m.schedule r * m.columns.width → (i b : ℕ) → StandsThere p m.schedule r i b → AreCounts p m.columns i b (count_from m.counts place)
counts_at p m n rows r place takes is i b s = subst (λ (x : ℕ). AreCounts p m.columns i b (count_from m.counts x)) (sym is) (rows.right r (rows.schedule.made.order.sooner n r takes) (rows.schedule.still n r takes) i b s)

-- the rows are as they were, while only the row that is made has changed
pub rows_kept : (p : Program) (m : SlotRows) (n : ℕ) (counts : Counts) → AreKept m.counts counts → AreRowsTo p m n → AreRowsTo p (record m { counts = counts }) n
rows_kept p m n counts kept rows = record { schedule = rows.schedule; block = rows.block; columns = rows.columns; room = ap (λ (xs : List ℕ). length xs) kept.all ∙ rows.room; width = kept.width ∙ rows.width; narrow = kept.narrow ∙ rows.narrow; right = λ r upto still. subst (λ (xs : List ℕ). AreRowCounts p m.schedule m.columns r (from_place xs (slot_of m.schedule r * m.columns.width))) (sym kept.all) (rows.right r upto still) }

-- two steps leave what each leaves as it was
pub same_on : (old mid new : SlotRows) → AreOfSame old mid → AreOfSame mid new → AreOfSame old new
same_on old mid new first second = record { schedule = second.schedule ∙ first.schedule; asked = second.asked ∙ first.asked; columns = second.columns ∙ first.columns }

-- a block has come and gone
pub block_gone : (p : Program) (old mid new : SlotRows) (is_one : Bool) → IsNextBlock p old mid is_one → AreOfSame mid new → AreOfProgram p old → AreOfProgram p new
block_gone p old mid new is_one next same of = record { schedule = rw (same.schedule, next.schedule) of.schedule; agents = rw (same.asked, next.asked) of.agents }

-- no row is made, and all counts are zeros
pub rows_none : (p : Program) (m : SlotRows) → IsSchedule p m.schedule → AreColumns m.asked.items m.columns.first m.columns → AreColumnsOf p m.columns → length (counts_of m.counts) ≡ m.schedule.slots * m.columns.width → length (made_row m.counts) ≡ m.columns.width → are_narrow m.counts ≡ m.schedule.is_narrow
    → ((k : ℕ) → slice_index (counts_of m.counts) k ≡ 0) → AreRowsTo p m 0
rows_none p m schedule block columns room width narrow zeros = record { schedule = schedule; block = block; columns = columns; room = room; width = width; narrow = narrow; right = λ r upto still i b s. counts_none p m.schedule m.columns r i b s (count_in_slot m r) (omega arith) (λ k. zeros _) }

-- a row of these counts
pub counts_same : (p : Program) (columns : Columns) (i b : ℕ) (f g : ℕ → ℕ) → ((j k : ℕ) → HasColumn columns j k → g k ≡ f k) → AreCounts p columns i b f → AreCounts p columns i b g
counts_same p columns i b f g same h j k has = (
  (λ ne. subst (λ (v : ℕ). IsColumn p (record { agent = i; number = b }) j v) (sym (same j k has)) ((h j k has).0 ne)),
  (λ e. same j k has ∙ (h j k has).1 e),
)

-- ---- the join that is next, and what it needs

module _ (p : Program) (s : Schedule) (is : IsSchedule p s) (n : ℕ) (l : n < joins_in s) where
  abbrev a : ActionId
  a = next_action s n

  join : IsJoinFor p s.joins n a
  join = is.made.joins n l

  pub next_join : (j : Join) → j.action ≡ a → j.base ≡ base_of s.joins n → j.first ≡ end_of s.joins n → j.first + j.count ≡ end_of s.joins (n + 1) → IsNextJoin p s n a j
  next_join j named base begin end =
      let many : j.count ≡ length (awaits_of p a.agent a.number) = omega (arith, begin, end, join.count) in
      record {
        schedule = is;
        next = l;
        of = named;
        first = begin;
        action = join.is.action;
        count = many;
        some = omega (arith, many, join.is.some);
        base = (l, inl base);
        stands = record { agent = join.is.action.agent; last = omega (arith, join.is.action.last); stands = subst (λ (r : ℕ). StandsFor p (joins_of s) r a.agent (a.number - 1)) (sym base) join.base };
      }

  pub next_need : AreInRange p → (k : ℕ) → k < length (awaits_of p a.agent a.number) → (x : Need) → x ≡ need_at s.joins (end_of s.joins n + k) → IsNextNeed p s n a k x
  next_need range k less x read =
      let ws = awaits_of p a.agent a.number in
      let w : Await = get_or ws k (record { agent = 0; count = 0 }) in
      let at = slice_get-get_or ws k (record { agent = 0; count = 0 }) less in
      let here : IsNeedFor p (joins_of s) w x = subst (IsNeedFor p (joins_of s) w) (sym read) (join.awaits k w at) in
      let action = awaited_action p range a.agent a.number k w at in
      record {
        await = at ∙ ap Some (sym here.wait);
        action = subst (λ (v : Await). IsAction p (awaited v)) (sym here.wait) action;
        row = (l, inr (end_of s.joins n + k, omega arith, omega (arith, less, join.count), ap (λ (y : Need). y.row) read));
        stands = subst (λ (v : Await). StandsThere p s x.row v.agent v.count) (sym here.wait) (record { agent = action.agent; last = action.last; stands = here.stands });
      }

-- ---- the row of a join, as it is made

pub row_here : (s : Schedule) (n : ℕ) → n < joins_in s → IsRow (joins_of s) (n + 1) (next_action s n)
row_here s n l = record { some = omega arith; upto = omega (arith, l); of = (let e : n + 1 - 1 ≡ n = omega arith in ap (next_action s) e) }

-- ---- the row of an action, await by await

-- the part of the first k awaits
abbrev pub AreOthersTo : Program → Columns → ActionId → ℕ → (ℕ → ℕ) → Type 0
AreOthersTo p columns a k count = (j m : ℕ) → HasColumn columns j m → j ≢ a.agent → IsJoined (OfOthers j k) p a j (count m)

-- .. and then of the awaited agents' own columns
abbrev pub AreOwnTo : Program → Columns → ActionId → ℕ → List ℕ → Type 0
AreOwnTo p columns a k row = (j m : ℕ) → HasColumn columns j m → j ≢ a.agent → IsOwnTo p a j k (slice_index row m)

module _ (p : Program) (columns : Columns) (a : ActionId) where
  abbrev Before : ℕ → ℕ → Type 0
  Before j c = Reaches p (record { agent = j; number = c }) (action_before a)

  abbrev Others : ℕ → ℕ → Type 0
  Others j c = ByBeforeOr (OfOthers j (length (awaits_of p a.agent a.number))) p (record { agent = j; number = c }) a

  abbrev Other : ℕ → Await → Type 0
  Other j w = w.agent ≢ j

  abbrev Own : ℕ → Await → Type 0
  Own j w = w.agent ≡ j

  pub others_first : (count : ℕ → ℕ) → AreCounts p columns a.agent (a.number - 1) count → AreOthersTo p columns a 0 count
  others_first count h j m has ne = some_first p a j (Before j) (Other j) (count m) ((h j m has).0 ne)

  pub own_first : (row : List ℕ) → AreOthersTo p columns a (length (awaits_of p a.agent a.number)) (slice_index row) → AreOwnTo p columns a 0 row
  own_first row h j m has ne = some_first p a j (Others j) (Own j) (slice_index row m) (h j m has ne)

  module _ (k : ℕ) (w : Await) (at : slice_get (awaits_of p a.agent a.number) k ≡ Some w) where
    pub others_next : (old count new : ℕ → ℕ) → AreCounts p columns w.agent w.count count → ((j m : ℕ) → HasColumn columns j m → new m ≡ max (old m) (count m)) → AreOthersTo p columns a k old → AreOthersTo p columns a (k + 1) new
    others_next old count new counts joined h j m has ne = subst (IsJoined (OfOthers j (k + 1)) p a j) (sym (joined j m has)) (elim (cases_eq w.agent j) [
      | inl e ↦
          let none : count m ≡ 0 = (counts j m has).1 (sym e) in
          let same : old m ≡ max (old m) (count m) = omega (arith, none) in
          subst (IsJoined (OfOthers j (k + 1)) p a j) same (some_same p a j (Before j) (Other j) k w at (old m) (λ apart. apart e) (h j m has ne))
      | inr apart ↦ some_more p a j (Before j) (Other j) k w at (old m) (count m) apart ((counts j m has).0 (λ e. apart (sym e))) (h j m has ne)
    ])

    pub own_next : (old new : List ℕ) → AreOwn p → IsAction p (awaited w) → ((m : ℕ) → HasColumn columns w.agent m → slice_index new m ≡ max (slice_index old m) w.count) → ((j m : ℕ) → j ≢ w.agent → HasColumn columns j m → slice_index new m ≡ slice_index old m)
        → AreOwnTo p columns a k old → AreOwnTo p columns a (k + 1) new
    own_next old new own is here others h j m has ne = elim (cases_eq w.agent j) [
      | inl e ↦
          let col : IsColumn p (awaited w) j w.count = subst (λ (x : ℕ). IsColumn p (awaited w) x w.count) e (own_column p w.agent w.count is (λ c r. own (awaited w) c is r)) in
          subst (IsOwnTo p a j (k + 1)) (sym (here m (subst (λ (x : ℕ). HasColumn columns x m) (sym e) has))) (some_more p a j (Others j) (Own j) k w at (slice_index old m) w.count e col (h j m has ne))
      | inr apart ↦ subst (IsOwnTo p a j (k + 1)) (sym (others j m (λ e. apart (sym e)) has)) (some_same p a j (Others j) (Own j) k w at (slice_index old m) apart (h j m has ne))
    ]

  pub own_last : (row new : List ℕ) → IsAction p a → AreOwnTo p columns a (length (awaits_of p a.agent a.number)) row
      → ((m : ℕ) → HasColumn columns a.agent m → slice_index new m ≡ 0) → ((j m : ℕ) → j ≢ a.agent → HasColumn columns j m → slice_index new m ≡ slice_index row m) → AreCounts p columns a.agent a.number (slice_index new)
  own_last row new is h here others j m has = (
    (λ ne. subst (IsColumn p a j) (sym (others j m ne has)) (part_all p a j (slice_index row m) is ne (h j m has ne))),
    (λ e. here m (subst (λ (x : ℕ). HasColumn columns x m) e has)),
  )

-- ---- what is kept

-- a row has bytes enough for the number of each action
pub held : (p : Program) (m : SlotRows) (n : ℕ) → AreRowsTo p m n → (i k : ℕ) → i < length p → k ≤ moves p i → CanHold m.counts k
held p m n rows i k l few e =
    let most : moves p i ≤ 65535 = rows.schedule.narrow (sym rows.narrow ∙ e) i l in
    omega arith

-- ---- one row more in its slot

module _ (p : Program) (old : SlotRows) (n place : ℕ) (counts : Counts) (rows : AreRowsTo p old n) (at : place ≡ slot_of old.schedule (n + 1) * old.columns.width) (put : AreWritten place old.counts counts)
    (made : AreCounts p old.columns (next_action old.schedule n).agent (next_action old.schedule n).number (slice_index (made_row old.counts))) where
  abbrev new : SlotRows
  new = record old { counts = counts }

  newest : AreRowCounts p old.schedule old.columns (n + 1) (count_in_slot new (n + 1))
  newest i b s =
      counts_same p old.columns i b (slice_index (made_row old.counts)) (count_in_slot new (n + 1)) (λ j k has. ap (λ (x : ℕ). count_from counts x k) (sym at) ∙ put.row k (let l = rows.columns.within j k has in omega (arith, l, rows.width)))
      (made_counts p old.schedule old.columns n (slice_index (made_row old.counts)) made i b s)

  kept : (r : ℕ) → slot_of old.schedule r ≢ slot_of old.schedule (n + 1) → (k : ℕ) → k < old.columns.width → count_in_slot new r k ≡ count_in_slot old r k
  kept r ne k l = elim (outside old.columns.width (slot_of old.schedule r) (slot_of old.schedule (n + 1)) k ne l) [
    | inl below ↦ put.before _ (omega (arith, at, below))
    | inr above ↦ put.after _ (omega (arith, at, above, rows.width))
  ]

  pub rows_more : AreRowsTo p new (n + 1)
  rows_more = record {
    schedule = rows.schedule;
    block = rows.block;
    columns = rows.columns;
    room = put.all ∙ rows.room;
    width = ap (λ (xs : List ℕ). length xs) put.same ∙ rows.width;
    narrow = put.narrow ∙ rows.narrow;
    right = λ r upto still. elim (cases_lt n r) [
      | inl last ↦ (let e : n + 1 ≡ r = omega arith in subst (λ (x : ℕ). AreRowCounts p old.schedule old.columns x (count_in_slot new x)) e newest)
      | inr sooner ↦ λ i b s. counts_same p old.columns i b (count_in_slot old r) (count_in_slot new r) (λ j k has. kept r (λ e. still (n + 1) (omega arith) (omega arith) (sym e)) k (rows.columns.within j k has))
          (rows.right r sooner (λ m from l. still m from (omega arith)) i b s)
    ];
  }
