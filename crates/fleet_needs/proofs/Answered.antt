-- Answers of questions, one after another.
use Rattle.fleet_needs.proofs.Words.{◌≡◌, ◌≢◌, ℕ, ◌+◌, ◌<◌, ◌≤◌, Bool, true, false, List, length, get_or, set, get_or-set_same, get_or-set_other, slice_get-get_or, IsAskedFor, IsFirstIn, sym, ap, subst, ◌∙◌, arith, inl, inr, ◌⊎◌, nat_lt, None, Vec, Global, slice_get_within, get_or_from_slice_get, cases_lt, cases_eq, ltb-true, lt-ltb, Program, IsColumn, IsQuestion, AreAnswersIn, HasColumn, IsAnswer, column_of, AreOfSame, AreOwn, StandsFor, AreCounts, AreRowCounts, AreAnsweredFrom, IsAnswering, IsByRow, joins_in, joins_of, IsToCome, listed_at, no_question, question_at, question_of, questions_in, unlisted, Columns, SlotRows, Answering, Question, RowQuestion}
use Rattle.fleet_needs.proofs.Joining.{own_column}

-- ---- the questions of a row, one after another

module _ (p : Program) (made : SlotRows) (m : Answering) (row : ℕ) (h : IsAnswering p made row m) (within : m.next < length m.rows.items) (x : RowQuestion) (at : x ≡ listed_at m m.next) (of : x.row ≡ row) where
  pub next_is : IsByRow p (joins_of made.schedule) (questions_in m) x
  next_is = subst (IsByRow p (joins_of made.schedule) (questions_in m)) (sym at) (h.answers.listed.each m.next unlisted within)

  -- its row has the counts of its last action
  pub row_counts : (count : ℕ → ℕ) → AreRowCounts p made.schedule made.columns row count → AreCounts p made.columns (question_of (questions_in m) x.place).last.agent (question_of (questions_in m) x.place).last.number count
  row_counts count counts =
      let is = (h.answers.questions x.place no_question next_is.place).last in
      counts _ _ (record { agent = is.agent; last = is.last; stands = subst (λ (r : ℕ). StandsFor p (joins_of made.schedule) r (question_of (questions_in m) x.place).last.agent (question_of (questions_in m) x.place).last.number) of next_is.stands })

  -- it is answered, or its agent has no column
  pub told_on : (flags : Vec Bool Global) → length flags.items ≡ length m.flags.items → ((k : ℕ) → k ≢ x.place → get_or flags.items k false ≡ get_or m.flags.items k false)
      → IsAnswer p (question_of (questions_in m) x.place) (get_or flags.items x.place false) ⊎ ((column_of made.columns (question_of (questions_in m) x.place).first.agent ≡ None) × (get_or flags.items x.place false ≡ get_or m.flags.items x.place false))
      → IsAnswering p made row (record { questions = m.questions; rows = m.rows; flags = flags; next = m.next + 1 })
  told_on flags all others here = record {
    block = h.block;
    answers = record {
      questions = h.answers.questions;
      listed = record { each = h.answers.listed.each; all = h.answers.listed.all; sorted = h.answers.listed.sorted; flags = all ∙ h.answers.listed.flags };
      asked = h.answers.asked;
      told = λ n l. elim (cases_eq (listed_at m n).place x.place) [
        | inr ne ↦ still n l (others (listed_at m n).place ne) (λ e. absurd (ne (ap (λ (k : ℕ). (listed_at m k).place) e ∙ ap (λ (y : RowQuestion). y.place) (sym at))))
        | inl e ↦ elim here [
          | inl it ↦ inr (subst (λ (k : ℕ). IsAnswer p (question_of (questions_in m) k) (get_or flags.items k false)) (sym e) it)
          | inr (none, same) ↦ still n l (subst (λ (k : ℕ). get_or flags.items k false ≡ get_or m.flags.items k false) (sym e) same) (λ f first. elim (cases_lt (question_at m n).first.agent made.columns.end) [
            | inr past ↦ past
            | inl low ↦ absurd (h.block (listed_at m n).place no_question (h.answers.listed.each n unlisted l).place first low (ap (λ (k : ℕ). column_of made.columns (question_of (questions_in m) k).first.agent) e ∙ none))
          ])
        ]
      ];
    };
    due = λ n from l. h.due n (omega (arith, from)) l;
  }
    where
      still : (n : ℕ) → n < length m.rows.items → get_or flags.items (listed_at m n).place false ≡ get_or m.flags.items (listed_at m n).place false → (n ≡ m.next → made.columns.first ≤ (question_at m n).first.agent → made.columns.end ≤ (question_at m n).first.agent)
          → IsToCome made.columns (m.next + 1) n (question_at m n) ⊎ IsAnswer p (question_at m n) (get_or flags.items (listed_at m n).place false)
      still n l same past = elim (h.answers.told n l) [
        | inr it ↦ inr (subst (IsAnswer p (question_at m n)) (sym same) it)
        | inl (first, inl after) ↦ inl (first, inl after)
        | inl (first, inr on) ↦ elim (cases_eq n m.next) [ inl e ↦ inl (first, inl (past e first)) | inr ne ↦ inl (first, inr (omega (arith, on, ne))) ]
      ]

-- ---- blocks

-- in the same columns they are still answered
pub answering_on : (p : Program) (old new : SlotRows) (row : ℕ) (m : Answering) → AreOfSame old new → IsAnswering p old row m → IsAnswering p new row m
answering_on p old new row m same h = record { block = rw same.columns h.block; answers = rw (same.schedule, same.asked, same.columns) h.answers; due = h.due }

-- once all rows are made
pub answered_after : (p : Program) (made : SlotRows) (m : Answering) (n : ℕ) → joins_in made.schedule ≤ n → IsAnswering p made (n + 1) m → AreAnsweredFrom p made made.columns.end m
answered_after p made m all whole h = record {
  questions = h.answers.questions;
  listed = h.answers.listed;
  asked = h.answers.asked;
  told = λ n l. elim (h.answers.told n l) [
    | inr it ↦ inr it
    | inl (first, inl past) ↦ inl past
    | inl (first, inr on) ↦ absurd (omega (arith, h.due n on l, (h.answers.listed.each n unlisted l).row, whole))
  ];
}

-- after the last block
pub answered_end : (p : Program) (made : SlotRows) (from : ℕ) (m : Answering) → length p ≤ from → AreAnsweredFrom p made from m → AreAnswersIn p (questions_in m) m.flags
answered_end p made from m end h = record {
  all = h.listed.flags;
  each = λ k q at.
      let x = h.listed.all k (slice_get_within (questions_in m) k q at) in
      let is : question_at m x.0 ≡ q = ap (question_of (questions_in m)) x.2 ∙ get_or_from_slice_get (questions_in m) k q no_question at in
      elim (h.told x.0 x.1) [
        | inr it ↦ subst (λ (y : Question). IsAnswer p y (get_or m.flags.items k false)) is (subst (λ (j : ℕ). IsAnswer p (question_at m x.0) (get_or m.flags.items j false)) x.2 it)
        | inl on ↦ absurd (omega (arith, (h.questions (listed_at m x.0).place no_question (h.listed.each x.0 unlisted x.1).place).agent, end, on))
      ];
}

-- a count of a question's first agent at its last action that is below its first action says that no chain begins with it
pub answer_is : (p : Program) (columns : Columns) (q : Question) (f : ℕ → ℕ) → AreOwn p → IsQuestion p q → AreCounts p columns q.last.agent q.last.number f → (k : ℕ) → HasColumn columns q.first.agent k → (count : ℕ)
    → (q.first.agent ≡ q.last.agent → count ≡ q.last.number) → (q.first.agent ≢ q.last.agent → count ≡ f k) → IsAnswer p q (nat_lt count q.first.number)
answer_is p columns q f own is h k has count mine other = (
  (λ e r. let l : count < q.first.number = ltb-true count q.first.number e in let le : q.first.number ≤ count = ((column q.first.number).0 r).1 in omega arith),
  (λ none. elim (cases_lt count q.first.number) [ inl less ↦ lt-ltb count q.first.number less | inr below ↦ absurd (none ((column q.first.number).1 (is.number, below))) ]),
)
  where
    column : IsColumn p q.last q.first.agent count
    column = elim (cases_eq q.first.agent q.last.agent) [
      | inl e ↦
          let here : IsColumn p q.last q.last.agent q.last.number = own_column p q.last.agent q.last.number is.last (λ c r. own q.last c is.last r) in
          subst (λ (j : ℕ). IsColumn p q.last j count) (sym e) (subst (λ (v : ℕ). IsColumn p q.last q.last.agent v) (sym (mine e)) here)
      | inr ne ↦ subst (λ (v : ℕ). IsColumn p q.last q.first.agent v) (sym (other ne)) ((h q.first.agent k has).0 ne)
    ]

-- the agent of one question more is flagged
pub asked_more : (questions : List Question) (asked : List Bool) (n j : ℕ) → n < length questions → j < length asked → j ≡ (question_of questions n).first.agent
    → ((i : ℕ) → get_or asked i false ≡ true → IsFirstIn questions i) → ((k : ℕ) → k < n → IsAskedFor asked (question_of questions k))
    → ((i : ℕ) → get_or (set asked j true) i false ≡ true → IsFirstIn questions i) × ((k : ℕ) → k < n + 1 → IsAskedFor (set asked j true) (question_of questions k))
asked_more questions asked n j some within is only flagged = (
  (λ i e. elim (cases_eq i j) [
    | inl same ↦ (n, question_of questions n, slice_get-get_or questions n no_question some, sym (same ∙ is))
    | inr ne ↦ only i (sym (get_or-set_other asked j i true false ne) ∙ e)
  ]),
  (λ k l. let i = (question_of questions k).first.agent in elim (cases_eq i j) [
    | inl same ↦ ap (λ (x : ℕ). get_or (set asked j true) x false) same ∙ get_or-set_same asked j true false within
    | inr ne ↦
        let other : k ≢ n = λ e. ne (ap (λ (x : ℕ). (question_of questions x).first.agent) e ∙ sym is) in
        get_or-set_other asked j i true false ne ∙ flagged k (omega (arith, l, other))
  ]),
)
