-- Reading the words of a line, and the lines of a text, as the loops do.
use Rattle.fleet_plan.proofs.Words.{◌≡◌, ℕ, ◌+◌, ◌≤◌, ◌<◌, true, false, ltb, List, [], ◌∷◌, ◌++◌, length, Option, Some, None, option_map, is_some, cond, Result, Ok, Err, refl, sym, ap, ◌∙◌, append_assoc, arith, inl, inr, cases_Bool, lt-ltb, le-ltb, le-leb, lt-leb, append-nil, length-append, Cell, Bytes, is_blank, starts_blank, words, words_from_front, Path, Plan, TextFault, Form, Length, AgentCount, cell_front, begins_with_word, spelled_cells, some_cells, too_long, path_at, enough_paths, paths_at, MAX_CELLS, MAX_AGENTS}
use Rattle.fleet_plan.proofs.CellLaws.{Passes, passes, cells_next, cells_none}

-- ---- words

begins : (rest : Bytes) → 0 < length rest → starts_blank rest ≡ false → begins_with_word rest ≡ true
begins [] some e = absurd (omega arith)
begins (b ∷ rest) some e = rw e refl

no_words : (rest : Bytes) → length rest ≡ 0 → spelled_cells (words rest) ≡ Some []
unfolding spelled_cells words
no_words [] e = refl
no_words (b ∷ rest) e = absurd (omega arith)

pub fewer_words : (rest : Bytes) (cell : Cell) (after : Bytes) → Passes rest cell after → length (words after) < length (words rest)
fewer_words rest cell after p = let e = ap length p.words_are in omega (arith, e)

pub no_blank_after : (rest : Bytes) (cell : Cell) (after : Bytes) → starts_blank rest ≡ false → cell_front rest ≡ Some (cell, after) → starts_blank after ≡ false
no_blank_after rest cell after front found = (passes rest cell after front found).front

-- ---- what follows too many cells

pub long_ends : (number : ℕ) (rest : Bytes) (total : TextFault) → length rest ≡ 0 → too_long number rest ≡ total → Length number ≡ total
long_ends number rest total none so_far =
    let e = no_words rest none in
    let here : too_long number rest ≡ Length number = rw e refl in
    sym here ∙ so_far

pub long_fails : (number : ℕ) (rest : Bytes) (total : TextFault) → 0 < length rest → starts_blank rest ≡ false → cell_front rest ≡ None → too_long number rest ≡ total → Form number ≡ total
long_fails number rest total some front none so_far =
    let e = cells_none rest (begins rest some front) none in
    let here : too_long number rest ≡ Form number = rw e refl in
    sym here ∙ so_far

pub long_next : (number : ℕ) (rest : Bytes) (cell : Cell) (after : Bytes) (total : TextFault) → starts_blank rest ≡ false → cell_front rest ≡ Some (cell, after) → too_long number rest ≡ total → too_long number after ≡ total
long_next number rest cell after total front found so_far =
    let e = cells_next rest cell after (passes rest cell after front found) in
    let same : too_long number rest ≡ too_long number after = rw e (alike (spelled_cells (words after))) in
    sym same ∙ so_far
  where
    alike : (o : Option Path) → cond (is_some (option_map (λ cells. cell ∷ cells) o)) (Length number) (Form number) ≡ cond (is_some o) (Length number) (Form number)
    alike None = refl
    alike (Some cells) = refl

-- ---- the cells of a line

no_words_from_front : (line : Bytes) → begins_with_word line ≡ false → words_from_front line ≡ []
unfolding words
no_words_from_front [] e = refl
no_words_from_front (b ∷ line) e =
    elim (cases_Bool (is_blank b)) [
      | inl t ↦ rw t refl
      | inr t ↦ absurd (let f : true ≡ false = rw t at e in cc)
    ]

pub begins_with_no_word : (number : ℕ) (line : Bytes) → begins_with_word line ≡ false → path_at number line ≡ Err (Form number)
unfolding path_at spelled_cells
begins_with_no_word number line e = rw (no_words_from_front line e) refl

no_path : (number : ℕ) (line : Bytes) → spelled_cells (words_from_front line) ≡ None → path_at number line ≡ Err (Form number)
unfolding path_at
no_path number line e = rw e refl

pub some_path : (path : Path) → 1 ≤ length path → some_cells path ≡ Some path
some_path [] some = absurd (omega arith)
some_path (cell ∷ path) some = refl

a_path : (number : ℕ) (line : Bytes) (path : Path) → spelled_cells (words_from_front line) ≡ Some path → 1 ≤ length path → length path ≤ MAX_CELLS → path_at number line ≡ Ok path
unfolding path_at
a_path number line path e some few = rw (e, some_path path some, le-leb (length path) MAX_CELLS few) refl

a_long_path : (number : ℕ) (line : Bytes) (path : Path) → spelled_cells (words_from_front line) ≡ Some path → MAX_CELLS < length path → path_at number line ≡ Err (Length number)
unfolding path_at
a_long_path number line path e many = rw (e, some_path path (omega arith), lt-leb (length path) MAX_CELLS many) refl

module _ (number : ℕ) (line : Bytes) (cells : Path) (rest : Bytes) (so_far : option_map (λ more. cells ++ more) (spelled_cells (words rest)) ≡ spelled_cells (words_from_front line)) where
  pub cells_end : length rest ≡ 0 → 1 ≤ length cells → length cells ≤ MAX_CELLS → path_at number line ≡ Ok cells
  cells_end e some few =
      let none = no_words rest e in
      let all : spelled_cells (words_from_front line) ≡ Some cells = sym so_far ∙ rw none (ap (λ (path : Path). Some path) (append-nil cells)) in
      a_path number line cells all some few

  module _ (front : starts_blank rest ≡ false) where
    pub cells_fail : 0 < length rest → cell_front rest ≡ None → path_at number line ≡ Err (Form number)
    cells_fail some none =
        let e = cells_none rest (begins rest some front) none in
        let all : spelled_cells (words_from_front line) ≡ None = sym so_far ∙ rw e refl in
        no_path number line all

    module _ (cell : Cell) (after : Bytes) (found : cell_front rest ≡ Some (cell, after)) where
      pub cells_more : option_map (λ more. (cells ++ cell ∷ []) ++ more) (spelled_cells (words after)) ≡ spelled_cells (words_from_front line)
      cells_more = regroup (spelled_cells (words after)) ∙ ap (option_map (λ more. cells ++ more)) (sym (cells_next rest cell after (passes rest cell after front found))) ∙ so_far
        where
          regroup : (o : Option Path) → option_map (λ more. (cells ++ cell ∷ []) ++ more) o ≡ option_map (λ more. cells ++ more) (option_map (λ more. cell ∷ more) o)
          regroup None = refl
          regroup (Some more) = ap (λ (path : Path). Some path) (append_assoc cells (cell ∷ []) more)

      pub too_many_cells : MAX_CELLS ≤ length cells → path_at number line ≡ Err (too_long number after)
      too_many_cells many = judged (spelled_cells (words after)) refl
        where
          judged : (o : Option Path) → spelled_cells (words after) ≡ o → path_at number line ≡ Err (too_long number after)
          judged None e =
              let all : spelled_cells (words_from_front line) ≡ None = sym cells_more ∙ rw e refl in
              rw e (no_path number line all)
          judged (Some more) e =
              let all : spelled_cells (words_from_front line) ≡ Some ((cells ++ cell ∷ []) ++ more) = sym cells_more ∙ rw e refl in
              let long : MAX_CELLS < length ((cells ++ cell ∷ []) ++ more) = omega (arith, many, length-append (cells ++ cell ∷ []) more, length-append cells (cell ∷ [])) in
              rw e (a_long_path number line ((cells ++ cell ∷ []) ++ more) all long)

-- ---- lines

module _ (earlier : Plan) (ls : List Bytes) (total : Result Plan TextFault) (so_far : paths_at earlier ls ≡ total) where
  pub lines_end : ls ≡ [] → total ≡ enough_paths earlier
  unfolding paths_at
  lines_end e = sym so_far ∙ ap (paths_at earlier) e

  module _ (line : Bytes) (after : List Bytes) (next : ls ≡ line ∷ after) where
    pub too_many : MAX_AGENTS ≤ length earlier → total ≡ Err AgentCount
    unfolding paths_at
    too_many many =
        let full : ltb (length earlier) MAX_AGENTS ≡ false = le-ltb _ _ many in
        sym so_far ∙ ap (paths_at earlier) next ∙ rw full refl

    module _ (few : length earlier < MAX_AGENTS) where
      pub fails : (f : TextFault) → path_at (length earlier + 1) line ≡ Err f → total ≡ Err f
      unfolding paths_at
      fails f wrong =
          let room : ltb (length earlier) MAX_AGENTS ≡ true = lt-ltb _ _ few in
          sym so_far ∙ ap (paths_at earlier) next ∙ rw (room, wrong) refl

      pub goes_on : (path : Path) → path_at (length earlier + 1) line ≡ Ok path → paths_at (earlier ++ path ∷ []) after ≡ total
      unfolding paths_at
      goes_on path right =
          let room : ltb (length earlier) MAX_AGENTS ≡ true = lt-ltb _ _ few in
          let one : paths_at earlier ls ≡ paths_at (earlier ++ path ∷ []) after = ap (paths_at earlier) next ∙ rw (room, right) refl in
          sym one ∙ so_far

pub none_ended : (plan : Plan) → length plan ≡ 0 → enough_paths plan ≡ Err AgentCount
none_ended [] e = refl
none_ended (path ∷ plan) e = absurd (omega arith)

pub some_ended : (plan : Plan) → 0 < length plan → enough_paths plan ≡ Ok plan
some_ended [] some = absurd (omega arith)
some_ended (path ∷ plan) some = refl
