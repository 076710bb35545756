-- Squares of cells, and the visits that they keep.
use Rattle.fleet_verify.proofs.Words.{◌≡◌, ◌≢◌, ℕ, suc, ◌+◌, ◌<◌, Bool, true, false, List, [], ◌∷◌, length, get_or, slice_get, Some, None, refl, sym, ap, ◌∙◌, subst, arith, inl, inr, cases_eq, cases_lt, ne_eqb, eqb-true, get_or_past, same_Some, slice_get-map, option_map, Option, Cell, IsCell, ◌/◌, ◌%◌, nat_eq, replicate, true≢false, get_or-replicate, length-replicate, nat_eq_equiv, position_or_len, position, IndexMap, get, keys, insert_entry, Updates, IsUnique, with_value_at, square_of, place_in_square, visit_kept, visit_in, last_in, IsSquareAt, IsWritten, NO_VISIT}
use Rattle.std.proofs.lemmas.Map.Entries.{lookup_from_place}
use Rattle.std.specs.Prelude.{is_some}
use Rattle.std.specs.Map.{keys_of}
use Rattle.indexmap.proofs.CallerLemmas.{updates-with_value_at, keys-with_value_at}
use Rattle.indexmap.proofs.MapLemmas.{Found-position}

-- cells at one place of one square are one
pub same_in_square : (c d : Cell) → IsCell c → IsCell d → square_of c ≡ square_of d → place_in_square c ≡ place_in_square d → c ≡ d
same_in_square c d cs ds e f =
    let down : c.y / 8 ≡ d.y / 8 = omega (arith, e, cs.x, ds.x) in
    let across : c.x / 8 ≡ d.x / 8 = omega (arith, e, down) in
    let row : c.y % 8 ≡ d.y % 8 = omega (arith, f, down, across) in
    let column : c.x % 8 ≡ d.x % 8 = omega (arith, f, row, down, across) in
    let y : c.y ≡ d.y = omega (arith, down, row) in
    let x : c.x ≡ d.x = omega (arith, across, column) in
    λ i. record { x = x i; y = y i }

module _ {S : Type 0} (old new : IndexMap ℕ (List ℕ) S) (cell : Cell) (square written : List ℕ) (place n : ℕ)
    (is : place ≡ place_in_square cell) (updates : Updates nat_eq old new (square_of cell) (Some written)) (w : IsWritten square written place n) where
  -- what is written in the cell's square at its place is kept for it
  pub kept_here : last_in new cell ≡ visit_kept n
  kept_here = ap (λ s. visit_in s (place_in_square cell)) updates.1 ∙ ap visit_kept (ap (λ k. get_or written k NO_VISIT) (sym is) ∙ w.here)

  -- and for other cells what was
  pub kept_others : get nat_eq old (square_of cell) ≡ Some square → IsCell cell → (c : Cell) → IsCell c → c ≢ cell → last_in new c ≡ last_in old c
  kept_others was here c there ne = elim (cases_eq (square_of cell) (square_of c)) [
    | inr other ↦ ap (λ s. visit_in s (place_in_square c)) (updates.2 (square_of c) (ne_eqb (square_of cell) (square_of c) other))
    | inl same ↦
        ap (λ k. visit_in (get nat_eq new k) (place_in_square c)) (sym same)
        ∙ (ap (λ s. visit_in s (place_in_square c)) updates.1
        ∙ (ap visit_kept (w.others (place_in_square c) (λ e. ne (same_in_square c cell there here (sym same) (e ∙ is))))
        ∙ (ap (λ s. visit_in s (place_in_square c)) (sym was) ∙ ap (λ k. visit_in (get nat_eq old k) (place_in_square c)) same)))
  ]

-- ---- where a square stands

-- the first key that is this one
first_key : (k : ℕ) (es : List (ℕ × List ℕ)) → position_or_len (nat_eq k) (keys_of es) < length es → option_map (λ (e : ℕ × List ℕ). e.0) (slice_get es (position_or_len (nat_eq k) (keys_of es))) ≡ Some k
first_key k [] l = absurd (omega arith)
first_key k (e ∷ es) l = go (nat_eq k e.0) refl l (first_key k es)
  where
    Stands : List (ℕ × List ℕ) → Type 0
    Stands xs = option_map (λ (x : ℕ × List ℕ). x.0) (slice_get xs (position_or_len (nat_eq k) (keys_of xs))) ≡ Some k

    go : (b : Bool) → nat_eq k e.0 ≡ b → position_or_len (nat_eq k) (keys_of (e ∷ es)) < length (e ∷ es) → (position_or_len (nat_eq k) (keys_of es) < length es → Stands es) → Stands (e ∷ es)
    go true f m later = rw f (ap (λ (n : ℕ). Some n) (sym (eqb-true k e.0 f)))
    go false f m later =
        let more : 1 + position_or_len (nat_eq k) (keys_of es) ≡ suc (position_or_len (nat_eq k) (keys_of es)) = omega arith in
        rw f (ap (λ (i : ℕ). option_map (λ (x : ℕ × List ℕ). x.0) (slice_get (e ∷ es) i)) more ∙ later (let n = rw f at m in omega (arith, n)))

-- a number stands where it is inserted
first_inserted : (k : ℕ) (v : List ℕ) (es : List (ℕ × List ℕ)) → option_map (λ (e : ℕ × List ℕ). e.0) (slice_get (insert_entry nat_eq es k v) (position_or_len (nat_eq k) (keys_of es))) ≡ Some k
first_inserted k v [] = refl
first_inserted k v (e ∷ es) = go (nat_eq k e.0) refl (first_inserted k v es)
  where
    Stands : List (ℕ × List ℕ) → Type 0
    Stands xs = option_map (λ (x : ℕ × List ℕ). x.0) (slice_get (insert_entry nat_eq xs k v) (position_or_len (nat_eq k) (keys_of xs))) ≡ Some k

    go : (b : Bool) → nat_eq k e.0 ≡ b → Stands es → Stands (e ∷ es)
    go true f later = rw f (ap (λ (n : ℕ). Some n) (sym (eqb-true k e.0 f)))
    go false f later =
        let more : 1 + position_or_len (nat_eq k) (keys_of es) ≡ suc (position_or_len (nat_eq k) (keys_of es)) = omega arith in
        rw f (ap (λ (i : ℕ). option_map (λ (x : ℕ × List ℕ). x.0) (slice_get (e ∷ insert_entry nat_eq es k v) i)) more ∙ later)

no_visits : (cells k : ℕ) → get_or (replicate cells NO_VISIT) k NO_VISIT ≡ NO_VISIT
no_visits cells k = elim (cases_lt k cells) [
  | inl lt ↦ get_or-replicate cells k NO_VISIT NO_VISIT lt
  | inr le ↦ get_or_past (replicate cells NO_VISIT) k NO_VISIT (omega (arith, le, length-replicate cells NO_VISIT))
]

module _ {S : Type 0} (m : IndexMap ℕ (List ℕ) S) where
  pub inserted_at : (new : IndexMap ℕ (List ℕ) S) (number slot : ℕ) (square : List ℕ) → slot ≡ position_or_len (nat_eq number) (keys m) → new.entries ≡ insert_entry nat_eq m.entries number square → IsSquareAt new number slot
  inserted_at new number slot square is entries = rw (is, entries) (first_inserted number square m.entries)

  pub no_square : (number : ℕ) → false ≡ is_some (get nat_eq m number) → get nat_eq m number ≡ None
  no_square number none = go (get nat_eq m number) none
    where
      go : (o : Option (List ℕ)) → false ≡ is_some o → o ≡ None
      go None e = refl
      go (Some square) e = absurd (true≢false (sym e))

  -- and its square, in which there are no visits, changes no cell's
  pub inserted_same : (new : IndexMap ℕ (List ℕ) S) (number cells : ℕ) → Updates nat_eq m new number (Some (replicate cells NO_VISIT)) → get nat_eq m number ≡ None → (c : Cell) → last_in new c ≡ last_in m c
  inserted_same new number cells updates none c = elim (cases_eq number (square_of c)) [
    | inr other ↦ ap (λ s. visit_in s (place_in_square c)) (updates.2 (square_of c) (ne_eqb number (square_of c) other))
    | inl same ↦
        subst (λ (n : ℕ). visit_in (get nat_eq new n) (place_in_square c) ≡ visit_in (get nat_eq m n) (place_in_square c)) same
        (ap (λ s. visit_in s (place_in_square c)) updates.1
        ∙ (ap visit_kept (no_visits cells (place_in_square c)) ∙ sym (ap (λ s. visit_in s (place_in_square c)) none)))
  ]

  pub stands_at : (number slot : ℕ) → position (nat_eq number) (keys m) ≡ Some slot → IsSquareAt m number slot
  stands_at number slot e =
      let found = Found-position (nat_eq number) m.entries slot e in
      subst (λ (i : ℕ). option_map (λ (x : ℕ × List ℕ). x.0) (slice_get m.entries i) ≡ Some number) found.or_len
      (first_key number m.entries (omega (arith, found.or_len, found.within)))

  -- an entry with that number stands there
  pub shown_at : (number slot : ℕ) (e : ℕ × List ℕ) → Some e ≡ slice_get m.entries slot → e.0 ≡ number → IsSquareAt m number slot
  shown_at number slot e here same = ap (option_map (λ (x : ℕ × List ℕ). x.0)) (sym here) ∙ ap (λ (n : ℕ). Some n) same

  -- a square is written where its number stands
  pub written_at : (slot number key : ℕ) (square written : List ℕ) → IsUnique nat_eq m → slice_get m.entries slot ≡ Some (key, square) → IsSquareAt m number slot → Updates nat_eq m (with_value_at m slot written) number (Some written)
  written_at slot number key square written unique here at =
      let same : key ≡ number = same_Some key number (sym (ap (option_map (λ (x : ℕ × List ℕ). x.0)) here) ∙ at) in
      subst (λ (k : ℕ). Updates nat_eq m (with_value_at m slot written) k (Some written)) same (updates-with_value_at m slot written nat_eq_equiv unique key square here)

  -- and stands there still
  pub still_stands : (slot number : ℕ) (written : List ℕ) → IsSquareAt m number slot → IsSquareAt (with_value_at m slot written) number slot
  still_stands slot number written at =
      sym (slice_get-map (λ (x : ℕ × List ℕ). x.0) (with_value_at m slot written).entries slot)
      ∙ (ap (λ (ks : List ℕ). slice_get ks slot) (keys-with_value_at m slot written)
      ∙ (slice_get-map (λ (x : ℕ × List ℕ). x.0) m.entries slot ∙ at))

  -- and is the one with that number
  pub found_square : (slot number key : ℕ) (square : List ℕ) → IsUnique nat_eq m → slice_get m.entries slot ≡ Some (key, square) → IsSquareAt m number slot → get nat_eq m number ≡ Some square
  found_square slot number key square unique here at =
      let same : key ≡ number = same_Some key number (sym (ap (option_map (λ (x : ℕ × List ℕ). x.0)) here) ∙ at) in
      ap (get nat_eq m) (sym same) ∙ lookup_from_place nat_eq_equiv m.entries slot key square unique here

  -- what is read at the cell's place of its square
  pub kept_read : (cell : Cell) (number place n : ℕ) (square : List ℕ) → get nat_eq m number ≡ Some square → number ≡ square_of cell → place ≡ place_in_square cell → n ≡ get_or square place NO_VISIT → visit_kept n ≡ last_in m cell
  kept_read cell number place n square here is at read =
      ap visit_kept (read ∙ ap (λ k. get_or square k NO_VISIT) at)
      ∙ (ap (λ s. visit_in s (place_in_square cell)) (sym here) ∙ ap (λ k. visit_in (get nat_eq m k) (place_in_square cell)) is)
