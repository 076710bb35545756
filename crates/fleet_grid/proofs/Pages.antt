-- Pages of values.
use Rattle.std.proofs.Common.{◌≡◌, ◌≢◌, ℕ, zero, suc, ◌∷◌, ◌++◌, ◌/◌, ◌%◌, ◌<◌, ◌≤◌, List, [], length, map, get_or, inl, inr, refl, sym, ap, ◌∙◌, arith}
use Rattle.std.specs.Prelude.{Vec, set, Result, Ok, Err, OnErr}
use Rattle.std.specs.declared.alloc.Global.{Global}
use Rattle.std.proofs.lemmas.Bool.{cases_eq}
use Rattle.std.proofs.lemmas.List.{get_or_default, get_or_past, get_or-set_same, get_or-set_other, get_or-map, map-set, length-map}
use Rattle.fleet_grid.specs.declared.table.Table.{Table}
use Rattle.fleet_grid.specs.Table.{items_at, value_in, IsSet, AreSame}
use Rattle.fleet_grid.specs.declared.table.TheConstants.{PAGE}

pub items-read : {V : Type 0} (lists : List (Vec V Global)) (k : ℕ) (v : Vec V Global) → k < length lists → v ≡ get_or lists k v → items_at lists k ≡ v.items
items-read lists k v h e = get_or-map (λ v. v.items) lists k v [] h ∙ ap (λ v. v.items) (sym e)

pub items-past : {V : Type 0} (lists : List (Vec V Global)) (k : ℕ) → length lists ≤ k → items_at lists k ≡ []
items-past {V} lists k h = get_or_past (map (λ v. v.items) lists) k [] (omega (arith, length-map lists (λ (v : Vec V Global). v.items)))

pub items-set : {V : Type 0} (lists : List (Vec V Global)) (k : ℕ) (w : Vec V Global) → k < length lists → items_at (set lists k w) k ≡ w.items
items-set {V} lists k w h = ap (λ z. get_or z k []) (map-set (λ v. v.items) lists k w) ∙ get_or-set_same (map (λ v. v.items) lists) k w.items [] (omega (arith, length-map lists (λ (v : Vec V Global). v.items)))

pub items-other : {V : Type 0} (lists : List (Vec V Global)) (i k : ℕ) (w : Vec V Global) → k ≢ i → items_at (set lists i w) k ≡ items_at lists k
items-other lists i k w ne = ap (λ z. get_or z k []) (map-set (λ v. v.items) lists i w) ∙ get_or-set_other (map (λ v. v.items) lists) i k w.items [] ne

-- two numbers on one page stand in two places of it
pub places-differ : (k n : ℕ) → k ≢ n → k / PAGE ≡ n / PAGE → k % PAGE ≢ n % PAGE
places-differ k n ne page place = ne (omega arith)

-- the value at its place of the page is that of the number
pub value-read : {V : Type 0} (old : Table V) (reached : List (Vec V Global)) (number : ℕ) (page : Vec V Global) → ((k : ℕ) → items_at reached k ≡ items_at old.pages.items k) → number / PAGE < length reached → page ≡ get_or reached (number / PAGE) page → get_or page.items (number % PAGE) old.blank ≡ value_in old number
value-read old reached number page same within read = ap (λ z. get_or z (number % PAGE) old.blank) (sym (items-read reached (number / PAGE) page within read) ∙ same (number / PAGE))

-- a page is exchanged for one that has the value, and the same values at its other places
pub page-exchanged : {V : Type 0} (old new : Table V) (reached : List (Vec V Global)) (number : ℕ) (value : V) (page written : Vec V Global) → ((k : ℕ) → items_at reached k ≡ items_at old.pages.items k) → number / PAGE < length reached → page ≡ get_or reached (number / PAGE) page → new.pages.items ≡ set reached (number / PAGE) written → new.blank ≡ old.blank → get_or written.items (number % PAGE) old.blank ≡ value → ((k : ℕ) → k ≢ number % PAGE → get_or written.items k old.blank ≡ get_or page.items k old.blank) → IsSet old new number value
page-exchanged old new reached number value page written same within read exchanged blank here others = record {
  here = now_at number ∙ ap (λ z. get_or z (number % PAGE) old.blank) (items-set reached (number / PAGE) written within) ∙ here;
  others = λ k ne. now_at k ∙ elim (cases_eq (k / PAGE) (number / PAGE)) [
    | inl s ↦
        ap (λ z. get_or (items_at (set reached (number / PAGE) written) z) (k % PAGE) old.blank) s
        ∙ ap (λ z. get_or z (k % PAGE) old.blank) (items-set reached (number / PAGE) written within)
        ∙ others (k % PAGE) (places-differ k number ne s)
        ∙ ap (λ z. get_or z (k % PAGE) old.blank) (sym (items-read reached (number / PAGE) page within read) ∙ same (number / PAGE) ∙ ap (items_at old.pages.items) (sym s))
    | inr other ↦ ap (λ z. get_or z (k % PAGE) old.blank) (items-other reached (number / PAGE) (k / PAGE) written other ∙ same (k / PAGE))
  ];
}
  where
    now_at : (k : ℕ) → value_in new k ≡ get_or (items_at (set reached (number / PAGE) written) (k / PAGE)) (k % PAGE) old.blank
    now_at k = ap (λ z. get_or (items_at z (k / PAGE)) (k % PAGE) new.blank) exchanged ∙ ap (get_or (items_at (set reached (number / PAGE) written) (k / PAGE)) (k % PAGE)) blank

-- a page is exchanged for one that has the same values
page-kept : {V : Type 0} (old new : Table V) (reached : List (Vec V Global)) (number : ℕ) (page written : Vec V Global) → ((k : ℕ) → items_at reached k ≡ items_at old.pages.items k) → number / PAGE < length reached → page ≡ get_or reached (number / PAGE) page → new.pages.items ≡ set reached (number / PAGE) written → new.blank ≡ old.blank → ((k : ℕ) → get_or written.items k old.blank ≡ get_or page.items k old.blank) → AreSame old new
page-kept old new reached number page written same within read exchanged blank kept = λ k. elim (cases_eq k number) [
  | inl e ↦ ap (value_in new) e ∙ one.here ∙ value-read old reached number page same within read ∙ ap (value_in old) (sym e)
  | inr ne ↦ one.others k ne
]
  where
    one : IsSet old new number (get_or page.items (number % PAGE) old.blank)
    one = page-exchanged old new reached number (get_or page.items (number % PAGE) old.blank) page written same within read exchanged blank (kept (number % PAGE)) (λ k ne. kept k)

pub page-kept_if_failed : {V W E : Type 0} (r : Result W E) (old new : Table V) (reached : List (Vec V Global)) (number : ℕ) (page written : Vec V Global) → ((k : ℕ) → items_at reached k ≡ items_at old.pages.items k) → number / PAGE < length reached → page ≡ get_or reached (number / PAGE) page → new.pages.items ≡ set reached (number / PAGE) written → new.blank ≡ old.blank → ((k : ℕ) → get_or written.items k old.blank ≡ get_or page.items k old.blank) → OnErr r (AreSame old new)
page-kept_if_failed (Ok x) old new reached number page written same within read exchanged blank kept = tt
page-kept_if_failed (Err e) old new reached number page written same within read exchanged blank kept = page-kept old new reached number page written same within read exchanged blank kept

-- ---- one more at the end

-- a page with no value is read as none
pub page-after : {V : Type 0} (pages : List (Vec V Global)) (page : Vec V Global) (k : ℕ) → page.items ≡ [] → items_at (pages ++ page ∷ []) k ≡ items_at pages k
page-after [] page zero e = e
page-after [] page (suc k) e = refl
page-after (x ∷ pages) page zero e = refl
page-after (x ∷ pages) page (suc k) e = page-after pages page k e

-- ---- reading

pub value-found : {V : Type 0} (t : Table V) (number : ℕ) (page : Vec V Global) (value : V) → number / PAGE < length t.pages.items → page ≡ get_or t.pages.items (number / PAGE) page → number % PAGE < length page.items → value ≡ get_or page.items (number % PAGE) value
    → value ≡ value_in t number
value-found t number page value within read inside e =
    e ∙ get_or_default page.items (number % PAGE) value t.blank inside ∙ ap (λ xs. get_or xs (number % PAGE) t.blank) (sym (items-read t.pages.items (number / PAGE) page within read))

pub value-past : {V : Type 0} (t : Table V) (number : ℕ) (page : Vec V Global) → number / PAGE < length t.pages.items → page ≡ get_or t.pages.items (number / PAGE) page → length page.items ≤ number % PAGE → t.blank ≡ value_in t number
value-past t number page within read past =
    sym (get_or_past page.items (number % PAGE) t.blank past) ∙ ap (λ xs. get_or xs (number % PAGE) t.blank) (sym (items-read t.pages.items (number / PAGE) page within read))

pub page-past : {V : Type 0} (t : Table V) (number : ℕ) → length t.pages.items ≤ number / PAGE → t.blank ≡ value_in t number
page-past t number past =
    let none = items-past t.pages.items (number / PAGE) past in
    rw none refl
