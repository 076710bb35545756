-- Lists by keys, by the numbers of the keys' lists.
use Rattle.std.proofs.Common.{◌≡◌, ◌≢◌, ℕ, zero, suc, ◌+◌, ◌<◌, ◌≤◌, ◌⊎◌, List, [], ◌∷◌, ◌++◌, length, map, get_or, inl, inr, refl, sym, ap, ◌∙◌, subst, arith, add-one}
use Rattle.std.specs.Prelude.{Vec, set}
use Rattle.std.specs.declared.alloc.Global.{Global}
use Rattle.std.proofs.lemmas.Bool.{cases_eq, cases_lt}
use Rattle.std.proofs.lemmas.List.{map-append, get_or_past, get_or_push, get_or_append_left, length-append, length-map}
use Rattle.fleet_grid.specs.declared.table.Key.{Key}
use Rattle.fleet_grid.specs.Table.{items_at}
use Rattle.fleet_grid.specs.Lists.{list_at, number_at, list_numbered, list_of, lists_by_key, HaveOwnLists, IsNumbered, IsChangedBy}
use Rattle.fleet_grid.proofs.Pages.{items-read, items-past, items-set, items-other}

-- ---- keys

key_from_parts : (k l : Key) → k.row ≡ l.row → k.place ≡ l.place → k ≡ l
key_from_parts k l er ep = λ i. record { row = er i; place = ep i }

pub key_cases : (k l : Key) → (k ≡ l) ⊎ (k ≢ l)
key_cases k l = elim (cases_eq k.row l.row) [
  | inr ne ↦ inr (λ e. ne (ap (λ (z : Key). z.row) e))
  | inl er ↦ elim (cases_eq k.place l.place) [
    | inr ne ↦ inr (λ e. ne (ap (λ (z : Key). z.place) e))
    | inl ep ↦ inl (key_from_parts k l er ep)
  ]
]

-- ---- lists of lists

-- the lists before i are changed by f, and the others are not
pub record AreChangedTo {V : Type 0} (f : List V → List V) (old new : List (Vec V Global)) (i : ℕ) : Type 0 where
  pub done : (k : ℕ) → k < i → items_at new k ≡ f (items_at old k)
  pub left : (k : ℕ) → i ≤ k → items_at new k ≡ items_at old k

pub changed-more : {V : Type 0} (f : List V → List V) (old now : List (Vec V Global)) (i : ℕ) (v w : Vec V Global) → AreChangedTo f old now i → i < length now → v ≡ get_or now i v → w.items ≡ f v.items → AreChangedTo f old (set now i w) (i + 1)
changed-more f old now i v w h l e g = record {
  done = λ k m. elim (cases_eq k i) [
    | inl s ↦ ap (items_at (set now i w)) s ∙ items-set now i w l ∙ g ∙ ap f (sym (items-read now i v l e) ∙ h.left i (omega arith) ∙ ap (items_at old) (sym s))
    | inr ne ↦ items-other now i k w ne ∙ h.done k (omega arith)
  ];
  left = λ k m. items-other now i k w (λ s. omega arith) ∙ h.left k (omega arith);
}

pub changed-all : {V : Type 0} (f : List V → List V) (old now : List (Vec V Global)) (i : ℕ) → AreChangedTo f old now i → length now ≤ i → f [] ≡ [] → (k : ℕ) → items_at now k ≡ f (items_at old k)
changed-all f old now i h l e k = elim (cases_lt k i) [
  | inl m ↦ h.done k m
  | inr m ↦
      let none : items_at now k ≡ [] = items-past now k (omega arith) in
      none ∙ sym e ∙ ap f (sym none ∙ h.left k m)
]

-- ---- lists by number, counted from 1

pub numbered-none : {V : Type 0} (lists : List (Vec V Global)) → list_numbered lists 0 ≡ []
unfolding list_numbered
numbered-none lists = refl

numbered-in : {V : Type 0} (lists : List (Vec V Global)) (k : ℕ) → list_numbered lists (suc k) ≡ items_at lists k
unfolding list_numbered
numbered-in lists k = refl

pub numbered-read : {V : Type 0} (lists : List (Vec V Global)) (k : ℕ) (v : Vec V Global) → k < length lists → v ≡ get_or lists k v → list_numbered lists (k + 1) ≡ v.items
numbered-read lists k v l e = rw add-one (numbered-in lists k ∙ items-read lists k v l e)

numbered-set : {V : Type 0} (lists : List (Vec V Global)) (k : ℕ) (w : Vec V Global) → k < length lists → list_numbered (set lists k w) (k + 1) ≡ w.items
numbered-set lists k w l = rw add-one (numbered-in (set lists k w) k ∙ items-set lists k w l)

numbered-other : {V : Type 0} (lists : List (Vec V Global)) (k n : ℕ) (w : Vec V Global) → n ≢ k + 1 → list_numbered (set lists k w) n ≡ list_numbered lists n
numbered-other lists k zero w ne = numbered-none (set lists k w) ∙ sym (numbered-none lists)
numbered-other lists k (suc j) w ne = numbered-in (set lists k w) j ∙ items-other lists k j w (λ s. ne (omega arith)) ∙ sym (numbered-in lists j)

numbered-before : {V : Type 0} (lists : List (Vec V Global)) (n : ℕ) (w : Vec V Global) → n ≤ length lists → list_numbered (lists ++ w ∷ []) n ≡ list_numbered lists n
unfolding list_numbered
numbered-before lists zero w h = refl
numbered-before {V} lists (suc j) w h = ap (λ z. get_or z j []) (map-append (λ v. v.items) lists (w ∷ [])) ∙ get_or_append_left (map (λ v. v.items) lists) (w.items ∷ []) [] j (omega (arith, length-map lists (λ (v : Vec V Global). v.items)))

numbered-last : {V : Type 0} (lists : List (Vec V Global)) (w : Vec V Global) → list_numbered (lists ++ w ∷ []) (length lists + 1) ≡ w.items
unfolding list_numbered
numbered-last {V} lists w = rw add-one (ap (λ z. get_or z (length lists) []) (map-append (λ v. v.items) lists (w ∷ [])) ∙ get_or_push (map (λ v. v.items) lists) w.items [] (length lists) (length-map lists (λ (v : Vec V Global). v.items)))

pub numbered-changed : {V : Type 0} (f : List V → List V) (old new : List (Vec V Global)) → f [] ≡ [] → ((k : ℕ) → items_at new k ≡ f (items_at old k)) → (n : ℕ) → list_numbered new n ≡ f (list_numbered old n)
numbered-changed f old new e h zero = numbered-none new ∙ sym e ∙ ap f (sym (numbered-none old))
numbered-changed f old new e h (suc k) = numbered-in new k ∙ h k ∙ ap f (sym (numbered-in old k))

-- ---- numbers of keys

pub number-past : (rows : List (Vec ℕ Global)) (k : Key) → length rows ≤ k.row → number_at rows k ≡ 0
unfolding number_at
number-past rows k l = ap (λ z. get_or z k.place 0) (get_or_past (map (λ v. v.items) rows) k.row [] (omega (arith, length-map rows (λ (v : Vec ℕ Global). v.items))))

number-read : (rows : List (Vec ℕ Global)) (k : Key) (row : Vec ℕ Global) → k.row < length rows → row ≡ get_or rows k.row row → number_at rows k ≡ get_or row.items k.place 0
unfolding number_at
number-read rows k row l e = ap (λ z. get_or z k.place 0) (items-read rows k.row row l e)

pub same-numbers : (old new : List (Vec ℕ Global)) → ((k : ℕ) → get_or (map (λ v. v.items) new) k [] ≡ get_or (map (λ v. v.items) old) k []) → (k : Key) → number_at new k ≡ number_at old k
unfolding number_at
same-numbers old new h k = ap (λ z. get_or z k.place 0) (h k.row)

-- a row is replaced
number-set : (rows : List (Vec ℕ Global)) (y : ℕ) (row : Vec ℕ Global) (k : Key) → y < length rows → k.row ≡ y → number_at (set rows y row) k ≡ get_or row.items k.place 0
unfolding number_at
number-set rows y row k l e = ap (λ z. get_or z k.place 0) (ap (λ j. get_or (map (λ v. v.items) (set rows y row)) j []) e ∙ items-set rows y row l)

number-other : (rows : List (Vec ℕ Global)) (y : ℕ) (row : Vec ℕ Global) (k : Key) → k.row ≢ y → number_at (set rows y row) k ≡ number_at rows k
unfolding number_at
number-other rows y row k ne = ap (λ z. get_or z k.place 0) (items-other rows y k.row row ne)

module _ (old wide : List (Vec ℕ Global)) (key : Key) (row new : Vec ℕ Global) (same : (k : ℕ) → get_or (map (λ v. v.items) wide) k [] ≡ get_or (map (λ v. v.items) old) k []) (l : key.row < length wide) (e : row ≡ get_or wide key.row row) where
  was : (k : Key) → k.row ≡ key.row → get_or row.items k.place 0 ≡ number_at old k
  was k s = sym (number-read wide k row (omega arith) (subst (λ z. row ≡ get_or wide z row) (sym s) e)) ∙ same-numbers old wide same k

  elsewhere : (k : Key) → k.row ≢ key.row → number_at (set wide key.row new) k ≡ number_at old k
  elsewhere k ne = number-other wide key.row new k ne ∙ same-numbers old wide same k

  pub numbers-kept : new.items ≡ row.items → (k : Key) → number_at (set wide key.row new) k ≡ number_at old k
  numbers-kept h k = elim (cases_eq k.row key.row) [
    | inr ne ↦ elsewhere k ne
    | inl s ↦ number-set wide key.row new k l s ∙ ap (λ z. get_or z k.place 0) h ∙ was k s
  ]

  pub numbered : (number : ℕ) → get_or new.items key.place 0 ≡ number → ((k : ℕ) → k ≢ key.place → get_or new.items k 0 ≡ get_or row.items k 0) → IsNumbered old (set wide key.row new) key number
  numbered number here others = record {
    here = number-set wide key.row new key l refl ∙ here;
    others = λ k ne. elim (cases_eq k.row key.row) [
      | inr a ↦ elsewhere k a
      | inl s ↦ number-set wide key.row new k l s ∙ others k.place (λ a. ne (key_from_parts k key s a)) ∙ was k s
    ];
  }

-- ---- the list of a key

get_map : {X Y : Type 0} (f : X → Y) (xs : List X) (k : ℕ) (d : X) (e : Y) → f d ≡ e → get_or (map f xs) k e ≡ f (get_or xs k d)
get_map f [] k d e h = sym h
get_map f (x ∷ xs) zero d e h = refl
get_map f (x ∷ xs) (suc k) d e h = get_map f xs k d e h

-- it is the list of its number
pub list-by_key : {V : Type 0} (numbers : List (Vec ℕ Global)) (lists : List (Vec V Global)) (key : Key) → list_at (lists_by_key numbers lists) key ≡ list_of numbers lists key
unfolding list_at lists_by_key number_at
list-by_key numbers lists key =
    let rows = map (λ v. v.items) numbers in
    ap (λ z. get_or z key.place []) (get_map (map (list_numbered lists)) rows key.row [] [] refl)
    ∙ get_map (list_numbered lists) (get_or rows key.row []) key.place 0 [] (numbered-none lists)

pub none-by_key : {V : Type 0} (numbers : List (Vec ℕ Global)) (lists : List (Vec V Global)) → numbers ≡ [] → (key : Key) → list_at (lists_by_key numbers lists) key ≡ []
none-by_key numbers lists e key = list-by_key numbers lists key ∙ ap (list_numbered lists) (ap (λ z. number_at z key) e ∙ number-past [] key (omega arith)) ∙ numbered-none lists

pub own-none : {V : Type 0} (numbers : List (Vec ℕ Global)) (lists : List (Vec V Global)) → numbers ≡ [] → HaveOwnLists numbers lists
own-none numbers lists e = record {
  few = λ k. (let z = ap (λ n. number_at n k) e ∙ number-past [] k (omega arith) in omega arith);
  apart = λ k l ne s. ap (λ n. number_at n k) e ∙ number-past [] k (omega arith);
}

-- each key has its list as before, by these numbers and lists
pub record AreAsBefore {V : Type 0} (numbers new : List (Vec ℕ Global)) (lists more : List (Vec V Global)) : Type 0 where
  pub own : HaveOwnLists new more
  pub same : (k : Key) → list_of new more k ≡ list_of numbers lists k

-- a list is added
module _ {V : Type 0} (numbers : List (Vec ℕ Global)) (lists : List (Vec V Global)) (own : HaveOwnLists numbers lists) (w : Vec V Global) (none : w.items ≡ []) where
  -- which no key has
  pub added-unused : (new : List (Vec ℕ Global)) → ((k : Key) → number_at new k ≡ number_at numbers k) → AreAsBefore numbers new lists (lists ++ w ∷ [])
  added-unused new same = record {
    own = record {
      few = λ k. (let f = own.few k in omega (arith, same k, length-append lists (w ∷ [])));
      apart = λ k l ne e. same k ∙ own.apart k l ne (sym (same k) ∙ e ∙ same l);
    };
    same = λ k. ap (list_numbered (lists ++ w ∷ [])) (same k) ∙ numbered-before lists (number_at numbers k) w (own.few k);
  }

  module _ (key : Key) (before : number_at numbers key ≡ 0) (new : List (Vec ℕ Global)) (put : IsNumbered numbers new key (length lists + 1)) where
    -- which the key has
    same-begun : (k : Key) → list_of new (lists ++ w ∷ []) k ≡ list_of numbers lists k
    same-begun k = elim (key_cases k key) [
      | inr ne ↦ ap (list_numbered (lists ++ w ∷ [])) (put.others k ne) ∙ numbered-before lists (number_at numbers k) w (own.few k)
      | inl s ↦
          ap (list_numbered (lists ++ w ∷ [])) (ap (number_at new) s ∙ put.here)
          ∙ numbered-last lists w
          ∙ none
          ∙ sym (numbered-none lists)
          ∙ ap (list_numbered lists) (sym (ap (number_at numbers) s ∙ before))
    ]

    own-begun : HaveOwnLists new (lists ++ w ∷ [])
    own-begun = record {
      few = λ k. elim (key_cases k key) [
        | inr ne ↦ (let f = own.few k in omega (arith, put.others k ne, length-append lists (w ∷ [])))
        | inl s ↦ (let e = ap (number_at new) s ∙ put.here in omega (arith, length-append lists (w ∷ [])))
      ];
      apart = λ k l ne e. elim (key_cases k key) [
        | inl s ↦ absurd (let f = own.few l in let n = ap (number_at new) s ∙ put.here in let o = put.others l (λ z. ne (s ∙ sym z)) in omega arith)
        | inr a ↦ elim (key_cases l key) [
          | inl s ↦ absurd (let f = own.few k in let n = ap (number_at new) s ∙ put.here in let o = put.others k a in omega arith)
          | inr b ↦ put.others k a ∙ own.apart k l ne (sym (put.others k a) ∙ e ∙ put.others l b)
        ]
      ];
    }

    pub added-begun : AreAsBefore numbers new lists (lists ++ w ∷ [])
    added-begun = record { own = own-begun; same = same-begun }

-- a list is exchanged
module _ {V : Type 0} (numbers : List (Vec ℕ Global)) (lists : List (Vec V Global)) (own : HaveOwnLists numbers lists) (key : Key) (place : ℕ) (v w : Vec V Global) (n : number_at numbers key ≡ place + 1) (l : place < length lists) (e : v ≡ get_or lists place v) where
  pub exchanged-lent : list_of numbers lists key ≡ v.items
  exchanged-lent = ap (list_numbered lists) n ∙ numbered-read lists place v l e

  exchanged-left : list_of numbers (set lists place w) key ≡ w.items
  exchanged-left = ap (list_numbered (set lists place w)) n ∙ numbered-set lists place w l

  exchanged-others : (k : Key) → k ≢ key → list_of numbers (set lists place w) k ≡ list_of numbers lists k
  exchanged-others k ne = numbered-other lists place (number_at numbers k) w (λ s. (let z = own.apart k key ne (s ∙ sym n) in omega arith))

  pub exchanged : (leaves : Vec V Global → Vec V Global → Type 0) (old : List (List (List V))) → ((k : Key) → list_of numbers lists k ≡ list_at old k) → leaves v w → IsChangedBy leaves old (lists_by_key numbers (set lists place w)) key
  exchanged leaves old same call = record {
    before = v;
    after = w;
    lent = sym exchanged-lent ∙ same key;
    call = call;
    left = list-by_key numbers (set lists place w) key ∙ exchanged-left;
    others = λ k ne. list-by_key numbers (set lists place w) k ∙ exchanged-others k ne ∙ same k;
  }

-- ---- reading

pub found-none : {V : Type 0} (numbers : List (Vec ℕ Global)) (lists : List (Vec V Global)) (key : Key) → number_at numbers key ≡ 0 → list_at (lists_by_key numbers lists) key ≡ []
found-none numbers lists key e = list-by_key numbers lists key ∙ ap (list_numbered lists) e ∙ numbered-none lists

pub found : {V : Type 0} (numbers : List (Vec ℕ Global)) (lists : List (Vec V Global)) (key : Key) (place : ℕ) (v : Vec V Global) → number_at numbers key ≡ place + 1 → place < length lists → v ≡ get_or lists place v → list_at (lists_by_key numbers lists) key ≡ v.items
found numbers lists key place v n l e = list-by_key numbers lists key ∙ ap (list_numbered lists) n ∙ numbered-read lists place v l e
