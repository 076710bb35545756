use Rattle.fleet_dispatch.proofs.Cited.{◌≡◌, ◌∷◌, [], List, Option, Some, None, sym, subst, MatchOption, slice_split, MAX_AGENTS, is_space, Bytes, Words, words_of}
use Rattle.fleet_dispatch.proofs.Heard.{IsReadTo, begun, no_word, not_behind, goes_on, all_read}
use Rattle.fleet_dispatch.proofs.report_text.add_words.Goals as goal

-- the first of the words, whether others follow or not
first_word : {A : Type 0} (o : Option A) (words : List Bytes) (word : Bytes) (rest : A → List Bytes) → MatchOption o (words ≡ word ∷ []) (λ a. words ≡ word ∷ rest a) → (others : List Bytes) × (words ≡ word ∷ others)
first_word None words word rest h = ([], h)
first_word (Some a) words word rest h = (rest a, h)

pub words-init : goal.words-init
words-init c =
    let total = words_of c.args.form 0 MAX_AGENTS (slice_split is_space c.args.line.now) in
    subst (λ (r : Words). IsReadTo c.args.form total r (slice_split is_space c.args.line.now)) (sym c.requires) (begun c.args.form (slice_split is_space c.args.line.now))

pub words-preserved : goal.words-preserved
words-preserved c =
    let total = words_of c.args.form 0 MAX_AGENTS (slice_split is_space c.args.line.now) in
    let cut = rw c.in-Some-after.is at c.cut.ensures.words in
    let read = subst (IsReadTo c.args.form total c.words.report) cut c.words.invariant in
    let added = c.if-not-add.ensures in
    subst (λ (r : Words). IsReadTo c.args.form total r (slice_split is_space c.in-Some-after.after.now)) (sym added.1)
    (goes_on c.args.form total c.words.report c.cut.result.0.now (slice_split is_space c.in-Some-after.after.now) read c.in-Some.reported (sym c.in-Some.ensures) added.0)

pub returns-in_default : goal.returns-in_default
returns-in_default c =
    let total = words_of c.args.form 0 MAX_AGENTS (slice_split is_space c.args.line.now) in
    let first = first_word c.cut.result.1 (slice_split is_space c.words.rest.now) c.cut.result.0.now (λ after. slice_split is_space after.now) c.cut.ensures.words in
    no_word c.args.form total c.words.report c.cut.result.0.now first.0 (subst (IsReadTo c.args.form total c.words.report) first.1 c.words.invariant) (sym c.in_default.ensures)

pub returns-then-not-add : goal.returns-then-not-add
returns-then-not-add c =
    let total = words_of c.args.form 0 MAX_AGENTS (slice_split is_space c.args.line.now) in
    let first = first_word c.cut.result.1 (slice_split is_space c.words.rest.now) c.cut.result.0.now (λ after. slice_split is_space after.now) c.cut.ensures.words in
    not_behind c.args.form total c.words.report c.cut.result.0.now first.0 (subst (IsReadTo c.args.form total c.words.report) first.1 c.words.invariant) c.in-Some.reported (sym c.in-Some.ensures) c.if-not-add.ensures.0

pub returns-in_default-after : goal.returns-in_default-after
returns-in_default-after c =
    let total = words_of c.args.form 0 MAX_AGENTS (slice_split is_space c.args.line.now) in
    let cut = rw c.in_default-after.is at c.cut.ensures.words in
    let read = subst (IsReadTo c.args.form total c.words.report) cut c.words.invariant in
    let added = c.if-not-add.ensures in
    all_read c.args.form total c.add.new.self (subst (λ (r : Words). IsReadTo c.args.form total r []) (sym added.1) (goes_on c.args.form total c.words.report c.cut.result.0.now [] read c.in-Some.reported (sym c.in-Some.ensures) added.0))
