-- The words of stretches.
use Rattle.fleet_verify.proofs.Words.{◌≡◌, ℕ, List, [], ◌∷◌, ◌++◌, map, refl, ap, ◌∙◌, map-append, flat_map, range_with_len, numbered_text, numbered_words, action_text, stretch_actions, path_actions, Stretch}

-- a word for each action
abbrev pub words_of : Stretch → List (List ℕ)
words_of s = numbered_words s.agent s.first s.count

one_stretch : (agent : ℕ) (numbers : List ℕ) → map action_text (map (λ (n : ℕ). record { agent = agent; number = n }) numbers) ≡ map (numbered_text agent) numbers
one_stretch agent [] = refl
one_stretch agent (n ∷ numbers) = ap (λ l. numbered_text agent n ∷ l) (one_stretch agent numbers)

pub path_words : (path : List Stretch) → map action_text (path_actions path) ≡ flat_map words_of path
path_words [] = refl
path_words (s ∷ path) =
    map-append action_text (stretch_actions s) (path_actions path)
    ∙ (ap (λ l. l ++ map action_text (path_actions path)) (one_stretch s.agent (range_with_len s.first s.count)) ∙ ap (λ l. words_of s ++ l) (path_words path))
