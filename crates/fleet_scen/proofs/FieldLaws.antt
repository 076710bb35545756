-- The fields of a line by pairs of words.
use Rattle.std.proofs.Common.{◌≡◌, List, [], ◌∷◌, Option, Some, None, refl}
use Rattle.std.specs.Prelude.{option_and_then, if◌then◌else◌}
use Rattle.fleet_text.specs.Text.{Bytes}
use Rattle.fleet_scen.specs.declared.reading.Fields.{Fields}
use Rattle.fleet_scen.specs.Fields.{two_words, two_numbers, is_one_word, fields_of}

-- two words, then three pairs of numbers, and one word after them
abbrev pub fields_by_pairs : List Bytes → Option Fields
fields_by_pairs ws =
    option_and_then (λ names. option_and_then (λ sizes. option_and_then (λ start. option_and_then (λ goal.
    if is_one_word goal.2 then Some (record {
      width = sizes.0;
      height = sizes.1;
      start_x = start.0;
      start_y = start.1;
      goal_x = goal.0;
      goal_y = goal.1;
    }) else None) (two_numbers start.2)) (two_numbers sizes.2)) (two_numbers names.2)) (two_words ws)

pub fields_are : (ws : List Bytes) → fields_of ws ≡ fields_by_pairs ws
unfolding fields_of
fields_are [] = refl
fields_are (a ∷ []) = refl
fields_are (a ∷ b ∷ []) = refl
fields_are (a ∷ b ∷ c ∷ []) = refl
fields_are (a ∷ b ∷ c ∷ d ∷ []) = refl
fields_are (a ∷ b ∷ c ∷ d ∷ e ∷ []) = refl
fields_are (a ∷ b ∷ c ∷ d ∷ e ∷ f ∷ []) = refl
fields_are (a ∷ b ∷ c ∷ d ∷ e ∷ f ∷ g ∷ []) = refl
fields_are (a ∷ b ∷ c ∷ d ∷ e ∷ f ∷ g ∷ h ∷ []) = refl
fields_are (a ∷ b ∷ c ∷ d ∷ e ∷ f ∷ g ∷ h ∷ i ∷ []) = refl
fields_are (a ∷ b ∷ c ∷ d ∷ e ∷ f ∷ g ∷ h ∷ i ∷ j ∷ more) = refl
