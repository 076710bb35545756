use Rattle.std.proofs.Common.{◌≡◌, List, [], ◌∷◌, map, inl, inr, rules, refl}
use Rattle.fleet_cli.proofs.command.run_command.Goals as goal

-- of some words there are some texts
some_texts : {X Y : Type 0} (text : X → Y) (words : List X) → (words ≡ [] → ⊥) → map text words ≡ [] → ⊥
some_texts text [] some e = some refl
some_texts text (word ∷ words) some e = cc

pub returns-in-Ok : goal.returns-in-Ok
returns-in-Ok g c = inr (inl (some_texts _ c.args.words.now (search rules), c.in-Ok.request, c.in-Ok.ensures, c.run_request.ensures))

pub returns-in-Err : goal.returns-in-Err
returns-in-Err g c = inr (inr (some_texts _ c.args.words.now (search rules), c.in-Err.stop, c.in-Err.ensures, c.stop_at.ensures, refl, refl))
