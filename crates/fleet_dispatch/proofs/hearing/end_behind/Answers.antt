use Rattle.fleet_dispatch.proofs.Cited.{◌∙◌, ap, sym, position, take_rest, is_lf}
use Rattle.fleet_dispatch.proofs.StreamLemmas.{some_behind, none_behind}
use Rattle.fleet_dispatch.proofs.hearing.end_behind.Goals as goal

pub returns-in_default : goal.returns-in_default
returns-in_default c = sym (none_behind is_lf c.args.bytes.now c.args.front c.requires.front c.requires.none (ap (position is_lf) (sym (take_rest c.args.bytes.now c.args.front)) ∙ sym c.end_in.ensures ∙ c.in_default.is))

pub returns : goal.returns
returns c = sym (some_behind is_lf c.args.bytes.now c.args.front c.in-Some.end c.requires.front c.requires.none (ap (position is_lf) (sym (take_rest c.args.bytes.now c.args.front)) ∙ sym c.end_in.ensures ∙ c.in-Some.is))
