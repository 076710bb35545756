use Rattle.std.proofs.Common.{length, ◌++◌, ◌∙◌, sym, ap, arith}
use Rattle.fleet_text.proofs.SinkLemmas.{takes_then, stops_within_more, gathers_whole, gathers_err, kept_in_row}
use Rattle.fleet_text.proofs.row.Row.add.Goals as goal

pub returns-then-is_long : goal.returns-then-is_long
returns-then-is_long g c =
    gathers_whole _ _ _ _ _ _ c.in_ok-hand_on.ensures.empty (takes_then _ _ _ _ c.args.self.now c.args.bytes.now c.in_ok-hand_on.ensures.taken c.put_all.ensures)

pub returns-then-has_room : goal.returns-then-has_room
returns-then-has_room g c = kept_in_row _ c.args.self.now c.append.new.self c.args.bytes.now c.requires c.append.ensures

pub returns-in_err-hand_on : goal.returns-in_err-hand_on
returns-in_err-hand_on g c =
    gathers_err _ _ _ _ _ _ c.from_residual.ensures.0 (stops_within_more _ _ c.args.self.now c.args.bytes.now c.in_err-hand_on.ensures.taken)

pub append-requires-2 : goal.append-requires-2
append-requires-2 g c = omega (arith, ap length c.in_ok-hand_on.ensures.empty, c.if-is_long.false)

pub returns : goal.returns
returns g c =
    let row = c.args.self.now in
    let bytes = c.args.bytes.now in
    record {
      handed = row;
      taken = c.in_ok-hand_on.ensures.taken;
      in_order = sym (ap (λ l. row ++ l) c.append-2.ensures ∙ ap (λ l. row ++ (l ++ bytes)) c.in_ok-hand_on.ensures.empty);
    }
