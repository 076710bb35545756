use Rattle.fleet_code.proofs.Words.{◌∙◌, ◌++◌, ap, List, ℕ, replicate, on_ok_weaker, Dwell, opcode}
use Rattle.fleet_code.proofs.Written.{part_written}
use Rattle.fleet_code.proofs.encoder.ActionBytes.put_agent.Goals as goal

pub returns : goal.returns
returns c =
    let own = c.self.inside in
    let fourth = c.in_ok-extend_from_slice.ensures.items ∙ (λ t. c.in_ok-begin_agent.ensures t ++ c.deref.ensures.value t) in
    on_ok_weaker c.put_stays.result (λ last actions is.
    part_written c.args.version c.args.start c.args.goal c.args.stays own.count own.bytes.items c.args.out.now.items c.put_stays.new.out.items actions (c.self.view_is ∙ is)
    (last ∙ ap (λ (bytes : List ℕ). bytes ++ replicate c.args.stays (opcode Dwell)) fourth)) c.put_stays.ensures
