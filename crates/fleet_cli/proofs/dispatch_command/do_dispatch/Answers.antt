use Rattle.std.proofs.Common.{◌≡◌, ℕ, List, [], Err, ap, inl, inr, refl, subst}
use Rattle.std.proofs.lemmas.Result.{err_from_is_err_and}
use Rattle.fleet_code.specs.declared.code_view.CodeView.{CodeView}
use Rattle.fleet_model.specs.Program.{Program}
use Rattle.fleet_dispatch.specs.{Session.left_in, Replay.LeadsOn, declared.pace.Pace.Pace}
use Rattle.fleet_dispatch.proofs.Said.{led_stops}
use Rattle.fleet_cli.specs.DispatchCommand.{pace_of}
use Rattle.fleet_cli.proofs.DispatchLemmas.{others_self, others_on}
use Rattle.fleet_cli.proofs.dispatch_command.do_dispatch.Goals as goal

pub returns-in-Err : goal.returns-in-Err
returns-in-Err g c =
    let p = c.program-program.result.now.program in
    let past = subst (λ (bytes : List ℕ). LeadsOn p c.pace_of.result bytes (Err c.in-Err.fault)) c.deref.ensures.value c.in-Err.ensures in
    let paced = subst (λ (pace : Pace). LeadsOn p pace c.args.problem.now.texts.log.items (Err c.in-Err.fault)) c.pace_of.ensures past in
    let program = ap (λ (v : CodeView). v.program) c.program-program.ensures.program in
    let stopped = subst (λ (q : Program). LeadsOn q (pace_of c.args.request.now) c.args.problem.now.texts.log.items (Err c.in-Err.fault)) program paced in
    let untold = led_stops _ _ _ (λ talk. talk ≡ []) _ stopped refl in
    let kept = others_self (g.F.Files.contents c.args.files.now) c.args.request.now.log in
    inl (_, _, c.in_ok-accepted.ensures.accepted, (inr (_, refl, inl (_, refl, untold, refl), (refl, refl)), kept))

pub returns-in_err-begin_log : goal.returns-in_err-begin_log
returns-in_err-begin_log g c =
    let e = err_from_is_err_and c.from_residual-in_err-begin_log.result c.from_residual-in_err-begin_log.ensures.1 in
    let fault = rw c.deref-2.ensures.value at c.in_err-begin_log.ensures.fault in
    rw (e.1, e.2) (inl (_, _, c.in_ok-accepted.ensures.accepted, (inr (_, refl, inr fault, (refl, refl)), c.in_err-begin_log.ensures.others)))

pub returns : goal.returns
returns g c =
    let program = ap (λ (v : CodeView). v.program) c.program-program.ensures.program in
    let own = rw c.deref-2.ensures.value at c.in_ok-begin_log.ensures.own in
    let on = rw (program, c.deref.ensures.value, c.pace_of.ensures) at c.in-Ok.ensures in
    let kept = rw (program, c.in_ok-begin_log.ensures.lines) at c.dispatch_kept.ensures.outcome in
    inl (
      _,
      _,
      c.in_ok-accepted.ensures.accepted,
      (
        inl (own, c.dispatch_kept.result, record { past = left_in c.in-Ok.made; replayed = on.replayed; left = left_in c.dispatch_kept.new.session; dispatches = kept }, c.answer_of.ensures),
        others_on _ _ _ c.args.request.now.log c.in_ok-begin_log.ensures.others c.dispatch_kept.ensures.others,
      ),
    )
