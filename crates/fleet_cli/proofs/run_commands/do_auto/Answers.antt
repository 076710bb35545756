use Rattle.std.proofs.{Common.inl, Common.inr, Common.refl, lemmas.Result.err_from_is_err_and}
use Rattle.fleet_cli.proofs.RunLemmas.{made}
use Rattle.fleet_cli.proofs.run_commands.do_auto.Goals as goal

pub returns-in_err-run_flushed : goal.returns-in_err-run_flushed
returns-in_err-run_flushed g c =
    let e = err_from_is_err_and c.from_residual-in_err-run_flushed.result c.from_residual-in_err-run_flushed.ensures.1 in
    let m = made c.in_ok-made.ensures.made (rw c.deref.ensures.value at c.in_ok-accepted.ensures.only) in
    rw (e.1, e.2) (inl (_, _, _, m, c.in_ok-accepted.ensures.accepted.accepted_for, inr (_, refl, rw c.deref-2.ensures.value at c.in_err-run_flushed.ensures)))

pub returns : goal.returns
returns g c =
    let m = made c.in_ok-made.ensures.made (rw c.deref.ensures.value at c.in_ok-accepted.ensures.only) in
    inl (_, _, _, m, c.in_ok-accepted.ensures.accepted.accepted_for, inl (g.O.TraceOut.state c.run_flushed.new.out, _, rw c.deref-2.ensures.value at c.in_ok-run_flushed.ensures, c.tell_numbers.ensures))
