use Rattle.std.proofs.Common.{◌∙◌, ap, inl, refl}
use Rattle.std.proofs.lemmas.Result.{IfOk-at_ok}
use Rattle.clap.specs.Words.{is_simple_and_free, kind_of}
use Rattle.clap.specs.declared.error.ErrorKind.TheVariants as kind
use Rattle.clap.proofs.WalkLemmas.{both}
use Rattle.fleet_args.proofs.request.matches_by.Goals as goal

pub returns-in_default-clause-values : goal.returns-in_default-clause-values
returns-in_default-clause-values c = λ app is. (kind.OutOfMemory, inl refl, tt)

pub returns-in-Ok-try_get_matches_from-clause-values : goal.returns-in-Ok-try_get_matches_from-clause-values
returns-in-Ok-try_get_matches_from-clause-values c = λ app is.
    let simple = ap is_simple_and_free (IfOk-at_ok _ c.in-Ok.is c.requires.2) ∙ c.requires.1 in
    rw (← (IfOk-at_ok _ c.in-Ok.is is)) (c.in-Ok-try_get_matches_from.ensures.kinds simple, (c.in-Ok-try_get_matches_from.ensures.matches (both _ _ simple).0).0)

pub returns-in-Err-clause-values : goal.returns-in-Err-clause-values
returns-in-Err-clause-values c = λ app is.
    let simple = ap is_simple_and_free (IfOk-at_ok _ c.in-Ok.is c.requires.2) ∙ c.requires.1 in
    rw (← (IfOk-at_ok _ c.in-Ok.is is)) (kind_of c.in-Err.error, c.in-Err.ensures.kinds simple, c.stop_of.ensures)
