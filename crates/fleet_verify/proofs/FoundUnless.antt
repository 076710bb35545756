-- What is said of a program that is not found to be accepted.
use Rattle.fleet_verify.proofs.Words.{Bool, List, All, Place, Program, inr, IfOk, Result, Ok, Err, Task, Ahead, IsAhead, HaveFinished, NobodyGoesOn, IsChained}
use Rattle.fleet_verify.specs.declared.ahead.Outlook.{Outlook}
use Rattle.fleet_verify.specs.declared.ahead.Outlook.TheVariants.{Accepted, Unknown}
use Rattle.fleet_verify.specs.Outlook.{IsFound, IsFoundUnless}

pub found_unless : {E : Type 0} (passable : Place → Bool) (tasks : List Task) (p : Program) (a : Ahead) → IsAhead passable p a → NobodyGoesOn p a.rows.items → (r : Result Outlook E)
    → (HaveFinished tasks p a.rows.items → All (IsChained p) a.pairs.items → IfOk r IsFound) → IfOk r (IsFoundUnless passable tasks p)
found_unless passable tasks p a ahead still (Ok (Accepted chain levels)) found = tt
found_unless passable tasks p a ahead still (Ok (Unknown known)) found = inr (record { agents = a; ahead = ahead; still = still; lacks = found })
found_unless passable tasks p a ahead still (Err e) found = tt
