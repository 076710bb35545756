use Rattle.std.proofs.Common.{◌≡◌, ◌≢◌, ℕ, zero, suc, ◌-◌, List, [], ◌∷◌, replicate, refl, arith}
use Rattle.fleet_tests.proofs.streams.FailingSourceHoldSource.next.Goals as goal

abbrev nobody : List ℕ
nobody = []

one_less : (n : ℕ) → n ≢ 0 → replicate n nobody ≡ nobody ∷ replicate (n - 1) nobody
one_less zero some = absurd (some refl)
one_less (suc n) some = let e : suc n - 1 ≡ n = omega arith in rw e refl

pub returns : goal.returns
returns c = (([], one_less _ c.if-self-eq0.false, c.clear.ensures), refl, c.requires)
