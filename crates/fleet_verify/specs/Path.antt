-- The judgement of an agent's path, by one walk along it.
use Rattle.std.specs.Prelude.{◌≡◌, ℕ, ◌<◌, ◌≤◌, Bool, Option, Some, None}
use Rattle.fleet_model.specs.declared.geometry.Place.{Place}
use Rattle.fleet_model.specs.declared.program.ActionId.{ActionId}
use Rattle.fleet_model.specs.Geometry.{place_of}
use Rattle.fleet_model.specs.Program.{Program, moves, path}
use Rattle.fleet_verify.specs.Faults.{StandsRight, AwaitsRight, IsFirstNumber, IsFirstAction}
use Rattle.fleet_verify.specs.declared.agents.PathJudged.{PathJudged}
use Rattle.fleet_verify.specs.declared.agents.Position.{Position}
use Rattle.fleet_verify.specs.declared.agents.Position.TheVariants.{OnGround, OffGround}

-- the least number up to a last one that is not so, or nothing if all are
abbrev pub AnswersFirst : ℕ → (ℕ → Type 0) → Option ℕ → Type 0
AnswersFirst last Right None = (n : ℕ) → n ≤ last → Right n
AnswersFirst last Right (Some n) = IsFirstNumber last Right n

-- the first action of the agents below n that is not so, or nothing if all are
abbrev pub AnswersFirstAction : Program → (ℕ → ℕ → Type 0) → ℕ → Option ActionId → Type 0
AnswersFirstAction p Right n None = (i m : ℕ) → i < n → m ≤ moves p i → Right i m
AnswersFirstAction p Right n (Some a) = (a.agent < n) × IsFirstAction p Right a.agent a.number

-- after n actions agent i is on this cell, and was on passable ground until then; or it is at this place, and this
-- action was the first to lead off passable ground
abbrev pub IsPosition : (Place → Bool) → Program → ℕ → ℕ → Position → Type 0
IsPosition passable p i n (OnGround c) = (place_of c ≡ path p i n) × ((m : ℕ) → m ≤ n → StandsRight passable p i m)
IsPosition passable p i n (OffGround q a) = (q ≡ path p i n) × IsFirstNumber n (StandsRight passable p i) a

-- the end of the path of agent i, its first action that leads off passable ground, and the first that awaits more than
-- there is
pub record IsPathJudged (passable : Place → Bool) (p : Program) (i : ℕ) (judged : PathJudged) : Type 0 where
  pub end : judged.end ≡ path p i (moves p i)
  pub off_ground : AnswersFirst (moves p i) (StandsRight passable p i) judged.off_ground
  pub out_of_range : AnswersFirst (moves p i) (AwaitsRight p i) judged.out_of_range
