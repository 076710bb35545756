-- What a call tells its caller.
use Rattle.std.specs.Prelude.{◌≡◌, ℕ, ◌<◌, ◌≤◌, ◌++◌, List, length, drop, ◌⊎◌, if◌then◌else◌, nat_eq}
use Rattle.fleet_c.specs.Plain.{plain_of}
use Rattle.fleet_c.specs.declared.plain.FleetFault.{FleetFault}
use Rattle.fleet_c.specs.declared.plain.TheConstants.{MEMORY}
use Rattle.fleet_c.specs.declared.answer.TheConstants.{DONE, REFUSED, TOO_SMALL, FAILED}
use Rattle.fleet_c.specs.declared.fault.CallFault.{CallFault}

-- the status of a refusal: whether memory ran out, or something is wrong with what was given
abbrev pub status_of : CallFault → ℕ
status_of stop = if nat_eq (plain_of stop).part MEMORY then FAILED else REFUSED

-- the bytes are at the front of the buffer, which is as before after them, and the status is `done`
pub record IsHandedOver (bytes : List ℕ) (done : ℕ) (out out' : List ℕ) (status : ℕ) : Type 0 where
  pub room : length bytes ≤ length out
  pub written : out' ≡ bytes ++ drop (length bytes) out
  pub is_done : status ≡ done

-- the buffer is too small for the bytes, and as before
pub record IsTooSmall (bytes : List ℕ) (out out' : List ℕ) (status : ℕ) : Type 0 where
  pub no_room : length out < length bytes
  pub unchanged : out' ≡ out
  pub is_too_small : status ≡ TOO_SMALL

-- the bytes are handed over in the buffer, or it is too small for them; how many they are is told in any case
pub record HandsOver (bytes : List ℕ) (done : ℕ) (out out' : List ℕ) (length' status : ℕ) : Type 0 where
  pub told : length' ≡ length bytes
  pub handed : IsHandedOver bytes done out out' status ⊎ IsTooSmall bytes out out' status

-- the call was refused: the refusal and its status are told
pub record IsRefused (is_stop : CallFault → Type 0) (fault' : FleetFault) (status : ℕ) : Type 0 where
  pub stop : CallFault
  pub is : is_stop stop
  pub told : fault' ≡ plain_of stop
  pub status_told : status ≡ status_of stop

-- the call has these numbers as its answer, or was refused, and then the caller's numbers are as before
abbrev pub AnswersNumbers : {T : Type 0} (is_answer : T → Type 0) (is_stop : CallFault → Type 0) (old new : T) (fault fault' : FleetFault) → ℕ → Type 0
AnswersNumbers is_answer is_stop old new fault fault' status =
    (is_answer new × (fault' ≡ fault) × (status ≡ DONE)) ⊎ (IsRefused is_stop fault' status × (new ≡ old))

-- the call has these bytes as its answer, with this status, or was refused, and then the caller's buffer and length are
-- as before
abbrev pub AnswersBytes : (is_answer : List ℕ → ℕ → Type 0) (is_stop : CallFault → Type 0) (out out' : List ℕ) (length length' : ℕ) (fault fault' : FleetFault) → ℕ → Type 0
AnswersBytes is_answer is_stop out out' length length' fault fault' status =
    ((bytes : List ℕ) × (done : ℕ) × is_answer bytes done × HandsOver bytes done out out' length' status × (fault' ≡ fault))
    ⊎ (IsRefused is_stop fault' status × (out' ≡ out) × (length' ≡ length))
