-- Agents that lack a count.
use Rattle.std.proofs.Common.{◌≡◌, ◌<◌, ◌+◌, ℕ, false, true, ◌&&◌, length, take, slice_get, Some, ap, sym, ◌∙◌, arith}
use Rattle.std.specs.List.{list_all}
use Rattle.std.proofs.lemmas.Bool.{lt-ltb}
use Rattle.std.proofs.lemmas.List.{take_all}
use Rattle.fleet_model.specs.declared.program.Await.{Await}
use Rattle.fleet_model.specs.declared.standing.Standing.{Standing}
use Rattle.fleet_model.specs.Program.{Program, moves, awaits_of}
use Rattle.fleet_model.specs.Machine.{Configuration, standing_at, count_at, is_met, is_ready}
use Rattle.fleet_machine.specs.Machine.{is_left}
use Rattle.fleet_machine.proofs.Ready.{ready_if_met, not_ready_if_unmet}

module _ (p : Program) (c : Configuration) (i : ℕ) (left : count_at c i < moves p i) (s : Standing) (stands : s ≡ standing_at c i) (k : ℕ) where
  -- an await of the next action is not met
  module _ (w : Await) (at : slice_get (awaits_of p i (s.count + 1)) k ≡ Some w) (unmet : is_met c w ≡ false) where
    pub unready : is_ready p c i ≡ false
    unready = sym (not_ready_if_unmet p c i left k w (ap (λ (t : Standing). slice_get (awaits_of p i (t.count + 1)) k) (sym stands) ∙ at) unmet)

    pub one_lacked : is_ready p c i ≡ (is_left p c i && false)
    one_lacked = rw (lt-ltb (count_at c i) (moves p i) left) unready

  -- all awaits of the next action are read, and met
  module _ (all : k ≡ length (awaits_of p i (s.count + 1))) (met : list_all (is_met c) (take k (awaits_of p i (s.count + 1))) ≡ true) where
    ready_if_read : is_ready p c i ≡ true
    ready_if_read =
        ready_if_met p c i left
        ∙ (ap (λ (t : Standing). list_all (is_met c) (awaits_of p i (t.count + 1))) (sym stands)
        ∙ (rw (take_all k (awaits_of p i (s.count + 1)) (omega (arith, all))) at met))

    pub none_lacked : is_ready p c i ≡ is_left p c i
    none_lacked = ready_if_read ∙ sym (lt-ltb (count_at c i) (moves p i) left)

    pub all_met : is_ready p c i ≡ (is_left p c i && true)
    all_met = rw (lt-ltb (count_at c i) (moves p i) left) ready_if_read
