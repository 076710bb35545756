use Rattle.std.proofs.Common.{◌≡◌, ◌<◌, ◌≤◌, ◌-◌, ◌/◌, ◌%◌, ℕ, slice_index, false, arith}
use Rattle.fleet_model.specs.declared.limits.TheConstants.{MAX_AGENTS}
use Rattle.fleet_machine.specs.Machine.{flag_of}
use Rattle.fleet_machine.specs.AgentSet.{flags_in}
use Rattle.fleet_machine.proofs.Bits.{long_flags}
use Rattle.fleet_machine.proofs.Onward.{cursor_in_word, lowest_here, cursor_behind}
use Rattle.fleet_machine.proofs.agent_set.AgentSet.next_apart.Goals as goal

pub bounds-self-inside-i : goal.bounds-self-inside-i
bounds-self-inside-i c =
    let few = c.self.invariant.bits.few in
    let inside = rw (← c.self.view_is, long_flags c.self.inside.words c.self.inside.agents) at c.in_ok-i.ensures.agent in
    omega arith

pub pass-requires-clause-lowest : goal.pass-requires-clause-lowest
pass-requires-clause-lowest c =
    let words = c.self.inside.words in
    let n = c.self.inside.agents in
    let i = c.in_ok-i.i in
    let next = c.in_ok-i.ensures in
    let word = c.requires.cursor.word in
    let later = next.later in
    let few = c.self.invariant.bits.few in
    let inside = rw (← c.self.view_is, long_flags words n) at next.agent in
    lowest_here words n c.self.invariant.bits i (i - i % 64) (omega arith) (omega arith) (omega arith)
    (λ k ge lt. rw c.self.view_is (next.between k (omega arith) lt)) (rw c.self.view_is next.member)

pub pass-requires-clause-fit : goal.pass-requires-clause-fit
pass-requires-clause-fit c =
    let few = c.self.invariant.bits.few in
    let inside = rw (← c.self.view_is, long_flags c.self.inside.words c.self.inside.agents) at c.in_ok-i.ensures.agent in
    omega arith

pub returns-clause-cursor : goal.returns-clause-cursor
returns-clause-cursor c =
    let words = c.self.inside.words in
    let n = c.self.inside.agents in
    let i = c.in_ok-i.i in
    let next = c.in_ok-i.ensures in
    let word = c.requires.cursor.word in
    let later = next.later in
    let few = c.self.invariant.bits.few in
    let inside = rw (← c.self.view_is, long_flags words n) at next.agent in
    let first : i - i % 64 ≤ MAX_AGENTS = omega arith in
    let clear : (k : ℕ) → i - i % 64 ≤ k → k < i → flag_of (flags_in words n) k ≡ false = λ k ge lt. rw c.self.view_is (next.between k (omega arith) lt) in
    let at = cursor_in_word words n c.self.invariant.bits i (i - i % 64) (omega arith) first (omega arith) clear in
    let low = lowest_here words n c.self.invariant.bits i (i - i % 64) (omega arith) first (omega arith) clear (rw c.self.view_is next.member) in
    rw (← c.self.view_is) (rw c.pass.ensures.behind
    (cursor_behind (flags_in words n) (record { from = i; first = i - i % 64; bits = slice_index words (i / 64) }) at (i % 64) low c.pass.new.self.bits c.pass.ensures.here c.pass.ensures.others))
