-- Runs under holds that are read in place, said of the bytes of the holds.
use Rattle.fleet_run.proofs.Words.{◌≡◌, ◌≢◌, ℕ, false, List, [], ◌∷◌, length, None, Some, Option, Result, Ok, Err, rules, subst, IfOk, Program, Configuration, Bytes, lines, Drives, IsInTime, HoldLines, tick_of, last_of, fault_before, source_of, SinkState, SourceState, SourceFault, Broken, RunFault, OutOfMemory, Source, Hold, Write, HoldLimit, Report}
use Rattle.fleet_run.specs.Trace.{hold_source, StopsTrace, Traces}

fault_before-broken : (tick : Option (List ℕ)) (last : Option SourceFault) → last ≢ Some Broken → fault_before tick last ≢ Some Broken
fault_before-broken None last h = λ e. absurd (search rules)
fault_before-broken (Some tick) last h = h

-- a text of holds never breaks off
last_of-broken : (n : ℕ) (ls : List Bytes) → last_of n ls ≢ Some Broken
last_of-broken n [] = λ e. absurd (search rules)
last_of-broken n (line ∷ ls) = fault_before-broken (tick_of n line) (last_of n ls) (last_of-broken n ls)

-- a fleet that was started with this program, and driven
module _ (held : List ℕ) (p : Program) (chain n : ℕ) (s : HoldLines) (source : SourceState) (out out' : SinkState) (c : Configuration) (agents : n ≡ length p)
    (first : s ≡ record { lines = lines held; agents = n; has_failed = false }) where
  Driven : Program → ℕ → HoldLines → Result Report RunFault → Type 0
  Driven q k x r = Drives q k (source_of x) source out out' c r

  -- what was done of the run of the program itself, under the ticks of the holds
  driven : (q : Program) (k : ℕ) → q ≡ p → k ≡ chain → (r : Result Report RunFault) → Drives q k (source_of s) source out out' c r
      → Drives p chain (hold_source p held) source out out' c r
  unfolding Driven
  driven q k same equal r h =
      let here : Driven p chain s r = subst (λ y. Driven p y s r) equal (subst (λ x. Driven x k s r) same h) in
      subst (λ m. Driven p chain (record { lines = lines held; agents = m; has_failed = false }) r) agents (subst (λ x. Driven p chain x r) first here)

  stopped : (fault : RunFault) → Drives p chain (hold_source p held) source out out' c (Err fault) → StopsTrace p chain held out out' fault
  stopped fault h = record {
    never_broken = λ tick e.
        let broken : Drives p chain (hold_source p held) source out out' c (Err (Source tick)) =
        subst (λ f. Drives p chain (hold_source p held) source out out' c (Err f)) e h in
        last_of-broken (length p) (lines held) broken.3.last;
    source = source;
    configuration = c;
    stops = h;
  }

  traced : (r : Result Report RunFault) → Drives p chain (hold_source p held) source out out' c r → IfOk r IsInTime → Traces p chain held out out' r
  traced (Ok r) h t = record {
    finish = h.1.finish;
    written = record { taken = h.1.taken; working = h.1.working };
    right_lines = h.1.asked.ended;
    agents = h.1.agents;
    the_chain = h.1.the_chain;
    held_ready = h.1.held;
    in_time = t;
  }
  traced (Err OutOfMemory) h t = absurd h
  traced (Err (Source x)) h t = stopped (Source x) h
  traced (Err (Hold x)) h t = stopped (Hold x) h
  traced (Err Write) h t = stopped Write h
  traced (Err HoldLimit) h t = stopped HoldLimit h

  pub traces : (q : Program) (k : ℕ) → q ≡ p → k ≡ chain → (r : Result Report RunFault) → Drives q k (source_of s) source out out' c r → IfOk r IsInTime
      → Traces p chain held out out' r
  traces q k same equal r h t = traced r (driven q k same equal r h) t
