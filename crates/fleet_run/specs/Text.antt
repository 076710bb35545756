-- The texts of a run.
use Rattle.std.specs.Prelude.{ℕ, zero, suc, ◌+◌, List, [], ◌++◌, length, codes, if◌then◌else◌}
use Rattle.std.specs.List.{flat_map}
use Rattle.std.specs.Fmt.{decimal}
use Rattle.fleet_text.specs.Words.{place_text, count_line}
use Rattle.fleet_run.specs.declared.run.End.{End}
use Rattle.fleet_run.specs.declared.run.End.TheVariants.{Finished, Stuck}
use Rattle.fleet_model.specs.Program.{Program}
use Rattle.fleet_model.specs.Machine.{Configuration, Holds, run, held_ticks, is_finished}

-- the line of time t: `t: x,y x,y ..`
abbrev pub line_of : ℕ → Configuration → List ℕ
line_of t c = decimal t ++ (codes ":" ++ (flat_map (λ s. place_text s.place) c ++ codes "\n"))

-- the lines of the times below n
abbrev pub lines_below : Program → Holds → ℕ → List ℕ
lines_below p holds zero = []
lines_below p holds (suc n) = lines_below p holds n ++ line_of n (run p holds n)

-- the last line of a rehearsal that ended so
abbrev pub last_line_of : End → List ℕ
last_line_of Finished = codes "finished\n"
last_line_of Stuck = codes "stuck\n"

-- what closes a rehearsal
abbrev pub closing_lines : ℕ → ℕ → ℕ → End → List ℕ
closing_lines agents ticks held end =
    count_line (codes "agents") agents ++ (count_line (codes "ticks") ticks
    ++ (count_line (codes "held") held ++ last_line_of end))

-- the same of the rehearsal of a program that ends after this number of ticks
abbrev pub rehearsal_closing : Program → Holds → ℕ → List ℕ
rehearsal_closing p holds ticks =
    closing_lines (length p) ticks (held_ticks p holds ticks) (if is_finished p (run p holds ticks) then Finished else Stuck)

-- the text of the run of any program, which ends after this number of ticks
abbrev pub rehearsal_text : Program → Holds → ℕ → List ℕ
rehearsal_text p holds ticks = lines_below p holds (ticks + 1) ++ rehearsal_closing p holds ticks

-- what closes a trace
abbrev pub trace_closing : ℕ → ℕ → ℕ → ℕ → List ℕ
trace_closing agents ticks chain held =
    count_line (codes "agents") agents ++ (count_line (codes "ticks") ticks
    ++ (count_line (codes "chain") chain ++ count_line (codes "held") held))

-- the text of the run of an accepted program, which ends after this number of ticks
abbrev pub trace_text : Program → Holds → ℕ → ℕ → List ℕ
trace_text p holds ticks chain = lines_below p holds (ticks + 1) ++ trace_closing (length p) ticks chain (held_ticks p holds ticks)
