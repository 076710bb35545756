-- In which actions robots break down, by a line of words.
use Rattle.std.specs.Prelude.{◌≡◌, ℕ, List, [], ◌∷◌, Some, set, replicate, length, slice_get, ⊤}
use Rattle.std.specs.Option.{unwrap_or}
use Rattle.fleet_model.specs.declared.program.ActionId.{ActionId}
use Rattle.fleet_model.specs.Program.{Program}
use Rattle.fleet_model.specs.Chain.{IsAction}
use Rattle.fleet_dispatch.specs.declared.times_fault.TimesFault.{TimesFault}
use Rattle.fleet_dispatch.specs.declared.times_fault.TimesFault.TheVariants.{OutOfMemory, Broken}
use Rattle.fleet_dispatch.specs.Report.{Words}
use Rattle.fleet_dispatch.specs.ReportText.{report_of}
use Rattle.fleet_dispatch.specs.declared.form.ReportForm.TheVariants.{Numbered}
use Rattle.fleet_dispatch.specs.declared.report.Reported.{Reported}

-- the action that a word names
abbrev pub named_action : Reported → ActionId
named_action w = record { agent = w.agent; number = unwrap_or w.number 0 }

-- for each agent the action of these in which it breaks down, or what was noted before
abbrev pub breaks_from : List ℕ → Words → List ℕ
breaks_from breaks [] = breaks
breaks_from breaks (w ∷ ws) = breaks_from (set breaks w.agent (named_action w).number) ws

-- each of the words names an action of the program
abbrev pub NameActions : Program → Words → Type 0
NameActions p words = (k : ℕ) (w : Reported) → slice_get words k ≡ Some w → IsAction p (named_action w)

-- the line names actions of the program, one of each agent at most, in which these break down; 0 stands for none
pub record AreBreaksOf (p : Program) (line breaks : List ℕ) : Type 0 where
  pub words : Words
  pub read : report_of Numbered line ≡ Some words
  pub actions : NameActions p words
  pub noted : breaks ≡ breaks_from (replicate (length p) 0) words

-- the line does not
abbrev pub NameNoBreaks : Program → List ℕ → Type 0
NameNoBreaks p line = (words : Words) → report_of Numbered line ≡ Some words → NameActions p words → ⊥

-- .. or there was no memory
abbrev pub IsBreaksFault : Program → List ℕ → TimesFault → Type 0
IsBreaksFault p line OutOfMemory = ⊤
IsBreaksFault p line Broken = NameNoBreaks p line
IsBreaksFault p line _ = ⊥
