-- How the next line of an input is found and heard.
use Rattle.std.specs.Prelude.{◌≡◌, ℕ, ◌≤◌, List, length, position, Option, Some, None, IfSome, Result, Ok, Err, ⊤}
use Rattle.std.specs.Io.KnownBytes.{prepend_known, Keeps, IsAtEnd}
use Rattle.fleet_text.specs.Text.{is_lf}
use Rattle.fleet_dispatch.specs.Report.{Words}
use Rattle.fleet_dispatch.specs.ReportText.{heard_line}
use Rattle.fleet_dispatch.specs.Stream.{GivesLine, IsMisheard, HasNoLine}
use Rattle.fleet_dispatch.specs.declared.report_text.LineKind.{LineKind}
use Rattle.fleet_dispatch.specs.declared.form.ReportForm.{ReportForm}
use Rattle.fleet_dispatch.specs.declared.window.TheConstants.{LINE_ROOM}
use Rattle.fleet_dispatch.specs.declared.floor.HearFault.{HearFault}
use Rattle.fleet_dispatch.specs.declared.floor.HearFault.TheVariants.{Form, Broken}

-- Where the next line ends in the bytes that were read: nowhere only if there are no more bytes; or as many bytes as
-- are heard of a line do not end it
abbrev pub EndsLine : (left : Option (List ℕ)) → List ℕ → Result (Option ℕ) HearFault → Type 0
EndsLine left read (Ok found) = (position is_lf read ≡ found) × (found ≡ None → IsAtEnd left)
EndsLine left read (Err Form) = (position is_lf read ≡ None) × (LINE_ROOM ≤ length read)
EndsLine left read (Err Broken) = ⊤

-- bytes were read on, of which none was passed
abbrev pub FindsLine : (left left' : Option (List ℕ)) (read read' : List ℕ) → Result (Option ℕ) HearFault → Type 0
FindsLine left left' read read' found = Keeps (prepend_known read left) (prepend_known read' left') × EndsLine left' read' found

-- the next line was heard as a report or the question, and passed; or there is none; or it is neither
abbrev pub HearsLine : ReportForm → (left left' : Option (List ℕ)) → Result (Option LineKind) HearFault → Words → Type 0
HearsLine form left left' (Ok (Some heard)) words = GivesLine form left left' (heard_line heard words)
HearsLine form left left' (Ok None) words = IfSome left HasNoLine
HearsLine form left left' (Err Form) words = IfSome left (IsMisheard form)
HearsLine form left left' (Err Broken) words = ⊤
