-- What is told over an output, heard from the lines of an input and kept in a log, turn after turn.
use Rattle.std.specs.Prelude.{◌≡◌, ℕ, ◌+◌, ◌<◌, ◌≤◌, ◌⊎◌, false, get_or, List, [], ◌∷◌, length, take, drop, position, Option, None, Some, IfSome, ⊤}
use Rattle.std.specs.Borrow.{MutBor}
use Rattle.std.specs.Io.KnownBytes.{Appends}
use Rattle.std.specs.Str.Lines.{strip_carriage_return}
use Rattle.fleet_text.specs.Text.{is_lf}
use Rattle.fleet_text.specs.Sink.{SinkState, IsDelivered, HasFailed}
use Rattle.fleet_dispatch.specs.declared.form.ReportForm.{ReportForm}
use Rattle.fleet_dispatch.specs.declared.stream_floor.StreamFloor.{StreamFloor}
use Rattle.fleet_dispatch.specs.declared.window.TheConstants.{LINE_ROOM}
use Rattle.fleet_dispatch.specs.Report.{Line, Reports, Asks}
use Rattle.fleet_dispatch.specs.ReportText.{line_of}
use Rattle.fleet_dispatch.specs.Window.{window_rest}
use Rattle.fleet_dispatch.specs.Talk.{Turn, Talk, Told, Cut, Heard, Asked, Logged, Unlogged, Misheard, NoMore, Unheard}

-- an output, the bytes that an input will still give, if it says them, and a log
pub record Ends : Type 0 where
  pub out : SinkState
  pub left : Option (List ℕ)
  pub log : SinkState

-- the text begins with a line, which an LF ends (a CR before it is no part of the line), and goes on so
pub record HasLine (text line rest : List ℕ) : Type 0 where
  pub end : ℕ
  pub ends : position is_lf text ≡ Some end
  pub line_is : line ≡ strip_carriage_return (take end text)
  pub rest_is : rest ≡ drop (end + 1) text

-- the input gave a line that says this, and what followed it is left
abbrev pub GivesLine : ReportForm → (left left' : Option (List ℕ)) → Line → Type 0
GivesLine form None left' said = ⊤
GivesLine form (Some text) None said = ⊥
GivesLine form (Some text) (Some rest) said = (line : List ℕ) × HasLine text line rest × (line_of form line ≡ Some said)

-- the next line of the text is no report and not the question, or as many bytes as are heard of a line do not end it
abbrev pub IsMisheard : ReportForm → List ℕ → Type 0
IsMisheard form text =
    ((line : List ℕ) × (rest : List ℕ) × HasLine text line rest × (line_of form line ≡ None))
    ⊎ ((LINE_ROOM ≤ length text) × ((k : ℕ) → k < LINE_ROOM → is_lf (get_or text k 0) ≡ false))

-- no LF ends a line of the text
abbrev pub HasNoLine : List ℕ → Type 0
HasNoLine text = position is_lf text ≡ None

-- One thing was told, heard or logged, which leaves the other ends as they were. What was told or logged whole was
-- handed on
abbrev pub TakesTurn : ReportForm → (ends ends' : Ends) → Turn → Type 0
TakesTurn form ends ends' (Told bytes) = IsDelivered ends.out ends'.out bytes × (ends'.left ≡ ends.left) × (ends'.log ≡ ends.log)
TakesTurn form ends ends' (Cut bytes) = Appends ends.out.taken ends'.out.taken bytes × HasFailed ends'.out × (ends'.left ≡ ends.left) × (ends'.log ≡ ends.log)
TakesTurn form ends ends' (Heard words) = GivesLine form ends.left ends'.left (Reports words) × (ends'.out ≡ ends.out) × (ends'.log ≡ ends.log)
TakesTurn form ends ends' Asked = GivesLine form ends.left ends'.left Asks × (ends'.out ≡ ends.out) × (ends'.log ≡ ends.log)
TakesTurn form ends ends' (Logged bytes) = IsDelivered ends.log ends'.log bytes × (ends'.left ≡ ends.left) × (ends'.out ≡ ends.out)
TakesTurn form ends ends' (Unlogged bytes) = Appends ends.log.taken ends'.log.taken bytes × HasFailed ends'.log × (ends'.left ≡ ends.left) × (ends'.out ≡ ends.out)
TakesTurn form ends ends' Misheard = IfSome ends.left (IsMisheard form) × (ends'.out ≡ ends.out) × (ends'.log ≡ ends.log)
TakesTurn form ends ends' NoMore = IfSome ends.left HasNoLine × (ends'.out ≡ ends.out) × (ends'.log ≡ ends.log)
TakesTurn form ends ends' Unheard = (ends'.out ≡ ends.out) × (ends'.log ≡ ends.log)

-- all of the talk was told, heard and logged, turn after turn
abbrev pub TakesTurns : ReportForm → (ends ends' : Ends) → Talk → Type 0
TakesTurns form ends ends' [] = ends' ≡ ends
TakesTurns form ends ends' (turn ∷ talk) = (next : Ends) × TakesTurn form ends next turn × TakesTurns form next ends' talk

-- the floor is over this input, output and log as they were handed to it, and nothing is read ahead
pub record IsOver {R O L : Type 0} (how : ReportForm) (lines : MutBor R) (out : MutBor O) (reports : MutBor L) (f : StreamFloor R O L) : Type 0 where
  pub form : f.form ≡ how
  pub input : f.input.ghost_name ≡ lines.ghost_name
  pub orders : f.orders.ghost_name ≡ out.ghost_name
  pub log : f.log.ghost_name ≡ reports.ghost_name
  pub heard : f.input.now ≡ lines.now
  pub ahead : window_rest f.window ≡ []
  pub told : f.orders.now ≡ out.now
  pub logged : f.log.now ≡ reports.now
