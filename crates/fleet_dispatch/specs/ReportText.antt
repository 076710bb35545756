-- Which report a line stands for.
use Rattle.std.specs.Prelude.{ℕ, ◌+◌, ◌-◌, Bool, false, ◌&&◌, ◌==◌, nat_le, nat_lt, List, [], ◌∷◌, ◌++◌, map, take, drop, position, Option, None, Some, option_and_then, option_map, codes, decimal, if◌then◌else◌}
use Rattle.std.specs.List.{slice_split, join_with_byte}
use Rattle.std.specs.Option.{option_map_or}
use Rattle.fleet_model.specs.declared.limits.TheConstants.{MAX_AGENTS}
use Rattle.fleet_text.specs.Text.{Bytes, is_space, is_dash, plain_number}
use Rattle.fleet_dispatch.specs.declared.form.ReportForm.{ReportForm}
use Rattle.fleet_dispatch.specs.declared.form.ReportForm.TheVariants.{Numbered, Unnumbered}
use Rattle.fleet_text.specs.declared.numbers.TheConstants.{TOO_LONG}
use Rattle.fleet_dispatch.specs.declared.report.Reported.{Reported}
use Rattle.fleet_dispatch.specs.declared.report_text.LineKind.{LineKind}
use Rattle.fleet_dispatch.specs.declared.report_text.LineKind.TheVariants.{Report, Question}
use Rattle.fleet_dispatch.specs.Report.{Words, Line, Reports, Asks}

-- ---- how a report is spelled

-- a word: the agent, or the agent and the number of its action with a colon between them
abbrev pub word_text : Reported → Bytes
word_text w = decimal w.agent ++ option_map_or (λ n. codes ":" ++ decimal n) w.number []

-- `-` for nobody, or the words with one space between two
abbrev pub report_line : Words → Bytes
report_line [] = codes "-"
report_line (w ∷ ws) = join_with_byte 32 (map word_text (w ∷ ws))

-- ---- the report that a line stands for, read from its front

-- the number that a word spells without a leading zero, if it spells one of 32 bits
abbrev pub long_number : Bytes → Option ℕ
long_number word = option_and_then (λ n. if nat_lt n TOO_LONG then Some n else None) (plain_number word)

-- the byte between an agent and the number of its action
abbrev pub is_colon : ℕ → Bool
is_colon b = b == 58

-- what a word says: of an agent and of an action of its
abbrev pub word_of : ReportForm → Bytes → Option Reported
word_of Numbered word =
    option_and_then
    (λ end. option_and_then (λ i. option_map (λ n. record { agent = i; number = Some n }) (long_number (drop (end + 1) word))) (long_number (take end word)))
    (position is_colon word)
word_of Unnumbered word = option_map (λ i. record { agent = i; number = None }) (long_number word)

-- what the words say, of agents in strictly rising order from `least` on, `room` words at most
abbrev pub words_of : ReportForm → (least room : ℕ) → List Bytes → Option Words
words_of form least room [] = Some []
words_of form least room (word ∷ words) =
    option_and_then
    (λ w. if nat_le least w.agent && nat_lt 0 room then option_map (λ others. w ∷ others) (words_of form (w.agent + 1) (room - 1) words) else None)
    (word_of form word)

-- the report that a line stands for, if it is a report
abbrev pub report_of : ReportForm → Bytes → Option Words
report_of form line =
    if is_dash line then Some [] else words_of form 0 MAX_AGENTS (slice_split is_space line)

-- the line of a report in a log
abbrev pub log_line : Words → Bytes
log_line words = report_line words ++ codes "\n"

-- ---- the question where the agents are

-- whether it is the line of the question
abbrev pub is_question : Bytes → Bool
is_question [] = false
is_question (b ∷ []) = b == 63
is_question (b ∷ c ∷ bs) = false

-- what a line says, if it is a report or the question
abbrev pub line_of : ReportForm → Bytes → Option Line
line_of form line = if is_question line then Some Asks else option_map Reports (report_of form line)

-- what was heard, if it is a report with these words or the question
abbrev pub heard_line : LineKind → Words → Line
heard_line Report words = Reports words
heard_line Question words = Asks
