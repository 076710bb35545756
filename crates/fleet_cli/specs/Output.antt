-- What commands write, what several of them print or write in the same way, and what a request finds and leaves.
use Rattle.std.specs.Prelude.{◌≡◌, ℕ, Result, Ok, Err, codes, List, [], ◌∷◌, ◌++◌, ◌⊎◌, Option, None, Some, map}
use Rattle.fleet_text.specs.{Sink.SinkState, Sink.Receives, Sink.IsDelivered, Sink.IsUnwritten, Sink.FailsAfter, Words.line_text, Words.count_line}
use Rattle.fleet_cli.specs.{Faults.refusal_line, Faults.status_of, Files.Store, Files.AreUnchanged, Files.ChangesOnly, Files.Replaces, Files.IsWriteFault}
use Rattle.fleet_run.specs.declared.{run.End.End, run.End.TheVariants.Finished, run.End.TheVariants.Stuck}
use Rattle.fleet_cli.specs.declared.fault.Fault.{Fault}
use Rattle.fleet_cli.specs.declared.fault.Fault.TheVariants as f
use Rattle.std.specs.Borrow.{Bor}
use Rattle.fleet_dispatch.specs.{Talk.Talk, declared.form.ReportForm.ReportForm}

-- the command is done with this status, and nothing was reported; or its refusal was reported, whose line the sink
-- took, or failed within it, and the refusal's status is answered
abbrev pub Finishes : Result ℕ Fault → (err err' : SinkState) → ℕ → Type 0
Finishes (Ok done) err err' status = (status ≡ done) × IsUnwritten err err'
Finishes (Err fault) err err' status = Receives err err' (refusal_line fault) × (status ≡ status_of fault)

-- how a rehearsal ended, as a status
abbrev pub end_status : End → ℕ
end_status Finished = 0
end_status Stuck = 1

-- a refusal of the standard output
abbrev pub IsOutFault : Fault → Type 0
IsOutFault (f.File name) = name.now ≡ codes "-"
IsOutFault _ = ⊥

-- counts with their labels
abbrev pub with_labels : List (Bor (List ℕ) × ℕ) → List (List ℕ × ℕ)
with_labels counts = map (λ c. (c.0.now, c.1)) counts

-- a line for each count: its label and its number
abbrev pub count_lines : List (List ℕ × ℕ) → List ℕ
count_lines [] = []
count_lines (count ∷ counts) = count_line count.0 count.1 ++ count_lines counts

-- a word in a line of its own, and the counts
unfoldable pub report : List ℕ → List (List ℕ × ℕ) → List ℕ
report title counts = line_text (title ∷ []) ++ count_lines counts

-- the text was printed and handed on, and 0 is answered; or the output failed
abbrev pub Prints : List ℕ → (out out' : SinkState) → Result ℕ Fault → Type 0
Prints text out out' (Ok status) = IsDelivered out out' text × (status ≡ 0)
Prints text out out' (Err fault) = IsOutFault fault × FailsAfter out out' text

-- a refusal of this kind is answered, and nothing was written
abbrev pub Refuses : (Fault → Type 0) → (out out' : SinkState) → Result ℕ Fault → Type 0
Refuses IsRefusal out out' result = (fault : Fault) × (result ≡ Err fault) × IsRefusal fault × IsUnwritten out out'

-- what a request finds and leaves: the files before it and after it; that nothing was read of the input, and that
-- nothing was written; and what robots were told, what they reported, and what was logged of that
pub record Around : Type 1 where
  pub files : Option Store
  pub after : Option Store
  pub unread : Type 0
  pub unwritten : Type 0
  pub talks : (log log' : SinkState) → ReportForm → Talk → Type 0

-- .. these, as one
abbrev pub around : (files after : Option Store) → (unread unwritten : Type 0) → ((log log' : SinkState) → ReportForm → Talk → Type 0) → Around
around files after unread unwritten talks = record { files = files; after = after; unread = unread; unwritten = unwritten; talks = talks }

-- such a refusal is answered; the input was not read, nothing was written, and every file is as before
abbrev pub Declines : Around → (Fault → Type 0) → (out out' : SinkState) → Result ℕ Fault → Type 0
Declines w IsRefusal out out' result = Refuses IsRefusal out out' result × AreUnchanged w.files w.after × w.unread × w.unwritten

-- the one was done, and this is what came of the other; or the one was refused
abbrev pub Follow : (first second : (out out' : SinkState) → Result ℕ Fault → Type 0) → (out out' : SinkState) → Result ℕ Fault → Type 0
Follow first second out out' result = ((mid : SinkState) × (status : ℕ) × first out mid (Ok status) × second mid out' result) ⊎ ((fault : Fault) × (result ≡ Err fault) × first out out' (Err fault))

-- the file that is named was written or not, and every other one is as before; without a name nothing is done
abbrev pub WritesGiven : (files after : Option Store) → Option (Bor (List ℕ)) → List ℕ → Result (Unit {0}) Fault → Type 0
WritesGiven files after None bytes result = AreUnchanged files after × (result ≡ Ok tt)
WritesGiven files after (Some name) bytes (Ok _) = Replaces files after name.now bytes
WritesGiven files after (Some name) bytes (Err fault) = IsWriteFault name.now fault × ChangesOnly files after name.now

-- the files that are named were written one after another, and then the text was printed; or one could not be written,
-- and nothing more was done
abbrev pub WritesFiles : (files after : Option Store) → List (Option (Bor (List ℕ)) × List ℕ) → (text : List ℕ) → (out out' : SinkState) → Result ℕ Fault → Type 0
WritesFiles files after [] text out out' result = AreUnchanged files after × Prints text out out' result
WritesFiles files after (one ∷ others) text out out' result =
    ((mid : Option Store) × WritesGiven files mid one.0 one.1 (Ok tt) × WritesFiles mid after others text out out' result)
    ⊎ ((fault : Fault) × (result ≡ Err fault) × WritesGiven files after one.0 one.1 (Err fault) × IsUnwritten out out')

-- What a command answers that makes a value, writes files of it and then prints a text of it. The value was made, and
-- this came of the writing; or it was refused, before anything is written: every file is as before
abbrev pub AnswersOut : {A : Type 0} → (files after : Option Store) → (A → Type 0) → (Fault → Type 0) → (A → List (Option (Bor (List ℕ)) × List ℕ)) → (A → List ℕ) → (out out' : SinkState) → Result ℕ Fault → Type 0
AnswersOut {A} files after Makes IsRefusal written text out out' result =
    ((made : A) × Makes made × WritesFiles files after (written made) (text made) out out' result)
    ⊎ ((fault : Fault) × (result ≡ Err fault) × IsRefusal fault × AreUnchanged files after × IsUnwritten out out')
