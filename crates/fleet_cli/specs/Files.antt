-- What a store of files holds, if it says so, and the files of it that a command names.
use Rattle.std.specs.Prelude.{◌≡◌, ◌≢◌, ◌<◌, ◌≤◌, ◌⊎◌, ◌-◌, ℕ, Bool, true, false, not, IfSome, List, [], ◌∷◌, ◌++◌, length, take, Option, Some, None, unwrap_or, option_map, Result, Ok, Err, ⊤}
use Rattle.std.specs.{List.suffix_len, Io.KnownBytes.Appends, Borrow.Bor}
use Rattle.fleet_text.specs.Text.{is_lf}
use Rattle.fleet_cli.specs.declared.{files.TheConstants.MAX_BYTES, files.FileFault.FileFault, files.FileFault.TheVariants.OutOfMemory, files.FileFault.TheVariants.Failed, files.FileNames.FileNames, files.FileTexts.FileTexts, fault.Fault.Fault}
use Rattle.fleet_cli.specs.declared.fault.Fault.TheVariants as f

-- the bytes of each file, by its name
abbrev pub Store : Type 0
Store = List ℕ → Option (List ℕ)

-- the named file holds the bytes
abbrev pub HoldsBytes : Option Store → List ℕ → List ℕ → Type 0
HoldsBytes None name bytes = ⊤
HoldsBytes (Some files) name bytes = files name ≡ Some bytes

-- the named file was read: it holds the bytes, and they are no more than are read
pub record IsRead (files : Option Store) (name bytes : List ℕ) : Type 0 where
  pub held : HoldsBytes files name bytes
  pub within : length bytes ≤ MAX_BYTES

-- there is no file of this name, or it has more bytes than are read
abbrev pub IsUnreadable : Option Store → List ℕ → Type 0
IsUnreadable None name = ⊤
IsUnreadable (Some files) name = (bytes : List ℕ) → files name ≡ Some bytes → MAX_BYTES < length bytes

-- every file is as before
abbrev pub AreUnchanged : Option Store → Option Store → Type 0
AreUnchanged old new = new ≡ old

-- every file but the named one is as before
abbrev pub ChangesOnly : Option Store → Option Store → List ℕ → Type 0
ChangesOnly None new name = ⊤
ChangesOnly (Some files) None name = ⊥
ChangesOnly (Some files) (Some others) name = (n : List ℕ) → n ≢ name → others n ≡ files n

-- the named file holds the bytes now, and every other file is as before
pub record Replaces (old new : Option Store) (name bytes : List ℕ) : Type 0 where
  pub held : HoldsBytes new name bytes
  pub others : ChangesOnly old new name

-- ---- a file that grows

-- the bytes of the named file, if the store says what it holds; none if there is no such file
abbrev pub bytes_of : Option Store → List ℕ → Option (List ℕ)
bytes_of files name = option_map (λ (store : Store). unwrap_or (store name) []) files

-- the bytes up to the last LF, and with it
unfoldable pub whole_lines : List ℕ → List ℕ
whole_lines bytes = take (length bytes - suffix_len (λ b. not (is_lf b)) bytes) bytes

-- a log behind which a dispatch may go on after the bytes `past`: it holds nothing, or these
abbrev pub IsOwnLog : (past held : List ℕ) → Type 0
IsOwnLog past held = (held ≡ []) ⊎ (held ≡ past)

-- the named file held nothing or the bytes `past`, of which the whole lines are left; or something else, and every file
-- is as before
abbrev pub BeginsLog : (old new : Option Store) → (name past : List ℕ) → (is_own : Bool) → Type 0
BeginsLog old new name past true = IfSome (bytes_of old name) (IsOwnLog past) × (bytes_of new name ≡ option_map whole_lines (bytes_of old name))
BeginsLog old new name past false = IfSome (bytes_of old name) (λ held. IsOwnLog past held → ⊥) × AreUnchanged old new

-- all of the bytes were put behind those of the named file, or a front of them was
abbrev pub PutsBehind : {T E : Type 0} → Option Store → Option Store → List ℕ → Result T E → List ℕ → Type 0
PutsBehind old new name (Ok _) bytes = Appends (bytes_of old name) (bytes_of new name) bytes
PutsBehind old new name (Err _) bytes = (k : ℕ) × (k ≤ length bytes) × Appends (bytes_of old name) (bytes_of new name) (take k bytes)

-- ---- files that a command names, read one after another

-- the store's refusal of the file that was named is reported as it is: want of memory as such, and a failed access by
-- the file's name
abbrev pub IsGivenAs : (refuses : List ℕ → FileFault → Type 0) → Option (Bor (List ℕ)) → Fault → Type 0
IsGivenAs refuses (Some name) f.Memory = refuses name.now OutOfMemory
IsGivenAs refuses (Some name) (f.File n) = (name.now ≡ n.now) × refuses name.now Failed
IsGivenAs refuses name _ = ⊥

-- the named file was not read: memory ran out, or it cannot be read
abbrev pub IsReadFault : Option Store → List ℕ → Fault → Type 0
IsReadFault files name f.Memory = Unit {0}
IsReadFault files name (f.File n) = (name ≡ n.now) × IsUnreadable files name
IsReadFault files name _ = ⊥

-- why a write of the named file was refused: memory ran out, or the write failed
abbrev pub IsWriteFault : List ℕ → Fault → Type 0
IsWriteFault name f.Memory = Unit {0}
IsWriteFault name (f.File n) = name ≡ n.now
IsWriteFault name _ = ⊥

-- of the files of these names one was not read, and those before it were
abbrev pub IsUnread : Option Store → List (List ℕ) → Fault → Type 0
IsUnread files [] fault = ⊥
IsUnread files (name ∷ names) fault = IsReadFault files name fault ⊎ ((bytes : List ℕ) × IsRead files name bytes × IsUnread files names fault)

-- the name that was given, if one was
abbrev pub given_name : Option (Bor (List ℕ)) → List (List ℕ)
given_name None = []
given_name (Some name) = name.now ∷ []

-- the names that were given, in the order in which their files are read
abbrev pub given_names : FileNames → List (List ℕ)
given_names names = given_name (option_map (λ t. t.map) names.tasks) ++ (given_name (option_map (λ t. t.scen) names.tasks) ++ (given_name names.subject ++ (given_name names.holds ++ given_name names.log)))

-- the bytes of the named file, or none if none is named
abbrev pub IsGiven : Option Store → Option (Bor (List ℕ)) → List ℕ → Type 0
IsGiven files None bytes = bytes ≡ []
IsGiven files (Some name) bytes = IsRead files name.now bytes

-- the named files were read, and hold these texts
pub record AreTexts (files : Option Store) (names : FileNames) (texts : FileTexts) : Type 0 where
  pub map : IsGiven files (option_map (λ t. t.map) names.tasks) texts.map.items
  pub scen : IsGiven files (option_map (λ t. t.scen) names.tasks) texts.scen.items
  pub subject : IsGiven files names.subject texts.subject.items
  pub holds : IsGiven files names.holds texts.holds.items
  pub log : IsGiven files names.log texts.log.items
