-- Files that a command names, read one after another.
use Rattle.std.proofs.Common.{ℕ, List, Option, Some, None, [], ◌∷◌, ◌++◌, inl, inr}
use Rattle.std.specs.Borrow.{Bor}
use Rattle.fleet_cli.specs.{Files.Store, Files.IsUnread, Files.IsGiven, Files.given_name, declared.fault.Fault.Fault}

-- a file was not read, whatever comes after it
pub unread_first : (files : Option Store) (names rest : List (List ℕ)) (fault : Fault) → IsUnread files names fault → IsUnread files (names ++ rest) fault
unread_first files [] rest fault h = absurd h
unread_first files (n ∷ names) rest fault (inl h) = inl h
unread_first files (n ∷ names) rest fault (inr (x, first, h)) = inr (x, first, unread_first files names rest fault h)

-- of the files after one that was given, one was not read
pub unread_later : (files : Option Store) (name : Option (Bor (List ℕ))) (bytes : List ℕ) (rest : List (List ℕ)) (fault : Fault) → IsGiven files name bytes → IsUnread files rest fault
    → IsUnread files (given_name name ++ rest) fault
unread_later files None bytes rest fault given h = h
unread_later files (Some name) bytes rest fault given h = inr (bytes, given, h)
