use Rattle.fleet_text.proofs.TextLaws.{length-lines, bytes-lines}
use Rattle.fleet_text.proofs.lines.Cursor.bytes_left.Goals as goal

pub returns-clause-lines : goal.returns-clause-lines
returns-clause-lines c = rw (← c.self.view_is) (length-lines _)

pub returns-clause-bytes : goal.returns-clause-bytes
returns-clause-bytes c = rw (← c.self.view_is) (bytes-lines _)
