use Rattle.fleet_plan.proofs.MeetLaws.{IsMeeting}
use Rattle.fleet_plan.proofs.sweep.first_meeting.Given as goal

abbrev pub invariant-loop-j : goal.invariant-loop-j
invariant-loop-j l = IsMeeting l.table l.places l.first l.j
