-- What is told and heard of two talks, of which one is said by the other.
use Rattle.fleet_dispatch.proofs.Cited.{ℕ, List, Option, Some, None, Result, Ok, Err, HearFault, LineKind, Words, Talk, Tells, Hears}
use Rattle.fleet_dispatch.specs.declared.floor.HearFault.TheVariants as h
use Rattle.fleet_dispatch.specs.declared.report_text.LineKind.TheVariants as k

module _ (talks talks' : Talk → Type 0) (works works' : Type 0) (more : (talk : Talk) → talks talk → talks' talk) (still : works → works') where
  pub tells_more : {T E : Type 0} (r : Result T E) (bytes : List ℕ) → Tells talks works r bytes → Tells talks' works' r bytes
  tells_more (Ok x) bytes t = (more _ t.0, still t.1)
  tells_more (Err x) bytes t = (t.0, t.1, more _ t.2)

  pub hears_more : (r : Result (Option LineKind) HearFault) (words : Words) → Hears talks works r words → Hears talks' works' r words
  hears_more (Ok (Some k.Report)) words t = (more _ t.0, still t.1)
  hears_more (Ok (Some k.Question)) words t = (more _ t.0, still t.1)
  hears_more (Ok None) words t = more _ t
  hears_more (Err h.Form) words t = more _ t
  hears_more (Err h.Broken) words t = more _ t
