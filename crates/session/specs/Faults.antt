-- What each fault of a session tells. Assumes nothing.
use Rattle.refusal.specs.declared.Refusal.{Refusal}
use Rattle.refusal.specs.Told.{told}
use Rattle.quorum.specs.Faults as quorum
use Rattle.group.specs.Faults as group
use Rattle.session.specs.declared.fault.SessionFault.{SessionFault}
use Rattle.session.specs.declared.fault.SessionFault.TheVariants.{Unreadable, Rule, Group}

-- every case; the layer follows from the number
abbrev pub refusal_of : SessionFault → Refusal
refusal_of Unreadable = told 29
refusal_of (Rule e) = quorum.refusal_of e
refusal_of (Group e) = group.refusal_of e
