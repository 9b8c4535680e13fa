-- Every refusal of an end with its reason, its layer and its place.
use Rattle.std.specs.Prelude.{None}
use Rattle.frame.specs.Refusals.{refused}
use Rattle.frame.specs.declared.fault.Layer.TheVariants.{End}
use Rattle.frame.specs.declared.fault.Reason.{Reason}
use Rattle.frame.specs.declared.fault.Refusal.{Refusal}
use Rattle.rules.specs.declared.fault.EndFault.{EndFault}
use Rattle.rules.specs.declared.fault.EndFault.TheVariants.{Slot, Packet, Buffer, Frame, LogOn, Elsewhere, Number, Contradiction, NoReference, Aircraft}

abbrev of_end : Reason → Refusal
of_end reason = record { reason = reason; layer = End; place = None }

abbrev pub refusal_of : EndFault → Refusal
refusal_of Slot = of_end Reason.Slot
refusal_of Packet = of_end Reason.Packet
refusal_of Buffer = of_end Reason.Buffer
refusal_of (Frame fault) = refused fault
refusal_of LogOn = of_end Reason.LogOn
refusal_of Elsewhere = of_end Reason.Elsewhere
refusal_of Number = of_end Reason.Number
refusal_of Contradiction = of_end Reason.Contradiction
refusal_of NoReference = of_end Reason.NoReference
refusal_of Aircraft = of_end Reason.Aircraft
