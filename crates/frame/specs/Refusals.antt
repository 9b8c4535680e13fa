-- Every refusal of the frame layer with its reason, its layer and its place.
use Rattle.frame.specs.declared.fault.FrameFault.{FrameFault}
use Rattle.frame.specs.declared.fault.FrameFault.TheVariants.{Packet, Buffer, Unreadable, Aircraft}
use Rattle.frame.specs.declared.fault.Layer.TheVariants.{Frame}
use Rattle.frame.specs.declared.fault.Reason.TheVariants as Reason
use Rattle.frame.specs.declared.fault.Refusal.{Refusal}
use Rattle.std.specs.Prelude.{Some, None}

abbrev pub refused : FrameFault → Refusal
refused Packet = record { reason = Reason.Packet; layer = Frame; place = None }
refused Buffer = record { reason = Reason.Buffer; layer = Frame; place = None }
refused (Unreadable place) = record { reason = Reason.Unreadable; layer = Frame; place = Some place }
refused Aircraft = record { reason = Reason.Aircraft; layer = Frame; place = None }
