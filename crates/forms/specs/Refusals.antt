-- The reason, layer and place of what linkrun refuses.
use Rattle.frame.specs.declared.fault.Layer.TheVariants.{Linkrun}
use Rattle.frame.specs.declared.fault.Reason.TheVariants as Reason
use Rattle.frame.specs.declared.fault.Refusal.{Refusal}
use Rattle.std.specs.Prelude.{Some, None}
use Rattle.forms.specs.declared.fault.FormFault.{FormFault}
use Rattle.forms.specs.declared.fault.SessionFault.{SessionFault}
use Rattle.forms.specs.declared.fault.SessionFault.TheVariants.{Form, Slot}

-- a line that is no form: the column of the first character that fits none
abbrev pub misread : FormFault → Refusal
misread fault = record { reason = Reason.Form; layer = Linkrun; place = Some fault.column }

abbrev pub refused : SessionFault → Refusal
refused (Form fault) = misread fault
refused Slot = record { reason = Reason.Slot; layer = Linkrun; place = None }
