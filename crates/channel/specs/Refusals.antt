-- Every refusal of a channel with its reason and its layer.
use Rattle.std.specs.Prelude.{None}
use Rattle.frame.specs.declared.fault.Layer.TheVariants.{Channel}
use Rattle.frame.specs.declared.fault.Reason.TheVariants as Reason
use Rattle.frame.specs.declared.fault.Refusal.{Refusal}
use Rattle.channel.specs.declared.fault.ChannelFault.{ChannelFault}
use Rattle.channel.specs.declared.fault.ChannelFault.TheVariants.{Slot, Buffer}

abbrev pub refusal_of : ChannelFault → Refusal
refusal_of Slot = record { reason = Reason.Slot; layer = Channel; place = None }
refusal_of Buffer = record { reason = Reason.Buffer; layer = Channel; place = None }
