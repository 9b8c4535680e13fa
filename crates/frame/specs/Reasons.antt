-- The number by which programs and logs call each reason of a refusal.
use Rattle.std.specs.Prelude.{ℕ}
use Rattle.frame.specs.declared.fault.Reason.{Reason}
use Rattle.frame.specs.declared.fault.Reason.TheVariants.{Slot, Packet, Buffer, Unreadable, LogOn, Elsewhere, Number, Contradiction, NoReference, Aircraft, NoRecord, NoNotices, Form, Other}

abbrev pub number_of : Reason → ℕ
number_of Slot = 1
number_of Packet = 2
number_of Buffer = 3
number_of Unreadable = 4
number_of LogOn = 5
number_of Elsewhere = 6
number_of Number = 7
number_of Contradiction = 8
number_of NoReference = 9
number_of Aircraft = 10
number_of NoRecord = 11
number_of NoNotices = 12
number_of Form = 13
number_of (Other number) = number
