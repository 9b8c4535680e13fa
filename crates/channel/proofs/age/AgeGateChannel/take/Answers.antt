use Rattle.std.proofs.Common.{rules, Some, None}
use Rattle.channel.proofs.age.AgeGateChannel.take.Goals as goal

pub returns-in-Some-clause-gives : goal.returns-in-Some-clause-gives
returns-in-Some-clause-gives g c = (search rules, record { given = Some c.in-Some.taken; octets = c.take.new.buffer; below = search rules; taken_is = search rules; buffer_is = search rules })

pub returns-in_default-clause-gives : goal.returns-in_default-clause-gives
returns-in_default-clause-gives g c = (search rules, record { given = Some c.in-Some.taken; octets = c.take.new.buffer; below = search rules; taken_is = search rules; buffer_is = search rules })

pub returns-in_default-2-clause-gives : goal.returns-in_default-2-clause-gives
returns-in_default-2-clause-gives g c = (search rules, record { given = None; octets = c.take.new.buffer; below = search rules; taken_is = search rules; buffer_is = search rules })
