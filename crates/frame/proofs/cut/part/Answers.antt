use Rattle.std.proofs.Common.{rules}
use Rattle.frame.proofs.Parts.{next_part}
use Rattle.frame.proofs.cut.part.Goals as goal

pub returns-clause-part : goal.returns-clause-part
returns-clause-part c =
    let l = c.in_ok-get.ensures.lookup in
    next_part c.args.packet.now c.args.bsn c.chunks.result.rest.now c.next.new.self.rest.now c.next.result (search rules) (search rules) (search rules)
