use Rattle.std.proofs.Common.{sym, ap, ◌∙◌, arith}
use Rattle.channel.specs.WaitingLines.{popped}
use Rattle.channel.proofs.Rings.{line_after_pop, waiting_before_pop}
use Rattle.channel.proofs.line.WaitingLine.pop.Goals as goal

-- the old entries are the first of them, then the new ones
pub returns-clause-line : goal.returns-clause-line
returns-clause-line g c =
    let l = c.self.inside in
    rw c.place_behind-self-inside.ensures (line_after_pop l.room.now l.first l.count (omega arith) c.index-self-self.result (omega arith) (omega arith)) ∙ ap popped c.self.view_is

pub returns-clause-taken : goal.returns-clause-taken
returns-clause-taken g c =
    let l = c.self.inside in
    ap (λ x. x.waiting) (sym c.self.view_is)
    ∙ rw c.place_behind-self-inside.ensures (waiting_before_pop l.room.now l.first l.count (omega arith) c.index-self-self.result (omega arith) (omega arith))
