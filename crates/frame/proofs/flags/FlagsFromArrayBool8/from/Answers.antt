use Rattle.std.proofs.Common.{ap, ◌∙◌, arith, rules}
use Rattle.frame.specs.Flags.{marks_of, flags_octet}
use Rattle.frame.proofs.Marks.{marks_back}
use Rattle.frame.proofs.flags.FlagsFromArrayBool8.from.Goals as goal

pub returns : goal.returns
returns c = (omega arith, ap marks_of {y = flags_octet c.args.marks} (omega arith) ∙ marks_back c.args.marks (search rules))
