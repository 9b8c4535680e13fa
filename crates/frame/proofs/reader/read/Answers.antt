use Rattle.std.proofs.Common.{arith, rules}
use Rattle.frame.proofs.Octets.{data_rewritten}
use Rattle.frame.proofs.reader.read.Goals as goal

pub returns-in-UplinkData-clause-rewritten : goal.returns-in-UplinkData-clause-rewritten
returns-in-UplinkData-clause-rewritten c = data_rewritten c.args.frame.now (λ i. omega (arith, c.type_inv.frame i)) _ _ _ _ _ _ (search rules)
