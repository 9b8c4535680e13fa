use Rattle.std.proofs.Common.{◌≡◌, ◌*◌, ◌+◌, get_or, false, subst, sym, arith, rules}
use Rattle.std.proofs.lemmas.Bool.{le-ltb}
use Rattle.sender.specs.Sets.{Contains, packets_in}
use Rattle.sender.proofs.Sets.{contains, small}
use Rattle.sender.proofs.set.PacketSet.contains.Goals as goal

pub returns-then-key-lt4 : goal.returns-then-key-lt4
returns-then-key-lt4 c =
    let marked : c.unwrap_or.result ≡ get_or c.args.self.marks (4 * c.args.key.q + c.args.key.rn) false = search rules in
    subst (Contains (packets_in c.args.self) (c.args.key.q, c.args.key.rn)) (sym marked) (contains c.args.self.marks c.args.key.q c.args.key.rn (omega arith))

pub returns-else-key-lt4 : goal.returns-else-key-lt4
returns-else-key-lt4 c =
    subst (Contains (packets_in c.args.self) (c.args.key.q, c.args.key.rn)) (sym (le-ltb c.args.key.rn 4 (omega arith)))
    (λ a. let s = (small c.args.self.marks c.args.key.q c.args.key.rn (search rules) a).1 in omega arith)
