use Rattle.std.proofs.Common.{◌≡◌, length, ℕ, ◌+◌, ◌%◌, Bool, false, List, map, get_or, sym, ap, ◌∙◌, arith, rules}
use Rattle.std.specs.List.{range_with_len}
use Rattle.rules.specs.Receiving.{Place, received}
use Rattle.receiver.specs.Places.{place_of}
use Rattle.receiver.proofs.Fronts.{half, received_past, received_first}
use Rattle.receiver.proofs.receiver.Receiver.receive.Goals as goal

pub returns-then-k-gt0 : goal.returns-then-k-gt0
returns-then-k-gt0 g c =
    received_past (g.D.Number.Number.value c.self.inside.oldest) (g.D.Number.Number.value c.args.number) c.from-k.result c.self.inside.flags (map place_of c.self.inside.places)
    (search rules) (g.met.D.Number.Number.small c.self.inside.oldest) (sym (c.from-k.ensures ∙ c.distance.ensures)) c.if-k-gt0.true
    ∙ ap (λ V. received (g.D.Number.Number.value c.args.number) V.holds) c.self.view_is

pub returns : goal.returns
returns g c =
    let n : ℕ = g.D.Number.Number.value c.args.number in
    let r : ℕ = g.D.Number.Number.value c.self.inside.oldest in
    let fs : List Bool = c.args.self.now.holds.flags in
    let ps : List Place = map place_of c.self.inside.places in
    let same : fs ≡ c.self.inside.flags = sym (ap (λ V. V.holds.flags) c.self.view_is) in
    ap (λ x. half x c.shifted-self-inside.result ps) c.advance-self-inside.ensures
    ∙ ap (λ x. half ((r + (c.in_front-n.result + 1)) % 256) x ps) c.shifted-self-inside.ensures
    ∙ ap (λ k. half ((r + (k + 1)) % 256) (map (λ i. get_or fs (k + 1 + i) false) (range_with_len 0 8)) ps) c.in_front-n.ensures.count
    ∙ received_first r n c.from-k.result fs ps (ap length same ∙ search rules) (g.met.D.Number.Number.small c.self.inside.oldest) (sym (c.from-k.ensures ∙ c.distance.ensures)) (omega arith)
    ∙ ap (received n) (ap (λ x. half r x ps) same ∙ ap (λ V. V.holds) c.self.view_is)
