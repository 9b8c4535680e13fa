use Rattle.std.proofs.Common.{◌≡◌, ℕ, ◌+◌, ◌<◌, false, [], ◌∷◌, length, refl, ap, ◌∙◌, arith}
use Rattle.frame.specs.declared.bdu.Bdu.{Bdu}
use Rattle.receiver.specs.Places.{bdu_of}
use Rattle.half.proofs.Rounds.{short, clean, ahead, next_one, next_clear, in_room, takes}
use Rattle.half.proofs.examples.go_round.Goals as goal

-- what short answers is the BDU
is_short : (b : Bdu) → b.header ≡ record { rn = 0; q = 2; more = false; bsn = 0 } → b.payload.now ≡ 65 ∷ [] → bdu_of b ≡ short
is_short b e f =
    ap (λ h. record { q = h.q; rn = h.rn; more = h.more; bsn = h.bsn; octets = b.payload.now }) e ∙ ap (λ xs. record { q = 2; rn = 0; more = false; bsn = 0; octets = xs }) f

pub loop-k-init : goal.loop-k-init
loop-k-init g c = (c.new-receiver.ensures, refl)

pub loop-k-preserved : goal.loop-k-preserved
loop-k-preserved g c =
    let k : ℕ = c.loop-k.k in
    let room = c.loop-k.invariant.1 in
    let less : k < 255 = omega arith in (
      takes (g.D.Number.Number.value c.from_octet.result) k 10 (bdu_of c.short.result) short c.loop-k.receiver.holds (clean k)
          c.take.new.self.holds (clean (k + 1)) c.loop-k.buffer c.take.new.buffer c.take.result 2 0 (65 ∷ []) c.loop-k.invariant.0 c.from_octet.ensures
          (is_short c.short.result c.short.ensures.header c.short.ensures.payload) c.take.ensures.rule (next_clear k (length c.loop-k.buffer) less room) (next_one k less),
      let same = c.take.auto.buffer in omega arith,
    )

pub returns : goal.returns
returns g c =
    let room = c.loop-k.invariant.1 in
    let last : c.loop-k.k ≡ 255 = omega arith in
    let same : length c.take-2.new.buffer ≡ 424 = let k = c.take-2.auto.buffer in omega arith in
    let a = takes (g.D.Number.Number.value c.from_octet-2.result) 0 10 (bdu_of c.short-2.result) short c.loop-k.receiver.holds (clean 255)
    c.take-2.new.self.holds ahead c.loop-k.buffer c.take-2.new.buffer c.take-2.result 2 0 (65 ∷ []) (c.loop-k.invariant.0 ∙ ap clean last) c.from_octet-2.ensures
    (is_short c.short-2.result c.short-2.ensures.header c.short-2.ensures.payload) c.take-2.ensures.rule (in_room (clean 255) 0 (length c.loop-k.buffer) room refl) refl in
    let b = takes (g.D.Number.Number.value c.from_octet-3.result) 255 10 (bdu_of c.short-3.result) short c.take-2.new.self.holds ahead
    c.take-3.new.self.holds (clean 1) c.take-2.new.buffer c.take-3.new.buffer c.take-3.result 2 0 (65 ∷ []) a c.from_octet-3.ensures
    (is_short c.short-3.result c.short-3.ensures.header c.short-3.ensures.payload) c.take-3.ensures.rule (in_room ahead 255 (length c.take-2.new.buffer) same refl) refl in
    c.octet.ensures ∙ ap (λ x. x.0) c.report.ensures.says.said ∙ ap (λ V. V.oldest) b
