use Rattle.std.proofs.Common.{false, [], ◌∷◌, refl, ap, ◌∙◌, inl}
use Rattle.rules.specs.Examples.{loaded, gone, key}
use Rattle.rules.specs.Sending.{Sending, Answer, new, slotted}
use Rattle.rules.specs.declared.fault.EndFault.TheVariants.{NoReference}
use Rattle.sender.specs.Sets.{places_in, packets_in}
use Rattle.half.proofs.Chains.{resting, one_taken, two_taken, three_taken, goes}
use Rattle.half.proofs.Known.{accepts, accept_refused, went, holds, lacks, slots, expires, given, not_given, expiry_is}
use Rattle.half.proofs.examples.expire.Goals as goal

pub returns : goal.returns
returns g c =
    let S0 : Sending = c.new-sender.result.holds in
    let S1 : Sending = c.accept.new.self.holds in
    let S2 : Sending = c.go.new.sender.holds in
    let S3 : Sending = c.slot.new.self.holds in
    let S4 : Sending = c.slot-2.new.self.holds in
    let S5 : Sending = c.slot-3.new.self.holds in
    let S6 : Sending = c.accept-2.new.self.holds in
    let S7 : Sending = c.accept-3.new.self.holds in
    let S8 : Sending = c.accept-4.new.self.holds in
    let S9 : Sending = c.accept-5.new.self.holds in
    let T : Sending = c.slot-4.new.self.holds in
    let a = accepts 2 100 (65 ∷ []) S0 new S1 c.accept.result c.new-sender.ensures c.accept.ensures.rule refl in
    let b = went 0 100 S1 (loaded 100) S2 (gone 100) c.go.result (Answer.Sent 0 (key 0) false (65 ∷ [])) a.1 c.go.ensures (goes 100) in
    let s3 = slots 173 S2 (gone 100) S3 b.1 c.slot.ensures.rule in
    let s4 = slots 174 S3 (slotted 173 (gone 100)) S4 s3 c.slot-2.ensures.rule in
    let s5 = slots 248 S4 (slotted 174 (slotted 173 (gone 100))) S5 s4 c.slot-3.ensures.rule in
    let d = accepts 2 248 (65 ∷ []) S5 resting S6 c.accept-2.result s5 c.accept-2.ensures.rule refl in
    let e = accepts 2 248 (65 ∷ []) S6 one_taken S7 c.accept-3.result d.1 c.accept-3.ensures.rule refl in
    let f = accepts 2 248 (65 ∷ []) S7 two_taken S8 c.accept-4.result e.1 c.accept-4.ensures.rule refl in
    let h = accept_refused 2 248 (65 ∷ []) S8 three_taken S9 c.accept-4.new.self c.accept-5.new.self c.accept-5.result NoReference f.1 c.accept-5.ensures.rule c.accept-5.ensures.kept refl in
    let t = slots 249 S9 three_taken T (ap (λ H. H.holds) h.1 ∙ f.1) c.slot-4.ensures.rule in
    let k = accepts 2 249 (65 ∷ []) T (slotted 249 three_taken) c.accept-6.new.self.holds c.accept-6.result t c.accept-6.ensures.rule refl in
    expiry_is _ _ _ _ _ _ _
    (lacks (packets_in c.slot.result) [] (2, 0) c.contains-early.result (expires 173 S2 (gone 100) (places_in c.slot.result) b.1 c.slot.ensures.expired) c.contains-early.ensures (λ x. x))
    (holds (packets_in c.slot-2.result) ((2, 0) ∷ []) (2, 0) c.contains-late.result (expires 174 S3 (slotted 173 (gone 100)) (places_in c.slot-2.result) s3 c.slot-2.ensures.expired) c.contains-late.ensures (inl refl))
    (given c.ok-first.result c.accept-2.result 1 c.ok-first.ensures.value d.0) (given c.ok-second.result c.accept-3.result 2 c.ok-second.ensures.value e.0)
    (given c.ok-third.result c.accept-4.result 3 c.ok-third.ensures.value f.0) (not_given c.ok-fourth.result c.accept-5.result NoReference c.ok-fourth.ensures.value h.0)
    (given c.ok-fifth.result c.accept-6.result 0 c.ok-fifth.ensures.value k.0)
