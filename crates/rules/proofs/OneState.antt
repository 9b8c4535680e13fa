-- Every BDU of a pending packet is in one state, in every half that calls lead to.
use Rattle.std.proofs.Common.{◌≡◌, ℕ, sym, refl, subst}
use Rattle.rules.specs.Sending.{BduKey, Progress, Sending}
use Rattle.rules.specs.SendingLaws.{Called, OfPending, progress_of, OneState, OneStateEach}
use Rattle.rules.proofs.Lists.{never}
use Rattle.rules.proofs.Unused.{unused_last}
use Rattle.rules.proofs.States.{Kept, kept_new, kept_accept, kept_send}
use Rattle.rules.proofs.Heard.{kept_heard}
use Rattle.rules.proofs.Slots.{kept_slotted}

-- every call keeps the invariant
kept : {c : ℕ} {S : Sending} → Called c S → Kept S
kept (Called.begun c) = kept_new
kept (Called.accept {c} {S} h q octets ql some most room) = kept_accept S (kept h) q octets c ql most room
kept (Called.send {c} {S} h count number b more octets S' s) =
    let w = kept h in
    let P : Sending → Type 0 = λ x. Kept x in
    subst P (sym s.6) (kept_send S w b _ c s.0.1.here s.2 (unused_last c S h).0)
kept (Called.hear {c} {S} h R flag taken) = kept_heard R flag c S (kept h)
kept (Called.slot {c} {S} h d later) = kept_slotted d S (kept h)

module _ (S : Sending) (h : Kept S) (b : BduKey) (x : OfPending S b) where
  state : (v : Progress) → progress_of S b ≡ v → OneState S b
  state Progress.Waiting e = OneState.waits e (λ k y. never (let z = (h.carried k b y).1 in cc))
  state Progress.OnItsWay e = let f = h.found b x e in OneState.on_its_way e f.0 f.1 (λ j y. h.once j f.0 b y f.1)
  state Progress.Acknowledged e = OneState.acknowledged e (λ k y. never (let z = (h.carried k b y).1 in cc))

pub one_state_each : OneStateEach
one_state_each c S r = let h = kept r in ((λ b x. state S h b x (progress_of S b) refl), (λ k b y. (h.carried k b y).0))
