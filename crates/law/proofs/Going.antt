-- The receiving half goes along with the ledger beside the log.
use Rattle.std.proofs.Common.{◌≡◌, ℕ, ◌%◌, false, List, length, get_or, sym, refl, ap, ◌∙◌, subst, ⊎_elim}
use Rattle.law.specs.Steps.{landed, handed_up}
use Rattle.law.proofs.Base.{never}
use Rattle.rules.specs.Receiving.{Receiving, bring}
use Rattle.rules.specs.Receiving as half
use Rattle.law.specs.ReceivingTie.{Tied, carried}
use Rattle.law.proofs.ReceivingFollows.{follows}
use Rattle.law.specs.Log.{End, other, LogOn, Frame, Answer, Event, Entry}
use Rattle.law.specs.Logged.{Unrelated, Goes}
use Rattle.law.specs.Kept.{told, HalfGoes, HalfShows}
use Rattle.law.proofs.Rights.{not_itself}

-- what the other end answers to data concerns the log only where it is a packet
unrelated : (e : End) (l : LogOn) (y : Entry) (x : Frame) (a : Answer) → y.event ≡ Event.Brought (other e) x a
    → ((q rn : ℕ) (xs : List ℕ) → a ≡ Answer.Packet q rn xs → ⊥) → ((ps : List (ℕ × ℕ)) → a ≡ Answer.Confirmed ps → ⊥) → Unrelated e l y
unrelated e l y x a z packet confirmed = record {
  accepts = λ q rn xs h. never (let w = h.0 in cc);
  hands_up = λ q rn xs h. packet q rn xs (let w = h.0.1 in cc);
  confirms = λ q rn h. confirmed h.0.1 (let w = h.0.2 in cc);
  hears = λ answer h. not_itself e (let w = h.0 in cc);
}

pub goes : HalfGoes
goes d1 d2 small e l V L B run t f live u timely y x z holds =
    let r : half.Answer × Receiving = bring V (f.number % 256) (carried L B f) L.clock in
    ⊎_elim
    (λ k.
    let a : r.0 ≡ half.Answer.Refused 7 = ap (λ p. p.0) k.1 in
    (L, Goes.apart (unrelated e l y x (Answer.Refused 7) (z ∙ ap (λ p. Event.Brought (other e) x (told p)) a) (λ q rn xs w. never (cc)) (λ ps w. never (cc))), subst (λ W. Tied W L B) (sym (ap (λ p. p.1) k.1)) t, (refl, refl, refl, refl, refl)))
    (⊎_elim
    (λ k. (
      landed f k.3.0 L,
      Goes.land (unrelated e l y x Answer.Held (z ∙ ap (λ p. Event.Brought (other e) x (told p)) k.0) (λ q rn xs w. never (cc)) (λ ps w. never (cc))) f k.1 k.2 k.3.0 k.3.1,
      k.3.2,
      (refl, refl, refl, refl, refl),
    ))
    (λ k. (handed_up f L, Goes.hand f k.1 k.2 x (z ∙ ap (λ p. Event.Brought (other e) x (told p)) k.0) holds, k.3, (refl, refl, refl, refl, refl))))
    (follows.brings d1 d2 small V L B run t f live u timely)

pub shows : HalfShows
shows V L B t e y a b = record {
  low = t.low;
  lowest = t.lowest;
  awaits = a ∙ t.oldest;
  eight = ap length b ∙ t.eight;
  flags = λ i k. ap (λ w. get_or w i false) b ∙ t.flags i k;
}
