-- Each entry concerns at most one direction and log-on: for a run with many, all others are `Unrelated`.
use Rattle.std.proofs.Common.{◌≡◌, ℕ, ◌⊎◌, List, refl, ap, ◌∙◌, inl, inr, ⊎_elim}
use Rattle.std.proofs.lemmas.Bool.{cases_eq}
use Rattle.law.specs.Log.{End, other, LogOn, Frame, Answer, Event, Entry}
use Rattle.law.specs.Logged.{Unrelated}

pub same_end : (a b : End) → (a ≡ b) ⊎ (a ≡ other b)
same_end End.Ground End.Ground = inl refl
same_end End.Ground End.Air = inr refl
same_end End.Air End.Ground = inr refl
same_end End.Air End.Air = inl refl

pub same_log_on : (a b : LogOn) → (a ≡ b) ⊎ (a ≡ b → ⊥)
same_log_on a b =
    ⊎_elim
    (λ x. ⊎_elim (λ y. inl (both a b x y)) (λ y. inr (λ z. y (ap (λ w. w.number) z))) (cases_eq a.number b.number))
    (λ x. inr (λ z. x (ap (λ w. w.aircraft) z)))
    (cases_eq a.aircraft b.aircraft)
  where
    both : (a b : LogOn) → a.aircraft ≡ b.aircraft → a.number ≡ b.number → a ≡ b
    both a b x y = let make : ℕ → ℕ → LogOn = λ m n. record { aircraft = m; number = n } in ap (λ m. make m a.number) x ∙ ap (make b.aircraft) y

module _ (y : Entry) (e : End) (l : LogOn) where
  -- events that concern no direction
  pub of_none : ((f : End) (q rn : ℕ) (xs : List ℕ) → y.event ≡ Event.Accepted f q rn xs → ⊥) → ((f : End) (x : Frame) (a : Answer) → y.event ≡ Event.Brought f x a → ⊥) → Unrelated e l y
  of_none a b = record {
    accepts = λ q rn xs h. a e q rn xs h.0;
    hands_up = λ q rn xs h. b (other e) h.0.0 (Answer.Packet q rn xs) h.0.1;
    confirms = λ q rn h. b e h.0.0 (Answer.Confirmed h.0.1) h.0.2;
    hears = λ answer h. b e (Frame.Report l) answer h.0;
  }
