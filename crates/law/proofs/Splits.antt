-- Splits of a log, and entries that the laws ask nothing of.
use Rattle.std.proofs.Common.{◌≡◌, ◌⊎◌, [], ◌∷◌, ◌++◌, sym, refl, ap, ◌∙◌, subst, inl, inr, ⊎_elim}
use Rattle.rules.specs.Members.{Among}
use Rattle.law.proofs.Base.{never}
use Rattle.law.specs.Log.{End, other, LogOn, Frame, Answer, Event, Entry, Log}
use Rattle.law.specs.Laws.{Accepts, Right, Keeps}
use Rattle.law.specs.Samples.{Apart}
use Rattle.law.specs.Kept.{LastIsOne}

-- an entry that tells of no bring is right
pub no_bring : (e : End) (l : LogOn) (x : Entry) (log : Log) → ((e : End) (f : Frame) (a : Answer) → x.event ≡ Event.Brought e f a → ⊥) → Right e l x log
no_bring e l x log none = record {
  hand_ups = λ q rn octets h. absurd (none (other e) h.0.0 (Answer.Packet q rn octets) h.0.1);
  confirms = λ q rn h. absurd (none e h.0.0 (Answer.Confirmed h.0.1) h.0.2);
  reports = λ answer h. absurd (none e (Frame.Report l) answer h.0);
}

-- every entry of a log is right
pub keeps_at : (e : End) (l : LogOn) (newer : Log) (x : Entry) (older : Log) → Keeps e l (newer ++ x ∷ older) → Right e l x older
keeps_at e l [] x older h = h.0
keeps_at e l (y ∷ newer) x older h = keeps_at e l newer x older h.1

-- what stands in a split stands in the log
pub in_at : (newer : Log) (x : Entry) (older : Log) → Among x (newer ++ x ∷ older)
in_at [] x older = inl refl
in_at (y ∷ newer) x older = inr (in_at newer x older)

pub in_newer : (newer : Log) (x : Entry) (older : Log) → Among x newer → Among x (newer ++ older)
in_newer [] x older i = absurd i
in_newer (y ∷ newer) x older i = ⊎_elim inl (λ j. inr (in_newer newer x older j)) i

-- two splits of one log: the second is at a newer entry, the same, or an older one
pub splits_order : (n1 : Log) (x : Entry) (o1 n2 : Log) (y : Entry) (o2 : Log) → n1 ++ x ∷ o1 ≡ n2 ++ y ∷ o2 → Among y n1 ⊎ (((n1 ≡ n2) × (x ≡ y) × (o1 ≡ o2)) ⊎ Among x n2)
splits_order [] x o1 [] y o2 e = inr (inl (refl, cc, cc))
splits_order [] x o1 (z ∷ n2) y o2 e = inr (inr (inl (cc)))
splits_order (z ∷ n1) x o1 [] y o2 e = inl (inl (cc))
splits_order (z ∷ n1) x o1 (w ∷ n2) y o2 e =
    let first : z ≡ w = cc in
    ⊎_elim (λ h. inl (inr h)) (⊎_elim (λ h. inr (inl (ap (λ r. z ∷ r) h.0 ∙ ap (λ r. r ∷ n2) first, h.1, h.2))) (λ h. inr (inr (inr h)))) (splits_order n1 x o1 n2 y o2 (cc))

pub last_one : LastIsOne
last_one e l q rn log a b =
    ⊎_elim
    (λ i. absurd (a.last b.accept b.octets i b.accepts))
    (⊎_elim (λ h. h) (λ i. absurd (b.last a.accept a.octets i a.accepts)))
    (splits_order a.newer a.accept a.older b.newer b.accept b.older (sym a.splits ∙ b.splits))

pub apart : Apart
apart e l q rn xs ys newer x mid y older laws hx hy =
    let p = (keeps_at e l newer x (mid ++ y ∷ older) (laws e l)).hand_ups q rn xs hx in
    let f = p.from in
    let a = f.accepts in
    ⊎_elim
    (λ i. (f.accept, i, subst (λ o. Accepts e l q rn o f.accept) p.same a))
    (⊎_elim
    (λ same. never (let z = ap (λ w. w.event) same.1 in let u = hy.0.1 in let v = a.0 in cc))
    (λ i. absurd (p.once y ys i hy)))
    (splits_order mid y older f.newer f.accept f.older f.splits)
