-- The sample logs.
use Rattle.std.proofs.Common.{◌≡◌, ℕ, ◌≤◌, List, [], ◌∷◌, get_or, sym, refl, ap, ◌∙◌, subst, inl, inr, ⊎_elim, arith}
use Rattle.rules.specs.Members.{Among}
use Rattle.law.proofs.Base.{never}
use Rattle.law.specs.Log.{End, LogOn, Frame, Answer, Event, Entry}
use Rattle.law.specs.Laws.{Arrived, QuietSince, Right, Keeps, Laws}
use Rattle.law.specs.Samples.{on, sent, handed_up, reported, confirmed, good, tick, again, Samples}
use Rattle.law.proofs.Splits.{no_bring, in_at, in_newer, apart}
use Rattle.law.proofs.Rights.{right_none, right_packet, right_confirmed}

sent_right : (e : End) (l : LogOn) → Keeps e l sent
sent_right e l =
    (no_bring e l _ _ (λ e f a z. never (cc)), (no_bring e l _ _ (λ e f a z. never (cc)), (no_bring e l _ _ (λ e f a z. never (cc)), (no_bring e l _ _ (λ e f a z. never (cc)), (no_bring e l _ _ (λ e f a z. never (cc)), tt)))))

handed_right : (e : End) (l : LogOn) → Right e l (handed_up (65 ∷ [])) sent
handed_right End.Air l = right_none End.Air l _ _ (λ q rn octets h. never (let w = h.0.1 in cc)) (λ a h. never (let w = h.0 in cc)) (λ q rn h. never (let w = h.0.2 in cc))
handed_right End.Ground l =
    right_packet End.Ground l (handed_up (65 ∷ [])) sent (Frame.Data on) 2 0 (65 ∷ []) refl
    (λ holds.
    record {
      from = record {
        newer = _ ∷ [];
        accept = _;
        older = _;
        octets = 65 ∷ [];
        splits = refl;
        accepts = (refl, holds);
        last = λ x xs i a. ⊎_elim (λ z. never (let w = ap (λ v. v.event) z in let v = a.0 in cc)) (λ z. z) i;
      };
      same = refl;
      once = λ x xs i h. ⊎_elim (λ z. never (let w = ap (λ v. v.event) z in let v = h.0.1 in cc)) (λ z. z) i;
    })

confirmed_right : (e : End) (l : LogOn) → Right e l confirmed (reported ∷ handed_up (65 ∷ []) ∷ sent)
confirmed_right End.Air l = right_none End.Air l _ _ (λ q rn octets h. never (let w = h.0.1 in cc)) (λ a h. never (let w = h.0 in cc)) (λ q rn h. never (let w = h.0.2 in cc))
confirmed_right End.Ground l =
    right_confirmed End.Ground l confirmed (reported ∷ handed_up (65 ∷ []) ∷ sent) (Frame.Report on) ((2, 0) ∷ []) refl
    (λ holds q rn i.
    ⊎_elim
    (λ z.
    subst (λ p. Arrived End.Ground l p.0 p.1 (reported ∷ handed_up (65 ∷ []) ∷ sent)) (sym z)
    (record {
      from = record {
        newer = _ ∷ _ ∷ _ ∷ [];
        accept = _;
        older = _;
        octets = 65 ∷ [];
        splits = refl;
        accepts = (refl, holds);
        last = λ x xs j a.
            ⊎_elim (λ w. never (let u = ap (λ v. v.event) w in let v = a.0 in cc))
            (⊎_elim (λ w. never (let u = ap (λ v. v.event) w in let v = a.0 in cc)) (⊎_elim (λ w. never (let u = ap (λ v. v.event) w in let v = a.0 in cc)) (λ w. w))) j;
      };
      hand_up = handed_up (65 ∷ []);
      since = inr (inl refl);
      hands_up = ((Frame.Data on, refl), holds);
    }))
    (λ z. absurd z)
    i)
    (λ f h both quiet. absurd (let z = quiet _ (inr (inr (inl refl))) ((_, refl), h) in omega arith))

good_right : Laws good
good_right e l = (confirmed_right e l, (no_bring e l _ _ (λ e f a z. never (cc)), (handed_right e l, sent_right e l)))

agreed_right : (e : End) (l : LogOn) → Right e l (again (Answer.Confirmed []) 1) (tick ∷ good)
agreed_right End.Air l = right_none End.Air l _ _ (λ q rn octets h. never (let w = h.0.1 in cc)) (λ a h. never (let w = h.0 in cc)) (λ q rn h. never (let w = h.0.2 in cc))
agreed_right End.Ground l =
    right_confirmed End.Ground l (again (Answer.Confirmed []) 1) (tick ∷ good) (Frame.Report on) [] refl (λ _ q rn i. absurd i)
    (λ f h both quiet. record { taken = λ n z. never (cc); oldest = refl; acknowledged = refl })

-- in `sent`, the ground accepts only this packet, and nothing is brought
one_accept : (x : Entry) (xs : List ℕ) → Among x sent → x.event ≡ Event.Accepted End.Ground 2 0 xs → xs ≡ 65 ∷ []
one_accept x xs i a =
    let not : (e : Event) → x.event ≡ e → (e ≡ Event.Accepted End.Ground 2 0 xs → xs ≡ 65 ∷ []) → xs ≡ 65 ∷ [] = λ e z k. k (sym z ∙ a) in
    ⊎_elim (λ z. not _ (ap (λ v. v.event) z) (λ w. never (cc)))
    (⊎_elim (λ z. not _ (ap (λ v. v.event) z) (λ w. cc))
    (⊎_elim (λ z. not _ (ap (λ v. v.event) z) (λ w. never (cc)))
    (⊎_elim (λ z. not _ (ap (λ v. v.event) z) (λ w. never (cc)))
    (⊎_elim (λ z. not _ (ap (λ v. v.event) z) (λ w. never (cc))) (λ z. absurd z))))) i

none_brought : (x : Entry) (e : End) (f : Frame) (a : Answer) → Among x sent → x.event ≡ Event.Brought e f a → ⊥
none_brought x e f a i b =
    let not : (v : Event) → x.event ≡ v → (v ≡ Event.Brought e f a → ⊥) → ⊥ = λ v z k. k (sym z ∙ b) in
    ⊎_elim (λ z. not _ (ap (λ v. v.event) z) (λ w. never (cc)))
    (⊎_elim (λ z. not _ (ap (λ v. v.event) z) (λ w. never (cc)))
    (⊎_elim (λ z. not _ (ap (λ v. v.event) z) (λ w. never (cc)))
    (⊎_elim (λ z. not _ (ap (λ v. v.event) z) (λ w. never (cc)))
    (⊎_elim (λ z. not _ (ap (λ v. v.event) z) (λ w. never (cc))) (λ z. z))))) i

-- all of `good` was over by slot 10
over : (x : Entry) → Among x good → x.slot ≤ 10
over x i =
    let at : (n : ℕ) → x.slot ≡ n → n ≤ 10 → x.slot ≤ 10 = λ n e l. omega arith in
    ⊎_elim (λ z. at _ (ap (λ v. v.slot) z) (omega arith))
    (⊎_elim (λ z. at _ (ap (λ v. v.slot) z) (omega arith))
    (⊎_elim (λ z. at _ (ap (λ v. v.slot) z) (omega arith))
    (⊎_elim (λ z. at _ (ap (λ v. v.slot) z) (omega arith))
    (⊎_elim (λ z. at _ (ap (λ v. v.slot) z) (omega arith))
    (⊎_elim (λ z. at _ (ap (λ v. v.slot) z) (omega arith))
    (⊎_elim (λ z. at _ (ap (λ v. v.slot) z) (omega arith))
    (⊎_elim (λ z. at _ (ap (λ v. v.slot) z) (omega arith)) (λ z. absurd z)))))))) i

still : QuietSince End.Ground on (tick ∷ good) 12
still x i h = ⊎_elim (λ z. never (let w = ap (λ v. v.event) z in let v = h.0.1 in cc)) (λ j. let z = over x j in omega arith) i

pub samples : Samples
samples = record {
  right = good_right;
  agreed = λ e l. (agreed_right e l, (no_bring e l _ _ (λ e f a z. never (cc)), good_right e l));
  refused = λ laws. ((laws End.Ground on).0.reports (Answer.Refused 7) (refl, refl) refl still).taken 7 refl;
  stuck = λ laws. let z = ((laws End.Ground on).0.reports (Answer.Confirmed []) (refl, refl) refl still).oldest in omega arith;
  garbled = λ laws.
      let p = (laws End.Ground on).0.hand_ups 2 0 (66 ∷ []) ((_, refl), refl) in
      let f = p.from in
      let z = one_accept f.accept f.octets (subst (Among f.accept) (sym f.splits) (in_at f.newer f.accept f.older)) f.accepts.0 in
      let w = ap (λ l. get_or l 0 0) (sym z ∙ p.same) in
      omega arith;
  twice = λ laws. (apart End.Ground on 2 0 (65 ∷ []) (65 ∷ []) [] (handed_up (65 ∷ [])) [] (handed_up (65 ∷ [])) sent laws ((_, refl), refl) ((_, refl), refl)).1;
  credited = λ laws.
      let p = (laws End.Ground on).0.confirms 2 0 ((_, _, refl, inl refl), refl) in
      let f = p.from in
      none_brought p.hand_up _ _ _ (subst (Among p.hand_up) (sym f.splits) (in_newer f.newer p.hand_up (f.accept ∷ f.older) p.since)) p.hands_up.0.1;
}
