-- Each step keeps ledger and log telling the same; a hand-up is paired, and what is confirmed has arrived.
use Rattle.std.proofs.Common.{◌≡◌, ℕ, ◌/◌, ◌%◌, ◌<◌, ◌≤◌, true, false, List, [], ◌∷◌, sym, refl, ap, ◌∙◌, subst, inl, inr, ⊎_elim, arith}
use Rattle.std.proofs.lemmas.Bool.{cases_eq}
use Rattle.rules.specs.Members.{Among}
use Rattle.law.specs.Ledger.{Mark, Packet, Frame, Ledger, put}
use Rattle.law.specs.Steps.{fresh, accepted, sending, handed_up}
use Rattle.law.specs.Sound.{Last}
use Rattle.law.proofs.Base.{never, put_elim, put_at, put_off}
use Rattle.law.specs.Log.{End, other, LogOn, Entry, Log}
use Rattle.law.specs.Laws.{Accepts, HandsUp, Sends, LastAccept, Paired, Arrived}
use Rattle.law.specs.Noted.{q_of, rn_of, NotedPacket, Noted}

module _ (e : End) (l : LogOn) where
  pub noted_fresh : (c : ℕ) (bodies : ℕ → List ℕ) → Noted e l (fresh c) bodies []
  noted_fresh c bodies = record { packets = λ i k. absurd (omega arith); sends = λ n k. absurd (omega arith) }

  module _ (L : Ledger) (bodies : ℕ → List ℕ) (log : Log) (h : Noted e l L bodies log) where
    -- the last accept of the packet i's Q and RN is its own
    last_accept : (i : ℕ) → Last L i → LastAccept e l (q_of L i) (rn_of L i) log
    last_accept i last =
        let p = h.packets i last.0 in
        record {
          newer = p.newer;
          accept = p.accept;
          older = p.older;
          octets = bodies i;
          splits = p.splits;
          accepts = p.accepts;
          last = λ x xs m a.
              let y = p.later (q_of L i) (rn_of L i) xs x m a in
              let w = y.1 in
              let q = y.3 in
              let rn = y.4 in
              let z = last.1 y.0 y.2 (omega arith) in omega arith;
        }

    -- law (a), for a packet that is the last with its Q and RN and not handed up yet
    pub pairs : (i : ℕ) → Last L i → L.rx.handed i ≡ false → (octets : List ℕ) → bodies i ≡ octets → Paired e l (q_of L i) (rn_of L i) octets log
    unfolding last_accept
    pairs i last new octets same = record { from = last_accept i last; same = same; once = λ x xs m hu. (h.packets i last.0).not_up last new xs x m hu }

    -- law (b), for a packet that is the last with its Q and RN and was handed up
    pub arrives : (i : ℕ) → Last L i → L.rx.handed i ≡ true → Arrived e l (q_of L i) (rn_of L i) log
    unfolding last_accept
    arrives i last up =
        let p = h.packets i last.0 in
        let y = p.up up in
        record { from = last_accept i last; hand_up = y.0; since = y.1; hands_up = y.2 }

    -- an entry that tells neither of an accept at e nor of a hand-up at the other end, under l, changes nothing
    pub noted_other : (y : Entry) → ((q rn : ℕ) (xs : List ℕ) → Accepts e l q rn xs y → ⊥) → ((q rn : ℕ) (xs : List ℕ) → HandsUp (other e) l q rn xs y → ⊥) → Noted e l L bodies (y ∷ log)
    noted_other y no_accept no_hand = record {
      packets = λ i k.
          let x = h.packets i k in
          record {
            newer = y ∷ x.newer;
            accept = x.accept;
            older = x.older;
            splits = ap (λ z. y ∷ z) x.splits;
            accepts = x.accepts;
            later = λ q rn xs z m a. ⊎_elim (λ s. absurd (no_accept q rn xs (subst (Accepts e l q rn xs) s a))) (λ m. x.later q rn xs z m a) m;
            up = λ u. let z = x.up u in (z.0, inr z.1, z.2);
            not_up = λ last u xs z m hu. ⊎_elim (λ s. no_hand (q_of L i) (rn_of L i) xs (subst (HandsUp (other e) l (q_of L i) (rn_of L i) xs) s hu)) (λ m. x.not_up last u xs z m hu) m;
          };
      sends = λ n k. let x = h.sends n k in (x.0, inr x.1, x.2, x.3);
    }

    pub noted_send : (y : Entry) (n i b : ℕ) → n ≤ L.tx.used → Sends e l y → y.slot ≡ L.clock → Noted e l (sending n i b L) bodies (y ∷ log)
    noted_send y n i b few s c =
        let z = noted_other y (λ q rn xs a. never (let w = a.0 in let v = s.0.1 in cc)) (λ q rn xs a. never (let w = a.0.1 in let v = s.0.1 in cc)) in
        record {
          packets = z.packets;
          sends = λ m k.
              put_elim L.tx.sent n (record { packet = i; part = b; slot = L.clock; mark = Mark.InFlight }) m (λ u. (x : Entry) × Among x (y ∷ log) × Sends e l x × (x.slot ≡ u.slot))
              (λ _. (y, inl refl, s, c))
              (λ other. z.sends m (omega arith));
        }

    pub noted_hand : (y : Entry) (f : Frame) → Last L f.packet → HandsUp (other e) l (q_of L f.packet) (rn_of L f.packet) (bodies f.packet) y → Noted e l (handed_up f L) bodies (y ∷ log)
    noted_hand y f last hy = record {
      packets = λ i k.
          let x = h.packets i k in
          record {
            newer = y ∷ x.newer;
            accept = x.accept;
            older = x.older;
            splits = ap (λ z. y ∷ z) x.splits;
            accepts = x.accepts;
            later = λ q rn xs z m a. ⊎_elim (λ s. never (let w = a.0 in let v = ap (λ t. t.event) s in let u = hy.0.1 in cc)) (λ m. x.later q rn xs z m a) m;
            up =
                put_elim L.rx.handed f.packet true i (λ u. u ≡ true → (z : Entry) × Among z (y ∷ x.newer) × HandsUp (other e) l (q_of L i) (rn_of L i) (bodies i) z)
                (λ s _. (y, inl refl, rw s hy))
                (λ _ u. let z = x.up u in (z.0, inr z.1, z.2));
            not_up = λ la.
                put_elim L.rx.handed f.packet true i (λ u. u ≡ false → (xs : List ℕ) (z : Entry) → Among z (y ∷ x.newer) → HandsUp (other e) l (q_of L i) (rn_of L i) xs z → ⊥)
                (λ _ u. never (cc))
                (λ apart u xs z m hu.
                ⊎_elim
                (λ s.
                let w = hu.0.1 in
                let v = ap (λ t. t.event) s in
                let t = hy.0.1 in
                let qq : q_of L i ≡ q_of L f.packet = cc in
                let rr : rn_of L i ≡ rn_of L f.packet = cc in
                let a = last.1 i k (omega arith) in
                let b = la.1 f.packet last.0 (omega arith) in
                apart (omega arith))
                (λ m. x.not_up la u xs z m hu)
                m);
          };
      sends = λ n k. let x = h.sends n k in (x.0, inr x.1, x.2, x.3);
    }

    pub noted_accept : (y : Entry) (p : Packet) (octets : List ℕ) → Accepts e l (p.key / 4) (p.key % 4) octets y → Noted e l (accepted p L) (put bodies L.tx.total octets) (y ∷ log)
    noted_accept y p octets ay =
        let N : ℕ = L.tx.total in
        let L' : Ledger = accepted p L in
        let B : ℕ → List ℕ = put bodies N octets in
        let old : (i : ℕ) → i < N → L'.tx.packet i ≡ L.tx.packet i = λ i k. put_off L.tx.packet N p i (λ z. omega arith) in
        let old_b : (i : ℕ) → i < N → B i ≡ bodies i = λ i k. put_off bodies N octets i (λ z. omega arith) in
        let new : L'.tx.packet N ≡ p = put_at L.tx.packet N p N refl in
        let new_b : B N ≡ octets = put_at bodies N octets N refl in
        let handed : (i : ℕ) → i < N → L'.rx.handed i ≡ L.rx.handed i = λ i k. put_off L.rx.handed N false i (λ z. omega arith) in
        let q_old : (i : ℕ) → i < N → q_of L' i ≡ q_of L i = λ i k. ap (λ v. v.key / 4) (old i k) in
        let rn_old : (i : ℕ) → i < N → rn_of L' i ≡ rn_of L i = λ i k. ap (λ v. v.key % 4) (old i k) in
        let last : NotedPacket e l L' B (y ∷ log) N = record {
          newer = [];
          accept = y;
          older = log;
          splits = refl;
          accepts = ((let a = ap (λ v. v.key / 4) new in let b = ap (λ v. v.key % 4) new in let z = ay.0 in cc), ay.1);
          later = λ q rn xs z m a. absurd m;
          up = λ u. never (let z = put_at L.rx.handed N false N refl in cc);
          not_up = λ la u xs z m hu. m;
        } in
        let earlier : (i : ℕ) → i < N → NotedPacket e l L' B (y ∷ log) i = λ i k.
        let x = h.packets i k in
        let qi = q_old i k in
        let ri = rn_old i k in
        let bi = old_b i k in
        let hi = handed i k in
        record {
          newer = y ∷ x.newer;
          accept = x.accept;
          older = x.older;
          splits = ap (λ z. y ∷ z) x.splits;
          accepts = ((let z = x.accepts.0 in cc), x.accepts.1);
          later = λ q rn xs z m a.
              ⊎_elim
              (λ s.
              let w = a.0 in
              let v = ay.0 in
              let t = ap (λ r. r.event) s in
              let qq : p.key / 4 ≡ q = cc in
              let rr : p.key % 4 ≡ rn = cc in
              (N, k, omega arith, ap (λ r. r.key / 4) new ∙ qq, ap (λ r. r.key % 4) new ∙ rr))
              (λ m. let j = x.later q rn xs z m a in let j_n = j.2 in (j.0, j.1, omega arith, q_old j.0 j.2 ∙ j.3, rn_old j.0 j.2 ∙ j.4))
              m;
          up = λ u. let z = x.up (sym hi ∙ u) in let w = z.2.0.1 in (z.0, inr z.1, ((z.2.0.0, cc), z.2.1));
          not_up = λ la u xs z m hu.
              ⊎_elim
              (λ s. never (let w = hu.0.1 in let v = ay.0 in let t = ap (λ r. r.event) s in cc))
              (λ m.
              x.not_up (k, λ j n w. la.1 j (omega arith) (ap (λ r. r.key) (old j n) ∙ w ∙ sym (ap (λ r. r.key) (old i k)))) (sym hi ∙ u) xs z m
              ((hu.0.0, (let w = hu.0.1 in cc)), hu.1))
              m;
        } in
        record {
          packets = λ i k. ⊎_elim (λ z. subst (NotedPacket e l L' B (y ∷ log)) (sym z) last) (λ z. earlier i (omega arith)) (cases_eq i N);
          sends = λ n k. let x = h.sends n k in (x.0, inr x.1, x.2, x.3);
        }
