-- A send that answers a frame is the ledger's send.
use Rattle.std.proofs.Common.{◌≡◌, ℕ, suc, ◌+◌, ◌-◌, ◌<◌, ◌≤◌, max, Bool, true, ltb, ◌⊎◌, List, set, Some, sym, refl, ap, ◌∙◌, subst, inl, inr, ⊎_elim, arith, length-set}
use Rattle.std.proofs.lemmas.Bool.{cases_eq}
use Rattle.law.specs.Ledger.{Mark as Word, Use, Sender, Ledger, put}
use Rattle.law.specs.Steps.{Sends as Step, sending}
use Rattle.law.proofs.Base.{never, put_elim, put_at, put_off}
use Rattle.law.proofs.Inv.{Inv}
use Rattle.rules.specs.declared.window.BduKey.{BduKey}
use Rattle.rules.specs.declared.window.Mark.{Mark}
use Rattle.rules.specs.declared.window.Progress.{Progress}
use Rattle.rules.specs.declared.window.Standing.{Standing}
use Rattle.rules.specs.Sending.{Outgoing, Sending, Answer, Sends, Waits, mark, packet, place, piece, is_open, opening, sent}
use Rattle.law.specs.SendingFollows.{FrameSent}
use Rattle.law.specs.SendingTie.{Carries, Entry, SomeUse, Far, Holds, Pends, Under, Tied}
use Rattle.rules.proofs.Lists.{set_elim, first_passes, first_least}
use Rattle.law.proofs.SendingMoves.{moved_elim, entry_open, entry_shut, entry_over, under_over}
use Rattle.rules.proofs.Lists.{inside}

module _ (d1 d2 : ℕ) (S : Sending) (L : Ledger) (bodies : ℕ → List ℕ) (t : Tied S L bodies) (v : Inv d1 d2 L) where
  -- the first open number is the first unused one, or returned
  pub opens : opening S < 9 → (L.tx.oldest + opening S ≡ L.tx.used) ⊎ ((L.tx.oldest + opening S < L.tx.used) × ((L.tx.sent (L.tx.oldest + opening S)).mark ≡ Word.Returned))
  opens l =
      let k : ℕ = opening S in
      let passes : is_open (mark S k) ≡ true = first_passes 9 (λ j. is_open (mark S j)) l in
      let low = v.numbers.low in
      let near : (x : ℕ) → x ≡ k → L.tx.oldest + x ≤ L.tx.used =
      λ x e. ⊎_elim
      (λ z. omega arith)
      (λ o. let w = entry_shut L.tx _ _ (first_least 9 (λ j. is_open (mark S j)) (x - 1) (omega arith)) (t.entries (x - 1)) in omega arith)
      (cases_eq x 0) in
      ⊎_elim (λ u. inl (let w = near k refl in omega arith)) inr (entry_open L.tx _ (mark S k) passes (t.entries k))

  module _ (n i b : ℕ) (s : Step L n i b) where
    after_use : (j d : ℕ) (w : Word) → (w ≡ Word.Returned → ⊥) → SomeUse L.tx.used L.tx.sent j d w
        → SomeUse (max L.tx.used (suc n)) (put L.tx.sent n (record { packet = i; part = b; slot = L.clock; mark = Word.InFlight })) j d w
    after_use j d w ne h =
        let other : h.0 ≡ n → ⊥ = λ e. ⊎_elim (λ x. omega (arith, h.1)) (λ x. ne (sym h.4 ∙ ap (λ y. (L.tx.sent y).mark) e ∙ x.1)) s.open? in
        let same = put_off L.tx.sent n (record { packet = i; part = b; slot = L.clock; mark = Word.InFlight }) h.0 other in
        (h.0, omega (arith, h.1), ap (λ u. u.packet) same ∙ h.2, ap (λ u. u.part) same ∙ h.3, ap (λ u. u.mark) same ∙ h.4)

    -- the other pieces are where they were
    pub far_send : (j d : ℕ) → (j ≡ i → d ≡ b → ⊥) → (w : Progress) → Far L.tx.used L.tx.sent j d w
        → Far (max L.tx.used (suc n)) (put L.tx.sent n (record { packet = i; part = b; slot = L.clock; mark = Word.InFlight })) j d w
    far_send j d ne Progress.Waiting h = λ m l.
        put_elim L.tx.sent n (record { packet = i; part = b; slot = L.clock; mark = Word.InFlight }) m (λ u. u.packet ≡ j → u.part ≡ d → u.mark ≡ Word.Returned)
        (λ _ x y. absurd (ne (sym x) (sym y)))
        (λ o. h m (⊎_elim (λ e. omega arith) (λ e. omega (arith, e.0)) s.open?))
    far_send j d ne Progress.OnItsWay h = after_use j d Word.InFlight (λ e. never (cc)) h
    far_send j d ne Progress.Acknowledged h = after_use j d Word.Acked (λ e. never (cc)) h

    -- the other numbers are what they were
    pub entry_send : (m : ℕ) (w : Mark) → (m ≡ n → ⊥) → Entry L.tx m w → Entry (sending n i b L).tx m w
    entry_send m w ne h =
        let same = put_off L.tx.sent n (record { packet = i; part = b; slot = L.clock; mark = Word.InFlight }) m ne in
        let top : n ≤ L.tx.used = ⊎_elim (λ e. omega arith) (λ e. omega (arith, e.0)) s.open? in
        entry_over L.tx (sending n i b L).tx m w (λ l. omega arith) (λ g. omega arith)
        (λ _. (ap (λ u. u.mark) same, ap (λ u. u.slot) same))
        (λ c _ _ x. subst (λ u. Carries L.tx u c) (sym same) x) h

  module _ (now : ℕ) (clock : now ≡ L.clock) (b : BduKey) (since : ℕ) (w : Waits S b since) (l : opening S < 9) (i : ℕ)
      (holds : Holds L.tx L.clock (place b) i) (pends : Pends L.tx i since (packet S (place b)).octets (bodies i) (packet S (place b)).bdus)
      (s : Step L (L.tx.oldest + opening S) i b.bsn) where
    n : ℕ
    n = L.tx.oldest + opening S

    pub sent_tied : Tied (sent b (opening S) now S) (sending (L.tx.oldest + opening S) i b.bsn L) bodies
    unfolding n
    sent_tied =
        let T2 : Sender = (sending n i b.bsn L).tx in
        let uses : ℕ → Use = put L.tx.sent n (record { packet = i; part = b.bsn; slot = L.clock; mark = Word.InFlight }) in
        let here : uses n ≡ record { packet = i; part = b.bsn; slot = L.clock; mark = Word.InFlight } = put_at L.tx.sent n (record { packet = i; part = b.bsn; slot = L.clock; mark = Word.InFlight }) n refl in
        let o : Outgoing = packet S (place b) in
        let at_b : Under T2 L.clock bodies (place b) o.octets (set o.bdus b.bsn Progress.OnItsWay) (Standing.Pending since) = (
          i,
          holds,
          record {
            status = pends.status;
            born = pends.born;
            body = pends.body;
            size = pends.size;
            room = simp length-set pends.room;
            parts = λ d m.
                set_elim o.bdus b.bsn Progress.OnItsWay Progress.Waiting d (Far T2.used uses i d) (omega (arith, pends.room, s.piece))
                (λ e. (n, (omega arith), ap (λ x. x.packet) here, ap (λ x. x.part) here ∙ sym e, ap (λ x. x.mark) here))
                (λ ne. far_send n i b.bsn s i d (λ _ e. ne e) _ (pends.parts d m));
          },
        ) in
        record {
          live = t.live;
          oldest = t.oldest;
          nine = length-set S.window (opening S) _ ∙ t.nine;
          sixteen = length-set S.packets (place b) _ ∙ t.sixteen;
          entries = λ j.
              set_elim S.window (opening S) (Mark.OnItsWay now (Some b)) Mark.Unused j (λ m. Entry T2 (L.tx.oldest + j) m) (omega (arith, t.nine))
              (λ e. subst (λ x. Entry T2 (L.tx.oldest + x) (Mark.OnItsWay now (Some b))) (sym e)
              (omega arith, ap (λ x. x.mark) here, ap (λ x. x.slot) here ∙ sym clock, subst (λ x. Carries L.tx x (Some b)) (sym here) (pends.status, holds.key, refl)))
              (λ ne. entry_send n i b.bsn s (L.tx.oldest + j) _ (λ e. ne (omega arith)) (t.entries j));
          under = λ q.
              moved_elim b Progress.OnItsWay S.packets q (λ x. Under T2 L.clock bodies q x.octets x.bdus x.standing) (inside S.packets (place b) since w.pending)
              (λ e. subst (λ x. Under T2 L.clock bodies x o.octets (set o.bdus b.bsn Progress.OnItsWay) o.standing) (sym e)
              (subst (Under T2 L.clock bodies (place b) o.octets (set o.bdus b.bsn Progress.OnItsWay)) (sym w.pending) at_b))
              (λ ne. under_over L.tx L.tx.oldest T2.used uses T2.count L.clock bodies q _ _ _
              (λ j hj d v. far_send n i b.bsn s j d (λ e _. ne (sym hj.key ∙ ap (λ x. (L.tx.packet x).key) e ∙ holds.key)) v) (t.under q));
        }

  pub send_tied : (now count : ℕ) → now ≡ L.clock → L.tx.count ≤ count → (number : ℕ) (b : BduKey) (more : Bool) (octets : List ℕ) (S' : Sending)
      → Sends now count S (Answer.Sent number b more octets) S' → FrameSent S L bodies number b more octets S'
  send_tied now count clock few number b more octets S' a =
      let w = a.0.1.here in
      let o : Outgoing = packet S (place b) in
      let u = subst (Under L.tx L.clock bodies (place b) o.octets o.bdus) w.pending (t.under (place b)) in
      let pends = u.2 in
      let low : b.bsn < (L.tx.packet u.0).size = let x = pends.size in omega (arith, w.bsn) in
      let s : Step L (L.tx.oldest + opening S) u.0 b.bsn = record {
        live = t.live;
        room = omega (arith, a.1);
        from = omega arith;
        to = omega (arith, a.2);
        open? = opens a.2;
        known = u.1.known;
        pending = pends.status;
        piece = low;
        waits = subst (Far L.tx.used L.tx.sent u.0 b.bsn) w.waits (pends.parts b.bsn low);
      } in
      record {
        packet = u.0;
        step = s;
        tied = subst (λ x. Tied x (sending (L.tx.oldest + opening S) u.0 b.bsn L) bodies) (sym a.6) (sent_tied now clock b _ w a.2 u.0 u.1 pends s);
        number = a.3 ∙ (let e = t.oldest in omega arith);
        key = u.1.key;
        more = a.4 ∙ ap (ltb (b.bsn + 1)) (sym pends.size);
        octets = a.5 ∙ ap (λ x. piece x b.bsn) (sym pends.body);
      }
