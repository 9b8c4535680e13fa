-- An accept that is not refused is the ledger's accept, and it is refused only where no reference number is free.
use Rattle.std.proofs.Common.{◌≡◌, ℕ, suc, ◌+◌, ◌*◌, ◌%◌, ◌<◌, ◌≤◌, true, false, ◌⊎◌, List, length, get_or, replicate, Some, None, Option, sym, refl, ap, ◌∙◌, subst, inl, inr, ⊎_elim, arith, length-set}
use Rattle.std.proofs.lemmas.Bool.{cases_eq}
use Rattle.law.specs.Ledger.{Status, Packet, Sender, Ledger, put}
use Rattle.law.specs.Steps.{accepted as accepted_step}
use Rattle.law.proofs.Base.{never, put_at, put_off}
use Rattle.law.proofs.Inv.{Inv}
use Rattle.rules.specs.declared.window.BduKey.{BduKey}
use Rattle.rules.specs.declared.window.Progress.{Progress}
use Rattle.rules.specs.declared.window.Standing.{Standing}
use Rattle.rules.specs.Sending.{Sending, blank, mark, packet, pieces, is_free, turn, passed}
use Rattle.law.specs.SendingTie.{Carries, Far, Gone, Holds, Under, Tied}
use Rattle.law.specs.SendingFollows.{Taken, NoneFree}
use Rattle.rules.proofs.Lists.{set_elim, get_or_same, first_passes, first_least}
use Rattle.law.proofs.SendingMoves.{entry_over}

free_is : (s : Standing) → is_free s ≡ true → s ≡ Standing.Free
free_is Standing.Free e = refl
free_is (Standing.Pending since) e = never (cc)
free_is (Standing.Resting until) e = never (cc)

module _ (d1 d2 : ℕ) (S : Sending) (L : Ledger) (bodies : ℕ → List ℕ) (t : Tied S L bodies) (v : Inv d1 d2 L) where
  kept_by : (p : ℕ) (octets : List ℕ) (bdus : List Progress) (s : Standing) → is_free s ≡ false → Under L.tx L.clock bodies p octets bdus s
      → (i : ℕ) × Holds L.tx L.clock p i × ((L.tx.status i ≡ Status.Pending) ⊎ ((L.tx.status i ≡ Status.Expired) × (L.clock < (L.tx.packet i).born + 149)))
  kept_by p octets bdus Standing.Free e h = never (cc)
  kept_by p octets bdus (Standing.Pending since) e h = (h.0, h.1, inl h.2.status)
  kept_by p octets bdus (Standing.Resting until) e h = (h.0, h.1, inr (h.2.status, (let x = h.2.born in omega (arith, h.2.later))))

  pub none_free : (q : ℕ) → passed S q ≡ 4 → NoneFree L q
  none_free q full rn l =
      let g : ℕ = get_or S.last q 0 in
      let k : ℕ = (rn + 3 + 3 * g) % 4 in
      let same : turn S q k ≡ rn = omega arith in
      let shut : is_free (packet S (4 * q + turn S q k)).standing ≡ false = first_least 4 (λ j. is_free (packet S (4 * q + turn S q j)).standing) k (omega (arith, full)) in
      kept_by (4 * q + rn) (packet S (4 * q + rn)).octets (packet S (4 * q + rn)).bdus _ (ap (λ x. is_free (packet S (4 * q + x)).standing) (sym same) ∙ shut) (t.under (4 * q + rn))

  module _ (p : Packet) (octets : List ℕ) (fits : pieces octets ≤ 8) (some : 1 ≤ pieces octets) (size : p.size ≡ pieces octets) (now : p.born ≡ L.clock)
      (free : (packet S p.key).standing ≡ Standing.Free) where
    abbrev T2 : Sender
    T2 = (accepted_step p L).tx

    abbrev texts : ℕ → List ℕ
    texts = put bodies L.tx.total octets

    packet_kept : (i : ℕ) → i < L.tx.total → T2.packet i ≡ L.tx.packet i
    packet_kept i l = put_off L.tx.packet L.tx.total p i (λ e. omega arith)

    status_kept : (i : ℕ) → i < L.tx.total → T2.status i ≡ L.tx.status i
    status_kept i l = put_off L.tx.status L.tx.total Status.Pending i (λ e. omega arith)

    packet_new : T2.packet L.tx.total ≡ p
    packet_new = put_at L.tx.packet L.tx.total p L.tx.total refl

    all_gone : (j : ℕ) → j < L.tx.total → (L.tx.packet j).key ≡ p.key → Gone L.tx L.clock j
    all_gone = subst (Under L.tx L.clock bodies p.key (packet S p.key).octets (packet S p.key).bdus) free (t.under p.key)

    gone_over : (j : ℕ) → j < L.tx.total → Gone L.tx L.clock j → Gone T2 L.clock j
    gone_over j l = ⊎_elim (λ e. inl (status_kept j l ∙ e)) (λ e. inr (status_kept j l ∙ e.0, rw (packet_kept j l) e.1))

    few : (j : ℕ) → j < suc L.tx.total → (j ≡ L.tx.total) ⊎ (j < L.tx.total)
    few j l = ⊎_elim inl (λ o. inr (omega arith)) (cases_eq j L.tx.total)

    holds_over : (q i : ℕ) → (q ≡ p.key → ⊥) → Holds L.tx L.clock q i → Holds T2 L.clock q i
    holds_over q i ne h = record {
      known = let k = h.known in omega arith;
      key = ap (λ x. x.key) (packet_kept i h.known) ∙ h.key;
      others = λ j l k.
          ⊎_elim
          (λ e. absurd (ne (sym k ∙ ap (λ x. (T2.packet x).key) e ∙ ap (λ x. x.key) packet_new)))
          (λ m. ⊎_elim inl (λ x. inr (x.0, gone_over j m x.1)) (h.others j m (sym (ap (λ x. x.key) (packet_kept j m)) ∙ k)))
          (few j l);
    }

    under_other : (q : ℕ) (os : List ℕ) (bdus : List Progress) (s : Standing) → (q ≡ p.key → ⊥) → Under L.tx L.clock bodies q os bdus s → Under T2 L.clock texts q os bdus s
    under_other q os bdus Standing.Free ne h = λ j l k.
        ⊎_elim
        (λ e. absurd (ne (sym k ∙ ap (λ x. (T2.packet x).key) e ∙ ap (λ x. x.key) packet_new)))
        (λ m. gone_over j m (h j m (sym (ap (λ x. x.key) (packet_kept j m)) ∙ k)))
        (few j l)
    under_other q os bdus (Standing.Pending since) ne h =
        let i : ℕ = h.0 in
        let l = h.1.known in
        let w = h.2 in
        let e = packet_kept i l in (
          i,
          holds_over q i ne h.1,
          record {
            status = status_kept i l ∙ w.status;
            born = ap (λ x. x.born) e ∙ w.born;
            body = put_off bodies L.tx.total octets i (λ x. omega arith) ∙ w.body;
            size = ap (λ x. x.size) e ∙ w.size;
            room = rw e w.room;
            parts = λ b m. w.parts b (rw e at m);
          },
        )
    under_other q os bdus (Standing.Resting until) ne h =
        let l = h.1.known in
        (h.0, holds_over q h.0 ne h.1, record { status = status_kept h.0 l ∙ h.2.status; born = ap (λ x. x.born + 149) (packet_kept h.0 l) ∙ h.2.born; later = h.2.later })

    under_new : Under T2 L.clock texts p.key octets (replicate 8 Progress.Waiting) (Standing.Pending L.clock)
    under_new =
        let N : ℕ = L.tx.total in (
          N,
          record {
            known = omega arith;
            key = ap (λ x. x.key) packet_new;
            others = λ j l k. ⊎_elim inl (λ m. inr (m, gone_over j m (all_gone j m (sym (ap (λ x. x.key) (packet_kept j m)) ∙ k)))) (few j l);
          },
          record {
            status = put_at L.tx.status N Status.Pending N refl;
            born = ap (λ x. x.born) packet_new ∙ now;
            body = put_at bodies N octets N refl;
            size = ap (λ x. x.size) packet_new ∙ size;
            room = let e = ap (λ x. x.size) packet_new in omega arith;
            parts = λ b m. subst (Far L.tx.used L.tx.sent N b) (sym (get_or_same 8 Progress.Waiting b)) (λ n l e f. absurd (let k = (v.numbers.uses n l).known in omega arith));
          },
        )

    carries_over : (n : ℕ) → n < L.tx.used → (b : Option BduKey) → Carries L.tx (L.tx.sent n) b → Carries T2 (L.tx.sent n) b
    carries_over n l (Some b) c = let k = (v.numbers.uses n l).known in (status_kept _ k ∙ c.0, ap (λ x. x.key) (packet_kept _ k) ∙ c.1, c.2)
    carries_over n l None c = let k = (v.numbers.uses n l).known in λ e. c (sym (status_kept _ k) ∙ e)

  pub taken : (q : ℕ) (octets : List ℕ) → q < 4 → 1 ≤ length octets → length octets ≤ 424 → passed S q < 4 → Taken S L bodies q octets
  taken q octets ql some most room =
      let rn : ℕ = turn S q (passed S q) in
      let p : Packet = record { key = 4 * q + rn; size = pieces octets; born = L.clock } in
      let fits : pieces octets ≤ 8 = omega arith in
      let one : 1 ≤ pieces octets = omega arith in
      let free : (packet S (4 * q + rn)).standing ≡ Standing.Free = free_is _ (first_passes 4 (λ j. is_free (packet S (4 * q + turn S q j)).standing) room) in
      let in_list : 4 * q + rn < length S.packets = let e = t.sixteen in omega arith in
      record {
        step = record {
          live = t.live;
          now = refl;
          some = one;
          free = λ j l k. ⊎_elim inl (λ e. inr (e.0, inl e.1)) (all_gone p octets fits one refl refl free j l k);
        };
        tied = record {
          live = t.live;
          oldest = t.oldest;
          nine = t.nine;
          sixteen = length-set S.packets (4 * q + rn) _ ∙ t.sixteen;
          entries = λ k.
              entry_over L.tx (T2 p octets fits one refl refl free) (L.tx.oldest + k) (mark S k) (λ l. l) (λ g. g) (λ _. (refl, refl))
              (λ b l _ c. carries_over p octets fits one refl refl free (L.tx.oldest + k) l b c) (t.entries k);
          under = λ j.
              set_elim S.packets (4 * q + rn) (record { standing = Standing.Pending L.clock; octets = octets; bdus = replicate 8 Progress.Waiting }) blank j
              (λ x. Under (accepted_step p L).tx L.clock (put bodies L.tx.total octets) j x.octets x.bdus x.standing) in_list
              (λ e. subst (λ x. Under (accepted_step p L).tx L.clock (put bodies L.tx.total octets) x octets (replicate 8 Progress.Waiting) (Standing.Pending L.clock)) (sym e) (under_new p octets fits one refl refl free))
              (λ ne. under_other p octets fits one refl refl free j _ _ _ ne (t.under j));
        };
      }
