-- The window moves past acknowledged numbers, and whole packets are confirmed.
use Rattle.std.proofs.Common.{◌≡◌, ℕ, ◌+◌, ◌-◌, ◌%◌, ◌<◌, ◌≤◌, Bool, true, false, not, leb, ◌⊎◌, List, ◌++◌, map, get_or, drop, replicate, Some, None, Option, sym, refl, ap, ◌∙◌, subst, inl, inr, ⊎_elim, arith}
use Rattle.std.proofs.lemmas.Bool.{cases_eq, cases_Bool, cond_both, and_parts, not-true, not-false, leb-true, both_ways}
use Rattle.rules.specs.Members.{Among}
use Rattle.law.specs.Ledger.{Status, Mark as Word, Sender, Ledger}
use Rattle.law.specs.Steps.{Oldest, marked}
use Rattle.law.proofs.Base.{never}
use Rattle.law.proofs.Inv.{Numbers}
use Rattle.rules.specs.declared.window.BduKey.{BduKey}
use Rattle.rules.specs.declared.window.Mark.{Mark}
use Rattle.rules.specs.declared.window.Progress.{Progress}
use Rattle.rules.specs.declared.window.Standing.{Standing}
use Rattle.rules.specs.Sending.{Outgoing, Sending, blank, mark, packet, pieces, first, is_acknowledged, is_acked, is_pending, is_whole, closed, lead, places}
use Rattle.law.specs.SendingTie.{Carries, Entry, SomeUse, Far, Gone, Holds, Under, Tied}
use Rattle.rules.proofs.Lists.{get_or_map, get_or_shift, length_shift, first_most, first_passes, first_least, places_have, places_only}
use Rattle.law.proofs.SendingMoves.{one_pending, entry_over, under_over, entry_acked, acked_entry}
use Rattle.rules.proofs.Lists.{inside}
use Rattle.std.proofs.lemmas.List.{length-map}

entry_unacked : (T : Sender) (n : ℕ) (m : Mark) → is_acknowledged m ≡ false → Entry T n m → n < T.used → (T.sent n).mark ≡ Word.Acked → ⊥
entry_unacked T n m a h l e = both_ways _ a (ap is_acknowledged (acked_entry T n m h l e))

-- ## the window moves

module _ (d1 : ℕ) (S : Sending) (L : Ledger) (bodies : ℕ → List ℕ) (v : Numbers d1 L) (mk : ℕ → Word) (t : Tied S (marked mk L.tx.oldest L.tx.status L) bodies) where
  lead_told : (k : ℕ) → k < lead S.window → (L.tx.oldest + k < L.tx.used) × (mk (L.tx.oldest + k) ≡ Word.Acked)
  lead_told k l =
      entry_acked (marked mk L.tx.oldest L.tx.status L).tx _ (mark S k) (not-false _ (first_least 9 (λ j. not (is_acknowledged (mark S j))) k l)) (t.entries k)

  pub oldest_moved : Oldest L mk (L.tx.oldest + lead S.window)
  oldest_moved =
      let m : ℕ = lead S.window in
      let low = v.low in
      let high = v.high in
      let top : (x : ℕ) → x ≡ m → L.tx.oldest + x ≤ L.tx.used =
      λ x e. ⊎_elim (λ z. omega arith) (λ o. let w = lead_told (x - 1) (omega arith) in omega (arith, w.0)) (cases_eq x 0) in
      record {
        up = omega arith;
        within = top m refl;
        past = λ n u l. ap mk {x = n} {y = L.tx.oldest + (n - L.tx.oldest)} (omega arith) ∙ (lead_told (n - L.tx.oldest) (omega arith)).1;
        stops = λ l.
            let small : lead S.window < 9 = omega arith in
            entry_unacked (marked mk L.tx.oldest L.tx.status L).tx _ (mark S m) (not-true _ (first_passes 9 (λ j. not (is_acknowledged (mark S j))) small)) (t.entries m) l;
      }

  abbrev pub shifted : Sending
  shifted = record { oldest = (S.oldest + lead S.window) % 256; window = drop (lead S.window) S.window ++ replicate (lead S.window) Mark.Unused; packets = S.packets; last = S.last }

  pub shifted_tied : Tied shifted (marked mk (L.tx.oldest + lead S.window) L.tx.status L) bodies
  shifted_tied =
      let m : ℕ = lead S.window in
      let T2 : Sender = (marked mk (L.tx.oldest + lead S.window) L.tx.status L).tx in
      record {
        live = t.live;
        oldest = let e = t.oldest in omega arith;
        nine = length_shift m S.window Mark.Unused (let e = t.nine in let f = first_most 9 (λ j. not (is_acknowledged (mark S j))) in omega arith) ∙ t.nine;
        sixteen = t.sixteen;
        entries = λ k.
            subst (Entry T2 (L.tx.oldest + m + k)) (sym (get_or_shift m S.window Mark.Unused k))
            (entry_over (marked mk L.tx.oldest L.tx.status L).tx T2 (L.tx.oldest + m + k) (mark S (m + k)) (λ l. l) (λ g. g) (λ _. (refl, refl))
            (λ b _ _ c. (elim b as (λ x. Carries (marked mk L.tx.oldest L.tx.status L).tx ((marked mk L.tx.oldest L.tx.status L).tx.sent (L.tx.oldest + m + k)) x → Carries T2 (T2.sent (L.tx.oldest + m + k)) x) [ Some y ↦ λ z. z | None ↦ λ z. z ]) c)
            (subst (λ x. Entry (marked mk L.tx.oldest L.tx.status L).tx x (mark S (m + k))) (omega arith) (t.entries (m + k))));
        under = λ p. under_over (marked mk L.tx.oldest L.tx.status L).tx T2.oldest T2.used T2.sent T2.count L.clock bodies p _ _ _ (λ i h b w f. f) (t.under p);
      }

-- ## whole packets are confirmed

abbrev pub restate : Status → Bool → Status
restate Status.Pending true = Status.Confirmed
restate Status.Pending false = Status.Pending
restate Status.Confirmed whole = Status.Confirmed
restate Status.Expired whole = Status.Expired

restate_pending : (s : Status) (w : Bool) → restate s w ≡ Status.Pending → s ≡ Status.Pending
restate_pending Status.Pending w e = refl
restate_pending Status.Confirmed w e = e
restate_pending Status.Expired w e = e

pub restate_cases : (s : Status) (w : Bool) → (restate s w ≡ s) ⊎ ((s ≡ Status.Pending) × (restate s w ≡ Status.Confirmed) × (w ≡ true))
restate_cases Status.Pending true = inr (refl, refl, refl)
restate_cases Status.Pending false = inl refl
restate_cases Status.Confirmed w = inl refl
restate_cases Status.Expired w = inl refl

pends_since : (s : Standing) → is_pending s ≡ true → (since : ℕ) × (s ≡ Standing.Pending since)
pends_since Standing.Free e = never (cc)
pends_since (Standing.Pending since) e = (since, refl)
pends_since (Standing.Resting until) e = never (cc)

all_acked : (p : Progress) → is_acked p ≡ true → p ≡ Progress.Acknowledged
all_acked Progress.Waiting e = never (cc)
all_acked Progress.OnItsWay e = never (cc)
all_acked Progress.Acknowledged e = refl

whole_parts : (o : Outgoing) → is_whole o ≡ true → ((since : ℕ) × (o.standing ≡ Standing.Pending since)) × ((d : ℕ) → d < pieces o.octets → get_or o.bdus d Progress.Waiting ≡ Progress.Acknowledged)
whole_parts o w =
    let f : ℕ → Bool = λ b. not (is_acked (get_or o.bdus b Progress.Waiting)) in
    let x = and_parts (is_pending o.standing) (leb (pieces o.octets) (first (pieces o.octets) f)) w in
    let y = leb-true (pieces o.octets) (first (pieces o.octets) f) x.1 in
    (pends_since o.standing x.0, λ d l. all_acked _ (not-false _ (first_least (pieces o.octets) f d (omega arith))))

-- the ledger with other statuses
abbrev pub restated : (ℕ → Status) → Ledger → Ledger
restated st L = record {
  clock = L.clock;
  tx = record { live = L.tx.live; total = L.tx.total; packet = L.tx.packet; status = st; oldest = L.tx.oldest; used = L.tx.used; sent = L.tx.sent; count = L.tx.count };
  rx = L.rx;
  frames = L.frames;
  reports = L.reports;
}

module _ (d1 : ℕ) (S : Sending) (L : Ledger) (bodies : ℕ → List ℕ) (t : Tied S L bodies) (v : Numbers d1 L) where
  abbrev pub verdict : ℕ → Status
  verdict i = restate (L.tx.status i) (is_whole (packet S (L.tx.packet i).key))

  -- the pending packet that stands at a whole place
  whole_owner : (p : ℕ) → is_whole (packet S p) ≡ true
      → (i : ℕ) × Holds L.tx L.clock p i × (L.tx.status i ≡ Status.Pending) × ((b : ℕ) → b < (L.tx.packet i).size → SomeUse L.tx.used L.tx.sent i b Word.Acked)
  whole_owner p w =
      let o : Outgoing = packet S p in
      let x = whole_parts o w in
      let u = subst (Under L.tx L.clock bodies p o.octets o.bdus) x.0.1 (t.under p) in
      (u.0, u.1, u.2.status, λ b l. subst (Far L.tx.used L.tx.sent u.0 b) (x.1 b (let e = u.2.size in omega arith)) (u.2.parts b l))

  pub whole_acked : (i : ℕ) → i < L.tx.total → L.tx.status i ≡ Status.Pending → is_whole (packet S (L.tx.packet i).key) ≡ true
      → (b : ℕ) → b < (L.tx.packet i).size → SomeUse L.tx.used L.tx.sent i b Word.Acked
  whole_acked i l e w =
      let u = whole_owner _ w in
      let same = one_pending L.tx L.clock _ u.0 i u.1 l refl e in
      subst (λ j. (b : ℕ) → b < (L.tx.packet j).size → SomeUse L.tx.used L.tx.sent j b Word.Acked) (sym same) u.3

  verdict_whole : (i p : ℕ) → (L.tx.packet i).key ≡ p → L.tx.status i ≡ Status.Pending → is_whole (packet S p) ≡ true → verdict i ≡ Status.Confirmed
  verdict_whole i p k e w = ap (λ s. restate s (is_whole (packet S (L.tx.packet i).key))) e ∙ ap (restate Status.Pending) (ap (λ x. is_whole (packet S x)) k ∙ w)

  verdict_stays : (i p : ℕ) → (L.tx.packet i).key ≡ p → L.tx.status i ≡ Status.Pending → is_whole (packet S p) ≡ false → verdict i ≡ Status.Pending
  verdict_stays i p k e w = ap (λ s. restate s (is_whole (packet S (L.tx.packet i).key))) e ∙ ap (restate Status.Pending) (ap (λ x. is_whole (packet S x)) k ∙ w)

  gone_over : (j : ℕ) → Gone L.tx L.clock j → Gone (restated verdict L).tx L.clock j
  gone_over j = ⊎_elim (λ e. inl (ap (λ s. restate s (is_whole (packet S (L.tx.packet j).key))) e)) (λ e. inr (ap (λ s. restate s (is_whole (packet S (L.tx.packet j).key))) e.0, e.1))

  holds_over : (p i : ℕ) → Holds L.tx L.clock p i → Holds (restated verdict L).tx L.clock p i
  holds_over p i h = record { known = h.known; key = h.key; others = λ j l k. ⊎_elim inl (λ x. inr (x.0, gone_over j x.1)) (h.others j l k) }

  under_still : (p : ℕ) (octets : List ℕ) (bdus : List Progress) (st : Standing) → is_whole (packet S p) ≡ false → Under L.tx L.clock bodies p octets bdus st → Under (restated verdict L).tx L.clock bodies p octets bdus st
  under_still p octets bdus Standing.Free f h = λ j l k. gone_over j (h j l k)
  under_still p octets bdus (Standing.Pending since) f h =
      let w = h.2 in
      (h.0, holds_over p h.0 h.1, record { status = verdict_stays h.0 p h.1.key w.status f; born = w.born; body = w.body; size = w.size; room = w.room; parts = w.parts })
  under_still p octets bdus (Standing.Resting until) f h =
      (h.0, holds_over p h.0 h.1, record { status = ap (λ s. restate s (is_whole (packet S (L.tx.packet h.0).key))) h.2.status; born = h.2.born; later = h.2.later })

  -- a number in flight keeps its BDU: its packet is not whole
  carries_still : (n : ℕ) (b : Option BduKey) → n < L.tx.used → (L.tx.sent n).mark ≡ Word.InFlight → Carries L.tx (L.tx.sent n) b → Carries (restated verdict L).tx (L.tx.sent n) b
  carries_still n None l e c = λ x. c (restate_pending _ _ x)
  carries_still n (Some b) l e c =
      let i : ℕ = (L.tx.sent n).packet in
      let u = v.uses n l in (
        ⊎_elim
            (λ w.
            let y = whole_acked i u.known c.0 w (L.tx.sent n).part u.piece in
            let same = v.claims n y.0 l y.1 (record { one = λ g. never (cc); two = λ g. never (let k = y.4 in cc); packet = sym y.2; part = sym y.3 }) in
            never (let k = y.4 in let z = ap (λ x. (L.tx.sent x).mark) same in cc))
            (λ w. verdict_stays i _ refl c.0 w)
            (cases_Bool (is_whole (packet S (L.tx.packet i).key))),
        c.1,
        c.2,
      )

  abbrev pub settled : Sending
  settled = record { oldest = S.oldest; window = S.window; packets = map closed S.packets; last = S.last }

  pub settled_tied : Tied settled (restated verdict L) bodies
  settled_tied = record {
    live = t.live;
    oldest = t.oldest;
    nine = t.nine;
    sixteen = length-map S.packets closed ∙ t.sixteen;
    entries = λ k. entry_over L.tx (restated verdict L).tx (L.tx.oldest + k) (mark S k) (λ l. l) (λ g. g) (λ _. (refl, refl)) (carries_still (L.tx.oldest + k)) (t.entries k);
    under = λ p.
        let o : Outgoing = packet S p in
        subst (λ x. Under (restated verdict L).tx L.clock bodies p x.octets x.bdus x.standing) (sym (get_or_map closed S.packets blank p))
        (cond_both (is_whole o) Standing.Free o.standing (Under (restated verdict L).tx L.clock bodies p o.octets o.bdus)
        (λ w j l k.
        let u = whole_owner p w in
        ⊎_elim (λ e. inl (verdict_whole j p k (ap L.tx.status e ∙ u.2) w)) (λ x. gone_over j x.1) (u.1.others j l k))
        (λ f. under_still p o.octets o.bdus o.standing f (t.under p)));
  }

  -- the places listed are those of the packets whose status became confirmed
  pub listed : (p : ℕ) → Among p (places is_whole 0 S.packets) → (i : ℕ) × (i < L.tx.total) × ((L.tx.packet i).key ≡ p) × (L.tx.status i ≡ Status.Pending) × (verdict i ≡ Status.Confirmed)
  listed p a =
      let x = places_only is_whole 0 S.packets p a in
      let w : is_whole (packet S p) ≡ true = ap (λ k. is_whole (packet S k)) {x = p} {y = x.0} (let e = x.1 in omega arith) ∙ x.3 in
      let u = whole_owner p w in
      (u.0, u.1.known, u.1.key, u.2, verdict_whole u.0 p u.1.key u.2 w)

  pub all_listed : (i : ℕ) → L.tx.status i ≡ Status.Pending → verdict i ≡ Status.Confirmed → Among (L.tx.packet i).key (places is_whole 0 S.packets)
  all_listed i e c =
      let p : ℕ = (L.tx.packet i).key in
      ⊎_elim
      (λ x. never (cc))
      (λ x. subst (λ k. Among k (places is_whole 0 S.packets)) {x = 0 + p} {y = p} (omega arith) (places_have is_whole 0 S.packets p (let y = whole_parts (packet S p) x.2 in inside S.packets p _ y.0.1) x.2))
      (restate_cases (L.tx.status i) (is_whole (packet S p)))
