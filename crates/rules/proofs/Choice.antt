-- The search in one row finds the BDU to send.
use Rattle.std.proofs.Common.{◌≡◌, ℕ, zero, suc, ◌+◌, ◌*◌, ◌/◌, ◌%◌, ◌<◌, true, false, cond, ltb, ◌⊎◌, List, Some, None, Option, sym, refl, ap, ◌∙◌, subst, inl, inr, ⊎_elim, arith}
use Rattle.std.proofs.lemmas.Bool.{cases_eq, both_ways, and_parts, and_from, ltb-true, lt-ltb, cond_both}
use Rattle.rules.specs.Sending.{BduKey, Progress, Standing, Outgoing, Sending, packet, place, pieces, is_pending, Waits, Before}
use Rattle.rules.specs.Choice.{nth, is_waiting, since_of, waiting, since, goes, better, chosen, Chosen, FindsNext}
use Rattle.rules.proofs.Lists.{never}
use Rattle.rules.proofs.Order.{same_key, before_self, before_trans, goes_true, goes_false}

waiting_is : (v : Progress) → is_waiting v ≡ true → v ≡ Progress.Waiting
waiting_is Progress.Waiting e = refl
waiting_is Progress.OnItsWay e = never (cc)
waiting_is Progress.Acknowledged e = never (cc)

pending_is : (s : Standing) → is_pending s ≡ true → s ≡ Standing.Pending (since_of s)
pending_is Standing.Free e = never (cc)
pending_is (Standing.Pending since) e = refl
pending_is (Standing.Resting until) e = never (cc)

-- what the search has found among the first n
abbrev pub Leads : List Outgoing → ℕ → Option BduKey → Type 0
Leads ps n None = (y : ℕ) → y < n → waiting ps (nth y) ≡ false
Leads ps n (Some b) = (x : ℕ) × (x < n) × (b ≡ nth x) × (waiting ps b ≡ true) × ((y : ℕ) → y < n → waiting ps (nth y) ≡ true → Before b (since ps b) (nth y) (since ps (nth y)))

last_or : (n y : ℕ) → y < suc n → (y ≡ n) ⊎ (y < n)
last_or n y l = ⊎_elim inl (λ o. inr (omega arith)) (cases_eq y n)

module _ (ps : List Outgoing) where
  leads_more : (n : ℕ) (best : Option BduKey) → Leads ps n best → Leads ps (suc n) (better ps best (nth n))
  leads_more n None h =
      cond_both (waiting ps (nth n)) (Some (nth n)) None (Leads ps (suc n))
      (λ w. (n, (omega arith), refl, w, λ y l e. ⊎_elim (λ s. subst (λ z. Before (nth n) (since ps (nth n)) (nth z) (since ps (nth z))) (sym s) (before_self _ _)) (λ m. absurd (both_ways _ (h y m) e)) (last_or n y l)))
      (λ w y l. ⊎_elim (λ s. ap (λ z. waiting ps (nth z)) s ∙ w) (h y) (last_or n y l))
  leads_more n (Some b) h =
      cond_both (waiting ps (nth n)) (cond (goes b (since ps b) (nth n) (since ps (nth n))) (Some b) (Some (nth n))) (Some b) (Leads ps (suc n))
      (λ w.
      cond_both (goes b (since ps b) (nth n) (since ps (nth n))) (Some b) (Some (nth n)) (Leads ps (suc n))
      (λ g. (h.0, (let k = h.1 in omega arith), h.2, h.3, λ y l e. ⊎_elim (λ s. subst (λ z. Before b (since ps b) (nth z) (since ps (nth z))) (sym s) (goes_true b (nth n) _ _ g)) (λ m. h.4 y m e) (last_or n y l)))
      (λ g. (n, (omega arith), refl, w, λ y l e. ⊎_elim (λ s. subst (λ z. Before (nth n) (since ps (nth n)) (nth z) (since ps (nth z))) (sym s) (before_self _ _)) (λ m. before_trans (nth n) b (nth y) _ _ _ (goes_false b (nth n) _ _ g) (h.4 y m e)) (last_or n y l))))
      (λ w. (h.0, (let k = h.1 in omega arith), h.2, h.3, λ y l e. ⊎_elim (λ s. absurd (both_ways _ w (ap (λ z. waiting ps (nth z)) (sym s) ∙ e))) (λ m. h.4 y m e) (last_or n y l)))

  leads : (n : ℕ) → Leads ps n (chosen ps n)
  unfolding chosen
  leads zero = λ y l. absurd (omega arith)
  leads (suc n) = leads_more n (chosen ps n) (leads n)

-- a BDU waits exactly if it passes the test somewhere in the row
module _ (S : Sending) where
  test_waits : (x : ℕ) → x < 128 → waiting S.packets (nth x) ≡ true → Waits S (nth x) (since S.packets (nth x))
  test_waits x l e =
      let o : Outgoing = packet S (place (nth x)) in
      let a = and_parts (is_pending o.standing) _ e in
      let b = and_parts (ltb (x % 8) (pieces o.octets)) _ a.1 in
      record { q = omega arith; rn = omega arith; eight = omega arith; bsn = ltb-true _ _ b.0; pending = pending_is _ a.0; waits = waiting_is _ b.1 }

  waits_test : (c : BduKey) (t : ℕ) → Waits S c t → (x : ℕ) × (x < 128) × (nth x ≡ c) × (t ≡ since S.packets (nth x)) × (waiting S.packets (nth x) ≡ true)
  waits_test c t w =
      let x : ℕ = 32 * c.q + 8 * c.rn + c.bsn in
      let k : c.bsn < 8 = w.eight in
      let q : c.q < 4 = w.q in
      let r : c.rn < 4 = w.rn in
      let e0 : x / 32 ≡ c.q = omega arith in
      let e1 : x / 8 % 4 ≡ c.rn = omega arith in
      let e2 : x % 8 ≡ c.bsn = omega arith in
      let same : nth x ≡ c = same_key (nth x) c e0 e1 e2 in
      let v : Waits S (nth x) t = subst (λ b. Waits S b t) (sym same) w in
      let o : Outgoing = packet S (place (nth x)) in (
        x,
        (omega arith),
        same,
        sym (ap since_of v.pending),
        and_from (is_pending o.standing) _ (ap is_pending v.pending) (and_from (ltb (x % 8) (pieces o.octets)) _ (lt-ltb _ _ v.bsn) (ap is_waiting v.waits)),
      )

  pub found : (r : Option BduKey) → Leads S.packets 128 r → Chosen S r
  found None h = λ c t w. let x = waits_test c t w in both_ways _ (h x.0 x.1) x.4
  found (Some b) h = (
    since S.packets b,
    record {
      here = subst (λ z. Waits S z (since S.packets z)) (sym h.2) (test_waits h.0 h.1 (ap (waiting S.packets) (sym h.2) ∙ h.3));
      best = λ c t w.
          let x = waits_test c t w in
          subst (λ u. Before b (since S.packets b) c u) (sym x.3) (subst (λ z. Before b (since S.packets b) z (since S.packets (nth x.0))) x.2 (h.4 x.0 x.1 x.4));
    },
  )

pub finds_next : FindsNext
finds_next S = found S (chosen S.packets 128) (leads S.packets 128)
