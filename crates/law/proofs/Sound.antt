-- The invariant gives what `LinkSound` says.
use Rattle.std.proofs.Common.{◌≡◌, ℕ, ◌+◌, ◌<◌, ◌≤◌, true, ap, ◌∙◌, ⊎_elim, arith}
use Rattle.std.proofs.lemmas.Bool.{cases_Bool, cases_lt, both_ways, lt-ltb, or_left}
use Rattle.rules.specs.Members.{Among}
use Rattle.law.specs.Ledger.{Mark, Cell, Report, Ledger, tells}
use Rattle.law.specs.Steps.{with_frame, after}
use Rattle.law.specs.Sound.{Honest, Settled, Agrees, Sound, LinkSound}
use Rattle.law.proofs.Base.{judged_told}
use Rattle.law.proofs.Inv.{Inv}
use Rattle.law.proofs.Numbers.{fair_report, fair_acked, lowest_between}
use Rattle.law.proofs.Taking.{cell_cases, is_taken, from_it}
use Rattle.law.proofs.Runs.{kept}

module _ (d1 d2 : ℕ) (small : d1 + d2 ≤ 1) (L : Ledger) (h : Inv d1 d2 L) where
  -- a received number is not returned
  stays : (n : ℕ) → n < L.tx.used → L.rx.got n ≡ true → (L.tx.sent n).mark ≡ Mark.Returned → ⊥
  stays n k g e = both_ways _ (h.numbers.back n k e).0 g

  honest : (r : Report) → Among r L.reports → L.clock ≤ r.slot + d2 → Honest L r
  honest r u t n e =
      let g = (h.underway.reports r u t).told n e in
      let k = h.numbers.early n g in
      (g, k, stays n k g)

  agrees : (r : Report) → Among r L.reports → L.clock ≤ r.slot + d2 → Settled L → Agrees L r
  agrees r u t old =
      let w = h.underway.reports r u t in
      let told : (n : ℕ) → n < L.tx.used → L.rx.got n ≡ true → tells r n ≡ true = λ n k g. w.all n k g (let z = old n k in omega arith) in
      let acked : (n : ℕ) → n < L.tx.used → after L r n ≡ Mark.Acked → L.rx.got n ≡ true = λ n k e. fair_acked d1 d2 small L h (after L r) (fair_report d1 d2 small L h r u t) n k e in
      let tell : (n : ℕ) → n < L.tx.used → L.rx.got n ≡ true → after L r n ≡ Mark.Acked = λ n k g. judged_told _ _ _ (stays n k g) (told n k g) in
      let below : (n : ℕ) → n < L.tx.oldest → L.rx.got n ≡ true = λ n k. h.numbers.sure n (let z = h.numbers.low in omega arith) (h.numbers.below n k) in
      record {
        current = ⊎_elim (λ less. absurd (w.gap (told r.low (let z = h.numbers.low in omega arith) (below r.low less)))) (λ more. more) (cases_lt r.low L.tx.oldest);
        oldest = λ A o. (
          λ n k. ⊎_elim (below n) (λ up. acked n (let z = o.within in omega arith) (o.past n up k)) (cases_lt n L.tx.oldest),
          ⊎_elim (λ g. let k = h.numbers.early A g in absurd (o.stops k (tell A k g))) (λ g. g) (cases_Bool (L.rx.got A)),
        );
        marks = λ n k. (acked n k, tell n k);
      }

  sound : Sound d1 d2 L
  sound = record {
    taken = λ f l u t a. is_taken d1 d2 small L h f u t l a;
    whole = λ f c full b k.
        ⊎_elim
        (λ e. absurd (full b k e))
        (λ x. x.1 ∙ ap Cell.From (from_it d1 d2 small L h f c.underway c.timely c.live c.awaited b x.0 x.1))
        (cell_cases (with_frame L f b));
    confirmed = h.places.safe;
    honest = honest;
    agrees = agrees;
    window = (h.numbers.low, h.numbers.high);
    flags = λ R lo.
        let x = lowest_between d1 d2 small L h R lo in
        (x.0, x.1, λ n g. let k = h.numbers.early n g in let high = h.numbers.high in omega arith);
    near_frames = λ f u t.
        let w = h.underway.frames f u t in
        let few = h.numbers.few in
        (w.number, omega (arith, w.near));
    near_reports = λ r u t.
        let w = h.underway.reports r u t in
        let few = h.numbers.few in
        (⊎_elim (λ k. let z = h.numbers.early L.tx.used (w.told L.tx.used (or_left _ _ (lt-ltb _ _ k))) in absurd (omega arith)) (λ k. k) (cases_lt L.tx.used r.low), omega (arith, w.near));
  }

pub link_sound : LinkSound
link_sound d1 d2 small L r = sound d1 d2 small L (kept d1 d2 small r)
