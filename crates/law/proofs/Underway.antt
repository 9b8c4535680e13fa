-- Each step of the ledger keeps `Underway`.
use Rattle.std.proofs.Common.{◌≡◌, ℕ, ◌+◌, ◌*◌, ◌<◌, ◌≤◌, true, cond, ◌&&◌, ◌||◌, ltb, leb, sym, refl, ap, ◌∙◌, subst, ⊎_elim, arith}
use Rattle.std.proofs.lemmas.Bool.{cases_lt, cases_eq, both_ways, cond_both, ltb-true, lt-ltb, le-leb, and_parts, and_from, or_cases, or_left, or_right}
use Rattle.rules.specs.Members.{Among}
use Rattle.law.specs.Ledger.{Status, Mark, Use, Frame, Receiver, Ledger, put, tells}
use Rattle.law.specs.Steps.{fresh, ticked, Sends, sending, Lowest, reported}
use Rattle.law.proofs.Base.{put_elim, put_at, put_off}
use Rattle.law.proofs.Inv.{FrameOk, ReportOk, Underway, Inv}
use Rattle.law.proofs.Numbers.{claimed, lowest_between}

module _ (d1 d2 : ℕ) (small : d1 + d2 ≤ 1) where
  pub underway_fresh : (c : ℕ) → Underway d1 d2 (fresh c)
  underway_fresh c = record { frames = λ f u. absurd u; reports = λ r u. absurd u }

  module _ (L : Ledger) (h : Inv d1 d2 L) where
    -- what a tick does to the room left: a slot more pays for the eight frames of the slot before
    room : (c x y : ℕ) → L.clock ≤ c → L.tx.used + 8 * x ≤ y + 9 + 8 * L.clock + L.tx.count → L.tx.used + 8 * x ≤ y + 9 + 8 * c + cond (ltb L.clock c) 0 L.tx.count
    room c x y later w =
        let few = h.numbers.few in
        cond_both (ltb L.clock c) 0 L.tx.count (λ k. L.tx.used + 8 * x ≤ y + 9 + 8 * c + k) (λ e. let l = ltb-true _ _ e in omega arith) (λ e. omega arith)

    pub underway_tick : (c : ℕ) → L.clock ≤ c → (st : ℕ → Status) → Underway d1 d2 (ticked c st L)
    underway_tick c later st = record {
      frames = λ f u t.
          let w = h.underway.frames f u (omega arith) in
          record { number = w.number; packet = w.packet; part = w.part; slot = w.slot; near = room c f.slot f.number later w.near };
      reports = λ r u t.
          let w = h.underway.reports r u (omega arith) in
          record { past = omega (arith, w.past); told = w.told; all = w.all; gap = w.gap; near = room c r.slot r.low later w.near };
    }

    pub underway_send : (n i b : ℕ) → Sends L n i b → Underway d1 d2 (sending n i b L)
    underway_send n i b s =
        let new : Use = record { packet = i; part = b; slot = L.clock; mark = Mark.InFlight } in
        let top : n ≤ L.tx.used = omega arith in
        record {
          frames = λ f u.
              ⊎_elim
              (λ e.
              subst (λ g. L.clock ≤ g.slot + d1 → FrameOk (sending n i b L) g) (sym e)
              (λ t.
              let z = put_at L.tx.sent n new n refl in
              record { number = omega arith; packet = ap (λ v. v.packet) z; part = ap (λ v. v.part) z; slot = ap (λ v. v.slot) z; near = omega arith }))
              (λ old t.
              let w = h.underway.frames f old t in
              let other : f.number ≡ n → ⊥ = λ e.
              ⊎_elim (λ k. omega (arith, w.number)) (λ k. claimed d1 d2 small L h f old t (subst (λ x. (L.tx.sent x).mark ≡ Mark.Returned) (sym e) k.1)) s.open? in
              let z = put_off L.tx.sent n new f.number other in
              record { number = omega (arith, w.number); packet = ap (λ v. v.packet) z ∙ w.packet; part = ap (λ v. v.part) z ∙ w.part; slot = ap (λ v. v.slot) z ∙ w.slot; near = omega (arith, w.near) })
              u;
          reports = λ r u t.
              let w = h.underway.reports r u t in
              record {
                past = w.past;
                told = w.told;
                all = λ m k g. put_elim L.tx.sent n new m (λ v. v.slot + d1 < r.slot → tells r m ≡ true) (λ e x. absurd (omega (arith, w.past))) (λ o x. w.all m (omega arith) g x);
                gap = w.gap;
                near = omega (arith, w.near);
              };
        }

    pub underway_take : (f : Frame) → Among f L.frames → L.clock ≤ f.slot + d1 → (X : Receiver) → X.got ≡ put L.rx.got f.number true
        → Underway d1 d2 (record { clock = L.clock; tx = L.tx; rx = X; frames = L.frames; reports = L.reports })
    underway_take f u t X e =
        let w = h.underway.frames f u t in
        record {
          frames = h.underway.frames;
          reports = λ r v l.
              let y = h.underway.reports r v l in
              record {
                past = y.past;
                told = λ n x. rw e (put_elim L.rx.got f.number true n (λ g. g ≡ true) (λ _. refl) (λ _. y.told n x));
                all = λ n k.
                    rw e
                    (put_elim L.rx.got f.number true n (λ g. g ≡ true → (L.tx.sent n).slot + d1 < r.slot → tells r n ≡ true)
                    (λ same _ late. absurd (let z = ap (λ m. (L.tx.sent m).slot) same in omega (arith, w.slot, y.past)))
                    (λ _. y.all n k));
                gap = y.gap;
                near = y.near;
              };
        }

    pub underway_report : (R : ℕ) → Lowest L R → Underway d1 d2 (reported R L)
    underway_report R lo =
        let above = (lowest_between d1 d2 small L h R lo).0 in
        let told : (n : ℕ) → (ltb n R || (ltb R n && (leb n (R + 8) && L.rx.got n))) ≡ true → L.rx.got n ≡ true =
        λ n x. ⊎_elim (λ k. lo.0 n (ltb-true _ _ k)) (λ k. (and_parts (leb n (R + 8)) (L.rx.got n) (and_parts (ltb R n) _ k).1).1) (or_cases _ _ x) in
        record {
          frames = h.underway.frames;
          reports = λ r u.
              ⊎_elim
              (λ e.
              subst (λ g. L.clock ≤ g.slot + d2 → ReportOk d1 (reported R L) g) (sym e)
              (λ t. record {
                past = omega arith;
                told = told;
                all = λ n k g _.
                    ⊎_elim
                    (λ same. absurd (both_ways _ lo.1 (subst (λ x. L.rx.got x ≡ true) same g)))
                    (λ other. ⊎_elim (λ k2. or_left _ _ (lt-ltb _ _ k2))
                    (λ k2. or_right _ _ (and_from _ _ (lt-ltb R n (omega arith)) (and_from _ _ (le-leb n (R + 8) (let y = h.numbers.early n g in omega (arith, h.numbers.high))) g)))
                    (cases_lt n R))
                    (cases_eq n R);
                gap = λ x. both_ways _ lo.1 (told R x);
                near = omega (arith, h.numbers.high);
              }))
              (h.underway.reports r)
              u;
        }
