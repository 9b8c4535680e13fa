-- The log of a run keeps the laws, for one direction and one log-on.
use Rattle.std.proofs.Common.{◌≡◌, ℕ, ◌+◌, ◌%◌, ◌≤◌, false, List, ◌∷◌, get_or, sym, refl, ap, ◌∙◌, subst, ⊎_elim, arith}
use Rattle.std.proofs.lemmas.List.{ext_get_or}
use Rattle.law.specs.Ledger.{Status, Report, Ledger}
use Rattle.law.specs.Steps.{after, Oldest, marked, Run}
use Rattle.law.specs.Steps as steps
use Rattle.law.specs.Sound.{Settled, Sound}
use Rattle.law.proofs.Base.{never, same_bool}
use Rattle.law.proofs.Runs.{kept}
use Rattle.law.proofs.Sound.{link_sound}
use Rattle.law.specs.Log.{End, other, LogOn, Frame, Answer, Entry, shown, Holds, Log}
use Rattle.law.specs.Laws.{Arrived, QuietSince, Agree, Right, Keeps}
use Rattle.law.specs.Noted.{q_of, rn_of, Noted}
use Rattle.law.specs.Logged.{Unrelated, ShowsSender, ShowsReceiver, Goes, Logged}
use Rattle.law.specs.Kept.{LogsKeepLaws}
use Rattle.law.proofs.Splits.{no_bring}
use Rattle.law.proofs.Rights.{right_none, right_packet, right_confirmed, right_refused}
use Rattle.law.proofs.Firsts.{pending_last}
use Rattle.law.proofs.Noting.{noted_fresh, pairs, arrives, noted_other, noted_send, noted_hand, noted_accept}
use Rattle.law.proofs.Numbers.{lowest_one}

module _ (d1 d2 : ℕ) (small : d1 + d2 ≤ 1) (e : End) (l : LogOn) where
  unrelated_right : (y : Entry) (log : Log) → Unrelated e l y → Right e l y log
  unrelated_right y log u = right_none e l y log u.hands_up u.hears u.confirms

  module _ (L : Ledger) (B : ℕ → List ℕ) (log : Log) (run : Run d1 d2 L) (noted : Noted e l L B log) where
    sound : Sound d1 d2 L
    sound = link_sound d1 d2 small L run

    -- two quiet slots: every use of a number is two slots old
    settled : (now : ℕ) → now ≡ L.clock → QuietSince e l log now → Settled L
    settled now c quiet n k = let x = noted.sends n k in let z = quiet x.0 x.1 x.2 in let w = x.3 in omega arith

    unrelated : (y : Entry) → Unrelated e l y → Noted e l L B (y ∷ log)
    unrelated y u = noted_other e l L B log noted y u.accepts u.hands_up

    -- law (c)
    agrees : (y : Entry) (r : Report) (A : ℕ) (st : ℕ → Status) (ps : List (ℕ × ℕ)) → steps.Hears d2 L r → Oldest L (after L r) A → y.slot ≡ L.clock
        → ShowsSender (marked (after L r) A st L) e y → ShowsReceiver (marked (after L r) A st L) (other e) y → QuietSince e l log y.slot → Agree e (Answer.Confirmed ps) y
    agrees y r A st ps hears o c s t quiet =
        let g = sound.agrees r hears.underway hears.timely (settled y.slot c quiet) in
        let low : A ≡ t.low = lowest_one L A t.low (g.oldest A o) t.lowest in
        record {
          taken = λ n z. never (cc);
          oldest = s.oldest ∙ ap (λ x. x % 256) low ∙ sym t.awaits;
          acknowledged =
              ext_get_or false (shown e y).acknowledged (shown (other e) y).flags (s.eight ∙ sym t.eight)
              (λ i k.
              let eight = s.eight in
              let flag : get_or (shown (other e) y).flags i false ≡ L.rx.got (A + 1 + i) = t.flags i (omega arith) ∙ ap (λ x. L.rx.got (x + 1 + i)) (sym low) in
              same_bool _ _
              (λ z. let w = s.only i (omega arith) z in flag ∙ (g.marks (A + 1 + i) w.0).0 w.1)
              (λ z.
              let got = sym flag ∙ z in
              let used = (kept d1 d2 small run).numbers.early (A + 1 + i) got in
              s.all i (omega arith) used ((g.marks (A + 1 + i) used).1 got)));
        }

    step : {L' : Ledger} {B' : ℕ → List ℕ} (y : Entry) → Goes d1 d2 e l L B y L' B' → y.slot ≡ L'.clock → (Holds e l y → ShowsSender L' e y) → (Holds (other e) l y → ShowsReceiver L' (other e) y)
        → Run d1 d2 L' × Noted e l L' B' (y ∷ log) × Right e l y log
    step y (Goes.apart u) c s t = (run, unrelated y u, unrelated_right y log u)
    step y (Goes.slot u n k st ages) c s t = (Run.slot run n k st ages, unrelated y u, unrelated_right y log u)
    step y (Goes.accept p octets a x) c s t = (
      Run.accept run p a,
      noted_accept e l L B log noted y p octets x,
      no_bring e l y log (λ e f a z. never (let w = x.0 in cc)),
    )
    step y (Goes.send n i b a x) c s t = (
      Run.send run n i b a,
      noted_send e l L B log noted y n i b (⊎_elim (λ z. omega arith) (λ z. let w = z.0 in omega arith) a.open?) x c,
      no_bring e l y log (λ e f a z. never (let w = x.0.1 in cc)),
    )
    step y (Goes.land u f k part o op) c s t = (Run.land run f k part o op, unrelated y u, unrelated_right y log u)
    step y (Goes.hand f k full x z holds) c s t =
        let taken = sound.taken f k.live k.underway k.timely k.awaited in (
          Run.hand run f k full,
          noted_hand e l L B log noted y f taken.last ((x, z), holds),
          right_packet e l y log x (q_of L f.packet) (rn_of L f.packet) (B f.packet) z (λ _. pairs e l L B log noted f.packet taken.last taken.once (B f.packet) refl),
        )
    step y (Goes.report u R lo) c s t = (Run.report run R lo, unrelated y u, unrelated_right y log u)
    step y (Goes.hear r k A o st cs ps z new) c s t =
        let run' = Run.hear run r k A o st cs in (
          run',
          noted_other e l L B log noted y (λ q rn xs a. never (let w = a.0 in cc)) (λ q rn xs a. never (let w = a.0.1 in cc)),
          right_confirmed e l y log (Frame.Report l) ps z
              (λ _ q rn i.
              let x = new q rn i in
              let up = (link_sound d1 d2 small (marked (after L r) A st L) run').confirmed x.0 x.1 x.3 in
              subst (λ v. Arrived e l v rn log) x.4 (subst (λ v. Arrived e l (q_of L x.0) v log) x.5 (arrives e l L B log noted x.0 (pending_last run x.0 x.1 x.2) up)))
              (λ f holds both quiet. agrees y r A st ps k o c (s holds) (t both) quiet),
        )
    step y (Goes.refuse r k late old n z) c s t = (
      run,
      noted_other e l L B log noted y (λ q rn xs a. never (let w = a.0 in cc)) (λ q rn xs a. never (let w = a.0.1 in cc)),
      right_refused e l y log (Frame.Report l) n z (λ f holds both quiet. let g = (sound.agrees r k late (settled y.slot c quiet)).current in omega arith),
    )
    step y (Goes.leave_sender u) c s t = (Run.leave_sender run, unrelated y u, unrelated_right y log u)
    step y (Goes.leave_receiver u) c s t = (Run.leave_receiver run, unrelated y u, unrelated_right y log u)

  pub keeps : {L : Ledger} {B : ℕ → List ℕ} {log : Log} → Logged d1 d2 e l L B log → Run d1 d2 L × Noted e l L B log × Keeps e l log
  keeps (Logged.start c B) = (Run.start c, noted_fresh e l c B, tt)
  keeps (Logged.lose {L} g fs rs u v) = let h = keeps g in (Run.lose h.0 fs rs u v, h.1, h.2)
  keeps (Logged.went {L} {L'} {B} {B'} {log} g y step' c s t) =
      let h = keeps g in
      let x = step L B log h.0 h.1 y step' c s t in
      (x.0, x.1, (x.2, h.2))

-- the two lanes of a direction are the two lanes of the link
pub lanes : (delay : End → ℕ) → delay End.Ground + delay End.Air ≤ 1 → (e : End) → delay e + delay (other e) ≤ 1
lanes delay small End.Ground = small
lanes delay small End.Air = omega arith

pub keep_laws : LogsKeepLaws
keep_laws delay small log sides e l = (keeps (delay e) (delay (other e)) (lanes delay small e) e l (sides e l).2).2
