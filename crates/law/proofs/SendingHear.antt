-- A report in time that is not refused is the ledger's hear.
use Rattle.std.proofs.Common.{ℕ, ◌+◌, ◌≤◌, Bool, List, refl, inl, inr, ⊎_elim}
use Rattle.rules.specs.Members.{Among}
use Rattle.law.specs.Ledger.{Report, Ledger}
use Rattle.law.specs.Steps.{Oldest, after, marked}
use Rattle.law.specs.Sound.{Sound}
use Rattle.law.proofs.Inv.{Inv, Numbers}
use Rattle.law.proofs.Numbers.{fair_report, numbers_mark}
use Rattle.rules.specs.Sending.{Sending, lead}
use Rattle.law.specs.SendingTie.{Tied, Reads}
use Rattle.law.specs.SendingFollows.{ReportTaken}
use Rattle.law.proofs.SendingReport.{S1, judged_tied}
use Rattle.law.proofs.SendingConfirm.{oldest_moved, shifted, shifted_tied, restate_cases, verdict, whole_acked, settled_tied, listed, all_listed}

module _ (d1 d2 : ℕ) (small : d1 + d2 ≤ 1) (S : Sending) (L : Ledger) (bodies : ℕ → List ℕ) (t : Tied S L bodies) (v : Inv d1 d2 L) (z : Sound d1 d2 L)
    (r : Report) (R : ℕ) (flag : ℕ → Bool) (reads : Reads r R flag) (among : Among r L.reports) (timely : L.clock ≤ r.slot + d2) (current : L.tx.oldest ≤ r.low) where
  pub report_taken : ReportTaken S L bodies r R flag
  report_taken =
      let J : Sending = S1 d1 d2 S L bodies t v z r R flag reads among timely current L.clock refl in
      let judged = judged_tied d1 d2 S L bodies t v z r R flag reads among timely current L.clock refl in
      let A : ℕ = L.tx.oldest + lead J.window in
      let moves : Oldest L (after L r) A = oldest_moved d1 J L bodies v.numbers (after L r) judged in
      let L2 : Ledger = marked (after L r) A L.tx.status L in
      let K : Sending = shifted d1 J L bodies v.numbers (after L r) judged in
      let tied2 : Tied K L2 bodies = shifted_tied d1 J L bodies v.numbers (after L r) judged in
      let numbers2 : Numbers d1 L2 = numbers_mark d1 d2 small L v (after L r) (fair_report d1 d2 small L v r among timely) A moves L.tx.status (λ i l. inl refl) in
      record {
        oldest = A;
        status = verdict d1 K L2 bodies tied2 numbers2;
        moves = moves;
        confirms = λ i l.
            ⊎_elim inl
            (λ x. inr (x.0, x.1, λ b m. let y = whole_acked d1 K L2 bodies tied2 numbers2 i l x.0 x.2 b m in (y.0, y.1, y.4, y.2, y.3)))
            (restate_cases (L.tx.status i) _);
        tied = settled_tied d1 K L2 bodies tied2 numbers2;
        lists = record { only = listed d1 K L2 bodies tied2 numbers2; all = λ i _. all_listed d1 K L2 bodies tied2 numbers2 i };
      }
