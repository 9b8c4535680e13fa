-- All the calls of a sending half that is tied.
use Rattle.std.proofs.Common.{◌≡◌, ℕ, ◌+◌, ◌%◌, ◌≤◌, Bool, List, refl, ap, ◌∙◌, subst, arith}
use Rattle.rules.specs.Members.{Among}
use Rattle.law.specs.Ledger.{Sender, Report, Ledger}
use Rattle.law.specs.Steps.{Run, after, marked}
use Rattle.law.proofs.Runs.{kept}
use Rattle.law.proofs.Sound.{link_sound}
use Rattle.rules.specs.declared.window.Mark.{Mark}
use Rattle.rules.specs.Sending.{Sending, mark, heard}
use Rattle.law.specs.SendingTie.{Entry, Tied, Reads}
use Rattle.law.specs.SendingFollows.{Settles, Follows, SendingTied}
use Rattle.law.proofs.SendingNew.{new_tied}
use Rattle.law.proofs.SendingAccept.{none_free, taken}
use Rattle.law.proofs.SendingSend.{send_tied}
use Rattle.law.proofs.SendingReport.{refused_low, not_refused}
use Rattle.law.proofs.SendingHear.{report_taken}
use Rattle.law.proofs.SendingSlot.{slot_passed}
use Rattle.law.proofs.SendingMoves.{acked_entry}
use Rattle.law.proofs.Numbers.{lowest_one}

module _ (d1 d2 : ℕ) (small : d1 + d2 ≤ 1) (S : Sending) (L : Ledger) (bodies : ℕ → List ℕ) (run : Run d1 d2 L) (t : Tied S L bodies) where
  settles : (r : Report) (R : ℕ) (flag : ℕ → Bool) → Reads r R flag → Among r L.reports → L.clock ≤ r.slot + d2 → Settles S L R flag
  settles r R flag reads among timely quiet R0 low =
      let v = kept d1 d2 small run in
      let z = link_sound d1 d2 small L run in
      let a = z.agrees r among timely quiet in
      let h = report_taken d1 d2 small S L bodies t v z r R flag reads among timely a.current in
      let A : ℕ = h.oldest in
      let o = a.oldest A h.moves in
      let same : A ≡ R0 = lowest_one L A R0 o low in (
        h.tied.oldest ∙ ap (λ x. x % 256) same,
        λ i.
            let n : ℕ = R0 + 1 + i in
            let m : Mark = mark (heard R flag L.clock S) (1 + i) in
            let T : Sender = (marked (after L r) A h.status L).tx in
            let at : A + (1 + i) ≡ R0 + 1 + i = omega arith in
            let entry : Entry T n m = subst (λ x. Entry T x m) at (h.tied.entries (1 + i)) in
            ((λ e. let w = subst (Entry T n) e entry in (a.marks n w.0).0 w.1), (λ g. let l = v.numbers.early n g in acked_entry T n m entry l ((a.marks n l).1 g))),
      )

  pub rules : Follows d2 S L bodies
  rules =
      let v = kept d1 d2 small run in
      let z = link_sound d1 d2 small L run in
      record {
        refuses = none_free d1 d2 S L bodies t v;
        accepts = taken d1 d2 S L bodies t v;
        sends = λ count few. send_tied d1 d2 S L bodies t v L.clock count refl few;
        late = refused_low d1 d2 S L bodies t v z;
        current = λ r R flag reads among timely current. (not_refused d1 d2 S L bodies t v z r R flag reads among timely current, report_taken d1 d2 small S L bodies t v z r R flag reads among timely current);
        settles = settles;
        slot = slot_passed d1 d2 S L bodies t v;
        elsewhere = λ X fs rs. t;
      }

pub sending_tied : SendingTied
sending_tied = (new_tied, rules)
