-- A cursor's refusal, carried back over what it had passed before.
use Rattle.std.proofs.Common.{◌≡◌, ℕ, ◌+◌, List, length, Ok, Err, sym, subst, arith}
use Rattle.frame.specs.Beginnings.{FirstWrong}
use Rattle.forms.specs.declared.fault.FormFault.{FormFault}
use Rattle.forms.specs.Cursors.{Standing, PassesWord, PassesNumber, FindsEnd}
use Rattle.forms.proofs.Sequences.{After, Numbered, Ended, NoDigit, word_passed, word_departs, number_passed, number_departs, end_departs}

-- what is left of a line is refused, with the column of the first character that does not fit
abbrev pub Refuses : (List ℕ → Type 0) → Standing → FormFault → Type 0
Refuses Wanted at fault = (place : ℕ) × (fault.column ≡ at.passed + place + 1) × FirstWrong Wanted at.left place

pub end_refused : (at : Standing) (fault : FormFault) → FindsEnd at (Err fault) → Refuses Ended at fault
end_refused at fault found = (0, omega (arith, found.1), end_departs at.left found.0)

pub word_refused : (Wanted : List ℕ → Type 0) (word some : List ℕ) (before behind : Standing) (fault : FormFault) → Wanted some
    → PassesWord word before behind (Err fault) → Refuses (After word Wanted) before fault
word_refused Wanted word some before behind fault w found =
    (found.0, found.1, word_departs Wanted word before.left some found.0 found.2 w)

pub word_then : (Wanted : List ℕ → Type 0) (word : List ℕ) (before behind : Standing) (fault : FormFault)
    → PassesWord word before behind (Ok tt) → Refuses Wanted behind fault → Refuses (After word Wanted) before fault
word_then Wanted word before behind fault found r = (
  length word + r.0,
  omega (arith, found.0, r.1),
  subst (λ (text : List ℕ). FirstWrong (After word Wanted) text (length word + r.0)) (sym found.1)
      (word_passed Wanted word behind.left r.0 r.2),
)

pub number_refused : (Wanted : List ℕ → Type 0) (some : List ℕ) (before behind : Standing) (fault : FormFault) → NoDigit Wanted → Wanted some
    → PassesNumber before behind (Err fault) → Refuses (Numbered Wanted) before fault
number_refused Wanted some before behind fault none w found = (
  length found.0,
  found.3,
  subst (λ (text : List ℕ). FirstWrong (Numbered Wanted) text (length found.0)) (sym found.4)
      (number_departs Wanted found.0 found.1 some none found.2 w),
)

pub number_then : (Wanted : List ℕ → Type 0) {n : ℕ} (before behind : Standing) (fault : FormFault) → NoDigit Wanted
    → PassesNumber before behind (Ok n) → Refuses Wanted behind fault → Refuses (Numbered Wanted) before fault
number_then Wanted {n} before behind fault none found r = (
  length found.0 + r.0,
  omega (arith, found.3, r.1),
  subst (λ (text : List ℕ). FirstWrong (Numbered Wanted) text (length found.0 + r.0)) (sym found.4)
      (number_passed Wanted found.0 behind.left n r.0 none found.1 found.2 r.2),
)
