-- Digits that write no number.
use Rattle.std.proofs.Common.{◌≡◌, ℕ, ◌<◌, List, ◌++◌, length, get_or, take, drop, Err, ap, sym, ◌∙◌, subst, add-zero, arith}
use Rattle.std.proofs.lemmas.List.{get_or-take, get_or-drop, get_or_append_left, length-take, length-drop, length-append}
use Rattle.forms.specs.Forms.{IsDigit}
use Rattle.forms.specs.Cursors.{Digits, Value, NoNumber}

-- the first of them that passes the largest number
pub no_number : (digits left : List ℕ) (place : ℕ) → Digits digits → Value digits (Err place) → NoNumber (take place digits) (drop place digits ++ left)
no_number digits left place all found =
    let inside : place < length digits = found.0 in
    let long : 0 < length (drop place digits) = simp length-drop (omega arith) in
    let first : get_or (drop place digits ++ left) 0 0 ≡ get_or digits place 0
    = get_or_append_left (drop place digits) left 0 0 long ∙ get_or-drop place digits 0 0 ∙ ap (λ (m : ℕ). get_or digits m 0) (add-zero place) in
    record {
      all = λ k h.
          let before : k < place = omega (arith, simp length-take at h) in
          subst IsDigit (sym (get_or-take place digits k 0 before)) (all k (omega arith));
      most = found.1;
      here = λ _ _. rw first found.2;
      none = λ stop. absurd (stop (simp length-append (omega arith)) (subst IsDigit (sym first) (all place inside)));
    }
