-- The limit of a line: what is known of its first 2,048 characters is known of the line.
use Rattle.std.proofs.Common.{◌≡◌, ℕ, ◌+◌, ◌<◌, ◌≤◌, min, List, [], length, take, sym, subst, arith}
use Rattle.std.proofs.lemmas.List.{length-take, take-take, take_all, append-nil}
use Rattle.frame.specs.Beginnings.{Begins, FirstWrong}
use Rattle.forms.specs.declared.form.Form.{Form}
use Rattle.forms.specs.Forms.{IsForm, Spells, Misfit}

-- the place at which the front is wrong
pub misfit : (line : List ℕ) (p : ℕ) → FirstWrong IsForm (take 2048 line) p → Misfit line p
misfit line p w =
    let l : length (take 2048 line) ≡ min 2048 (length line) = length-take 2048 line in
    let wi : p ≤ length (take 2048 line) = w.within in
    record {
      within = omega arith;
      limit = omega arith;
      before = subst (Begins IsForm) (take-take p 2048 line (omega arith)) w.before;
      here = λ h k b. w.here (omega arith) (subst (Begins IsForm) (sym (take-take (p + 1) 2048 line (omega arith))) b);
      missing = λ e f. w.missing (omega arith) (subst IsForm (sym (take_all 2048 line (omega arith))) f);
    }

-- a form that goes on behind the limit
pub too_long : (line : List ℕ) (form : Form) (place : ℕ) → place ≡ 2048 → 2048 < length line → Spells (take 2048 line) form → Misfit line place
too_long line form place e long spells =
    let front : Begins IsForm (take 2048 line) = ([], subst IsForm (sym (append-nil (take 2048 line))) (form, spells)) in
    record {
      within = omega arith;
      limit = omega arith;
      before = subst (λ (n : ℕ). Begins IsForm (take n line)) (sym e) front;
      here = λ h k b. omega arith;
      missing = λ h f. omega arith;
    }

-- a form that ends within the limit
pub whole : (line : List ℕ) (form : Form) → length line ≤ 2048 → Spells (take 2048 line) form → Spells line form
whole line form short spells = subst (λ (text : List ℕ). Spells text form) (take_all 2048 line short) spells
