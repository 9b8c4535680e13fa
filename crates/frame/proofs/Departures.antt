-- A list departs from the lists of a wanted form at one place.
use Rattle.std.proofs.Common.{◌≡◌, ℕ, ◌+◌, ◌<◌, ◌≤◌, List, ◌++◌, length, take, drop, sym, ap, ◌∙◌, subst, ⊎_elim, append_assoc, arith}
use Rattle.std.proofs.lemmas.List.{take-take, take-append-drop}
use Rattle.std.proofs.lemmas.Bool.{cases_lt, cases_order}
use Rattle.frame.specs.Beginnings.{Begins, FirstWrong, OnePlace}

-- what begins so begins with less of it
begins_shorter : (Wanted : List ℕ → Type 0) (xs : List ℕ) (m n : ℕ) → m ≤ n → Begins Wanted (take n xs) → Begins Wanted (take m xs)
begins_shorter Wanted xs m n le b =
    let e : take m xs ++ (drop m (take n xs) ++ b.0) ≡ take n xs ++ b.0 =
    sym (append_assoc (take m xs) (drop m (take n xs)) b.0)
    ∙ ap (λ (t : List ℕ). t ++ b.0)
    (ap (λ (t : List ℕ). t ++ drop m (take n xs)) (sym (take-take m n xs le)) ∙ take-append-drop m (take n xs)) in
    (drop m (take n xs) ++ b.0, subst Wanted (sym e) b.1)

not_before : (Wanted : List ℕ → Type 0) (xs : List ℕ) (p q : ℕ) → p < q → FirstWrong Wanted xs p → FirstWrong Wanted xs q → ⊥
not_before Wanted xs p q lt a b =
    let w = b.within in a.here (omega arith) (begins_shorter Wanted xs (p + 1) q (omega arith) b.before)

right_nowhere : (Wanted : List ℕ → Type 0) (xs : List ℕ) (p : ℕ) → FirstWrong Wanted xs p → Wanted xs → ⊥
right_nowhere Wanted xs p a w =
    ⊎_elim
    (λ lt. a.here lt (drop (p + 1) xs, subst Wanted (sym (take-append-drop (p + 1) xs)) w))
    (λ ge. let e = a.within in a.missing (omega arith) w)
    (cases_lt p (length xs))

pub one_place : (Wanted : List ℕ → Type 0) (xs : List ℕ) → OnePlace Wanted xs
one_place Wanted xs = record {
  one = λ p q a b.
      ⊎_elim (λ e. e) (⊎_elim (λ lt. absurd (not_before Wanted xs p q lt a b)) (λ lt. absurd (not_before Wanted xs q p lt b a))) (cases_order p q);
  none = right_nowhere Wanted xs;
}
