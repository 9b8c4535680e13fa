-- A function with one value put in, how a report changes a mark, and small lemmas that many proofs share.
use Rattle.std.proofs.Common.{◌≡◌, ℕ, zero, suc, ◌<◌, Bool, true, false, eqb, ◌⊎◌, sym, refl, ap, inl, inr, arith}
use Rattle.std.proofs.lemmas.Bool.{cond_both, cond-true, cond-false, eqb-true, eqb-false, eq-eqb, ne_eqb}
use Rattle.law.specs.Ledger.{Mark, put}
use Rattle.law.specs.Steps.{judged}

pub never : {A : Type 0} → ◌≡◌ {A = ℕ} 0 1 → A
never e = absurd (omega arith)

-- what holds of put f n v m, case by case
pub put_elim : {A : Type 0} (f : ℕ → A) (n : ℕ) (v : A) (m : ℕ) (P : A → Type 0) → (m ≡ n → P v) → ((m ≡ n → ⊥) → P (f m)) → P (put f n v m)
put_elim f n v m P same other = cond_both (eqb m n) v (f m) P (λ e. same (eqb-true m n e)) (λ e. other (eqb-false m n e))

pub put_at : {A : Type 0} (f : ℕ → A) (n : ℕ) (v : A) (m : ℕ) → m ≡ n → put f n v m ≡ v
put_at f n v m e = cond-true (eqb m n) v (f m) (eq-eqb m n e)

pub put_off : {A : Type 0} (f : ℕ → A) (n : ℕ) (v : A) (m : ℕ) → (m ≡ n → ⊥) → put f n v m ≡ f m
put_off f n v m e = cond-false (eqb m n) v (f m) (ne_eqb m n e)

-- what a report does to a mark
pub judged_cases : (m : Mark) (t o : Bool) → (judged m t o ≡ m) ⊎ ((m ≡ Mark.InFlight) × (((judged m t o ≡ Mark.Acked) × (t ≡ true)) ⊎ ((judged m t o ≡ Mark.Returned) × (t ≡ false) × (o ≡ true))))
judged_cases Mark.InFlight true o = inr (refl, inl (refl, refl))
judged_cases Mark.InFlight false true = inr (refl, inr (refl, refl, refl))
judged_cases Mark.InFlight false false = inl refl
judged_cases Mark.Acked t o = inl refl
judged_cases Mark.Returned t o = inl refl

-- told, and not returned: acknowledged
pub judged_told : (m : Mark) (t o : Bool) → (m ≡ Mark.Returned → ⊥) → t ≡ true → judged m t o ≡ Mark.Acked
judged_told Mark.InFlight t o h e = ap (λ x. judged Mark.InFlight x o) e
judged_told Mark.Acked t o h e = refl
judged_told Mark.Returned t o h e = absurd (h refl)

pub same_bool : (a b : Bool) → (a ≡ true → b ≡ true) → (b ≡ true → a ≡ true) → a ≡ b
same_bool true b f g = sym (f refl)
same_bool false true f g = g refl
same_bool false false f g = refl

pub below_one : (P : ℕ → Type 0) → P 0 → (n : ℕ) → n < 1 → P n
below_one P a zero h = a
below_one P a (suc n) h = absurd (omega arith)
