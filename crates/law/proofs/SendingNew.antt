-- A new sending half is tied to a ledger where nothing was done.
use Rattle.std.proofs.Common.{ℕ, zero, suc, ◌+◌, List, get_or, replicate, sym, refl, subst, arith}
use Rattle.law.specs.Steps.{fresh}
use Rattle.rules.specs.declared.window.Mark.{Mark}
use Rattle.rules.specs.Sending.{new, empty, blank}
use Rattle.law.specs.SendingTie.{Entry, Under, Tied}
use Rattle.rules.proofs.Lists.{get_or_same}

pub get_or_either : {A : Type 0} (n : ℕ) (a d : A) (k : ℕ) (P : A → Type 0) → P a → P d → P (get_or (replicate n a) k d)
get_or_either zero a d k P x y = y
get_or_either (suc n) a d zero P x y = x
get_or_either (suc n) a d (suc k) P x y = get_or_either n a d k P x y

pub new_tied : (c : ℕ) (bodies : ℕ → List ℕ) → Tied new (fresh c) bodies
new_tied c bodies = record {
  live = refl;
  oldest = refl;
  nine = refl;
  sixteen = refl;
  entries = λ k. subst (Entry (fresh c).tx (0 + k)) (sym (get_or_same 9 Mark.Unused k)) (omega arith);
  under = λ p.
      get_or_either 16 empty blank p (λ o. Under (fresh c).tx c bodies p o.octets o.bdus o.standing) (λ j l. absurd (omega arith)) (λ j l. absurd (omega arith));
}
