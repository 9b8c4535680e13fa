-- A pending packet is the last with its Q and RN.
use Rattle.std.proofs.Common.{◌≡◌, ℕ, ◌<◌, sym, ap, ◌∙◌, ⊎_elim, arith}
use Rattle.std.proofs.lemmas.Bool.{cases_eq, cases_lt}
use Rattle.law.specs.Ledger.{Status, Ledger}
use Rattle.law.specs.Steps.{Run}
use Rattle.law.specs.Sound.{Last}
use Rattle.law.proofs.Base.{never, put_at, put_off}

abbrev pub Firsts : Ledger → Type 0
Firsts L = (i j : ℕ) → i < j → j < L.tx.total → (L.tx.packet i).key ≡ (L.tx.packet j).key → L.tx.status i ≡ Status.Pending → ⊥

pub firsts : {d1 d2 : ℕ} {L : Ledger} → Run d1 d2 L → Firsts L
firsts (Run.start c) i j l k e p = omega arith
firsts (Run.slot {L} r c t st ages) i j l k e p = ⊎_elim (λ z. firsts r i j l k e (sym z ∙ p)) (λ z. never (let w = z.1 in cc)) (ages i (omega arith)).0
firsts (Run.accept {L} r p a) i j l k e s =
    let N : ℕ = L.tx.total in
    let ki = put_off L.tx.packet N p i (λ z. omega arith) in
    let si = sym (put_off L.tx.status N Status.Pending i (λ z. omega arith)) ∙ s in
    ⊎_elim
    (λ z.
    let kj = put_at L.tx.packet N p j z in
    ⊎_elim (λ w. never (cc)) (λ w. never (let v = w.0 in cc)) (a.free i (omega arith) (sym (ap (λ x. x.key) ki) ∙ e ∙ ap (λ x. x.key) kj)))
    (λ z.
    let kj = put_off L.tx.packet N p j z in
    firsts r i j l (omega arith) (sym (ap (λ x. x.key) ki) ∙ e ∙ ap (λ x. x.key) kj) si)
    (cases_eq j N)
firsts (Run.send r n m b a) i j l k e s = firsts r i j l k e s
firsts (Run.land r f c part o op) i j l k e s = firsts r i j l k e s
firsts (Run.hand r f c full) i j l k e s = firsts r i j l k e s
firsts (Run.report r R lo) i j l k e s = firsts r i j l k e s
firsts (Run.hear {L} r p c A o st cs) i j l k e s = ⊎_elim (λ z. firsts r i j l k e (sym z ∙ s)) (λ z. never (let w = z.1 in cc)) (cs i (omega arith))
firsts (Run.lose r fs rs u v) i j l k e s = firsts r i j l k e s
firsts (Run.leave_sender r) i j l k e s = firsts r i j l k e s
firsts (Run.leave_receiver r) i j l k e s = firsts r i j l k e s

pub pending_last : {d1 d2 : ℕ} {L : Ledger} → Run d1 d2 L → (i : ℕ) → i < L.tx.total → L.tx.status i ≡ Status.Pending → Last L i
pending_last r i k p = (k, λ j m e. ⊎_elim (λ l. absurd (firsts r i j l m (sym e) p)) (λ l. l) (cases_lt i j))
