-- The order in which BDUs are sent: of any two one goes before the other, it is transitive, and two that each go before the other are one.
use Rattle.std.proofs.Common.{◌≡◌, ℕ, ◌≤◌, true, false, eqb, ltb, ◌⊎◌, sym, refl, ap, ◌∙◌, inl, inr, ⊎_elim, arith}
use Rattle.std.proofs.lemmas.Bool.{cases_order, cases_lt, both_ways, and_parts, and_from, or_cases, or_left, or_right, ltb-true, lt-ltb, leb-true, le-leb, eqb-true, eq-eqb}
use Rattle.rules.specs.Sending.{BduKey, Sending, Before, Next}
use Rattle.rules.specs.Choice.{goes}

-- a BDU is known by its q, rn and bsn
pub same_key : (b c : BduKey) → b.q ≡ c.q → b.rn ≡ c.rn → b.bsn ≡ c.bsn → b ≡ c
same_key b c p q r =
    let one : b ≡ record { q = b.q; rn = b.rn; bsn = b.bsn } = refl in
    one ∙ ap (λ z. record { q = z; rn = b.rn; bsn = b.bsn }) p ∙ ap (λ z. record { q = c.q; rn = z; bsn = b.bsn }) q ∙ ap (λ z. record { q = c.q; rn = c.rn; bsn = z }) r

-- each before the other: the same place in the order
before_both : (b c : BduKey) (s t : ℕ) → Before b s c t → Before c t b s → (b.q ≡ c.q) × (b.rn ≡ c.rn) × (b.bsn ≡ c.bsn)
before_both b c s t =
    ⊎_elim
    (λ x. ⊎_elim (λ y. absurd (omega arith)) (λ y. absurd (let e = y.0 in omega arith)))
    (λ x. let e = x.0 in ⊎_elim (λ y. absurd (omega arith)) (λ y.
    ⊎_elim
    (λ u. ⊎_elim (λ w. absurd (omega arith)) (λ w. absurd (let f = w.0 in omega arith)) y.1)
    (λ u. let f = u.0 in ⊎_elim (λ w. absurd (omega arith)) (λ w.
    ⊎_elim
    (λ m. ⊎_elim (λ n. absurd (omega arith)) (λ n. absurd (let g = n.0 in omega arith)) w.1)
    (λ m. ⊎_elim (λ n. absurd (let g = m.0 in omega arith)) (λ n. (sym e, m.0, (let g = m.1 in let i = n.1 in omega arith))) w.1)
    u.1) y.1)
    x.1))

-- so there is at most one BDU to send
pub next_one : (S : Sending) (b c : BduKey) (s t : ℕ) → Next S b s → Next S c t → b ≡ c
next_one S b c s t x y =
    let e = before_both b c s t (x.best c t y.here) (y.best b s x.here) in
    same_key b c e.0 e.1 e.2

-- each BDU goes before itself
pub before_self : (b : BduKey) (s : ℕ) → Before b s b s
before_self b s = inr (refl, inr (refl, inr (refl, omega arith)))

cases_le : (a b : ℕ) → (a ≤ b) ⊎ (b ≤ a)
cases_le a b = ⊎_elim (λ l. inl (omega arith)) inr (cases_lt a b)

-- of any two one goes before the other
before_total : (b c : BduKey) (s t : ℕ) → Before b s c t ⊎ Before c t b s
before_total b c s t =
    ⊎_elim
    (λ q. ⊎_elim
    (λ e. ⊎_elim
    (λ r. ⊎_elim (λ l. inl (inr (sym q, inr (e, inr (r, l))))) (λ l. inr (inr (q, inr (sym e, inr (sym r, l))))) (cases_le b.bsn c.bsn))
    (⊎_elim (λ l. inl (inr (sym q, inr (e, inl l)))) (λ l. inr (inr (q, inr (sym e, inl l)))))
    (cases_order b.rn c.rn))
    (⊎_elim (λ l. inl (inr (sym q, inl l))) (λ l. inr (inr (q, inl l))))
    (cases_order s t))
    (⊎_elim (λ l. inr (inl l)) (λ l. inl (inl l)))
    (cases_order b.q c.q)

pub before_trans : (a b c : BduKey) (s t u : ℕ) → Before a s b t → Before b t c u → Before a s c u
before_trans a b c s t u =
    ⊎_elim
    (λ x. ⊎_elim (λ y. inl (omega arith)) (λ y. inl (let e = y.0 in omega arith)))
    (λ x. let e = x.0 in ⊎_elim (λ y. inl (omega arith)) (λ y. let f = y.0 in inr (
      (omega arith),
      ⊎_elim
          (λ l. ⊎_elim (λ m. inl (omega arith)) (λ m. inl (let g = m.0 in omega arith)) y.1)
          (λ l. let g = l.0 in ⊎_elim (λ m. inl (omega arith)) (λ m. let h = m.0 in inr (
            (omega arith),
            ⊎_elim
                (λ i. ⊎_elim (λ j. inl (omega arith)) (λ j. inl (let k = j.0 in omega arith)) m.1)
                (λ i. let k = i.0 in ⊎_elim (λ j. inl (omega arith)) (λ j. inr ((let w = j.0 in omega arith), (let v = i.1 in let w = j.1 in omega arith))) m.1)
                l.1,
          )) y.1)
          x.1,
    )))

-- the test says the order
pub goes_true : (b c : BduKey) (s t : ℕ) → goes b s c t ≡ true → Before b s c t
goes_true b c s t e =
    ⊎_elim (λ x. inl (ltb-true _ _ x))
    (λ x. let p = and_parts (eqb c.q b.q) _ x in inr (
      eqb-true _ _ p.0,
      ⊎_elim (λ y. inl (ltb-true _ _ y))
          (λ y. let q = and_parts (eqb s t) _ y in inr (
            eqb-true _ _ q.0,
            ⊎_elim (λ z. inl (ltb-true _ _ z)) (λ z. let r = and_parts (eqb b.rn c.rn) _ z in inr (eqb-true _ _ r.0, leb-true _ _ r.1))
                (or_cases (ltb b.rn c.rn) _ q.1),
          ))
          (or_cases (ltb s t) _ p.1),
    ))
    (or_cases (ltb c.q b.q) _ e)

goes_from : (b c : BduKey) (s t : ℕ) → Before b s c t → goes b s c t ≡ true
goes_from b c s t =
    ⊎_elim (λ x. or_left (ltb c.q b.q) _ (lt-ltb _ _ x))
    (λ x. or_right (ltb c.q b.q) _ (and_from (eqb c.q b.q) _ (eq-eqb _ _ x.0)
    (⊎_elim (λ y. or_left (ltb s t) _ (lt-ltb _ _ y))
    (λ y. or_right (ltb s t) _ (and_from (eqb s t) _ (eq-eqb _ _ y.0)
    (⊎_elim (λ z. or_left (ltb b.rn c.rn) _ (lt-ltb _ _ z))
    (λ z. or_right (ltb b.rn c.rn) _ (and_from (eqb b.rn c.rn) _ (eq-eqb _ _ z.0) (le-leb _ _ z.1)))
    y.1))) x.1)))

pub goes_false : (b c : BduKey) (s t : ℕ) → goes b s c t ≡ false → Before c t b s
goes_false b c s t e = ⊎_elim (λ x. absurd (both_ways _ e (goes_from b c s t x))) (λ x. x) (before_total b c s t)
