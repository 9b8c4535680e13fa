-- Sets of packets as lists of places.
use Rattle.std.proofs.Common.{◌≡◌, ℕ, zero, suc, ◌+◌, ◌*◌, ◌/◌, ◌%◌, ◌<◌, Bool, true, false, cond, List, [], ◌∷◌, map, length, get_or, refl, ap, subst, inl, inr, ⊎_elim, arith}
use Rattle.std.proofs.lemmas.List.{get_or_past}
use Rattle.std.specs.List.{filter}
use Rattle.std.proofs.lemmas.Bool.{cases_lt}
use Rattle.sender.specs.Sets.{marked, Contains}
use Rattle.rules.specs.Ends.{named}
use Rattle.rules.specs.Members.{Among}
use Rattle.rules.specs.Sending.{Outgoing, places}
use Rattle.rules.proofs.Lists.{never}

-- what passes a test, by the place
pub marked_map : (test : Outgoing → Bool) (i : ℕ) (os : List Outgoing) → marked i (map test os) ≡ places test i os
marked_map test i [] = refl
marked_map test i (o ∷ os) = ap (λ r. cond (test o) (i ∷ r) r) (marked_map test (suc i) os)

-- the place is listed exactly if it is marked
listed : (i : ℕ) (bs : List Bool) (k : ℕ) → get_or bs k false ≡ true → Among (i + k) (marked i bs)
listed i [] k e = never (cc)
listed i (true ∷ bs) zero e = inl (omega arith)
listed i (false ∷ bs) zero e = never (cc)
listed i (true ∷ bs) (suc k) e = inr (subst (λ x. Among x (marked (suc i) bs)) (omega arith) (listed (suc i) bs k e))
listed i (false ∷ bs) (suc k) e = subst (λ x. Among x (marked (suc i) bs)) (omega arith) (listed (suc i) bs k e)

only : (i : ℕ) (bs : List Bool) (p : ℕ) → Among p (marked i bs) → (k : ℕ) × (p ≡ i + k) × (get_or bs k false ≡ true)
only i [] p a = absurd a
only i (true ∷ bs) p a = ⊎_elim (λ e. (0, (omega arith), refl)) (λ r. let x = only (suc i) bs p r in (suc x.0, (let y = x.1 in omega arith), x.2)) a
only i (false ∷ bs) p a = let x = only (suc i) bs p a in (suc x.0, (let y = x.1 in omega arith), x.2)

-- named by Q and RN
names : (ps : List ℕ) (p q rn : ℕ) → p / 4 ≡ q → p % 4 ≡ rn → Among p ps → Among (q, rn) (named ps)
names [] p q rn x y a = absurd a
names (r ∷ ps) p q rn x y a = ⊎_elim (λ e. inl (let z = ap (λ n. n / 4) e in let w = ap (λ n. n % 4) e in cc)) (λ b. inr (names ps p q rn x y b)) a

unnamed : (ps : List ℕ) (q rn : ℕ) → Among (q, rn) (named ps) → (p : ℕ) × Among p ps × (q ≡ p / 4) × (rn ≡ p % 4)
unnamed [] q rn a = absurd a
unnamed (r ∷ ps) q rn a =
    ⊎_elim (λ e. (r, inl refl, ap (λ x. x.0) e, ap (λ x. x.1) e)) (λ b. let x = unnamed ps q rn b in (x.0, inr x.1, x.2, x.3)) a

pub contains : (bs : List Bool) (q rn : ℕ) → rn < 4 → Contains (named (marked 0 bs)) (q, rn) (get_or bs (4 * q + rn) false)
contains bs q rn l = go (get_or bs (4 * q + rn) false) refl
  where
    go : (b : Bool) → get_or bs (4 * q + rn) false ≡ b → Contains (named (marked 0 bs)) (q, rn) b
    go true e = names (marked 0 bs) (4 * q + rn) q rn (omega arith) (omega arith) (subst (λ x. Among x (marked 0 bs)) (omega arith) (listed 0 bs (4 * q + rn) e))
    go false e = λ a.
        let x = unnamed (marked 0 bs) q rn a in
        let y = only 0 bs x.0 x.1 in
        let place : y.0 ≡ 4 * q + rn = let u = x.2 in let v = x.3 in let w = y.1 in omega arith in
        absurd (let z : ◌≡◌ {A = ℕ} 0 1 = (let t = y.2 in let s = ap (λ k. get_or bs k false) place in cc) in omega arith)

-- no reference number is above 3, and no priority where there are 16 marks
pub small : (bs : List Bool) (q rn : ℕ) → length bs ≡ 16 → Among (q, rn) (named (marked 0 bs)) → (q < 4) × (rn < 4)
small bs q rn n a =
    let x = unnamed (marked 0 bs) q rn a in
    let y = only 0 bs x.0 x.1 in
    let u = x.2 in
    let v = x.3 in
    let w = y.1 in
    let inside : y.0 < length bs =
    ⊎_elim (λ l. l) (λ g. never (let z = get_or_past bs y.0 false g in let t = y.2 in cc)) (cases_lt y.0 (length bs)) in
    (omega arith, omega arith)

-- ## how many

pub count_marked : (i : ℕ) (bs : List Bool) → length (filter (λ b. b) bs) ≡ length (marked i bs)
count_marked i [] = refl
count_marked i (true ∷ bs) = ap suc (count_marked (suc i) bs)
count_marked i (false ∷ bs) = count_marked (suc i) bs
