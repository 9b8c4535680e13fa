-- The pieces of a packet, held and gathered.
use Rattle.std.proofs.Common.{◌≡◌, ℕ, zero, suc, ◌*◌, ◌<◌, true, false, ◌⊎◌, List, [], ◌∷◌, ◌++◌, length, get_or, take, drop, Some, None, Option, sym, refl, ap, ◌∙◌, inl, inr, ⊎_elim, arith, drop-drop, take-add}
use Rattle.law.specs.Ledger.{Cell}
use Rattle.law.proofs.Base.{never}
use Rattle.rules.specs.Receiving.{any, before, gathered}
use Rattle.rules.specs.Sending.{piece}
use Rattle.law.specs.ReceivingTie.{shown}

pub option_cases : {A : Type 0} (o : Option A) → (o ≡ None) ⊎ ((x : A) × (o ≡ Some x))
option_cases None = inl refl
option_cases (Some x) = inr (x, refl)

-- some piece is held, or none
pub any_one : (ps : List (Option (List ℕ))) → any ps ≡ true → (d : ℕ) × (d < length ps) × (get_or ps d None ≡ None → ⊥)
any_one [] e = never (cc)
any_one (Some x ∷ ps) e = (0, omega arith, λ z. never (cc))
any_one (None ∷ ps) e = let r = any_one ps e in (suc r.0, (let l = r.1 in omega arith), r.2)

pub any_none : (ps : List (Option (List ℕ))) → ((d : ℕ) → d < length ps → get_or ps d None ≡ None) → any ps ≡ false
any_none [] h = refl
any_none (Some x ∷ ps) h = never (let z = h 0 (omega arith) in cc)
any_none (None ∷ ps) h = any_none ps (λ d l. h (suc d) (omega arith))

pub not_any : (ps : List (Option (List ℕ))) → any ps ≡ false → (d : ℕ) → get_or ps d None ≡ None
not_any [] e d = refl
not_any (Some x ∷ ps) e d = never (cc)
not_any (None ∷ ps) e zero = refl
not_any (None ∷ ps) e (suc d) = not_any ps e d

piece_next : (body : List ℕ) (d : ℕ) → piece body (suc d) ≡ piece (drop 53 body) d
piece_next body d = ap (take 53) (ap (λ k. drop k body) (omega arith) ∙ sym (drop-drop (53 * d) 53 body))

-- pieces of a body, one after the other, are its front
pub gathered_all : (ps : List (Option (List ℕ))) (body : List ℕ) → ((d : ℕ) → d < length ps → get_or ps d None ≡ Some (piece body d)) → gathered ps ≡ Some (take (53 * length ps) body)
gathered_all [] body h = refl
gathered_all (None ∷ ps) body h = never (let z = h 0 (omega arith) in cc)
gathered_all (Some xs ∷ ps) body h =
    let x : xs ≡ take 53 body = let z = h 0 (omega arith) in cc in
    ap (before xs) (gathered_all ps (drop 53 body) (λ d l. h (suc d) (omega arith) ∙ ap Some (piece_next body d)))
    ∙ ap (λ y. Some (y ++ take (53 * length ps) (drop 53 body))) x
    ∙ ap Some (sym (take-add 53 (53 * length ps) body) ∙ ap (λ k. take k body) (omega arith))

-- where they could be gathered, all are held
pub gathered_held : (ps : List (Option (List ℕ))) (xs : List ℕ) → gathered ps ≡ Some xs → (d : ℕ) → d < length ps → get_or ps d None ≡ None → ⊥
gathered_held [] xs e d l n = omega arith
gathered_held (None ∷ ps) xs e d l n = never (cc)
gathered_held (Some x ∷ ps) xs e zero l n = never (cc)
gathered_held (Some x ∷ ps) xs e (suc d) l n =
    ⊎_elim (λ z. never (let y = ap (before x) z in cc)) (λ z. gathered_held ps z.0 z.1 d (omega arith) n) (option_cases (gathered ps))

-- what is shown of a cell
pub shown_none : (bodies : ℕ → List ℕ) (b : ℕ) (c : Cell) → shown bodies b c ≡ None → c ≡ Cell.Empty
shown_none bodies b Cell.Empty e = refl
shown_none bodies b (Cell.From i) e = never (cc)
