-- Digits in front of something that does not begin with one.
use Rattle.std.proofs.Common.{◌≡◌, ℕ, zero, suc, List, [], ◌∷◌, ◌++◌, sym, refl, subst, arith}
use Rattle.forms.specs.Forms.{IsDigit}
use Rattle.forms.specs.Cursors.{Digits, Stops}

pub digits_tail : (c : ℕ) (cs : List ℕ) → Digits (c ∷ cs) → Digits cs
digits_tail c cs all k h = all (suc k) (omega arith)

-- a text that begins with a digit does not stop there
pub goes_on : (c : ℕ) (cs text : List ℕ) → text ≡ c ∷ cs → IsDigit c → Stops text → ⊥
goes_on c cs text e d stop = let s : Stops (c ∷ cs) = subst Stops e stop in s (omega arith) d

-- two ways to cut a text behind its leading digits are one
pub same_left : (ds es xs ys : List ℕ) → Digits ds → Digits es → Stops xs → Stops ys → ds ++ xs ≡ es ++ ys → xs ≡ ys
same_left [] [] xs ys dd de sx sy e = e
same_left [] (c ∷ es) xs ys dd de sx sy e = absurd (goes_on c (es ++ ys) xs e (de 0 (omega arith)) sx)
same_left (c ∷ ds) [] xs ys dd de sx sy e = absurd (goes_on c (ds ++ xs) ys (sym e) (dd 0 (omega arith)) sy)
same_left (c ∷ ds) (d ∷ es) xs ys dd de sx sy e =
    let t : ds ++ xs ≡ es ++ ys = cc in same_left ds es xs ys (digits_tail c ds dd) (digits_tail d es de) sx sy t

-- digits at a text's front are among its leading digits
pub all_leading : (ds more es ys : List ℕ) → Digits ds → Stops ys → ds ++ more ≡ es ++ ys → (rest : List ℕ) × (es ≡ ds ++ rest)
all_leading [] more es ys dd sy e = (es, refl)
all_leading (c ∷ ds) more [] ys dd sy e = absurd (goes_on c (ds ++ more) ys (sym e) (dd 0 (omega arith)) sy)
all_leading (c ∷ ds) more (d ∷ es) ys dd sy e =
    let t : ds ++ more ≡ es ++ ys = cc in
    let h : c ≡ d = cc in
    let r = all_leading ds more es ys (digits_tail c ds dd) sy t in
    let f : es ≡ ds ++ r.0 = r.1 in
    (r.0, cc)

-- one digit more
pub digits_push : (ds : List ℕ) (c : ℕ) → Digits ds → IsDigit c → Digits (ds ++ c ∷ [])
digits_push [] c dd d zero h = d
digits_push [] c dd d (suc k) h = absurd (omega arith)
digits_push (x ∷ ds) c dd d zero h = dd 0 (omega arith)
digits_push (x ∷ ds) c dd d (suc k) h = digits_push ds c (digits_tail x ds dd) d k (omega arith)
