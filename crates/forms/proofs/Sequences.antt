-- Where a text first departs from a sequence of words and numbers.
use Rattle.std.proofs.Common.{◌≡◌, ℕ, ◌+◌, ◌-◌, ◌*◌, ◌<◌, ◌≤◌, ◌⊎◌, List, [], ◌∷◌, ◌++◌, length, get_or, take, drop, sym, refl, ap, ◌∙◌, subst, inl, inr, arith}
use Rattle.std.proofs.lemmas.List.{append_assoc, append_cancel_left, length-append, length-take, get_or_append_left, get_or-take, take-append-drop, take_at}
use Rattle.std.proofs.lemmas.Bool.{cases_lt}
use Rattle.std.proofs.lemmas.List.Sums.{fold-append}
use Rattle.std.proofs.Math.Seq.{take-append-add}
use Rattle.forms.proofs.Digits.{same_left, all_leading, digits_push}
use Rattle.forms.proofs.Values.{value_grows}
use Rattle.frame.specs.Beginnings.{Begins, FirstWrong}
use Rattle.forms.specs.Forms.{IsDigit, value_from, Writes}
use Rattle.forms.specs.Cursors.{Departs, Stops, NoNumber}

-- a word, and then what is wanted
abbrev pub After : List ℕ → (List ℕ → Type 0) → List ℕ → Type 0
After word Wanted text = (rest : List ℕ) × (text ≡ word ++ rest) × Wanted rest

-- a number, and then what is wanted
abbrev pub Numbered : (List ℕ → Type 0) → List ℕ → Type 0
Numbered Wanted text = (digits : List ℕ) × (n : ℕ) × (rest : List ℕ) × Writes digits n × (text ≡ digits ++ rest) × Wanted rest

-- nothing more
abbrev pub Ended : List ℕ → Type 0
Ended text = text ≡ []

-- what is wanted never begins with a digit
abbrev pub NoDigit : (List ℕ → Type 0) → Type 0
NoDigit Wanted = (text : List ℕ) → Wanted text → Stops text

-- a text that begins as another does, or is empty
abbrev Alike : List ℕ → List ℕ → Type 0
Alike rest text = 0 < length text → (0 < length rest) × (get_or text 0 0 ≡ get_or rest 0 0)

-- the same forms, the same place
pub same_wrong : (Wanted Meant : List ℕ → Type 0) (text : List ℕ) (p : ℕ) → ((t : List ℕ) → Wanted t → Meant t) → ((t : List ℕ) → Meant t → Wanted t)
    → FirstWrong Wanted text p → FirstWrong Meant text p
same_wrong Wanted Meant text p to from w = record {
  within = w.within;
  before = (w.before.0, to _ w.before.1);
  here = λ h b. w.here h (b.0, from _ b.1);
  missing = λ h m. w.missing h (from text m);
}

-- a front that was passed: the place is wrong in what follows
passed : (Whole Wanted : List ℕ → Type 0) (front rest : List ℕ) (p : ℕ) → ((t : List ℕ) → Wanted t → Whole (front ++ t))
    → ((t : List ℕ) → Alike rest t → Whole (front ++ t) → Wanted t) → FirstWrong Wanted rest p → FirstWrong Whole (front ++ rest) (length front + p)
passed Whole Wanted front rest p join split w =
    let l : length (front ++ rest) ≡ length front + length rest = length-append front rest in
    let wi : p ≤ length rest = w.within in
    let again : (q : ℕ) (m : List ℕ) → take (length front + q) (front ++ rest) ++ m ≡ front ++ (take q rest ++ m)
    = λ q m. ap (λ (t : List ℕ). t ++ m) (take-append-add front rest q) ∙ append_assoc front (take q rest) m in
    record {
      within = omega arith;
      before = (w.before.0, subst Whole (sym (again p w.before.0)) (join _ w.before.1));
      here = λ h b.
          let more : p < length rest = omega arith in
          let shown : Whole (front ++ (take (p + 1) rest ++ b.0))
          = subst Whole (ap (λ (n : ℕ). take n (front ++ rest) ++ b.0) (omega arith) ∙ again (p + 1) b.0) b.1 in
          let long : 0 < length (take (p + 1) rest) = simp length-take (omega arith) in
          let alike : Alike rest (take (p + 1) rest ++ b.0)
          = λ _. (omega arith, get_or_append_left (take (p + 1) rest) b.0 0 0 long ∙ get_or-take (p + 1) rest 0 0 (omega arith)) in
          w.here more (b.0, split _ alike shown);
      missing = λ h m. w.missing (omega arith) (split rest (λ z. (z, refl)) m);
    }

-- behind a word
pub word_passed : (Wanted : List ℕ → Type 0) (word rest : List ℕ) (p : ℕ) → FirstWrong Wanted rest p → FirstWrong (After word Wanted) (word ++ rest) (length word + p)
word_passed Wanted word rest p =
    passed (After word Wanted) Wanted word rest p (λ t w. (t, refl, w))
    (λ t _ a. subst Wanted (sym (append_cancel_left word t a.0 a.1)) a.2)

-- in a word
pub word_departs : (Wanted : List ℕ → Type 0) (word text some : List ℕ) (p : ℕ) → Departs text word p → Wanted some → FirstWrong (After word Wanted) text p
word_departs Wanted word text some p d w =
    let inside : p < length word = d.inside in
    let e : take p text ++ (drop p word ++ some) ≡ word ++ some
    = ap (λ (t : List ℕ). t ++ (drop p word ++ some)) d.same ∙ sym (append_assoc (take p word) (drop p word) some)
    ∙ ap (λ (t : List ℕ). t ++ some) (take-append-drop p word) in
    record {
      within = d.within;
      before = (drop p word ++ some, (some, e, w));
      here = λ h b.
          let long : p < length (take (p + 1) text) = simp length-take (omega arith) in
          let f : get_or (take (p + 1) text ++ b.0) p 0 ≡ get_or (word ++ b.1.0) p 0 = ap (λ (t : List ℕ). get_or t p 0) b.1.1 in
          d.here h
          (sym (get_or_append_left (take (p + 1) text) b.0 0 p long ∙ get_or-take (p + 1) text p 0 (omega arith)) ∙ f
          ∙ get_or_append_left word b.1.0 0 p inside);
      missing = λ h a. omega (arith, simp length-append at (ap length a.1));
    }

-- behind a number
pub number_passed : (Wanted : List ℕ → Type 0) (digits rest : List ℕ) (n p : ℕ) → NoDigit Wanted → Writes digits n → Stops rest → FirstWrong Wanted rest p
    → FirstWrong (Numbered Wanted) (digits ++ rest) (length digits + p)
number_passed Wanted digits rest n p none writes stops =
    passed (Numbered Wanted) Wanted digits rest p (λ t w. (digits, n, t, writes, refl, w))
    (λ t alike a.
    let stop : Stops t = λ h d. stops (alike h).0 (subst IsDigit (alike h).1 d) in
    let e : t ≡ a.2 = same_left digits a.0 t a.2 writes.digits a.3.digits stop (none a.2 a.5) a.4 in
    subst Wanted (sym e) a.5)

-- the digits that were read begin a number
number_begins : (Wanted : List ℕ → Type 0) (digits left some : List ℕ) → NoNumber digits left → Wanted some → Begins (Numbered Wanted) (take (length digits) (digits ++ left))
number_begins Wanted [] left some lacks w =
    let zeros : Writes (48 ∷ []) 0
    = record { some = omega arith; digits = λ k h. digits_push [] 48 (λ k h. absurd (omega arith)) (omega arith, omega arith) k h; value = refl; most = omega arith } in
    (48 ∷ some, (48 ∷ [], 0, some, zeros, refl, w))
number_begins Wanted (d ∷ ds) left some lacks w =
    let writes : Writes (d ∷ ds) (value_from 0 (d ∷ ds))
    = record { some = omega arith; digits = lacks.all; value = refl; most = lacks.most } in
    let e : take (length (d ∷ ds)) ((d ∷ ds) ++ left) ++ some ≡ (d ∷ ds) ++ some
    = ap (λ (t : List ℕ). t ++ some) (take_at (d ∷ ds) left (length (d ∷ ds)) refl) in
    (some, (d ∷ ds, value_from 0 (d ∷ ds), some, writes, e, w))

-- a digit that passes the largest number
too_large : (Wanted : List ℕ → Type 0) (digits left more : List ℕ) (c : ℕ) → NoDigit Wanted → NoNumber digits (c ∷ left) → IsDigit c
    → Numbered Wanted ((digits ++ c ∷ []) ++ more) → ⊥
too_large Wanted digits left more c none lacks d a =
    let r = all_leading (digits ++ c ∷ []) more a.0 a.2 (digits_push digits c lacks.all d) (none a.2 a.5) a.4 in
    let over : 4294967295 < value_from 0 digits * 10 + (c - 48) = lacks.here (omega arith) d in
    let push : value_from 0 (digits ++ c ∷ []) ≡ value_from 0 digits * 10 + (c - 48) = fold-append (λ n d. n * 10 + (d - 48)) 0 digits (c ∷ []) in
    let grows : value_from 0 (digits ++ c ∷ []) ≤ value_from 0 ((digits ++ c ∷ []) ++ r.0) = value_grows 0 (digits ++ c ∷ []) r.0 in
    let same : value_from 0 a.0 ≡ value_from 0 ((digits ++ c ∷ []) ++ r.0) = ap (value_from 0) r.1 in
    let value : value_from 0 a.0 ≡ a.1 = a.3.value in
    let most : a.1 ≤ 4294967295 = a.3.most in
    omega arith

-- no digit where the first one is wanted
no_first : (Wanted : List ℕ → Type 0) (digits more : List ℕ) (c : ℕ) → length digits ≡ 0 → (IsDigit c → ⊥) → Numbered Wanted ((digits ++ c ∷ []) ++ more) → ⊥
no_first Wanted [] more c e not ([], n, rest, writes, same, w) = let some : 1 ≤ 0 = writes.some in omega arith
no_first Wanted [] more c e not (d ∷ ds, n, rest, writes, same, w) =
    let h : d ≡ c = cc in not (subst IsDigit h (writes.digits 0 (omega arith)))
no_first Wanted (d ∷ ds) more c e not a = omega arith

is_digit : (c : ℕ) → IsDigit c ⊎ (IsDigit c → ⊥)
is_digit c = elim (cases_lt c 48) [
  | inl l ↦ inr (λ d. let low : 48 ≤ c = d.0 in omega arith)
  | inr g ↦ elim (cases_lt 57 c) [ inl l ↦ inr (λ d. let high : c ≤ 57 = d.1 in omega arith) | inr h ↦ inl (g, h) ]
]

-- with the character that stands there no number begins so
further : (Wanted : List ℕ → Type 0) (digits left : List ℕ) → NoDigit Wanted → NoNumber digits left
    → length digits < length (digits ++ left) → Begins (Numbered Wanted) (take (length digits + 1) (digits ++ left)) → ⊥
further Wanted digits [] none lacks h b = omega (arith, simp length-append at h)
further Wanted digits (c ∷ left) none lacks h b =
    let a : Numbered Wanted ((digits ++ c ∷ []) ++ b.0)
    = subst (Numbered Wanted) (ap (λ (t : List ℕ). t ++ b.0) (take-append-add digits (c ∷ left) 1)) b.1 in
    elim (is_digit c) [
      | inl d ↦ too_large Wanted digits left b.0 c none lacks d a
      | inr not ↦ no_first Wanted digits b.0 c (lacks.none (λ _ d. not d)) not a
    ]

-- in a number
pub number_departs : (Wanted : List ℕ → Type 0) (digits left some : List ℕ) → NoDigit Wanted → NoNumber digits left → Wanted some
    → FirstWrong (Numbered Wanted) (digits ++ left) (length digits)
number_departs Wanted digits left some none lacks w = record {
  within = simp length-append (omega arith);
  before = number_begins Wanted digits left some lacks w;
  here = further Wanted digits left none lacks;
  missing = λ h a.
      let l : length digits ≡ length digits + length left = simp length-append at h in
      let z : length digits ≡ 0 = lacks.none (λ more _. omega arith) in
      let e : length digits + length left ≡ length a.0 + length a.2 = simp length-append at (ap length a.4) in
      let one : 1 ≤ length a.0 = a.3.some in
      omega arith;
}

-- at what is more than wanted
pub end_departs : (text : List ℕ) → 0 < length text → FirstWrong Ended text 0
end_departs text h = record {
  within = omega arith;
  before = ([], refl);
  here = λ _ b. omega (arith, simp (length-append, length-take) at (ap length b.1));
  missing = λ e _. omega arith;
}
