-- The flags of a report come back from their octet.
use Rattle.std.proofs.Common.{◌≡◌, ℕ, ◌+◌, ◌*◌, ◌/◌, ◌%◌, ◌≤◌, Bool, true, false, cond, eqb, List, [], ◌∷◌, length, refl, arith}
use Rattle.frame.specs.Flags.{marks_of, flags_octet}

abbrev one : Bool → ℕ
one m = cond m 1 0

one_small : (m : Bool) → one m ≤ 1
one_small true = omega arith
one_small false = omega arith

scaled : (m : Bool) (k : ℕ) → cond m k 0 ≡ k * one m
scaled true k = omega arith
scaled false k = omega arith

bit : (m : Bool) (x : ℕ) → x ≡ one m → eqb x 1 ≡ m
bit true x e = rw e refl
bit false x e = rw e refl

digits : (a b c d e f g h n : ℕ) → a ≤ 1 → b ≤ 1 → c ≤ 1 → d ≤ 1 → e ≤ 1 → f ≤ 1 → g ≤ 1 → h ≤ 1
    → n ≡ a + 2 * b + 4 * c + 8 * d + 16 * e + 32 * f + 64 * g + 128 * h
    → (n % 2 ≡ a) × (n / 2 % 2 ≡ b) × (n / 4 % 2 ≡ c) × (n / 8 % 2 ≡ d) × (n / 16 % 2 ≡ e) × (n / 32 % 2 ≡ f) × (n / 64 % 2 ≡ g) × (n / 128 % 2 ≡ h)
digits a b c d e f g h n la lb lc ld le lf lg lh is =
    (omega arith, omega arith, omega arith, omega arith, omega arith, omega arith, omega arith, omega arith)

same_list : (a b c d e f g h a' b' c' d' e' f' g' h' : Bool) → a ≡ a' → b ≡ b' → c ≡ c' → d ≡ d' → e ≡ e' → f ≡ f' → g ≡ g' → h ≡ h'
    → ◌≡◌ {A = List Bool} (a ∷ b ∷ c ∷ d ∷ e ∷ f ∷ g ∷ h ∷ []) (a' ∷ b' ∷ c' ∷ d' ∷ e' ∷ f' ∷ g' ∷ h' ∷ [])
same_list a b c d e f g h a' b' c' d' e' f' g' h' p q r s t u v w = cc

eight_back : (a b c d e f g h : Bool) → marks_of (flags_octet (a ∷ b ∷ c ∷ d ∷ e ∷ f ∷ g ∷ h ∷ [])) ≡ a ∷ b ∷ c ∷ d ∷ e ∷ f ∷ g ∷ h ∷ []
eight_back a b c d e f g h =
    let n = flags_octet (a ∷ b ∷ c ∷ d ∷ e ∷ f ∷ g ∷ h ∷ []) in
    let is : n ≡ one a + 2 * one b + 4 * one c + 8 * one d + 16 * one e + 32 * one f + 64 * one g + 128 * one h =
    omega (arith, scaled b 2, scaled c 4, scaled d 8, scaled e 16, scaled f 32, scaled g 64, scaled h 128) in
    let k = digits (one a) (one b) (one c) (one d) (one e) (one f) (one g) (one h) n (one_small a) (one_small b) (one_small c) (one_small d)
    (one_small e) (one_small f) (one_small g) (one_small h) is in
    same_list _ _ _ _ _ _ _ _ _ _ _ _ _ _ _ _ (bit a _ k.0) (bit b _ k.1) (bit c _ k.2) (bit d _ k.3) (bit e _ k.4) (bit f _ k.5) (bit g _ k.6) (bit h _ k.7)

-- eight flags, put into an octet, come back from it
pub marks_back : (ms : List Bool) → length ms ≡ 8 → marks_of (flags_octet ms) ≡ ms
marks_back [] l = absurd (omega arith)
marks_back (a ∷ []) l = absurd (omega arith)
marks_back (a ∷ b ∷ []) l = absurd (omega arith)
marks_back (a ∷ b ∷ c ∷ []) l = absurd (omega arith)
marks_back (a ∷ b ∷ c ∷ d ∷ []) l = absurd (omega arith)
marks_back (a ∷ b ∷ c ∷ d ∷ e ∷ []) l = absurd (omega arith)
marks_back (a ∷ b ∷ c ∷ d ∷ e ∷ f ∷ []) l = absurd (omega arith)
marks_back (a ∷ b ∷ c ∷ d ∷ e ∷ f ∷ g ∷ []) l = absurd (omega arith)
marks_back (a ∷ b ∷ c ∷ d ∷ e ∷ f ∷ g ∷ h ∷ []) l = eight_back a b c d e f g h
marks_back (a ∷ b ∷ c ∷ d ∷ e ∷ f ∷ g ∷ h ∷ i ∷ ms) l = absurd (omega arith)
