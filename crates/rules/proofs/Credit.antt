-- What a report makes of the window and of the packets, place by place.
use Rattle.std.proofs.Common.{◌≡◌, ℕ, zero, suc, ◌<◌, Bool, true, false, ◌⊎◌, List, [], ◌∷◌, length, get_or, set, Some, None, sym, refl, ap, ◌∙◌, subst, inl, inr, ⊎_elim, arith, length-set}
use Rattle.std.proofs.lemmas.Bool.{cases_lt, cases_eq}
use Rattle.std.proofs.lemmas.List.{get_or-set_same, get_or-set_other, set_past}
use Rattle.rules.specs.Sending.{BduKey, Mark, Progress, Standing, Outgoing, blank, place, moved, is_old, judged, credited, judge, credit}
use Rattle.rules.proofs.Lists.{never, set_elim}

pub get_or_judge : (tell : ℕ → Bool) (now : ℕ) (ms : List Mark) (k : ℕ) → get_or (judge tell now ms) k Mark.Unused ≡ judged (get_or ms k Mark.Unused) (tell k) (is_old now (get_or ms k Mark.Unused))
get_or_judge tell now [] k = refl
get_or_judge tell now (m ∷ ms) zero = refl
get_or_judge tell now (m ∷ ms) (suc k) = get_or_judge (λ j. tell (suc j)) now ms k

pub length_judge : (tell : ℕ → Bool) (now : ℕ) (ms : List Mark) → length (judge tell now ms) ≡ length ms
length_judge tell now [] = refl
length_judge tell now (m ∷ ms) = ap suc (length_judge (λ j. tell (suc j)) now ms)

-- what a report leaves of a packet
abbrev pub FrameOf : Type 0
FrameOf = record { standing : Standing; octets : List ℕ; room : ℕ }

abbrev pub frame_of : Outgoing → FrameOf
frame_of o = record { standing = o.standing; octets = o.octets; room = length o.bdus }

set_keeps : {A B : Type 0} (f : A → B) (xs : List A) (i : ℕ) (v d : A) (k : ℕ) → f v ≡ f (get_or xs i d) → f (get_or (set xs i v) k d) ≡ f (get_or xs k d)
set_keeps f xs i v d k e =
    ⊎_elim
    (λ l. set_elim xs i v d k (λ x. f x ≡ f (get_or xs k d)) l (λ s. e ∙ ap (λ j. f (get_or xs j d)) (sym s)) (λ _. refl))
    (λ g. ap (λ ys. f (get_or ys k d)) (set_past xs i v g))
    (cases_lt i (length xs))

pub moved_keeps : (b : BduKey) (v : Progress) (ps : List Outgoing) (p : ℕ) → frame_of (get_or (moved b v ps) p blank) ≡ frame_of (get_or ps p blank)
moved_keeps b v ps p =
    let o : Outgoing = get_or ps (place b) blank in
    set_keeps frame_of ps (place b) _ blank p (ap (λ n. record { standing = o.standing; octets = o.octets; room = n }) (length-set o.bdus b.bsn v))

credited_keeps : (m : Mark) (t o : Bool) (ps : List Outgoing) (p : ℕ) → frame_of (get_or (credited m t o ps) p blank) ≡ frame_of (get_or ps p blank)
credited_keeps Mark.Unused t o ps p = refl
credited_keeps (Mark.OnItsWay s None) t o ps p = refl
credited_keeps (Mark.OnItsWay s (Some b)) true o ps p = moved_keeps b Progress.Acknowledged ps p
credited_keeps (Mark.OnItsWay s (Some b)) false true ps p = moved_keeps b Progress.Waiting ps p
credited_keeps (Mark.OnItsWay s (Some b)) false false ps p = refl
credited_keeps Mark.Acknowledged t o ps p = refl
credited_keeps Mark.Returned t o ps p = refl

pub credit_keeps : (tell : ℕ → Bool) (now : ℕ) (ms : List Mark) (ps : List Outgoing) (p : ℕ) → frame_of (get_or (credit tell now ms ps) p blank) ≡ frame_of (get_or ps p blank)
credit_keeps tell now [] ps p = refl
credit_keeps tell now (m ∷ ms) ps p = credit_keeps (λ k. tell (suc k)) now ms (credited m (tell 0) (is_old now m) ps) p ∙ credited_keeps m (tell 0) (is_old now m) ps p

credited_length : (m : Mark) (t o : Bool) (ps : List Outgoing) → length (credited m t o ps) ≡ length ps
credited_length Mark.Unused t o ps = refl
credited_length (Mark.OnItsWay s None) t o ps = refl
credited_length (Mark.OnItsWay s (Some b)) true o ps = length-set ps _ _
credited_length (Mark.OnItsWay s (Some b)) false true ps = length-set ps _ _
credited_length (Mark.OnItsWay s (Some b)) false false ps = refl
credited_length Mark.Acknowledged t o ps = refl
credited_length Mark.Returned t o ps = refl

pub credit_length : (tell : ℕ → Bool) (now : ℕ) (ms : List Mark) (ps : List Outgoing) → length (credit tell now ms ps) ≡ length ps
credit_length tell now [] ps = refl
credit_length tell now (m ∷ ms) ps = credit_length (λ k. tell (suc k)) now ms (credited m (tell 0) (is_old now m) ps) ∙ credited_length m (tell 0) (is_old now m) ps

abbrev pub progress : List Outgoing → ℕ → ℕ → Progress
progress ps p d = get_or (get_or ps p blank).bdus d Progress.Waiting

-- the mark has the BDU d of the packet at p
abbrev pub Carrier : Mark → ℕ → ℕ → Type 0
Carrier m p d = (s : ℕ) × (b : BduKey) × (m ≡ Mark.OnItsWay s (Some b)) × (place b ≡ p) × (b.bsn ≡ d)

-- the mark has the BDU d of the packet at p and is told or old, and w is what becomes of that BDU
abbrev pub Credited : Mark → Bool → Bool → ℕ → ℕ → Progress → Type 0
Credited m t o p d w = Carrier m p d × (((t ≡ true) × (w ≡ Progress.Acknowledged)) ⊎ ((t ≡ false) × (o ≡ true) × (w ≡ Progress.Waiting)))

pub moved_progress : (b : BduKey) (v : Progress) (ps : List Outgoing) (p d : ℕ) → p < length ps → d < length (get_or ps p blank).bdus
    → ((place b ≡ p) × (b.bsn ≡ d) × (progress (moved b v ps) p d ≡ v)) ⊎ ((place b ≡ p → b.bsn ≡ d → ⊥) × (progress (moved b v ps) p d ≡ progress ps p d))
moved_progress b v ps p d l m =
    ⊎_elim
    (λ e.
    let o : Outgoing = get_or ps (place b) blank in
    let at : progress (moved b v ps) p d ≡ get_or (set o.bdus b.bsn v) d Progress.Waiting = ap (λ x. get_or x.bdus d Progress.Waiting) (ap (λ x. get_or (moved b v ps) x blank) (sym e) ∙ get_or-set_same ps (place b) _ blank (omega arith)) in
    let m2 : d < length o.bdus = subst (λ x. d < length (get_or ps x blank).bdus) (sym e) m in
    ⊎_elim
    (λ f. inl (e, f, at ∙ ap (λ x. get_or (set o.bdus b.bsn v) x Progress.Waiting) (sym f) ∙ get_or-set_same o.bdus b.bsn v Progress.Waiting (omega arith)))
    (λ f. inr ((λ _ g. f g), at ∙ get_or-set_other o.bdus b.bsn d v Progress.Waiting (λ g. f (sym g)) ∙ ap (λ x. progress ps x d) e))
    (cases_eq b.bsn d))
    (λ ne. inr ((λ e _. ne e), ap (λ x. get_or x.bdus d Progress.Waiting) (get_or-set_other ps (place b) p _ blank (λ g. ne (sym g)))))
    (cases_eq (place b) p)

credited_cases : (m : Mark) (t o : Bool) (ps : List Outgoing) (p d : ℕ) → p < length ps → d < length (get_or ps p blank).bdus
    → ((progress (credited m t o ps) p d ≡ progress ps p d) × (Carrier m p d → (t ≡ false) × (o ≡ false))) ⊎ Credited m t o p d (progress (credited m t o ps) p d)
credited_cases Mark.Unused t o ps p d l m = inl (refl, λ c. never (let z = c.2 in cc))
credited_cases (Mark.OnItsWay s None) t o ps p d l m = inl (refl, λ c. never (let z = c.2 in cc))
credited_cases (Mark.OnItsWay s (Some b)) true o ps p d l m =
    ⊎_elim
    (λ x. inr ((s, b, refl, x.0, x.1), inl (refl, x.2)))
    (λ x. inl (x.1, λ c. absurd (x.0 (let z = c.2 in let y = c.3 in let e : b ≡ c.1 = cc in ap place e ∙ y) (let z = c.2 in let y = c.4 in let e : b ≡ c.1 = cc in ap (λ u. u.bsn) e ∙ y))))
    (moved_progress b Progress.Acknowledged ps p d l m)
credited_cases (Mark.OnItsWay s (Some b)) false true ps p d l m =
    ⊎_elim
    (λ x. inr ((s, b, refl, x.0, x.1), inr (refl, refl, x.2)))
    (λ x. inl (x.1, λ c. absurd (x.0 (let z = c.2 in let y = c.3 in let e : b ≡ c.1 = cc in ap place e ∙ y) (let z = c.2 in let y = c.4 in let e : b ≡ c.1 = cc in ap (λ u. u.bsn) e ∙ y))))
    (moved_progress b Progress.Waiting ps p d l m)
credited_cases (Mark.OnItsWay s (Some b)) false false ps p d l m = inl (refl, λ c. (refl, refl))
credited_cases Mark.Acknowledged t o ps p d l m = inl (refl, λ c. never (let z = c.2 in cc))
credited_cases Mark.Returned t o ps p d l m = inl (refl, λ c. never (let z = c.2 in cc))

-- after all the window: as before, and no entry that has this BDU is told or old; or some entry that has it is
pub credit_cases : (tell : ℕ → Bool) (now : ℕ) (ms : List Mark) (ps : List Outgoing) (p d : ℕ) → p < length ps → d < length (get_or ps p blank).bdus
    → ((progress (credit tell now ms ps) p d ≡ progress ps p d) × ((k : ℕ) → Carrier (get_or ms k Mark.Unused) p d → (tell k ≡ false) × (is_old now (get_or ms k Mark.Unused) ≡ false)))
    ⊎ ((k : ℕ) × Credited (get_or ms k Mark.Unused) (tell k) (is_old now (get_or ms k Mark.Unused)) p d (progress (credit tell now ms ps) p d))
credit_cases tell now [] ps p d l m = inl (refl, λ k c. never (let z = c.2 in cc))
credit_cases tell now (x ∷ ms) ps p d l m =
    let qs : List Outgoing = credited x (tell 0) (is_old now x) ps in
    let same : length qs ≡ length ps = credited_length x (tell 0) (is_old now x) ps in
    let room : length (get_or qs p blank).bdus ≡ length (get_or ps p blank).bdus = ap (λ f. f.room) (credited_keeps x (tell 0) (is_old now x) ps p) in
    ⊎_elim
    (λ h.
    ⊎_elim
    (λ g. inl (h.0 ∙ g.0, (elim [ zero ↦ g.1 | suc k ↦ h.1 k ])))
    (λ g. inr (0, subst (Credited x (tell 0) (is_old now x) p d) (sym h.0) g))
    (credited_cases x (tell 0) (is_old now x) ps p d l m))
    (λ h. inr (suc h.0, h.1))
    (credit_cases (λ k. tell (suc k)) now ms qs p d (omega arith) (omega arith))
