-- Texts of lists of octets: how one grows, what can follow its beginning, and where a text stops to be the beginning of one.
use Rattle.std.proofs.Common.{◌≡◌, ℕ, zero, suc, ◌+◌, ◌-◌, ◌*◌, ◌/◌, ◌%◌, ◌<◌, ◌≤◌, List, [], ◌∷◌, ◌++◌, length, get_or, take, drop, Ok, Err, vec_items, Result, Vec, sym, refl, ap, ◌∙◌, subst, inl, inr, append_assoc, append-nil, arith, length-append}
use Rattle.frame.proofs.Departures.{one_place}
use Rattle.frame.specs.Beginnings.{Begins, FirstWrong}
use Rattle.std.specs.List.{flat_map}
use Rattle.std.proofs.lemmas.Grind.{flat_map-append}
use Rattle.std.proofs.lemmas.List.{take_all, take_more, length-take-le}
use Rattle.std.proofs.lemmas.Bool.Decides.{nat_tests}
use Rattle.forms.specs.declared.octets.OctetsFault.{OctetsFault}
use Rattle.forms.specs.declared.octets.OctetsFault.TheVariants.{Misfit, Memory}
use Rattle.forms.specs.Octets.{digit, spaced_text, octets_text, AreOctets, IsOctets, NoDigit, Octet, HalfOctet, OctetAt, OctetsRead, Unread, ReadBack, TextTells}

digit_past_space : (d : ℕ) → 32 < digit d
digit_past_space d = grind (arith, nat_tests)

no_digit_low : (c : ℕ) → c ≤ 32 → NoDigit c
no_digit_low c l d h e = omega (arith, digit_past_space d)

digit_same : (d e : ℕ) → d < 16 → e < 16 → digit d ≡ digit e → d ≡ e
digit_same d e l m h = grind (arith, nat_tests)

-- octets, each before a space: what stands before one more octet
abbrev pub heads : List ℕ → List ℕ
heads = flat_map (λ b. digit (b / 16) ∷ digit (b % 16) ∷ 32 ∷ [])

spaced_push : (bs : List ℕ) (b : ℕ) → spaced_text (bs ++ b ∷ []) ≡ 32 ∷ octets_text (bs ++ b ∷ [])
spaced_push [] b = refl
spaced_push (c ∷ bs) b = refl

heads_then : (bs : List ℕ) (b : ℕ) → heads bs ++ octets_text (b ∷ []) ≡ octets_text (bs ++ b ∷ [])
heads_then [] b = refl
heads_then (c ∷ bs) b =
    ap (λ l. digit (c / 16) ∷ digit (c % 16) ∷ l) (ap (λ l. 32 ∷ l) (heads_then bs b) ∙ sym (spaced_push bs b))

heads_push : (bs : List ℕ) (b : ℕ) → heads (bs ++ b ∷ []) ≡ heads bs ++ (digit (b / 16) ∷ digit (b % 16) ∷ 32 ∷ [])
heads_push bs b = flat_map-append (λ c. digit (c / 16) ∷ digit (c % 16) ∷ 32 ∷ []) bs (b ∷ [])

are_none : AreOctets []
are_none k = omega arith

are_push : (bs : List ℕ) (b : ℕ) → AreOctets bs → b < 256 → AreOctets (bs ++ b ∷ [])
are_push [] b all h zero = h
are_push [] b all h (suc k) = omega arith
are_push (c ∷ bs) b all h zero = all zero
are_push (c ∷ bs) b all h (suc k) = are_push bs b (λ j. all (suc j)) h k

-- a list of at least one octet
abbrev SomeOctets : List ℕ → Type 0
SomeOctets text = (b : ℕ) × (bs : List ℕ) × (b < 256) × (text ≡ octets_text (b ∷ bs))

-- what stands behind octets and their spaces is a list of octets again, and not of none
some_behind : (bs rest : List ℕ) → 0 < length (heads bs ++ rest) → IsOctets (heads bs ++ rest) → SomeOctets rest
some_behind [] rest some ([], all, is) = absurd (omega (arith, ap length is))
some_behind [] rest some (c ∷ cs, all, is) = (c, cs, all zero, is)
some_behind (b ∷ bs) rest some ([], all, is) = absurd (omega (arith, ap length is))
some_behind (b ∷ bs) rest some (c ∷ [], all, is) = absurd (omega (arith, ap length is))
some_behind (b ∷ bs) rest some (c ∷ e ∷ cs, all, is) =
    let behind : heads bs ++ rest ≡ octets_text (e ∷ cs) = cc in
    some_behind bs rest (omega (arith, ap length behind)) (e ∷ cs, (λ k. all (suc k)), behind)

-- what stands behind the first octet of a list begins with a space
first_space : (bs : List ℕ) (c : ℕ) (more : List ℕ) → spaced_text bs ≡ c ∷ more → c ≡ 32
first_space [] c more is = absurd (omega (arith, ap length is))
first_space (b ∷ bs) c more is = cc

-- a text is no list of octets any more at a place: what stands before it begins one, and what stands there fits none
wrong_at : (text : List ℕ) (place : ℕ) (front : List ℕ) → place ≤ length text → take place text ≡ front → Begins IsOctets front → (place < length text → (more : List ℕ) → IsOctets (front ++ get_or text place 0 ∷ more) → ⊥) → (place ≡ length text → IsOctets front → ⊥) → FirstWrong IsOctets text place
wrong_at text place front within is begins here missing = record {
  within = within;
  before = subst (Begins IsOctets) (sym is) begins;
  here = λ inside (more, wanted).
      let longer : take (place + 1) text ≡ front ++ get_or text place 0 ∷ [] = take_more text place 0 inside ∙ ap (λ l. l ++ get_or text place 0 ∷ []) is in
      here inside more (subst IsOctets (ap (λ l. l ++ more) longer ∙ append_assoc front (get_or text place 0 ∷ []) more) wanted);
  missing = λ end wanted. missing end (subst IsOctets (sym (take_all place text (omega arith)) ∙ is) wanted);
}

-- octets, each before a space, stand before a place of a text that is not empty
pub record Sofar (text bs : List ℕ) (place : ℕ) : Type 0 where
  pub some : 0 < length text
  pub within : place ≤ length text
  pub before : take place text ≡ heads bs
  pub octets : AreOctets bs

module _ (text bs : List ℕ) (place : ℕ) (sofar : Sofar text bs place) where
  long : length (heads bs) ≡ place
  long = ap length (sym sofar.before) ∙ length-take-le place text sofar.within

  -- no digit stands where an octet is to begin
  no_high : NoDigit (get_or text place 0) → FirstWrong IsOctets text place
  no_high bad =
      wrong_at text place (heads bs) sofar.within sofar.before
      (octets_text (0 ∷ []), (bs ++ 0 ∷ [], are_push bs 0 sofar.octets (omega arith), heads_then bs 0))
      (λ inside more wanted.
      let found = some_behind bs _ (omega (arith, length-append (heads bs) (get_or text place 0 ∷ more))) wanted in
      bad (found.0 / 16) (omega (arith, found.2)) (let e = found.3 in cc))
      (λ end wanted.
      let found = some_behind bs [] (omega (arith, length-append (heads bs) [], long, sofar.some)) (subst IsOctets (sym (append-nil (heads bs))) wanted) in
      omega (arith, ap length found.3))

  -- a digit stands there, and no second one behind it
  no_low : HalfOctet text place → FirstWrong IsOctets text (place + 1)
  no_low half =
      let high = digit half.value in
      let front : take (place + 1) text ≡ heads bs ++ high ∷ [] = take_more text place 0 half.within ∙ ap (λ l. l ++ get_or text place 0 ∷ []) sofar.before ∙ ap (λ c. heads bs ++ c ∷ []) half.high in
      let b = half.value * 16 in
      let over : b / 16 ≡ half.value = omega arith in
      let under : b % 16 ≡ 0 = omega arith in
      let small : b < 256 = omega (arith, half.small) in
      let filled : (heads bs ++ high ∷ []) ++ 48 ∷ [] ≡ octets_text (bs ++ b ∷ []) = append_assoc (heads bs) (high ∷ []) (48 ∷ []) ∙ ap (λ l. heads bs ++ l) (ap (λ d. digit d ∷ 48 ∷ []) (sym over) ∙ ap (λ d. digit (b / 16) ∷ digit d ∷ []) (sym under)) ∙ heads_then bs b in
      wrong_at text (place + 1) (heads bs ++ high ∷ []) (omega (arith, half.within)) front
      (48 ∷ [], (bs ++ b ∷ [], are_push bs b sofar.octets small, filled))
      (λ inside more wanted.
      let whole = subst IsOctets (append_assoc (heads bs) (high ∷ []) (get_or text (place + 1) 0 ∷ more)) wanted in
      let found = some_behind bs _ (omega (arith, length-append (heads bs) (high ∷ get_or text (place + 1) 0 ∷ more))) whole in
      half.low (found.0 % 16) (omega arith) (let e = found.3 in cc))
      (λ end wanted.
      let found = some_behind bs (high ∷ []) (omega (arith, length-append (heads bs) (high ∷ []))) wanted in
      omega (arith, ap length found.3))

  -- what does not begin with an octet is wrong at the first character that is no digit
  pub no_octet : (e : OctetsFault) → OctetAt text place (Err e) → Unread text e
  no_octet (Misfit wrong) (inl (is, bad)) = subst (FirstWrong IsOctets text) (sym is) (no_high bad)
  no_octet (Misfit wrong) (inr (is, half)) = subst (FirstWrong IsOctets text) (sym is) (no_low half)
  no_octet Memory none = absurd none

-- a text up to a place is a list of octets, of one at least
pub record Stands (text bs : List ℕ) (place : ℕ) : Type 0 where
  pub within : place ≤ length text
  pub before : take place text ≡ octets_text bs
  pub octets : AreOctets bs
  pub front : List ℕ
  pub last : ℕ
  pub is : bs ≡ front ++ last ∷ []

-- one octet more
pub octet_more : (text bs more : List ℕ) (place end b : ℕ) → Sofar text bs place → Octet text place b → more ≡ bs ++ b ∷ [] → end ≡ place + 2 → Stands text more end
octet_more text bs more place end b sofar octet pushed two =
    let one : take (place + 1) text ≡ heads bs ++ digit (b / 16) ∷ [] = take_more text place 0 (omega (arith, octet.within)) ∙ ap (λ l. l ++ get_or text place 0 ∷ []) sofar.before ∙ ap (λ c. heads bs ++ c ∷ []) octet.high in
    let next : end ≡ place + 1 + 1 = omega arith in
    let behind : take end text ≡ heads bs ++ octets_text (b ∷ [])
    = ap (λ n. take n text) next ∙ take_more text (place + 1) 0 octet.within ∙ ap (λ l. l ++ get_or text (place + 1) 0 ∷ []) one ∙ append_assoc (heads bs) _ _ ∙ ap (λ c. heads bs ++ digit (b / 16) ∷ c ∷ []) octet.low in
    record {
      within = omega (arith, octet.within);
      before = behind ∙ heads_then bs b ∙ ap octets_text (sym pushed);
      octets = subst AreOctets (sym pushed) (are_push bs b sofar.octets octet.small);
      front = bs;
      last = b;
      is = pushed;
    }

-- before the first one
pub start : (text : List ℕ) → (length text ≡ 0 → ⊥) → Sofar text [] 0
start text some = record { some = omega (arith, some); within = omega arith; before = refl; octets = are_none }

module _ (text bs : List ℕ) (place : ℕ) (stands : Stands text bs place) where
  -- no space stands behind the octets
  pub no_space : place < length text → (get_or text place 0 ≡ 32 → ⊥) → FirstWrong IsOctets text place
  no_space inside bad =
      let heads_and : octets_text bs ≡ heads stands.front ++ octets_text (stands.last ∷ []) = ap octets_text stands.is ∙ sym (heads_then stands.front stands.last) in
      wrong_at text place (octets_text bs) stands.within stands.before
      ([], (bs, stands.octets, append-nil (octets_text bs)))
      (λ _ more wanted.
      let whole = subst IsOctets (ap (λ l. l ++ get_or text place 0 ∷ more) heads_and ∙ append_assoc (heads stands.front) (octets_text (stands.last ∷ [])) (get_or text place 0 ∷ more)) wanted in
      let found = some_behind stands.front _ (omega (arith, length-append (heads stands.front) (octets_text (stands.last ∷ []) ++ get_or text place 0 ∷ more))) whole in
      bad (first_space found.1 _ more (let e = found.3 in cc)))
      (λ end wanted. omega arith)

  -- a space stands behind them
  pub spaced : place < length text → get_or text place 0 ≡ 32 → Sofar text bs (place + 1)
  spaced inside space = record {
    some = omega arith;
    within = omega arith;
    before = take_more text place 0 inside ∙ ap (λ l. l ++ get_or text place 0 ∷ []) (stands.before ∙ ap octets_text stands.is ∙ sym (heads_then stands.front stands.last)) ∙ append_assoc (heads stands.front) _ _ ∙ ap (λ c. heads stands.front ++ digit (stands.last / 16) ∷ digit (stands.last % 16) ∷ c ∷ []) space ∙ sym (ap heads stands.is ∙ heads_push stands.front stands.last);
    octets = stands.octets;
  }

  -- a space, and one octet more
  pub one_more : place < length text → get_or text place 0 ≡ 32 → (b : ℕ) (more : List ℕ) → Octet text (place + 1) b → more ≡ bs ++ b ∷ []
      → Stands text more (place + 3)
  one_more inside space b more octet pushed =
      octet_more text bs more (place + 1) (place + 3) b (spaced inside space) octet pushed (omega arith)

  -- nothing stands behind them
  pub all_read : length text ≤ place → AreOctets bs × (text ≡ octets_text bs)
  all_read end = (stands.octets, sym (take_all place text end) ∙ stands.before)

-- one more octet behind a space
pub text_more : (rest : List ℕ) (i : ℕ) → i < length rest → spaced_text (take i rest) ++ 32 ∷ octets_text (get_or rest i 0 ∷ []) ≡ spaced_text (take (i + 1) rest)
text_more rest i inside = sym (ap spaced_text (take_more rest i 0 inside) ∙ flat_map-append (λ b. 32 ∷ octets_text (b ∷ [])) (take i rest) (get_or rest i 0 ∷ []))

-- the first octet, and all the others
pub text_whole : (octets : List ℕ) (i : ℕ) → 0 < length octets → length (take (length octets - 1) (drop 1 octets)) ≤ i
    → octets_text (get_or octets 0 0 ∷ []) ++ spaced_text (take i (take (length octets - 1) (drop 1 octets))) ≡ octets_text octets
text_whole [] i some all = absurd (omega arith)
text_whole (b ∷ bs) i some all =
    let others : take (length (b ∷ bs) - 1) bs ≡ bs = take_all _ bs (omega arith) in
    ap (λ l. octets_text (b ∷ []) ++ spaced_text l) (take_all i _ all ∙ others)

octet_same : (b c : ℕ) → b < 256 → c < 256 → digit (b / 16) ≡ digit (c / 16) → digit (b % 16) ≡ digit (c % 16) → b ≡ c
octet_same b c small little high low =
    let over : b / 16 ≡ c / 16 = digit_same (b / 16) (c / 16) (omega arith) (omega arith) high in
    let under : b % 16 ≡ c % 16 = digit_same (b % 16) (c % 16) (omega arith) (omega arith) low in
    omega arith

spaced_tells : (bs cs : List ℕ) → AreOctets bs → AreOctets cs → spaced_text bs ≡ spaced_text cs → bs ≡ cs
spaced_tells [] [] all every same = refl
spaced_tells [] (c ∷ cs) all every same = absurd (omega (arith, ap length same))
spaced_tells (b ∷ bs) [] all every same = absurd (omega (arith, ap length same))
spaced_tells (b ∷ bs) (c ∷ cs) all every same =
    let first = octet_same b c (all zero) (every zero) (cc) (cc) in
    let others = spaced_tells bs cs (λ k. all (suc k)) (λ k. every (suc k)) (cc) in
    cc

pub text_tells : TextTells
text_tells [] [] all every same = refl
text_tells [] (c ∷ cs) all every same = absurd (omega (arith, ap length same))
text_tells (b ∷ bs) [] all every same = absurd (omega (arith, ap length same))
text_tells (b ∷ bs) (c ∷ cs) all every same = spaced_tells (b ∷ bs) (c ∷ cs) all every (ap (λ l. 32 ∷ l) same)

-- what was written is read as what it was written from
pub read_back : {Z : Type 0} (octets text : List ℕ) (r : Result (Vec ℕ Z) OctetsFault) → AreOctets octets → text ≡ octets_text octets → OctetsRead text r → ReadBack octets r
read_back octets text (Ok v) all written (every, is) = text_tells (vec_items v) octets every all (sym is ∙ written)
read_back octets text (Err (Misfit place)) all written wrong = absurd ((one_place IsOctets text).none place wrong (octets, all, written))
read_back octets text (Err Memory) all written wrong = refl
