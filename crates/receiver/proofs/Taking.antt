-- A BDU that is taken: its number is received, its place is changed in code, and what comes of it is what the rules say.
use Rattle.std.proofs.Common.{◌≡◌, ℕ, ◌+◌, ◌*◌, ◌<◌, ◌≤◌, Bool, true, false, cond, List, [], ◌∷◌, ◌++◌, map, length, get_or, drop, set, Some, None, Ok, Option, MatchOption, sym, refl, ap, ◌∙◌, arith}
use Rattle.std.proofs.lemmas.List.{get_or-map, length-map, map-set}
use Rattle.std.proofs.lemmas.Bool.{cond-true, cond-false, le-ltb, not_from_true}
use Rattle.rules.specs.Constants.{packet_room}
use Rattle.rules.specs.Ends.{refused_by}
use Rattle.rules.specs.Receiving.{Receiving, Bdu, Answer, any, awaited, past_last, contradicts, place, with_place, received, added, packet, settled, bring}
use Rattle.rules.specs.Receiving as rule
use Rattle.rules.specs.declared.fault.EndFault.{EndFault}
use Rattle.rules.specs.declared.fault.EndFault.TheVariants as fault
use Rattle.receiver.specs.Places.{place_of, Whole, Emptied}
use Rattle.receiver.specs.Receivers.{take_rows, Takes}
use Rattle.receiver.specs.declared.place.Place.{Place}
use Rattle.receiver.specs.declared.receiver.HandUp.{HandUp}
use Rattle.receiver.proofs.Fronts.{half}

-- where a BDU's place lies
abbrev spot : Bdu → ℕ
spot u = 4 * u.q + u.rn

-- where the first two rows do not refuse, the third decides
third_row : (a b c : Bool) (e f g : EndFault) → a ≡ false → b ≡ false → refused_by ((a, e) ∷ (b, f) ∷ (c, g) ∷ []) ≡ cond c (Some g) None
third_row a b true e f g x y = rw (x, y)
third_row a b false e f g x y = rw (x, y)

-- a place that hands nothing up has no packet
whole_none : (o : Option (List ℕ)) (buffer after : List ℕ) → Whole o buffer None after → (o ≡ None) × (after ≡ buffer)
whole_none None buffer after w = (refl, w)
whole_none (Some octets) buffer after w = absurd w

-- one that hands octets up has them as its packet
whole_some : (o : Option (List ℕ)) (buffer : List ℕ) (len : ℕ) (after : List ℕ) → Whole o buffer (Some len) after
    → (octets : List ℕ) × (o ≡ Some octets) × (len ≡ length octets) × (after ≡ octets ++ drop len buffer)
whole_some None buffer len after w = absurd w
whole_some (Some octets) buffer len after w = (octets, refl, w.0, w.1)

-- ps are the places in code, at is where the BDU's place lies, and d what is read behind the end
module _ (V : Receiving) (n : ℕ) (u : Bdu) (buffer : List ℕ) (b : Bool) (ps : List Place) (shown : map place_of ps ≡ V.places) (at : ℕ) (d : Place) (at_is : at ≡ spot u) (inside : at < length ps)
    (room : packet_room ≤ length buffer) (due : true ≡ awaited V n) (says : b ≡ contradicts (place_of (get_or ps at d)) u) where
  -- what is read is the place that the rule looks at
  place_is : place V u ≡ place_of (get_or ps at d)
  place_is = sym (ap (λ Ps. get_or Ps (spot u) rule.empty) shown) ∙ ap (λ k. get_or (map place_of ps) k rule.empty) (sym at_is) ∙ get_or-map place_of ps at d rule.empty inside

  -- what the code says of its place, the rule says of the BDU
  contradicts_is : contradicts (place V u) u ≡ b
  contradicts_is = ap (λ P. contradicts P u) place_is ∙ sym says

  -- only the last row can refuse
  pub rows_are : refused_by (take_rows V n u (length buffer)) ≡ cond b (Some fault.Contradiction) None
  rows_are =
      third_row _ _ (contradicts (place V u) u) fault.Buffer fault.Number fault.Contradiction (le-ltb (length buffer) packet_room room) (not_from_true _ (sym due))
      ∙ ap (λ t. cond t (Some fault.Contradiction) None) contradicts_is

  -- r₁, fs₁ and ps₁ are the half with the number received, d₁ what is read behind its end, x₁ the place with the BDU, and x₂ the place in the end
  module _ (agrees : b ≡ false) (now r₁ : ℕ) (fs₁ : List Bool) (ps₁ : List Place) (d₁ x₁ x₂ : Place) (after : List ℕ) (came : half r₁ fs₁ (map place_of ps₁) ≡ received n V)
      (put : place_of x₁ ≡ added (place_of (get_or ps₁ at d₁)) u now) where
    -- a number that is received changes no place
    same : map place_of ps₁ ≡ V.places
    same = ap (λ W. W.places) came

    -- so there are as many places as before
    inside₁ : at < length ps₁
    inside₁ = let m = length-map ps₁ place_of in let k = length-map ps place_of in let z = ap length (same ∙ sym shown) in omega arith

    -- the place with the BDU, as the rule has it
    there_is : place_of x₁ ≡ added (place V u) u now
    there_is =
        put ∙ ap (λ P. added P u now)
        (sym (get_or-map place_of ps₁ at d₁ rule.empty inside₁)
        ∙ ap (λ Ps. get_or Ps at rule.empty) same ∙ ap (λ k. get_or V.places k rule.empty) at_is)

    -- what the rule answers, by the packet that the place has
    brought : (o : Option (List ℕ)) → packet (place_of x₁) ≡ o → bring V n u now ≡ settled (received n V) u (place_of x₁) o
    brought o e =
        cond-true _ _ _ (sym due) ∙ cond-false _ _ _ (contradicts_is ∙ agrees)
        ∙ ap (λ P. settled (received n V) u P (packet P)) (sym there_is) ∙ ap (settled (received n V) u (place_of x₁)) e

    -- the half in the end
    abbrev V' : Receiving
    V' = half r₁ fs₁ (map place_of (set ps₁ at x₂))

    -- it is the half with the number received and the place in the end
    ends : (P : rule.Place) → place_of x₂ ≡ P → with_place u P (received n V) ≡ V'
    ends P e =
        sym (ap (half r₁ fs₁) (map-set place_of ps₁ at x₂ ∙ ap (λ k. set (map place_of ps₁) k (place_of x₂)) at_is)
        ∙ ap (with_place u (place_of x₂)) came ∙ ap (λ Q. with_place u Q (received n V)) e)

    -- no row refuses
    rows_none : refused_by (take_rows V n u (length buffer)) ≡ None
    rows_none = rows_are ∙ ap (λ t. cond t (Some fault.Contradiction) None) agrees

    -- nothing is handed up and the BDU is held, or a packet is handed up and the place is empty
    pub takes_is : (up : Option ℕ) (r : Option HandUp) → Whole (packet (place_of x₁)) buffer up after → Emptied up (place_of x₁) (place_of x₂)
        → MatchOption up (r ≡ None) (λ len. r ≡ Some (record { packet = record { q = u.q; rn = u.rn }; len = len })) → Takes V n u now buffer (Ok r) V' after
    takes_is None r w e m =
        let z = whole_none (packet (place_of x₁)) buffer after w in
        rw m (rows_none, (brought None z.0 ∙ ap (λ W. (Answer.Held, W)) (ends (place_of x₁) e), z.1))
    takes_is (Some len) r w e m =
        let z = whole_some (packet (place_of x₁)) buffer len after w in
        rw m (rows_none, (z.0, brought (Some z.0) z.1 ∙ ap (λ W. (Answer.Packet u.q u.rn z.0, W)) (ends rule.empty e), z.2, z.3))
