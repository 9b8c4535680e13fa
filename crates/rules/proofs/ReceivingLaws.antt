-- The laws of the receiving half.
use Rattle.std.proofs.Common.{◌≡◌, ℕ, zero, suc, ◌+◌, ◌-◌, ◌*◌, ◌<◌, true, false, cond, not, ◌&&◌, ltb, leb, List, [], ◌∷◌, length, get_or, drop, is_some, Some, None, Option, sym, refl, ap, ◌∙◌, inl, inr, ⊎_elim, arith}
use Rattle.std.proofs.lemmas.List.{length-set, length-map, get_or-drop}
use Rattle.std.proofs.lemmas.Bool.{both_ways, cond_both, and_parts, and_from, or_cases, or_left, or_right, ltb-true, lt-ltb, not-true, not_from_false}
use Rattle.frame.specs.Numbers.{distance}
use Rattle.rules.specs.Constants.{hold, window_size}
use Rattle.rules.specs.Receiving.{Bdu, Place, Receiving, Answer, empty, window, awaited, received, place, any, past_last, contradicts, added, packet, settled, bring, aged, slot}
use Rattle.rules.specs.ReceivingLaws.{Brought, Tidy, NeverWhole, Awaits, AfterLast, BeforeHeld, Contradicts, Answers, BringAnswers}
use Rattle.rules.proofs.Lists.{never, set_keeps, map_keeps, get_or_same}

-- ## after any calls

-- a place that is not whole
abbrev Partial : Place → Type 0
Partial P = packet P ≡ None

tidy_settled : (V W : Receiving) → Tidy V → length W.flags ≡ 8 → W.places ≡ V.places → (u : Bdu) (P : Place) (o : Option (List ℕ)) → packet P ≡ o → Tidy (settled W u P o).1
tidy_settled V W h f s u P None e =
    record {
      flags = f;
      places = length-set W.places (4 * u.q + u.rn) P ∙ ap length s ∙ h.places;
      partial = set_keeps Partial W.places (4 * u.q + u.rn) P empty e (λ k. ap (λ ps. packet (get_or ps k empty)) s ∙ h.partial k);
    }
tidy_settled V W h f s u P (Some octets) e =
    record {
      flags = f;
      places = length-set W.places (4 * u.q + u.rn) empty ∙ ap length s ∙ h.places;
      partial = set_keeps Partial W.places (4 * u.q + u.rn) empty empty refl (λ k. ap (λ ps. packet (get_or ps k empty)) s ∙ h.partial k);
    }

tidy_brought : (V : Receiving) → Tidy V → (n : ℕ) (u : Bdu) (now : ℕ) → Tidy (bring V n u now).1
tidy_brought V h n u now =
    let P : Place = added (place V u) u now in
    let taken : Answer × Receiving = settled (received n V) u P (packet P) in
    cond_both (awaited V n) (cond (contradicts (place V u) u) (Answer.Refused 8, V) taken) (Answer.Refused 7, V) (λ x. Tidy x.1)
    (λ _. cond_both (contradicts (place V u) u) (Answer.Refused 8, V) taken (λ x. Tidy x.1) (λ _. h) (λ _. tidy_settled V (received n V) h refl refl u P (packet P) refl))
    (λ _. h)

tidy_slot : (V : Receiving) → Tidy V → (now : ℕ) → Tidy (slot now V)
tidy_slot V h now =
    record {
      flags = h.flags;
      places = length-map V.places (aged now) ∙ h.places;
      partial = map_keeps Partial (aged now) (λ P e. cond_both (leb (P.opened + hold) now) empty P Partial (λ _. refl) (λ _. e)) V.places empty h.partial;
    }

tidy : {V : Receiving} → Brought V → Tidy V
tidy Brought.start = record { flags = refl; places = refl; partial = λ p. ap packet (get_or_same 16 empty p) }
tidy (Brought.data_came {V} b n u now) = tidy_brought V (tidy b) n u now
tidy (Brought.slot_came {V} b now) = tidy_slot V (tidy b) now

pub never_whole : NeverWhole
never_whole V b = tidy b

-- ## what a bring answers

awaits_if : (V : Receiving) (n : ℕ) → awaited V n ≡ true → Awaits V n
awaits_if V n e =
    let d : ℕ = distance V.oldest n in
    let p = and_parts (ltb d window_size) (not (get_or (window V) d false)) e in
    (ltb-true d window_size p.0, not-true (get_or (window V) d false) p.1)

awaits_not : (V : Receiving) (n : ℕ) → awaited V n ≡ false → Awaits V n → ⊥
awaits_not V n e h =
    let d : ℕ = distance V.oldest n in
    both_ways (awaited V n) e (and_from (ltb d window_size) (not (get_or (window V) d false)) (lt-ltb d window_size h.0) (not_from_false (get_or (window V) d false) h.1))

-- some piece is held
any_one : (ps : List (Option (List ℕ))) → any ps ≡ true → (d : ℕ) × (is_some (get_or ps d None) ≡ true)
any_one [] e = never (cc)
any_one (Some x ∷ ps) e = (0, refl)
any_one (None ∷ ps) e = let r = any_one ps e in (suc r.0, r.1)

any_from : (ps : List (Option (List ℕ))) (d : ℕ) → is_some (get_or ps d None) ≡ true → any ps ≡ true
any_from [] d e = never (cc)
any_from (Some x ∷ ps) d e = refl
any_from (None ∷ ps) zero e = never (cc)
any_from (None ∷ ps) (suc d) e = any_from ps d e

past_if : (P : Place) (u : Bdu) (o : Option ℕ) → P.last ≡ o → past_last o u ≡ true → AfterLast P u
past_if P u None s e = never (cc)
past_if P u (Some l) s e = (l, s, ⊎_elim (λ x. inl (ltb-true l u.bsn x)) (λ x. inr (not-true u.more x)) (or_cases (ltb l u.bsn) (not u.more) e))

past_from : (P : Place) (u : Bdu) → AfterLast P u → past_last P.last u ≡ true
past_from P u h =
    ap (λ o. past_last o u) h.1
    ∙ ⊎_elim (λ x. or_left (ltb h.0 u.bsn) (not u.more) (lt-ltb h.0 u.bsn x)) (λ x. or_right (ltb h.0 u.bsn) (not u.more) (not_from_false u.more x)) h.2

before_if : (P : Place) (u : Bdu) → (not u.more && any (drop (suc u.bsn) P.pieces)) ≡ true → BeforeHeld P u
before_if P u e =
    let p = and_parts (not u.more) (any (drop (suc u.bsn) P.pieces)) e in
    let r = any_one (drop (suc u.bsn) P.pieces) p.1 in
    (not-true u.more p.0, (suc u.bsn + r.0, omega arith, sym (ap is_some (get_or-drop (suc u.bsn) P.pieces r.0 None)) ∙ r.1))

before_from : (P : Place) (u : Bdu) → BeforeHeld P u → (not u.more && any (drop (suc u.bsn) P.pieces)) ≡ true
before_from P u h =
    let b : ℕ = h.1.0 in
    let l : u.bsn < b = h.1.1 in
    let d : ℕ = b - suc u.bsn in
    let at : suc u.bsn + d ≡ b = omega arith in
    and_from (not u.more) _ (not_from_false u.more h.0)
    (any_from (drop (suc u.bsn) P.pieces) d (ap is_some (get_or-drop (suc u.bsn) P.pieces d None ∙ ap (λ k. get_or P.pieces k None) at) ∙ h.1.2))

contradicts_if : (P : Place) (u : Bdu) → contradicts P u ≡ true → Contradicts P u
contradicts_if P u e =
    ⊎_elim inl (λ x. inr (⊎_elim (λ y. inl (past_if P u P.last refl y)) (λ y. inr (before_if P u y)) (or_cases (past_last P.last u) _ x)))
    (or_cases (is_some (get_or P.pieces u.bsn None)) _ e)

contradicts_not : (P : Place) (u : Bdu) → contradicts P u ≡ false → Contradicts P u → ⊥
contradicts_not P u e h =
    both_ways (contradicts P u) e
    (⊎_elim
    (λ x. or_left (is_some (get_or P.pieces u.bsn None)) _ x)
    (λ x. or_right (is_some (get_or P.pieces u.bsn None)) _ (⊎_elim (λ y. or_left (past_last P.last u) _ (past_from P u y)) (λ y. or_right (past_last P.last u) _ (before_from P u y)) x))
    h)

module _ (V : Receiving) (n : ℕ) (u : Bdu) (now : ℕ) where
  abbrev P' : Place
  P' = added (place V u) u now

  refuses_7 : (Awaits V n → ⊥) → Answers V n u now (Answer.Refused 7) V
  refuses_7 h =
      record {
        not_awaited = (λ _. h, λ _. refl);
        contradicting = (λ e. never (cc), λ x. absurd (h x.0));
        whole = λ q rn octets. (λ e. never (cc), λ x. absurd (h x.0.0));
        held = (λ e. never (cc), λ x. absurd (h x.0.0));
        refused = λ number e. (inl (cc), refl);
      }

  refuses_8 : Awaits V n → Contradicts (place V u) u → Answers V n u now (Answer.Refused 8) V
  refuses_8 h k =
      record {
        not_awaited = (λ e. never (cc), λ x. absurd (x h));
        contradicting = (λ _. (h, k), λ _. refl);
        whole = λ q rn octets. (λ e. never (cc), λ x. absurd (x.0.1 k));
        held = (λ e. never (cc), λ x. absurd (x.0.1 k));
        refused = λ number e. (inr (cc), refl);
      }

  takes : Awaits V n → (Contradicts (place V u) u → ⊥) → (W : Receiving) (o : Option (List ℕ)) → packet P' ≡ o → Answers V n u now (settled W u P' o).0 (settled W u P' o).1
  takes h k W None s =
      record {
        not_awaited = (λ e. never (cc), λ x. absurd (x h));
        contradicting = (λ e. never (cc), λ x. absurd (k x.1));
        whole = λ q rn octets. (λ e. never (cc), λ x. never (let y = x.3 in cc));
        held = (λ _. ((h, k), s), λ _. refl);
        refused = λ number e. never (cc);
      }
  takes h k W (Some xs) s =
      record {
        not_awaited = (λ e. never (cc), λ x. absurd (x h));
        contradicting = (λ e. never (cc), λ x. absurd (k x.1));
        whole = λ q rn octets. (λ e. ((h, k), (cc), (cc), (cc)), λ x. let y = x.1 in let z = x.2 in let w = x.3 in cc);
        held = (λ e. never (cc), λ x. never (let y = x.1 in cc));
        refused = λ number e. never (cc);
      }

pub bring_answers : BringAnswers
bring_answers V n u now =
    let P : Place = added (place V u) u now in
    let taken : Answer × Receiving = settled (received n V) u P (packet P) in
    cond_both (awaited V n) (cond (contradicts (place V u) u) (Answer.Refused 8, V) taken) (Answer.Refused 7, V) (λ x. Answers V n u now x.0 x.1)
    (λ a.
    cond_both (contradicts (place V u) u) (Answer.Refused 8, V) taken (λ x. Answers V n u now x.0 x.1)
    (λ c. refuses_8 V n u now (awaits_if V n a) (contradicts_if (place V u) u c))
    (λ c. takes V n u now (awaits_if V n a) (contradicts_not (place V u) u c) (received n V) (packet P) refl))
    (λ a. refuses_7 V n u now (awaits_not V n a))
