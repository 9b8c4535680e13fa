-- What a put and a take make of the places of a lane, and of the frames that they hold.
use Rattle.std.proofs.Common.{◌≡◌, ℕ, zero, suc, ◌/◌, ◌%◌, ◌<◌, ◌≤◌, ◌==◌, true, false, nat_lt, nat_le, is_none, ◌⊎◌, List, [], ◌∷◌, map, length, get_or, set, Some, None, Option, position, refl, sym, ap, subst, inl, inr, ⊎_elim, arith}
use Rattle.std.specs.List.{position_or_len}
use Rattle.std.proofs.lemmas.Bool.{cond_both, leb-true, ltb-false}
use Rattle.std.proofs.lemmas.List.Quantifiers.{position-Some}
use Rattle.rules.specs.Members.{Among}
use Rattle.channel.specs.Channels.{Underway}
use Rattle.channel.specs.Places.{frame_of, place_of, held, filled, young, spared}
use Rattle.channel.specs.declared.places.Carried.{Carried}

-- ## the frames that are held

-- a put adds at most the frame
pub held_filled : (f : Underway) (ps : List (Option Underway)) (x : Underway) → Among x (held (filled f ps)) → (x ≡ f) ⊎ Among x (held ps)
held_filled f [] x h = absurd h
held_filled f (None ∷ ps) x h = h
held_filled f (Some g ∷ ps) x h = ⊎_elim (λ e. inr (inl e)) (λ m. ⊎_elim inl (λ n. inr (inr n)) (held_filled f ps x m)) h

-- a place that is emptied adds none
held_set : (ps : List (Option Underway)) (k : ℕ) (x : Underway) → Among x (held (set ps k None)) → Among x (held ps)
held_set [] k x h = h
held_set (None ∷ ps) zero x h = h
held_set (Some g ∷ ps) zero x h = inr h
held_set (None ∷ ps) (suc k) x h = held_set ps k x h
held_set (Some g ∷ ps) (suc k) x h = ⊎_elim inl (λ m. inr (held_set ps k x m)) h

pub held_spared : (octet : ℕ) (ps : List (Option Underway)) (x : Underway) → Among x (held (spared octet ps)) → Among x (held ps)
held_spared octet ps x =
    cond_both (octet / 16 % 2 == 0) (set ps (octet % 16) None) ps (λ qs. Among x (held qs) → Among x (held ps)) (λ _. held_set ps (octet % 16) x) (λ _ h. h)

-- a place's frame is one of them
pub held_get : (ps : List (Option Underway)) (k : ℕ) (f : Underway) → get_or ps k None ≡ Some f → Among f (held ps)
held_get [] k f e = cc
held_get (None ∷ ps) zero f e = cc
held_get (Some g ∷ ps) zero f e = inl cc
held_get (None ∷ ps) (suc k) f e = held_get ps k f e
held_get (Some g ∷ ps) (suc k) f e = inr (held_get ps k f e)

-- a frame that is young enough was in the place, and is
pub young_is : (since : ℕ) (o : Option Underway) (f : Underway) → young since o ≡ Some f → (o ≡ Some f) × (since ≤ f.1)
young_is since None f e = cc
young_is since (Some g) f e =
    cond_both (nat_le since g.1) (Some g) None (λ o. o ≡ Some f → (Some g ≡ Some f) × (since ≤ f.1))
    (λ t e. let same : g ≡ f = cc in (e, subst (λ x. since ≤ x.1) same (leb-true since g.1 t)))
    (λ t e. cc) e

-- ## the places in code

-- the first empty one is filled
filled_first : (c : Carried) (ps : List (Option Carried)) (i : ℕ) → i < length ps → is_none (get_or ps i None) ≡ true → ((k : ℕ) → k < i → is_none (get_or ps k None) ≡ false)
    → map place_of (set ps i (Some c)) ≡ filled (frame_of c) (map place_of ps)
filled_first c [] i l t b = absurd (omega arith)
filled_first c (None ∷ ps) zero l t b = refl
filled_first c (Some g ∷ ps) zero l t b = cc
filled_first c (None ∷ ps) (suc i) l t b = let n : true ≡ false = b 0 (omega arith) in cc
filled_first c (Some g ∷ ps) (suc i) l t b = ap (λ qs. Some (frame_of g) ∷ qs) (filled_first c ps i (omega arith) t (λ k m. b (suc k) (omega arith)))

-- without one, the frame is lost
filled_full : (f : Underway) (ps : List (Option Carried)) → length ps ≤ position_or_len is_none ps → filled f (map place_of ps) ≡ map place_of ps
filled_full f [] l = refl
filled_full f (None ∷ ps) l = absurd (omega arith)
filled_full f (Some g ∷ ps) l = ap (λ qs. Some (frame_of g) ∷ qs) (filled_full f ps (omega arith))

pub filled_at : (c : Carried) (ps : List (Option Carried)) (i : ℕ) → position is_none ps ≡ Some i → map place_of (set ps i (Some c)) ≡ filled (frame_of c) (map place_of ps)
filled_at c ps i e = let p = position-Some is_none ps i None e in filled_first c ps i p.0 p.1 p.2

pub filled_none : (f : Underway) (ps : List (Option Carried)) → position is_none ps ≡ None → map place_of ps ≡ filled f (map place_of ps)
filled_none f ps =
    cond_both (nat_lt (position_or_len is_none ps) (length ps)) (Some (position_or_len is_none ps)) None (λ o. o ≡ None → map place_of ps ≡ filled f (map place_of ps))
    (λ t e. cc)
    (λ t e. sym (filled_full f ps (ltb-false (position_or_len is_none ps) (length ps) t)))
