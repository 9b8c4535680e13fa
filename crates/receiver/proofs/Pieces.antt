-- What is held of a packet's BDUs, counted and joined one by one.
use Rattle.std.proofs.Common.{MatchResult, cond, set, Result, Ok, Err, ◌≡◌, ℕ, suc, ◌+◌, ◌<◌, ◌≤◌, true, false, List, [], ◌∷◌, ◌++◌, map, length, take, drop, get_or, replicate, is_some, Some, None, Option, sym, refl, ap, ◌∙◌, arith}
use Rattle.std.proofs.lemmas.List.{append_assoc, length-map, map-set, drop-map, take-map, take_more}
use Rattle.arrayvec.specs.ArrayVec.{ArrayVec}
use Rattle.std.specs.List.{list_any, list_all}
use Rattle.std.specs.Result.{result_ok}
use Rattle.receiver.specs.declared.place.Place.{Place}
use Rattle.receiver.specs.Places.{piece_of, place_of, joined}
use Rattle.rules.specs.Receiving.{Bdu, any, added, before, gathered, packet_to}

-- what is read behind the end of a row of places
abbrev pub nowhere : Place
nowhere = record { opened = 0; last = None; pieces = [] }

-- a BDU that is put in: it has room
pub put_is : {E : Type 0} (r : Result (ArrayVec ℕ) E) (xs : List ℕ) → MatchResult r (λ v. (v.items ≡ xs) × (length xs ≤ 53)) (λ _. 53 < length xs) → length xs ≤ 53 → piece_of (result_ok r) ≡ Some xs
put_is (Ok octets) xs fits l = ap Some fits.0
put_is (Err e) xs fits l = absurd (omega arith)

-- a place with a BDU, step by step: the first one opens it, the last one is known, and the octets are put in
pub added_is : (old opened ended : Place) (put : Option (ArrayVec ℕ)) (u : Bdu) (slot i : ℕ)
    → opened ≡ record { opened = cond (any (map piece_of old.pieces)) old.opened slot; last = old.last; pieces = old.pieces }
    → ended ≡ record { opened = opened.opened; last = cond u.more opened.last (Some u.bsn); pieces = opened.pieces }
    → piece_of put ≡ Some u.octets → i ≡ u.bsn
    → place_of (record { opened = ended.opened; last = ended.last; pieces = set ended.pieces i put }) ≡ added (place_of old) u slot
added_is old opened ended put u slot i o e p j =
    ap (λ x. place_of (record { opened = x.opened; last = x.last; pieces = set x.pieces i put })) e
    ∙ ap (λ x. place_of (record { opened = x.opened; last = cond u.more x.last (Some u.bsn); pieces = set x.pieces i put })) o
    ∙ ap (λ ps. record { opened = cond (any (map piece_of old.pieces)) old.opened slot; pieces = ps; last = cond u.more old.last (Some u.bsn) })
    (map-set piece_of old.pieces i put ∙ ap (set (map piece_of old.pieces) i) p ∙ ap (λ k. set (map piece_of old.pieces) k (Some u.octets)) j)

-- ## some are held

any_held : (ps : List (Option (ArrayVec ℕ))) → list_any is_some ps ≡ any (map piece_of ps)
any_held [] = refl
any_held (None ∷ ps) = any_held ps
any_held (Some octets ∷ ps) = refl

pub any_behind : (n : ℕ) (ps : List (Option (ArrayVec ℕ))) → list_any is_some (drop n ps) ≡ any (drop n (map piece_of ps))
any_behind n ps = any_held (drop n ps) ∙ ap any (sym (drop-map piece_of n ps))

-- ## all are held

before_some : (xs : List ℕ) (o : Option (List ℕ)) → is_some (before xs o) ≡ is_some o
before_some xs None = refl
before_some xs (Some ys) = refl

all_held : (ps : List (Option (ArrayVec ℕ))) → list_all is_some ps ≡ is_some (gathered (map piece_of ps))
all_held [] = refl
all_held (None ∷ ps) = refl
all_held (Some octets ∷ ps) = all_held ps ∙ sym (before_some octets.items (gathered (map piece_of ps)))

pub all_before : (n : ℕ) (ps : List (Option (ArrayVec ℕ))) → list_all is_some (take n ps) ≡ is_some (gathered (take n (map piece_of ps)))
all_before n ps = all_held (take n ps) ∙ ap (λ x. is_some (gathered x)) (sym (take-map piece_of n ps))

-- where all are held, they are gathered as they are joined
before_is : (xs ys : List ℕ) (o : Option (List ℕ)) → o ≡ Some ys → before xs o ≡ Some (xs ++ ys)
before_is xs ys o e = ap (before xs) e

pub gathered_joined : (ps : List (Option (List ℕ))) → is_some (gathered ps) ≡ true → gathered ps ≡ Some (joined ps)
gathered_joined [] e = refl
gathered_joined (None ∷ ps) e = absurd (let z : ◌≡◌ {A = ℕ} 0 1 = cc in omega arith)
gathered_joined (Some xs ∷ ps) e = before_is xs (joined ps) (gathered ps) (gathered_joined ps (sym (before_some xs (gathered ps)) ∙ e))

pub gathered_none : (ps : List (Option (List ℕ))) → is_some (gathered ps) ≡ false → gathered ps ≡ None
gathered_none ps e = none (gathered ps) e
  where
    none : (o : Option (List ℕ)) → is_some o ≡ false → o ≡ None
    none None e = refl
    none (Some xs) e = absurd (let z : ◌≡◌ {A = ℕ} 0 1 = cc in omega arith)

joined_append : (ps qs : List (Option (List ℕ))) → joined (ps ++ qs) ≡ joined ps ++ joined qs
joined_append [] qs = refl
joined_append (None ∷ ps) qs = joined_append ps qs
joined_append (Some xs ∷ ps) qs = ap (λ r. xs ++ r) (joined_append ps qs) ∙ sym (append_assoc xs (joined ps) (joined qs))

-- one BDU more
pub joined_more : (ps : List (Option (List ℕ))) (i : ℕ) → i < length ps → joined (take (i + 1) ps) ≡ joined (take i ps) ++ joined (get_or ps i None ∷ [])
joined_more ps i l = ap joined (take_more ps i None l) ∙ joined_append (take i ps) (get_or ps i None ∷ [])

-- a row of which nothing is held any more
abbrev pub emptied : Option (List ℕ) → Option (List ℕ)
emptied o = None

nones : (ps : List (Option (List ℕ))) → map emptied ps ≡ replicate (length ps) None
nones [] = refl
nones (p ∷ ps) = ap (λ qs. None ∷ qs) (nones ps)

pub all_none : (ps qs : List (Option (ArrayVec ℕ))) → length ps ≡ 8 → map piece_of qs ≡ map emptied (map piece_of ps) → map piece_of qs ≡ replicate 8 None
all_none ps qs eight e = e ∙ nones (map piece_of ps) ∙ ap (λ n. replicate n None) (length-map ps piece_of ∙ eight)

-- the packet of a place, by whether the BDUs up to the last are held
module _ (ps : List (Option (List ℕ))) (last : Option ℕ) (l : ℕ) (is : last ≡ Some l) where
  -- it is gathered from those up to the last
  packet_is : packet_to last ps ≡ gathered (take (l + 1) ps)
  packet_is = ap (λ o. packet_to o ps) is ∙ ap (λ k. gathered (take k ps)) {x = suc l} {y = l + 1} (omega arith)

  -- one is missing: there is no packet
  pub packet_none : is_some (gathered (take (l + 1) ps)) ≡ false → packet_to last ps ≡ None
  packet_none e = packet_is ∙ gathered_none (take (l + 1) ps) e

  -- none is missing: it is all that is held
  pub packet_whole : is_some (gathered (take (l + 1) ps)) ≡ true → packet_to last ps ≡ Some (joined (take (l + 1) ps))
  packet_whole e = packet_is ∙ gathered_joined (take (l + 1) ps) e
