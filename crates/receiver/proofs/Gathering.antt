-- A packet's BDUs laid one behind the other at the front of a buffer.
use Rattle.std.proofs.Common.{◌≡◌, ℕ, ◌+◌, ◌*◌, ◌<◌, ◌≤◌, false, List, [], ◌∷◌, ◌++◌, map, length, get_or, take, drop, Some, None, Option, sym, refl, ap, ◌∙◌, arith, length-append, length-take}
use Rattle.std.proofs.iter.Yields.{fronts}
use Rattle.std.proofs.lemmas.Iterator.{YieldsList, YieldsList-from_slice, YieldsList-from_take}
use Rattle.std.proofs.lemmas.Iterator.Adapters.{YieldsList-from_flatten}
use Rattle.std.proofs.lemmas.Iterator.Consumers.{YieldsList-at}
use Rattle.std.specs.Slice.Iter.{iter_rest}
use Rattle.std.specs.Borrow.{Bor}
use Rattle.std.proofs.lemmas.List.{take_all, take_more, flat_map_more, take-map}
use Rattle.std.specs.List.{flat_map}
use Rattle.std.specs.Option.{option_to_list}
use Rattle.std.specs.Iterator.Adapters.{take_source, take_count, take_steps, flatten_source, flatten_front, flatten_back, flatten_done, flatten_steps, option_iter_item, option_iter_done, option_iter_steps}
use Rattle.arrayvec.specs.ArrayVec.{ArrayVec}
use Rattle.rules.specs.Octets.{over}
use Rattle.receiver.specs.Places.{piece_of, joined}
use Rattle.rules.proofs.Octets.{over_next}

-- ## the BDUs that are held

abbrev pub held : List (Option (ArrayVec ℕ)) → List (ArrayVec ℕ)
held = flat_map option_to_list

-- their octets, one behind the other
abbrev pub octets_of : List (ArrayVec ℕ) → List ℕ
octets_of = flat_map (λ part. part.items)

pub held_joined : (ps : List (Option (ArrayVec ℕ))) → octets_of (held ps) ≡ joined (map piece_of ps)
held_joined [] = refl
held_joined (None ∷ ps) = held_joined ps
held_joined (Some part ∷ ps) = ap (λ r. part.items ++ r) (held_joined ps)

-- there are at most as many as there is room for
pub held_most : (ps : List (Option (ArrayVec ℕ))) → length (held ps) ≤ length ps
held_most [] = omega arith
held_most (None ∷ ps) = omega (arith, held_most ps)
held_most (Some part ∷ ps) = omega (arith, held_most ps)

-- an option that is walked gives its value, if there is one
pub option_gives : {A : Type 0} (o : Option A) (j : _) → option_iter_item j ≡ o → option_iter_done j ≡ false → YieldsList option_iter_steps (λ y. y.now) j (option_to_list o)
option_gives None j is new = record { runs = λ x t s. let e = (rw new at s.1) ∙ is in cc }
option_gives (Some y) j is new = record {
  runs = (
    λ t s. let e = (rw new at s.1) ∙ is in cc,
    λ x t s. (let e = (rw new at s.1) ∙ is in cc, λ x' t' s'. let e = rw s.0 at s'.1 in cc),
  );
}

-- so the first n places, walked one option after the other, give the parts that are held there
pub walk_gives : {becomes : Bor (Option (ArrayVec ℕ)) → _ → Type 0} (n : ℕ) (ps : List (Option (ArrayVec ℕ))) {i t f s : _} → iter_rest i ≡ ps → take_source t ≡ i → take_count t ≡ n
    → flatten_source f ≡ t → flatten_front f ≡ None → flatten_back f ≡ None → flatten_done f ≡ false → s ≡ f
    → ((x : Bor (Option (ArrayVec ℕ))) (j : _) → becomes x j → (option_iter_item j ≡ x.now) × (option_iter_done j ≡ false))
    → YieldsList (flatten_steps (take_steps fronts) becomes option_iter_steps) (λ y. y.now) s (held (take n ps))
walk_gives {becomes} n ps rest source count flat front back done same opens =
    YieldsList-at same (YieldsList-from_flatten becomes option_iter_steps (λ y. y.now) option_to_list (λ x j b. option_gives x.now j (opens x j b).0 (opens x j b).1)
    (YieldsList-at flat (YieldsList-from_take n (YieldsList-at source (YieldsList-from_slice ps rest)) count)) front back done)

-- there are at most eight
pub held_in : (n : ℕ) (ps : List (Option (ArrayVec ℕ))) → length ps ≡ 8 → length (held (take n ps)) ≤ 8
held_in n ps e = omega (arith, held_most (take n ps), length-take n ps)

-- the first k of these parts lie in front, len octets, and behind them the buffer is as it was
pub record Laid (parts : List (ArrayVec ℕ)) (before : List ℕ) (k len : ℕ) (after : List ℕ) : Type 0 where
  pub long : len ≡ length (octets_of (take k parts))
  pub laid : after ≡ octets_of (take k parts) ++ drop len before
  pub most : len ≤ 53 * k

module _ (parts : List (ArrayVec ℕ)) (before : List ℕ) (k len len' : ℕ) (part : ArrayVec ℕ) (after after' : List ℕ) (had : Laid parts before k len after) (given : (k < length parts) × (part ≡ get_or parts k part)) where
  -- the next one is laid behind the others
  pub laid_more : length part.items ≤ 53 → len' ≡ len + length part.items → after' ≡ over after len part.items → Laid parts before (k + 1) len' after'
  laid_more m l o =
      let j : octets_of (take (k + 1) parts) ≡ octets_of (take k parts) ++ part.items =
      ap octets_of (take_more parts k part given.0) ∙ sym (flat_map_more (λ p. p.items) [] (take k parts) (get_or parts k part)) ∙ ap (λ p. octets_of (take k parts) ++ p.items) (sym given.1) in
      record {
        long = let n = length-append (octets_of (take k parts)) part.items in let z = ap length j in omega (arith, had.long);
        laid = o ∙ over_next before after (octets_of (take k parts)) part.items len (sym had.long) had.laid ∙ ap (λ x. x ++ drop (len + length part.items) before) (sym j)
            ∙ ap (λ n. octets_of (take (k + 1) parts) ++ drop n before) (sym l);
        most = omega (arith, had.most);
      }

-- where all are laid, the packet is what is held
pub laid_all : (n : ℕ) (ps : List (Option (ArrayVec ℕ))) (before : List ℕ) (k len : ℕ) (after : List ℕ) → Laid (held (take n ps)) before k len after → k ≡ length (held (take n ps))
    → (len ≡ length (joined (take n (map piece_of ps)))) × (after ≡ joined (take n (map piece_of ps)) ++ drop len before)
laid_all n ps before k len after had past =
    let j : octets_of (take k (held (take n ps))) ≡ joined (take n (map piece_of ps)) =
    ap octets_of (take_all k (held (take n ps)) (omega arith)) ∙ held_joined (take n ps) ∙ ap joined (sym (take-map piece_of n ps)) in
    (had.long ∙ ap length j, had.laid ∙ ap (λ x. x ++ drop len before) j)
