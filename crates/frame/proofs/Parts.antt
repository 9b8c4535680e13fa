-- The parts that a packet is cut into.
use Rattle.std.proofs.Common.{◌≡◌, ℕ, zero, suc, ◌+◌, ◌-◌, ◌*◌, ◌<◌, ◌≤◌, min, List, ◌++◌, length, take, drop, Option, Some, None, MatchOption, Bor, sym, refl, ap, ◌∙◌, ⊎_elim, arith, length-drop, length-take, take-add}
use Rattle.std.proofs.Math.Seq.{take-append_seam}
use Rattle.std.proofs.lemmas.List.{take_all}
use Rattle.std.proofs.lemmas.Bool.{cases_lt}
use Rattle.frame.specs.Packets.{bdus_in, part_at, first_parts, PartCut, PartsJoin}

-- taking as many as there are takes all
pub take_min : (xs : List ℕ) (m n : ℕ) → n ≡ min m (length xs) → take n xs ≡ take m xs
take_min xs m n e =
    ⊎_elim
    (λ l. ap (λ (k : ℕ). take k xs) (omega arith))
    (λ l. take_all n xs (omega arith) ∙ sym (take_all m xs l))
    (cases_lt m (length xs))

-- what is cut off the front of what is left of a packet behind the BDUs before is the BDU
pub next_part : (packet : List ℕ) (bsn : ℕ) (left rest : List ℕ) (r : Option (Bor (List ℕ))) → left ≡ take (length packet - 53 * bsn) (drop (53 * bsn) packet) → 53 * bsn ≤ length packet
    → MatchOption r (length left ≡ 0) (λ x. (left ≡ x.now ++ rest) × (length x.now ≡ min 53 (length left)) × (0 < length left)) → PartCut packet bsn r
next_part packet bsn left rest r same within e = go r e
  where
    whole : left ≡ drop (53 * bsn) packet
    whole = let d = length-drop (53 * bsn) packet in same ∙ take_all (length packet - 53 * bsn) (drop (53 * bsn) packet) (omega arith)

    long : length left ≡ length packet - 53 * bsn
    long = ap length whole ∙ length-drop (53 * bsn) packet

    go : (r : Option (Bor (List ℕ))) → MatchOption r (length left ≡ 0) (λ x. (left ≡ x.now ++ rest) × (length x.now ≡ min 53 (length left)) × (0 < length left)) → PartCut packet bsn r
    go None e = omega (arith, long)
    go (Some x) e =
        let cut = sym (take-append_seam x.now rest) ∙ ap (take (length x.now)) (sym e.0) ∙ take_min left 53 (length x.now) e.1 ∙ ap (take 53) whole in
        let some = e.2 in
        (omega (arith, long), cut, e.1 ∙ ap (min 53) long)

first_parts_lem : (packet : List ℕ) (n : ℕ) → first_parts packet n ≡ take (53 * n) packet
first_parts_lem packet zero = refl
first_parts_lem packet (suc n) =
    ap (λ (x : List ℕ). x ++ part_at packet n) (first_parts_lem packet n) ∙ sym (take-add (53 * n) 53 packet)
    ∙ ap (λ (k : ℕ). take k packet) {x = 53 * n + 53} {y = 53 * suc n} (omega arith)

pub parts_join : PartsJoin
parts_join packet = first_parts_lem packet (bdus_in (length packet)) ∙ take_all (53 * bdus_in (length packet)) packet (omega arith)
