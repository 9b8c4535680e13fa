-- Octets laid one behind the other.
use Rattle.std.proofs.Common.{◌≡◌, ℕ, ◌+◌, List, ◌++◌, length, take, drop, sym, ap, ◌∙◌, arith, drop-drop}
use Rattle.std.proofs.lemmas.List.{take_at, drop_at, append_assoc}
use Rattle.rules.specs.Octets.{over}

pub over_next : (m0 m front part : List ℕ) (at : ℕ) → length front ≡ at → m ≡ front ++ drop at m0 → over m at part ≡ (front ++ part) ++ drop (at + length part) m0
over_next m0 m front part at n e =
    let t : take at m ≡ front = ap (take at) e ∙ take_at front (drop at m0) at n in
    let d : drop (at + length part) m ≡ drop (at + length part) m0 =
    ap (λ k. drop k m) (omega arith) ∙ sym (drop-drop (length part) at m) ∙ ap (drop (length part)) (ap (drop at) e ∙ drop_at front (drop at m0) at n)
    ∙ drop-drop (length part) at m0 ∙ ap (λ k. drop k m0) (omega arith) in
    ap (λ x. x ++ (part ++ drop (at + length part) m)) t ∙ ap (λ x. front ++ (part ++ x)) d ∙ sym (append_assoc front part (drop (at + length part) m0))
