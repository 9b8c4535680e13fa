-- A receiving half that takes packets of one BDU one after the other.
use Rattle.std.proofs.Common.{◌≡◌, ℕ, ◌+◌, ◌%◌, ◌<◌, true, false, cond, not, ◌&&◌, ltb, List, [], ◌∷◌, length, get_or, set, replicate, Some, None, Option, Ok, Err, Result, sym, ap, ◌∙◌, subst, arith}
use Rattle.frame.specs.Numbers.{distance}
use Rattle.rules.specs.Ends.{Rows, refused_by}
use Rattle.rules.specs.Receiving.{Bdu, Receiving, Answer, empty, window, moved, contradicts, place, settled, added, packet, bring}
use Rattle.rules.specs.declared.fault.EndFault.{EndFault}
use Rattle.rules.specs.declared.fault.EndFault.TheVariants as fault
use Rattle.receiver.specs.Receivers.{take_rows, Takes}
use Rattle.receiver.specs.declared.receiver.HandUp.{HandUp}

-- the one BDU of a packet of the octet 65
abbrev pub short : Bdu
short = record { q = 2; rn = 0; more = false; bsn = 0; octets = 65 ∷ [] }

-- a half that has received all numbers up to k
abbrev pub clean : ℕ → Receiving
clean k = record { oldest = k; flags = replicate 8 false; places = replicate 16 empty }

-- a half that has R 255 and has received 0
abbrev pub ahead : Receiving
ahead = record { oldest = 255; flags = true ∷ replicate 7 false; places = replicate 16 empty }

-- a BDU that comes d numbers behind R
abbrev brought : Receiving → ℕ → Bdu → ℕ → Answer × Receiving
brought V d u now =
    cond (ltb d 9 && not (get_or (window V) d false))
    (cond (contradicts (place V u) u) (Answer.Refused 8, V) (settled (moved (set (window V) d true) V) u (added (place V u) u now) (packet (added (place V u) u now))))
    (Answer.Refused 7, V)

pub next_one : (k : ℕ) → k < 255 → bring (clean k) k short 10 ≡ (Answer.Packet 2 0 (65 ∷ []), clean (k + 1))
next_one k l =
    let none : distance k k ≡ 0 = omega arith in
    let more : (k + 1) % 256 ≡ k + 1 = omega arith in
    ap (λ d. brought (clean k) d short 10) none ∙ ap (λ x. (Answer.Packet 2 0 (65 ∷ []), clean x)) more

pub next_clear : (k room : ℕ) → k < 255 → room ≡ 424 → refused_by (take_rows (clean k) k short room) ≡ None
next_clear k room l e =
    let none : distance k k ≡ 0 = omega arith in
    let rows : ℕ → ℕ → Rows = λ r d. (ltb r 424, fault.Buffer) ∷ (not (ltb d 9 && not (get_or (window (clean k)) d false)), fault.Number) ∷ (contradicts (place (clean k) short) short, fault.Contradiction) ∷ [] in
    ap (λ r. refused_by (rows r (distance k k))) e ∙ ap (λ d. refused_by (rows 424 d)) none

pub in_room : (V : Receiving) (n room : ℕ) → room ≡ 424 → refused_by (take_rows V n short 424) ≡ None → refused_by (take_rows V n short room) ≡ None
in_room V n room e clear = ap (λ r. refused_by (take_rows V n short r)) e ∙ clear

-- take at a half that is known
pub takes : (n n0 now : ℕ) (u u0 : Bdu) (V V0 V' V1 : Receiving) (buffer after : List ℕ) (r : Result (Option HandUp) EndFault) (q rn : ℕ) (octets : List ℕ) → V ≡ V0 → n ≡ n0 → u ≡ u0
    → Takes V n u now buffer r V' after → refused_by (take_rows V0 n0 u0 (length buffer)) ≡ None → bring V0 n0 u0 now ≡ (Answer.Packet q rn octets, V1) → V' ≡ V1
takes n n0 now u u0 V V0 V' V1 buffer after r q rn octets v m e t clear known =
    go r (subst (λ x. Takes V0 n0 x now buffer r V' after) e (subst (λ x. Takes V0 x u now buffer r V' after) m (subst (λ x. Takes x n u now buffer r V' after) v t)))
  where
    go : (r : Result (Option HandUp) EndFault) → Takes V0 n0 u0 now buffer r V' after → V' ≡ V1
    go (Ok None) t = ap (λ x. x.1) (sym t.1.0 ∙ known)
    go (Ok (Some up)) t = ap (λ x. x.1) (sym t.1.1 ∙ known)
    go (Err f) t = absurd (let z : ◌≡◌ {A = ℕ} 0 1 = (let w = sym clear ∙ t.0 in cc) in omega arith)
