-- The receiving half in code, as the rules see it, and what its calls promise.
use Rattle.std.specs.Prelude.{◌≡◌, ℕ, Bool, not, List, [], ◌∷◌, ◌++◌, length, drop, Some, None, Option, Ok, Err, Result, nat_lt}
use Rattle.frame.specs.Flags.{marks_of, flags_octet}
use Rattle.rules.specs.Constants.{packet_room}
use Rattle.rules.specs.Ends.{Rows, refused_by}
use Rattle.rules.specs.Receiving.{Receiving, Bdu, Answer, awaited, contradicts, place, bring, report}
use Rattle.rules.specs.declared.fault.EndFault.{EndFault}
use Rattle.rules.specs.declared.fault.EndFault.TheVariants as fault
use Rattle.receiver.specs.declared.receiver.HandUp.{HandUp}

-- the refusals of take, in their order
abbrev pub take_rows : Receiving → ℕ → Bdu → ℕ → Rows
take_rows V n u room =
    (nat_lt room packet_room, fault.Buffer) ∷ (not (awaited V n), fault.Number) ∷ (contradicts (place V u) u, fault.Contradiction) ∷ []

-- what becomes of a BDU that is taken: the rule's answer, the half after it, and the buffer after it; none is handed up where the BDU is held
abbrev pub TakenSo : Receiving → ℕ → Bdu → ℕ → List ℕ → Option HandUp → Receiving → List ℕ → Type 0
TakenSo V n u now buffer None V' after = (bring V n u now ≡ (Answer.Held, V')) × (after ≡ buffer)
TakenSo V n u now buffer (Some p) V' after =
    (octets : List ℕ) × (bring V n u now ≡ (Answer.Packet p.packet.q p.packet.rn octets, V')) × (p.len ≡ length octets) × (after ≡ octets ++ drop p.len buffer)

abbrev pub Takes : Receiving → ℕ → Bdu → ℕ → List ℕ → Result (Option HandUp) EndFault → Receiving → List ℕ → Type 0
Takes V n u now buffer (Ok up) V' after = (refused_by (take_rows V n u (length buffer)) ≡ None) × TakenSo V n u now buffer up V' after
Takes V n u now buffer (Err f) V' after = (refused_by (take_rows V n u (length buffer)) ≡ Some f) × (after ≡ buffer)

-- what a report says: R, and the octet with the flags, which comes apart into them again
pub record Says (V : Receiving) (oldest octet : ℕ) : Type 0 where
  pub said : (oldest, marks_of octet) ≡ report V
  pub octet_is : octet ≡ flags_octet V.flags

-- what a half shows: R, and which of the eight numbers behind it are received
pub record ShowsFlags (V : Receiving) (oldest : ℕ) (done : List Bool) : Type 0 where
  pub same_oldest : oldest ≡ V.oldest
  pub same_flags : done ≡ V.flags
