-- Sets of packets, listed by Q and then RN.
use Rattle.std.specs.Prelude.{ℕ, suc, Bool, true, false, cond, List, [], ◌∷◌}
use Rattle.sender.specs.declared.set.PacketSet.{PacketSet}
use Rattle.rules.specs.Ends.{named}
use Rattle.rules.specs.Members.{Among}

-- the places, from i on, that are marked
abbrev pub marked : ℕ → List Bool → List ℕ
marked i [] = []
marked i (b ∷ bs) = cond b (i ∷ marked (suc i) bs) (marked (suc i) bs)

-- the places, 4 times Q and RN, of a set's packets
abbrev pub places_in : PacketSet → List ℕ
places_in s = marked 0 s.marks

-- Q and RN of each packet of a set
abbrev pub packets_in : PacketSet → List (ℕ × ℕ)
packets_in s = named (places_in s)

-- the answer to whether x is among these
abbrev pub Contains : {A : Type 0} → List A → A → Bool → Type 0
Contains xs x true = Among x xs
Contains xs x false = Among x xs → ⊥
