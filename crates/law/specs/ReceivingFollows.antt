-- The rules of the receiving half are the ledger's steps.
use Rattle.std.specs.Prelude.{◌≡◌, ℕ, ◌+◌, ◌/◌, ◌%◌, ◌<◌, ◌≤◌, Bool, true, false, ◌⊎◌, List, ◌∷◌, length, slice_index_or}
use Rattle.rules.specs.Members.{Among}
use Rattle.law.specs.Ledger.{Status, Mark, Packet, Frame, Report, Ledger, put}
use Rattle.law.specs.Steps.{fresh, ticked, accepted, sending, Comes, Full, Opens, landed, handed_up, Lowest, reported, marked, lost, sender_left, Run}
use Rattle.rules.specs.Receiving.{Receiving, Answer, new, bring, slot, report}
use Rattle.law.specs.ReceivingTie.{Body, Tied, carried}

-- what comes of the frame f: its number was received before; or its BDU is held, which is the ledger's land; or its packet is handed up with the octets
-- that were accepted, which is the ledger's hand. 8 does not occur
abbrev pub Follows : ℕ → Receiving → Ledger → (ℕ → List ℕ) → Frame → Answer × Receiving → Type 0
Follows d1 V L bodies f r =
    ((L.rx.got f.number ≡ true) × (r ≡ (Answer.Refused 7, V)))
    ⊎ (((r.0 ≡ Answer.Held) × Comes d1 L f × (Full L f → ⊥) × ((o : ℕ) × Opens L f o × Tied r.1 (landed f o L) bodies))
    ⊎ ((r.0 ≡ Answer.Packet ((L.tx.packet f.packet).key / 4) ((L.tx.packet f.packet).key % 4) (bodies f.packet))
    × Comes d1 L f
    × Full L f
    × Tied r.1 (handed_up f L) bodies))

-- the values are those of the ledger's report r
abbrev pub Tells : ℕ × List Bool → Report → Type 0
Tells values r = record {
  oldest : values.0 ≡ r.low % 256;
  eight : length values.1 ≡ 8;
  flags : (i : ℕ) → i < 8 → slice_index_or values.1 i false ≡ r.flag (r.low + 1 + i);
  within : (n : ℕ) → r.flag n ≡ true → (r.low < n) × (n ≤ r.low + 8);
}

abbrev pub ReceivingFollows : Type 0
ReceivingFollows = record {
  starts : (c : ℕ) (bodies : ℕ → List ℕ) → Tied new (fresh c) bodies;
  brings : (d1 d2 : ℕ) → d1 + d2 ≤ 1 → (V : Receiving) (L : Ledger) (bodies : ℕ → List ℕ) → Run d1 d2 L → Tied V L bodies
      → (f : Frame) → L.rx.live ≡ true → Among f L.frames → L.clock ≤ f.slot + d1
      → Follows d1 V L bodies f (bring V (f.number % 256) (carried L bodies f) L.clock);
  slots : (V : Receiving) (L : Ledger) (bodies : ℕ → List ℕ) → Tied V L bodies → L.rx.live ≡ true → (c : ℕ) (st : ℕ → Status) → Tied (slot c V) (ticked c st L) bodies;
  reports : (V : Receiving) (L : Ledger) (bodies : ℕ → List ℕ) → Tied V L bodies
      → (R : ℕ) × (r : Report) × Lowest L R × ((reported R L).reports ≡ r ∷ L.reports) × Tells (report V) r × Tied V (reported R L) bodies;
  accepts : (d1 d2 : ℕ) → d1 + d2 ≤ 1 → (V : Receiving) (L : Ledger) (bodies : ℕ → List ℕ) → Run d1 d2 L → Tied V L bodies
      → (p : Packet) (octets : List ℕ) → Body p octets → Tied V (accepted p L) (put bodies L.tx.total octets);
  sends : (V : Receiving) (L : Ledger) (bodies : ℕ → List ℕ) → Tied V L bodies → (n i b : ℕ) → Tied V (sending n i b L) bodies;
  hears : (V : Receiving) (L : Ledger) (bodies : ℕ → List ℕ) → Tied V L bodies → (mk : ℕ → Mark) (A : ℕ) (st : ℕ → Status) → Tied V (marked mk A st L) bodies;
  loses : (V : Receiving) (L : Ledger) (bodies : ℕ → List ℕ) → Tied V L bodies → (fs : List Frame) (rs : List Report) → Tied V (lost fs rs L) bodies;
  sender_leaves : (V : Receiving) (L : Ledger) (bodies : ℕ → List ℕ) → Tied V L bodies → Tied V (sender_left L) bodies;
  -- while no data of the log-on comes, slots leave a new half new
  idles : (L : Ledger) (bodies : ℕ → List ℕ) → Tied new L bodies → L.rx.live ≡ true → (c : ℕ) (st : ℕ → Status) → Tied new (ticked c st L) bodies;
  least : (d1 d2 : ℕ) → d1 + d2 ≤ 1 → (L : Ledger) → Run d1 d2 L → (R : ℕ) × Lowest L R;
}
