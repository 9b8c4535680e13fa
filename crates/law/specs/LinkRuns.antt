-- Runs of two ends with the halves of the rules, and the law of the link for all of them.
use Rattle.std.specs.Prelude.{◌≡◌, ℕ, ◌+◌, ◌/◌, ◌%◌, ◌<◌, ◌≤◌, Bool, false, cond, List, map, length, nat_lt, slice_index_or}
use Rattle.std.specs.List.{range_with_len}
use Rattle.rules.specs.Constants.{packet_room}
use Rattle.rules.specs.Receiving.{Bdu}
use Rattle.rules.specs.Sending.{Sending, new, mark, turn, passed, accepted, Refused, is_acknowledged, heard, confirmed, slotted}
use Rattle.rules.specs.Sending as half
use Rattle.law.specs.Log.{End, Answer, Log}
use Rattle.law.specs.Laws.{Laws}
use Rattle.law.specs.World.{World}
use Rattle.law.specs.WorldSteps.{Rules, Reached}

-- the sending half of an end, with the count of data frames that the end sent in this slot
pub record Sender : Type 0 where
  pub half : Sending
  pub count : ℕ

-- a packet that is accepted: it has 1 to 424 octets, and rn is the next free reference number under q
pub record Accepts (s : Sender) (now q rn : ℕ) (octets : List ℕ) (s' : Sender) : Type 0 where
  pub priority : q < 4
  pub some : 1 ≤ length octets
  pub most : length octets ≤ packet_room
  pub free : passed s.half q < 4
  pub turn : rn ≡ turn s.half q (passed s.half q)
  pub half : s'.half ≡ accepted q rn octets now s.half
  pub count : s'.count ≡ s.count

-- a data frame that is sent, with its number and its BDU; it counts
pub record Sends (s : Sender) (now number : ℕ) (bdu : Bdu) (s' : Sender) : Type 0 where
  pub half : half.Sends now s.count s.half (half.Answer.Sent number (record { q = bdu.q; rn = bdu.rn; bsn = bdu.bsn }) bdu.more bdu.octets) s'.half
  pub count : s'.count ≡ s.count + 1

-- the flags of a report, by their places
abbrev pub flag : List Bool → ℕ → Bool
flag flags i = slice_index_or flags i false

-- Q and RN of a place
abbrev pub named : ℕ → ℕ × ℕ
named p = (p / 4, p % 4)

-- a report that is heard: it is refused by 7, and nothing changes; or it is not, and the answer lists the packets that it confirms
abbrev pub Hears : Sender → ℕ → ℕ → List Bool → Answer → Sender → Type 0
Hears s now R flags Answer.Held s' = ⊥
Hears s now R flags (Answer.Packet q rn octets) s' = ⊥
Hears s now R flags (Answer.Confirmed ps) s' = record {
  taken : Refused R (flag flags) s.half → ⊥;
  packets : ps ≡ map named (confirmed R (flag flags) now s.half);
  half : s'.half ≡ heard R (flag flags) now s.half;
  count : s'.count ≡ s.count;
}
Hears s now R flags (Answer.Refused n) s' = (n ≡ 7) × Refused R (flag flags) s.half × (s' ≡ s)

-- a slot: the count begins again, if it is a later one
pub record Ticks (s : Sender) (now c : ℕ) (s' : Sender) : Type 0 where
  pub half : s'.half ≡ slotted c s.half
  pub count : s'.count ≡ cond (nat_lt now c) 0 s.count

-- a new sending half may have any count: an end that logs on keeps its count
abbrev pub rules : Rules Sender
rules = record {
  Fresh = λ s. s.half ≡ new;
  Accepts = Accepts;
  Sends = Sends;
  Hears = Hears;
  Ticks = Ticks;
  oldest = λ s. s.half.oldest;
  acknowledged = λ s. map (λ i. is_acknowledged (mark s.half (1 + i))) (range_with_len 0 8);
}

-- every log of every run is right, where delay e is the delay of the lane that the end e sends on
abbrev pub RunsKeepLaws : Type 0
RunsKeepLaws = (delay : End → ℕ) → delay End.Ground + delay End.Air ≤ 1 → (W : World Sender) (log : Log) → Reached Sender rules delay W log → Laws log
