-- The ledger of one direction of the link under one log-on: what both halves and the lanes between them hold.
-- Numbers, slots and packets are counted absolutely, from 0, and never wrap.
use Rattle.std.specs.Prelude.{◌≡◌, ℕ, ◌<◌, Bool, true, cond, ◌||◌, List, ◌==◌, nat_lt}

-- what became of an accepted packet at the sending half
pub data Status : Type 0 where
  Pending Confirmed Expired : Status

-- what the sending half thinks of a number
pub data Mark : Type 0 where
  InFlight Acked Returned : Mark

-- what a place holds of one BSN: nothing, or the piece of that BSN of a packet, by the packet's index
pub data Cell : Type 0 where
  Empty : Cell
  From : ℕ → Cell

-- a packet: the place that its Q and RN name, how many pieces, and the slot of its accept
pub record Packet : Type 0 where
  pub key : ℕ
  pub size : ℕ
  pub born : ℕ

-- the last use of a number: a piece of a packet, the slot that it was sent in, and its mark
pub record Use : Type 0 where
  pub packet : ℕ
  pub part : ℕ
  pub slot : ℕ
  pub mark : Mark

-- the sending half. Packets below total are accepted, numbers below used are used
pub record Sender : Type 0 where
  pub live : Bool
  pub total : ℕ
  pub packet : ℕ → Packet
  pub status : ℕ → Status
  pub oldest : ℕ
  pub used : ℕ
  pub sent : ℕ → Use
  pub count : ℕ

-- a place: the slot of its opening, and what it holds
pub record Place : Type 0 where
  pub since : ℕ
  pub holds : ℕ → Cell

-- the receiving half; handed says which packets were handed up
pub record Receiver : Type 0 where
  pub live : Bool
  pub got : ℕ → Bool
  pub place : ℕ → Place
  pub handed : ℕ → Bool

pub record Frame : Type 0 where
  pub number : ℕ
  pub packet : ℕ
  pub part : ℕ
  pub slot : ℕ

-- a report: the oldest number not received, and the flags of numbers above it
pub record Report : Type 0 where
  pub low : ℕ
  pub flag : ℕ → Bool
  pub slot : ℕ

pub record Ledger : Type 0 where
  pub clock : ℕ
  pub tx : Sender
  pub rx : Receiver
  pub frames : List Frame
  pub reports : List Report

-- f with v at n
abbrev pub put : {A : Type 0} → (ℕ → A) → ℕ → A → ℕ → A
put f n v m = cond (m == n) v (f m)

-- the report counts n as received
abbrev pub tells : Report → ℕ → Bool
tells r n = nat_lt n r.low || r.flag n

-- the piece b of packet i was received, under some number
abbrev pub Received : Sender → Receiver → ℕ → ℕ → Type 0
Received T X i b = (n : ℕ) × (n < T.used) × (X.got n ≡ true) × ((T.sent n).packet ≡ i) × ((T.sent n).part ≡ b)

-- what the place of packet i has of the piece b
abbrev pub cell : Ledger → ℕ → ℕ → Cell
cell L i b = (L.rx.place (L.tx.packet i).key).holds b
