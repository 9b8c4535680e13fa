-- Why each rule is needed: with one of them changed, or with delays of two slots in all, some run of the two ends breaks the law.
use Rattle.std.specs.Prelude.{◌≡◌, ℕ, ◌+◌, Bool, cond, List, map, nat_lt}
use Rattle.rules.specs.declared.window.Standing.{Standing}
use Rattle.rules.specs.Sending.{Sending, slotted}
use Rattle.law.specs.Log.{End, Answer, Log}
use Rattle.law.specs.Laws.{Laws}
use Rattle.law.specs.World.{World}
use Rattle.law.specs.WorldSteps.{Rules, Reached}
use Rattle.law.specs.LinkRuns.{Sender, Hears, Ticks, rules}

-- some run under these rules and delays has a log that is wrong
abbrev pub Breaks : Rules Sender → (End → ℕ) → Type 0
Breaks rules' delay = (W : World Sender) × (log : Log) × Reached Sender rules' delay W log × (Laws log → ⊥)

-- the rules of the link, but for how a report is heard and how a slot goes; `but Hears Ticks` is `rules`
abbrev pub but : (Sender → ℕ → ℕ → List Bool → Answer → Sender → Type 0) → (Sender → ℕ → ℕ → Sender → Type 0) → Rules Sender
but hears ticks = record {
  Fresh = rules.Fresh;
  Accepts = rules.Accepts;
  Sends = rules.Sends;
  Hears = hears;
  Ticks = ticks;
  oldest = rules.oldest;
  acknowledged = rules.acknowledged;
}

-- the delay of the ground's lane, and that of the air's
abbrev pub delays : ℕ → ℕ → End → ℕ
delays of_ground of_air End.Ground = of_ground
delays of_ground of_air End.Air = of_air

-- the delays of both lanes together are one slot at most: with one slot each, the rules as they are confirm a packet that was never handed up
abbrev pub DelaysTwo : Type 0
DelaysTwo = Breaks rules (delays 1 1)

-- a report returns a number two slots after its sending: a report that is heard as if it were one slot later returns it after one
abbrev pub hears_early : Sender → ℕ → ℕ → List Bool → Answer → Sender → Type 0
hears_early s now = Hears s (now + 1)

abbrev pub ReturnedAfterOne : Type 0
ReturnedAfterOne = Breaks (but hears_early Ticks) (delays 1 0)

-- a slot that makes this of the sending half
pub record TicksBy (step : ℕ → Sending → Sending) (s : Sender) (now c : ℕ) (s' : Sender) : Type 0 where
  pub half : s'.half ≡ step c s.half
  pub count : s'.count ≡ cond (nat_lt now c) 0 s.count

-- the reference number of a packet that expired rests: here it is free at once
abbrev pub restless : Standing → Standing
restless Standing.Free = Standing.Free
restless (Standing.Pending since) = Standing.Pending since
restless (Standing.Resting until) = Standing.Free

abbrev pub slotted_free : ℕ → Sending → Sending
slotted_free now S = record {
  oldest = S.oldest;
  window = (slotted now S).window;
  packets = map (λ o. record { standing = restless o.standing; octets = o.octets; bdus = o.bdus }) (slotted now S).packets;
  last = S.last;
}

abbrev pub FreeAtExpiry : Type 0
FreeAtExpiry = Breaks (but Hears (TicksBy slotted_free)) (delays 0 0)

-- a number on its way loses the BDU of a packet that expires: here it keeps it
abbrev pub slotted_kept : ℕ → Sending → Sending
slotted_kept now S = record { oldest = S.oldest; window = S.window; packets = (slotted now S).packets; last = S.last }

abbrev pub KeepsItsBdu : Type 0
KeepsItsBdu = Breaks (but Hears (TicksBy slotted_kept)) (delays 0 0)
