-- The sending half by its rules: what it holds, and what each call makes of it. Numbers on the lane are octets, so oldest is below 256.
use Rattle.std.specs.Prelude.{◌≡◌, ℕ, zero, suc, ◌+◌, ◌-◌, ◌*◌, ◌%◌, ◌<◌, ◌≤◌, Bool, true, false, cond, not, ◌&&◌, ◌||◌, ◌⊎◌, List, [], ◌∷◌, ◌++◌, map, length, get_or, drop, replicate, Some, None, nat_le, nat_lt, slice_index, slice_index_or, slice_set}
pub use Rattle.rules.specs.declared.window.BduKey.{BduKey}
pub use Rattle.rules.specs.declared.window.Mark.{Mark}
pub use Rattle.rules.specs.declared.window.Progress.{Progress}
pub use Rattle.rules.specs.declared.window.Standing.{Standing}
use Rattle.frame.specs.Numbers.{advanced, distance}
use Rattle.frame.specs.Packets.{bdus_in, part_at}
use Rattle.rules.specs.Constants.{lifetime, rest, return_age, a_slot, window_size}

-- ## what it holds

-- a packet under its reference number; bdus has eight entries, and those past its last piece say nothing
pub record Outgoing : Type 0 where
  pub standing : Standing
  pub octets : List ℕ
  pub bdus : List Progress

-- window: the nine numbers from oldest on. packets: sixteen, at 4 q + rn. last: the reference number last given under each q
pub record Sending : Type 0 where
  pub oldest : ℕ
  pub window : List Mark
  pub packets : List Outgoing
  pub last : List ℕ

abbrev pub empty : Outgoing
empty = record { standing = Standing.Free; octets = []; bdus = replicate 8 Progress.Waiting }

-- what stands past the last place: nothing
abbrev pub blank : Outgoing
blank = record { standing = Standing.Free; octets = []; bdus = [] }

abbrev pub new : Sending
new = record { oldest = 0; window = replicate window_size Mark.Unused; packets = replicate 16 empty; last = replicate 4 3 }

-- the entry k of the window; past the window there are only unused numbers
abbrev pub mark : Sending → ℕ → Mark
mark S k = slice_index_or S.window k Mark.Unused

-- the packet at the place p = 4 q + rn
abbrev pub packet : Sending → ℕ → Outgoing
packet S p = slice_index_or S.packets p blank

abbrev pub place : BduKey → ℕ
place b = 4 * b.q + b.rn

-- how many BDUs the octets of a packet make, and the octets of one
abbrev pub pieces : List ℕ → ℕ
pieces octets = bdus_in (length octets)

abbrev pub piece : List ℕ → ℕ → List ℕ
piece octets bsn = part_at octets bsn

-- the least k below n that passes the test; n if none does
abbrev pub first : ℕ → (ℕ → Bool) → ℕ
first zero test = 0
first (suc n) test = cond (test 0) 0 (suc (first n (λ k. test (suc k))))

-- ## accept

abbrev pub is_free : Standing → Bool
is_free Standing.Free = true
is_free (Standing.Pending since) = false
is_free (Standing.Resting until) = false

-- the reference number k + 1 steps after the one last given under q, going round
abbrev pub turn : Sending → ℕ → ℕ → ℕ
turn S q k = (slice_index S.last q + 1 + k) % 4

-- how many reference numbers are passed over before the first free one; 4: none is free, and the packet is refused
abbrev pub passed : Sending → ℕ → ℕ
passed S q = first 4 (λ k. is_free (packet S (4 * q + turn S q k)).standing)

-- the packet is pending under rn, and its BDUs wait
abbrev pub accepted : ℕ → ℕ → List ℕ → ℕ → Sending → Sending
accepted q rn octets now S = record {
  oldest = S.oldest;
  window = S.window;
  packets = slice_set S.packets (4 * q + rn) (record { standing = Standing.Pending now; octets = octets; bdus = replicate 8 Progress.Waiting });
  last = slice_set S.last q rn;
}

-- ## send

-- the BDU b waits, of a packet accepted in the slot since
abbrev pub Waits : Sending → BduKey → ℕ → Type 0
Waits S b since = record {
  q : b.q < 4;
  rn : b.rn < 4;
  eight : b.bsn < 8;
  bsn : b.bsn < pieces (packet S (place b)).octets;
  pending : (packet S (place b)).standing ≡ Standing.Pending since;
  waits : get_or (packet S (place b)).bdus b.bsn Progress.Waiting ≡ Progress.Waiting;
}

-- b goes before c: highest q, then earliest accept, then smallest rn, then smallest bsn
abbrev pub Before : BduKey → ℕ → BduKey → ℕ → Type 0
Before b s c t = (c.q < b.q) ⊎ ((c.q ≡ b.q) × ((s < t) ⊎ ((s ≡ t) × ((b.rn < c.rn) ⊎ ((b.rn ≡ c.rn) × (b.bsn ≤ c.bsn))))))

-- b is the BDU to send: it waits, and goes before all that wait
abbrev pub Next : Sending → BduKey → ℕ → Type 0
Next S b since = record {
  here : Waits S b since;
  best : (c : BduKey) (t : ℕ) → Waits S c t → Before b since c t;
}

abbrev pub Idle : Sending → Type 0
Idle S = (b : BduKey) (since : ℕ) → Waits S b since → ⊥

abbrev pub is_open : Mark → Bool
is_open Mark.Unused = true
is_open (Mark.OnItsWay slot bdu) = false
is_open Mark.Acknowledged = false
is_open Mark.Returned = true

-- where in the window the first unused or returned number is; 9: nowhere
abbrev pub opening : Sending → ℕ
opening S = first window_size (λ k. is_open (mark S k))

-- the BDU b of the packets goes on to v
abbrev pub moved : BduKey → Progress → List Outgoing → List Outgoing
moved b v ps =
    let o : Outgoing = get_or ps (place b) blank in
    slice_set ps (place b) (record { standing = o.standing; octets = o.octets; bdus = slice_set o.bdus b.bsn v })

-- b went under the entry k of the window
abbrev pub sent : BduKey → ℕ → ℕ → Sending → Sending
sent b k now S = record {
  oldest = S.oldest;
  window = slice_set S.window k (Mark.OnItsWay now (Some b));
  packets = moved b Progress.OnItsWay S.packets;
  last = S.last;
}

-- what a call of send answers: the number, the BDU, whether more follow (M), and its octets
pub data Answer : Type 0 where
  NoneIdle NoneFull NoneShut : Answer
  Sent : ℕ → BduKey → Bool → List ℕ → Answer

-- the answer, and the half after it, of a send in the slot now after count data frames of that slot
abbrev pub Sends : ℕ → ℕ → Sending → Answer → Sending → Type 0
Sends now count S Answer.NoneIdle S' = Idle S × (S' ≡ S)
Sends now count S Answer.NoneFull S' = (Idle S → ⊥) × (a_slot ≤ count) × (S' ≡ S)
Sends now count S Answer.NoneShut S' = (Idle S → ⊥) × (count < a_slot) × (opening S ≡ window_size) × (S' ≡ S)
Sends now count S (Answer.Sent number b more octets) S' =
    ((since : ℕ) × Next S b since) × (count < a_slot) × (opening S < window_size)
    × (number ≡ advanced S.oldest (opening S))
    × (more ≡ nat_lt (b.bsn + 1) (pieces (packet S (place b)).octets))
    × (octets ≡ piece (packet S (place b)).octets b.bsn)
    × (S' ≡ sent b (opening S) now S)

-- ## a report of R with the flags of R + 1 to R + 8

-- how far the report's R lies ahead of the oldest number not acknowledged
abbrev pub gap : ℕ → Sending → ℕ
gap R S = distance S.oldest R

-- the report acknowledges the entry k of the window, or past it, where d is the distance
abbrev pub told : ℕ → (ℕ → Bool) → ℕ → Bool
told d flag k = nat_lt k d || (nat_lt d k && (nat_le k (d + 8) && flag (k - d - 1)))

-- a report may acknowledge it
abbrev pub was_sent : Mark → Bool
was_sent Mark.Unused = false
was_sent (Mark.OnItsWay slot bdu) = true
was_sent Mark.Acknowledged = true
was_sent Mark.Returned = false

-- the report is refused
abbrev pub Refused : ℕ → (ℕ → Bool) → Sending → Type 0
Refused R flag S = (window_size < gap R S) ⊎ ((k : ℕ) × (told (gap R S) flag k ≡ true) × (was_sent (mark S k) ≡ false))

-- sent two slots ago or more
abbrev pub is_old : ℕ → Mark → Bool
is_old now Mark.Unused = false
is_old now (Mark.OnItsWay slot bdu) = nat_le (slot + return_age) now
is_old now Mark.Acknowledged = false
is_old now Mark.Returned = false

-- what becomes of a mark, whether told and whether old
abbrev pub judged : Mark → Bool → Bool → Mark
judged Mark.Unused tell old = Mark.Unused
judged (Mark.OnItsWay slot bdu) true old = Mark.Acknowledged
judged (Mark.OnItsWay slot bdu) false true = Mark.Returned
judged (Mark.OnItsWay slot bdu) false false = Mark.OnItsWay slot bdu
judged Mark.Acknowledged tell old = Mark.Acknowledged
judged Mark.Returned tell old = Mark.Returned

-- what becomes of its BDU
abbrev pub credited : Mark → Bool → Bool → List Outgoing → List Outgoing
credited Mark.Unused tell old ps = ps
credited (Mark.OnItsWay slot None) tell old ps = ps
credited (Mark.OnItsWay slot (Some b)) true old ps = moved b Progress.Acknowledged ps
credited (Mark.OnItsWay slot (Some b)) false true ps = moved b Progress.Waiting ps
credited (Mark.OnItsWay slot (Some b)) false false ps = ps
credited Mark.Acknowledged tell old ps = ps
credited Mark.Returned tell old ps = ps

-- all marks, and the packets after all of them
abbrev pub judge : (ℕ → Bool) → ℕ → List Mark → List Mark
judge tell now [] = []
judge tell now (m ∷ ms) = judged m (tell 0) (is_old now m) ∷ judge (λ k. tell (suc k)) now ms

abbrev pub credit : (ℕ → Bool) → ℕ → List Mark → List Outgoing → List Outgoing
credit tell now [] ps = ps
credit tell now (m ∷ ms) ps = credit (λ k. tell (suc k)) now ms (credited m (tell 0) (is_old now m) ps)

abbrev pub is_acknowledged : Mark → Bool
is_acknowledged Mark.Unused = false
is_acknowledged (Mark.OnItsWay slot bdu) = false
is_acknowledged Mark.Acknowledged = true
is_acknowledged Mark.Returned = false

-- how many entries at the front are acknowledged
abbrev pub lead : List Mark → ℕ
lead ms = first window_size (λ k. not (is_acknowledged (slice_index_or ms k Mark.Unused)))

abbrev pub is_acked : Progress → Bool
is_acked Progress.Waiting = false
is_acked Progress.OnItsWay = false
is_acked Progress.Acknowledged = true

abbrev pub is_pending : Standing → Bool
is_pending Standing.Free = false
is_pending (Standing.Pending since) = true
is_pending (Standing.Resting until) = false

-- a pending packet with all BDUs acknowledged
abbrev pub is_whole : Outgoing → Bool
is_whole o = is_pending o.standing && nat_le (pieces o.octets) (first (pieces o.octets) (λ b. not (is_acked (slice_index_or o.bdus b Progress.Waiting))))

abbrev pub closed : Outgoing → Outgoing
closed o = record { standing = cond (is_whole o) Standing.Free o.standing; octets = o.octets; bdus = o.bdus }

-- the places, from i on, of the packets that pass a test
abbrev pub places : (Outgoing → Bool) → ℕ → List Outgoing → List ℕ
places test i [] = []
places test i (o ∷ os) = cond (test o) (i ∷ places test (suc i) os) (places test (suc i) os)

-- the window and the packets with their BDUs judged, before the window moves and packets are confirmed
abbrev pub verdicts : ℕ → (ℕ → Bool) → ℕ → Sending → List Mark
verdicts R flag now S = judge (told (gap R S) flag) now S.window

abbrev pub credits : ℕ → (ℕ → Bool) → ℕ → Sending → List Outgoing
credits R flag now S = credit (told (gap R S) flag) now S.window S.packets

-- the half after the report, and the places of the packets that it confirms
abbrev pub heard : ℕ → (ℕ → Bool) → ℕ → Sending → Sending
heard R flag now S =
    let ms : List Mark = verdicts R flag now S in
    record {
      oldest = advanced S.oldest (lead ms);
      window = drop (lead ms) ms ++ replicate (lead ms) Mark.Unused;
      packets = map closed (credits R flag now S);
      last = S.last;
    }

abbrev pub confirmed : ℕ → (ℕ → Bool) → ℕ → Sending → List ℕ
confirmed R flag now S = places is_whole 0 (credits R flag now S)

-- ## a slot

-- a packet that expires in the slot now or before
abbrev pub is_late : ℕ → Standing → Bool
is_late now Standing.Free = false
is_late now (Standing.Pending since) = nat_le (since + lifetime) now
is_late now (Standing.Resting until) = false

abbrev pub rested : ℕ → ℕ → Standing
rested now until = cond (nat_le until now) Standing.Free (Standing.Resting until)

abbrev pub aged : ℕ → Standing → Standing
aged now Standing.Free = Standing.Free
aged now (Standing.Pending since) = cond (nat_le (since + lifetime) now) (rested now (since + rest)) (Standing.Pending since)
aged now (Standing.Resting until) = rested now until

abbrev pub older : ℕ → Outgoing → Outgoing
older now o = record { standing = aged now o.standing; octets = o.octets; bdus = o.bdus }

-- a number on its way loses the BDU of a packet that expires
abbrev pub left : ℕ → List Outgoing → Mark → Mark
left now ps Mark.Unused = Mark.Unused
left now ps (Mark.OnItsWay slot None) = Mark.OnItsWay slot None
left now ps (Mark.OnItsWay slot (Some b)) = Mark.OnItsWay slot (cond (is_late now (get_or ps (place b) blank).standing) None (Some b))
left now ps Mark.Acknowledged = Mark.Acknowledged
left now ps Mark.Returned = Mark.Returned

abbrev pub slotted : ℕ → Sending → Sending
slotted now S = record {
  oldest = S.oldest;
  window = map (left now S.packets) S.window;
  packets = map (older now) S.packets;
  last = S.last;
}

-- the places of the packets that expire
abbrev pub expired : ℕ → Sending → List ℕ
expired now S = places (λ o. is_late now o.standing) 0 S.packets
