-- Worked examples: small values put through the rules.
use Rattle.std.specs.Prelude.{◌≡◌, ℕ, ◌+◌, Bool, true, false, List, [], ◌∷◌, length, replicate, Some, None, nat_lt, slice_index_or}
use Rattle.frame.specs.declared.header.BduHeader.{BduHeader}
use Rattle.frame.specs.Headers.{header_octet}
use Rattle.rules.specs.Receiving.{Bdu, Receiving, empty, awaited, bring, slot, report}
use Rattle.rules.specs.Receiving as receiving
use Rattle.rules.specs.Sending.{BduKey, Mark, Progress, Standing, Sending, Answer, Sends, new, mark, packet, pieces, piece, turn, passed, accepted, sent, opening, Refused, heard, confirmed, slotted, expired}

-- ## what the examples start from

-- a packet of 54 octets, and the header of its BDU under Q 2 and RN 0
abbrev pub long : List ℕ
long = replicate 54 65

abbrev pub header : ℕ → BduHeader
header bsn = record { rn = 0; q = 2; more = nat_lt (bsn + 1) (pieces long); bsn = bsn }

-- its two BDUs as data frames bring them
abbrev pub front_half : Bdu
front_half = record { q = 2; rn = 0; more = true; bsn = 0; octets = piece long 0 }

abbrev pub back_half : Bdu
back_half = record { q = 2; rn = 0; more = false; bsn = 1; octets = piece long 1 }

-- a receiving half with R 255 and the flag of 0 set
abbrev pub almost_round : Receiving
almost_round = record { oldest = 255; flags = true ∷ replicate 7 false; places = replicate 16 empty }

-- a receiving half to which the second BDU came in slot 10, under the number 1
abbrev pub half_there : Receiving
half_there = (bring receiving.new 1 back_half 10).1

-- the BDU of a packet under Q 2 and RN 0, by its bsn
abbrev pub key : ℕ → BduKey
key bsn = record { q = 2; rn = 0; bsn = bsn }

-- a sending half that accepted a packet of one octet under Q 2 in the slot
abbrev pub loaded : ℕ → Sending
loaded now = accepted 2 0 (65 ∷ []) now new

-- and the half after its one BDU was sent under the number 0 in the same slot
abbrev pub gone : ℕ → Sending
gone now = sent (key 0) 0 now (loaded now)

-- a sending half that accepted the long packet in slot 100, and the half after each of its two BDUs was sent
abbrev pub full : Sending
full = accepted 2 0 long 100 new

abbrev pub one_gone : Sending
one_gone = sent (key 0) 0 100 full

abbrev pub both_gone : Sending
both_gone = sent (key 1) 1 100 one_gone

-- no flag of a report is set
abbrev pub no_flags : ℕ → Bool
no_flags i = false

-- ## the five

pub record FiveExamples : Type 0 where
  -- Q 2, RN 0, a packet of 54 octets: two BDUs with the headers 0x28 and 0x21, of 53 octets and of 1
  pub two_bdus : pieces long ≡ 2
  pub first_more : (header 0).more ≡ true
  pub first_header : header_octet (header 0) ≡ 0x28
  pub first_part : length (piece long 0) ≡ 53
  pub second_more : (header 1).more ≡ false
  pub second_header : header_octet (header 1) ≡ 0x21
  pub second_part : length (piece long 1) ≡ 1
  -- R 0: 8 is awaited, 9 and 255 are not
  pub eight_awaited : awaited receiving.new 8 ≡ true
  pub nine_not_awaited : awaited receiving.new 9 ≡ false
  pub behind_not_awaited : awaited receiving.new 255 ≡ false
  -- R 255 with the flag of 0 set, and 255 comes: R is 1, and no flag is set
  pub round : report (bring almost_round 255 front_half 10).1 ≡ (1, replicate 8 false)
  -- the number 0 is sent in slot 10, and a report has R 0 without flags: on its way in slot 11, returned in slot 12
  pub on_its_way : mark (heard 0 no_flags 11 (gone 10)) 0 ≡ Mark.OnItsWay 10 (Some (key 0))
  pub returned : mark (heard 0 no_flags 12 (gone 10)) 0 ≡ Mark.Returned
  -- accepted in slot 100, and its BDU is sent: pending in 173, expired in 174; its RN rests in 248 and is free in 249, also where one slot call jumps to 249
  pub pending : (packet (slotted 173 (gone 100)) 8).standing ≡ Standing.Pending 100
  pub none_expires : expired 173 (gone 100) ≡ []
  pub expires : expired 174 (gone 100) ≡ 8 ∷ []
  pub expiry : (packet (slotted 174 (gone 100)) 8).standing ≡ Standing.Resting 249
  pub rests : (packet (slotted 248 (slotted 174 (gone 100))) 8).standing ≡ Standing.Resting 249
  pub free : (packet (slotted 249 (slotted 174 (gone 100))) 8).standing ≡ Standing.Free
  pub free_at_once : (packet (slotted 249 (gone 100)) 8).standing ≡ Standing.Free
  pub expires_at_once : expired 249 (gone 100) ≡ 8 ∷ []

-- ## more of them

pub record MoreExamples : Type 0 where
  -- reference numbers go round: the first packet has 0, the next one 1, also when 0 is free again
  pub first_rn : turn new 2 (passed new 2) ≡ 0
  pub next_rn : turn (loaded 5) 2 (passed (loaded 5) 2) ≡ 1
  pub goes_round : turn (heard 1 no_flags 10 (gone 10)) 2 (passed (heard 1 no_flags 10 (gone 10)) 2) ≡ 1
  -- send sends the one BDU of a short packet, and the two of the long one in their order; then it is idle. The ninth of a slot is not sent
  pub sends : Sends 10 0 (loaded 10) (Answer.Sent 0 (key 0) false (65 ∷ [])) (gone 10)
  pub sends_first : Sends 100 0 full (Answer.Sent 0 (key 0) true (piece long 0)) one_gone
  pub sends_second : Sends 100 1 one_gone (Answer.Sent 1 (key 1) false (piece long 1)) both_gone
  pub sends_none : Sends 100 2 both_gone Answer.NoneIdle both_gone
  pub sends_no_ninth : Sends 100 8 full Answer.NoneFull full
  -- a returned number is the next to be used, and its BDU waits again
  pub waits_again : slice_index_or (packet (heard 0 no_flags 12 (gone 10)) 8).bdus 0 Progress.OnItsWay ≡ Progress.Waiting
  pub same_number : opening (heard 0 no_flags 12 (gone 10)) ≡ 0
  -- a report of R 1 acknowledges 0: the packet is confirmed, its RN is free, and the window moves
  pub confirms : confirmed 1 no_flags 10 (gone 10) ≡ 8 ∷ []
  pub frees : (packet (heard 1 no_flags 10 (gone 10)) 8).standing ≡ Standing.Free
  pub moves : (heard 1 no_flags 10 (gone 10)).oldest ≡ 1
  -- at expiry a number on its way loses its BDU, and a later report confirms nothing
  pub loses_its_bdu : mark (slotted 174 (gone 100)) 0 ≡ Mark.OnItsWay 100 None
  pub late_report : confirmed 1 no_flags 175 (slotted 175 (gone 100)) ≡ []
  -- a report may not acknowledge an unused number, a returned one, or one too far ahead or behind, by R or by a flag
  pub unused_refused : Refused 1 no_flags new
  pub returned_refused : Refused 1 no_flags (heard 0 no_flags 12 (gone 10))
  pub ahead_refused : Refused 10 no_flags (gone 10)
  pub behind_refused : Refused 255 no_flags (gone 10)
  pub flag_refused : Refused 0 (λ i. true) (gone 10)
  -- the second BDU of a packet comes first, and is held; again under its number it is refused, and under another one too, as is one past it
  pub held : (bring receiving.new 1 back_half 10).0 ≡ receiving.Answer.Held
  pub flagged : report half_there ≡ (0, true ∷ replicate 7 false)
  pub number_again : (bring half_there 1 back_half 11).0 ≡ receiving.Answer.Refused 7
  pub bdu_again : (bring half_there 2 back_half 11).0 ≡ receiving.Answer.Refused 8
  pub past_last : (bring half_there 2 (record { q = 2; rn = 0; more = true; bsn = 2; octets = [] }) 11).0 ≡ receiving.Answer.Refused 8
  -- the first BDU makes it whole; the place was opened in slot 10, is kept up to slot 84, and emptied in slot 85
  pub whole : bring half_there 0 front_half 84 ≡ (receiving.Answer.Packet 2 0 long, record { oldest = 2; flags = replicate 8 false; places = replicate 16 empty })
  pub young : (bring (slot 84 half_there) 0 front_half 84).0 ≡ receiving.Answer.Packet 2 0 long
  pub old : (bring (slot 85 half_there) 0 front_half 85).0 ≡ receiving.Answer.Held
