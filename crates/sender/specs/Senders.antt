-- The sending half in code, as the rules see it, and what its calls promise.
use Rattle.std.specs.Prelude.{◌≡◌, ℕ, ◌+◌, ◌<◌, ◌≤◌, Bool, true, false, not, ◌&&◌, ◌||◌, List, [], ◌∷◌, map, length, Some, None, Ok, Err, Result, ◌==◌, nat_lt, slice_index_or}
use Rattle.std.specs.List.{range_with_len}
use Rattle.frame.specs.Flags.{marks_of}
use Rattle.frame.specs.declared.header.BduHeader.{BduHeader}
use Rattle.frame.specs.declared.number.Number.{Ghosts}
use Rattle.rules.specs.Constants.{packet_room, window_size}
use Rattle.rules.specs.Ends.{Rows, refused_by}
use Rattle.rules.specs.Reports.{is_refused}
use Rattle.rules.specs.Sending.{Outgoing, Sending, Answer, mark, gap, is_whole, credit, packet, place, piece, first, passed, turn, accepted, sent, Sends, was_sent, is_acknowledged, heard, confirmed}
use Rattle.rules.specs.declared.window.BduKey.{BduKey}
use Rattle.rules.specs.declared.window.Mark.{Mark}
use Rattle.rules.specs.declared.fault.EndFault.{EndFault}
use Rattle.rules.specs.declared.fault.EndFault.TheVariants as fault
use Rattle.sender.specs.Hearings.{tells}
use Rattle.sender.specs.Sets.{places_in}
use Rattle.sender.specs.declared.choice.Pause.{Pause}
use Rattle.sender.specs.declared.choice.Pause.TheVariants.{Idle, Full, Shut}
use Rattle.sender.specs.declared.choice.ToSend.{ToSend}
use Rattle.sender.specs.declared.hearing.Hearing.{Hearing}
use Rattle.sender.specs.declared.set.PacketSet.{PacketSet}

-- ## accept

-- its refusals, in their order
abbrev pub accept_rows : Sending → ℕ → List ℕ → Rows
accept_rows S q octets =
    (nat_lt (length octets) 1 || (nat_lt packet_room (length octets) || nat_lt 3 q), fault.Packet) ∷ ((passed S q == 4), fault.NoReference) ∷ []

abbrev pub Accepts : ℕ → List ℕ → ℕ → Sending → Result ℕ EndFault → Sending → Type 0
Accepts q octets now S (Ok rn) S' = (refused_by (accept_rows S q octets) ≡ None) × (rn ≡ turn S q (passed S q)) × (S' ≡ accepted q rn octets now S)
Accepts q octets now S (Err f) S' = refused_by (accept_rows S q octets) ≡ Some f

-- ## send

-- which BDU a header is of
abbrev pub key_of : BduHeader → BduKey
key_of h = record { q = h.q; rn = h.rn; bsn = h.bsn }

-- the octets of the BDU of a header
abbrev pub payload_of : Sending → BduHeader → List ℕ
payload_of S h = piece (packet S (place (key_of h))).octets h.bsn

-- what send's rule answers, and the half after it
abbrev pub answer_of : {N : Type 0} → Ghosts N → Sending → Result (ToSend N) Pause → Answer
answer_of g S (Err Idle) = Answer.NoneIdle
answer_of g S (Err Full) = Answer.NoneFull
answer_of g S (Err Shut) = Answer.NoneShut
answer_of g S (Ok x) = Answer.Sent (g.value x.number) (key_of x.header) x.header.more (payload_of S x.header)

abbrev pub sent_by : {N : Type 0} → ToSend N → ℕ → Sending → Sending
sent_by x now S = sent (key_of x.header) x.entry now S

abbrev pub after_choice : {N : Type 0} → Result (ToSend N) Pause → ℕ → Sending → Sending
after_choice (Err why) now S = S
after_choice (Ok x) now S = sent_by x now S

-- the choice is what send's rule answers, in whatever slot
abbrev pub Chooses : {N : Type 0} → Ghosts N → ℕ → Sending → Result (ToSend N) Pause → Type 0
Chooses g count S choice = (now : ℕ) → Sends now count S (answer_of g S choice) (after_choice choice now S)

-- a header and octets that make a BDU
pub record Fitting (h : BduHeader) (payload : List ℕ) : Type 0 where
  pub reference : h.rn < 4
  pub priority : h.q < 4
  pub eight : h.bsn < 8
  pub last : h.more ≡ true → h.bsn < 7
  pub some : 1 ≤ length payload
  pub most : length payload ≤ 53
  pub full : h.more ≡ true → length payload ≡ 53

-- what is chosen makes a BDU
abbrev pub Sendable : {N : Type 0} → Sending → Result (ToSend N) Pause → Type 0
Sendable S (Err why) = Unit {0}
Sendable S (Ok x) = Fitting x.header (payload_of S x.header)

-- ## report

-- the flag i of an octet
abbrev pub flagged : ℕ → ℕ → Bool
flagged octet i = slice_index_or (marks_of octet) i false

-- the test for refusal, as the window shows it
abbrev pub refused_of : Hearing → List Mark → Bool
refused_of h ms = nat_lt window_size h.gap || nat_lt (first (window_size + window_size) (λ k. tells h k && not (was_sent (slice_index_or ms k Mark.Unused)))) (window_size + window_size)

-- a report as it bears on a half
abbrev pub hearing_of : ℕ → ℕ → ℕ → Sending → Hearing
hearing_of R octet now S = record { gap = gap R S; flags = marks_of octet; slot = now }

-- the answer to it, as window and packets show it
abbrev pub Outcome : Hearing → List Mark → List Outgoing → Result PacketSet EndFault → Type 0
Outcome h ms ps (Ok set) = (refused_of h ms ≡ false) × (set.marks ≡ map is_whole (credit (tells h) h.slot ms ps))
Outcome h ms ps (Err f) = (refused_of h ms ≡ true) × (f ≡ fault.Number)

abbrev pub report_rows : Sending → ℕ → (ℕ → Bool) → Rows
report_rows S R flag = (is_refused R flag S, fault.Number) ∷ []

-- whether a report is refused, and which packets it confirms
abbrev pub Foretells : ℕ → (ℕ → Bool) → ℕ → Sending → Result PacketSet EndFault → Type 0
Foretells R flag now S (Ok set) = (refused_by (report_rows S R flag) ≡ None) × (places_in set ≡ confirmed R flag now S)
Foretells R flag now S (Err f) = refused_by (report_rows S R flag) ≡ Some f

-- the half after a report that is not refused
abbrev pub Hears : ℕ → (ℕ → Bool) → ℕ → Sending → Result PacketSet EndFault → Sending → Type 0
Hears R flag now S (Ok set) S' = S' ≡ heard R flag now S
Hears R flag now S (Err f) S' = S' ≡ S

-- ## what it shows

-- A, and which of the eight numbers behind it are acknowledged
pub record ShowsMarks (S : Sending) (oldest : ℕ) (done : List Bool) : Type 0 where
  pub same_oldest : oldest ≡ S.oldest
  pub same_marks : done ≡ map (λ i. is_acknowledged (mark S (1 + i))) (range_with_len 0 8)
