-- What the calls of the halves answer in the worked examples.
use Rattle.std.specs.Prelude.{◌≡◌, ℕ, Bool, true, false, List, [], ◌∷◌, length, Some, None, Option}
use Rattle.frame.specs.Headers.{header_octet}
use Rattle.rules.specs.Ends.{header}
use Rattle.rules.specs.Sending.{Sending, Answer, Sends}
use Rattle.half.specs.declared.examples.Examples.{Examples}
use Rattle.half.specs.declared.examples.Expiry.{Expiry}
use Rattle.half.specs.declared.examples.Sent.{Sent}

-- the frame that send's rule sends
abbrev pub frame_of : Answer → Option Sent
frame_of Answer.NoneIdle = None
frame_of Answer.NoneFull = None
frame_of Answer.NoneShut = None
frame_of (Answer.Sent number b more octets) = Some (record { number = number; header = Some (header_octet (header b more)); len = length octets })

-- one send by its rule
abbrev pub Goes : ℕ → ℕ → Sending → Option Sent → Sending → Type 0
Goes count slot S r S' = (a : Answer) × Sends slot count S a S' × (r ≡ frame_of a)

-- Q 2, RN 0, a packet of 54 octets: two BDUs with the headers 0x28 and 0x21, of 53 octets and of 1
abbrev pub two_frames : List (Option Sent)
two_frames = Some (record { number = 0; header = Some 0x28; len = 53 }) ∷ Some (record { number = 1; header = Some 0x21; len = 1 }) ∷ []

-- R 0: 8 is awaited, 9 and 255 are not
abbrev pub only_eight : List Bool
only_eight = true ∷ false ∷ false ∷ []

-- on its way in slot 11, returned in slot 12, and then sent again under the same number
abbrev pub sent_again : List (Option Sent)
sent_again = None ∷ Some (record { number = 0; header = Some 0x20; len = 1 }) ∷ []

-- pending in 173, expired in 174; its RN 0 rests in 248, where only 1, 2 and 3 are given, and is free in 249
abbrev pub one_expiry : Expiry
one_expiry = record { expires = false ∷ true ∷ []; given = Some 1 ∷ Some 2 ∷ Some 3 ∷ None ∷ Some 0 ∷ [] }

-- all of them; R 255 with 0 received, and 255 comes: R is 1
abbrev pub worked : Examples
worked = record { frames = two_frames; awaited = only_eight; round = 1; again = sent_again; expiry = one_expiry }
