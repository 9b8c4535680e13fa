-- What framedump prints of a line.
use Rattle.std.specs.Prelude.{◌≡◌, ℕ, ◌+◌, ◌%◌, Bool, true, false, cond, ◌⊎◌, List, [], ◌∷◌, ◌++◌, Some, None, Ok, Err, codes, decimal, Option, Result}
use Rattle.frame.specs.Beginnings.{FirstWrong}
use Rattle.frame.specs.Directions.{way_of, octet_of}
use Rattle.frame.specs.Flags.{marks_of}
use Rattle.frame.specs.Frames.{Read}
use Rattle.frame.specs.Reasons.{number_of}
use Rattle.frame.specs.Refusals.{refused}
use Rattle.frame.specs.declared.bdu.Bdu.{Bdu}
use Rattle.frame.specs.declared.fault.FrameFault.{FrameFault}
use Rattle.frame.specs.declared.fault.Refusal.{Refusal}
use Rattle.frame.specs.declared.flags.Flags.{Flags}
use Rattle.frame.specs.declared.header.BduHeader.{BduHeader}
use Rattle.frame.specs.declared.kind.Way.{Way}
use Rattle.frame.specs.declared.kind.Way.TheVariants.{Up, Down}
use Rattle.frame.specs.declared.logon.LogOn.{LogOn}
use Rattle.frame.specs.declared.number.FrameNumber.{FrameNumber}
use Rattle.frame.specs.declared.reader.Frame.{Frame}
use Rattle.frame.specs.declared.reader.Frame.TheVariants.{Data, Report}
use Rattle.forms.specs.Octets.{octets_text, AreOctets, IsOctets}

-- pieces of text, one behind the other
abbrev pub text : List (List ℕ) → List ℕ
text [] = []
text (piece ∷ []) = piece
text (piece ∷ next ∷ more) = piece ++ text (next ∷ more)

abbrev pub way_word : Way → List ℕ
way_word Up = codes "uplink"
way_word Down = codes "downlink"

-- a number behind a space, if its flag is set
abbrev pub mark_text : ℕ → Bool → List ℕ
mark_text number true = 32 ∷ decimal number
mark_text number false = []

-- the numbers of the flags that are set, where the first flag stands for this number
abbrev pub flagged : ℕ → List Bool → List ℕ
flagged number [] = []
flagged number (mark ∷ marks) = mark_text number mark ++ flagged ((number + 1) % 256) marks

-- the same, or that there is none
abbrev pub or_none : List ℕ → List ℕ
or_none [] = codes " none"
or_none (c ∷ cs) = c ∷ cs

abbrev pub header_text : BduHeader → List ℕ
header_text header =
    text (codes ", Q " ∷ decimal header.q ∷ codes ", RN " ∷ decimal header.rn ∷ codes ", M " ∷ decimal (cond header.more 1 0)
    ∷ codes ", BSN " ∷ decimal header.bsn ∷ [])

-- a data frame in words
abbrev pub data_text : LogOn → FrameNumber → Bdu → List ℕ
data_text log_on number bdu =
    text (way_word (way_of number) ∷ codes " data: aircraft " ∷ decimal log_on.aircraft ∷ codes ", log-on " ∷ decimal log_on.number
    ∷ codes ", number " ∷ decimal (octet_of number) ∷ header_text bdu.header ∷ codes ", payload " ∷ octets_text bdu.payload.now ∷ [])

-- the numbers that a report flags behind its oldest one, or that there is none
abbrev pub flagged_text : ℕ → Flags → List ℕ
flagged_text oldest flags = or_none (flagged ((oldest + 1) % 256) (marks_of flags.octet))

-- a report in words
abbrev pub report_text : LogOn → FrameNumber → Flags → List ℕ
report_text log_on oldest flags =
    text (codes "report of " ∷ way_word (way_of oldest) ∷ codes " numbers: aircraft " ∷ decimal log_on.aircraft ∷ codes ", log-on "
    ∷ decimal log_on.number ∷ codes ", R " ∷ decimal (octet_of oldest) ∷ codes ", flagged" ∷ flagged_text (octet_of oldest) flags ∷ [])

abbrev pub frame_text : Frame → List ℕ
frame_text (Data log_on number bdu) = data_text log_on number bdu
frame_text (Report log_on oldest flags) = report_text log_on oldest flags

-- a refusal of the frame layer, with its place if it has one
abbrev pub placed_text : ℕ → Option ℕ → List ℕ
placed_text number (Some place) = text (codes "refused " ∷ decimal number ∷ codes " by frame at octet " ∷ decimal place ∷ [])
placed_text number None = text (codes "refused " ∷ decimal number ∷ codes " by frame" ∷ [])

abbrev pub refusal_text : Refusal → List ℕ
refusal_text refusal = placed_text (number_of refusal.reason) refusal.place

-- what is printed of a frame's octets: the frame, or the refusal
abbrev pub answer_text : Result Frame FrameFault → List ℕ
answer_text (Ok frame) = frame_text frame
answer_text (Err fault) = refusal_text (refused fault)

-- a line that lists octets is printed as their frame, or as the refusal of it
pub record FrameLine (line out : List ℕ) : Type 0 where
  pub octets : List ℕ
  pub are : AreOctets octets
  pub listed : line ≡ octets_text octets
  pub answer : Result Frame FrameFault
  pub right : Read octets answer
  pub printed : out ≡ answer_text answer

-- what is printed of a line that lists no octets: the column, from 1, of its first character that fits no list
abbrev pub misfit_text : ℕ → List ℕ
misfit_text place = text (codes "no list of octets: column " ∷ decimal (place + 1) ∷ [])

-- any other line is printed as no list of octets, with the column of its first character that fits none
pub record OtherLine (line out : List ℕ) : Type 0 where
  pub place : ℕ
  pub first : FirstWrong IsOctets line place
  pub printed : out ≡ misfit_text place

abbrev pub Dumped : List ℕ → List ℕ → Type 0
Dumped line out = FrameLine line out ⊎ OtherLine line out
