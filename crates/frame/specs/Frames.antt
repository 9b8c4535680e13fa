-- The four frames, octet by octet.
use Rattle.std.specs.Prelude.{◌≡◌, ℕ, ◌+◌, ◌-◌, ◌*◌, ◌<◌, ◌≤◌, true, List, length, take, drop, Ok, Err, Result, slice_index}
use Rattle.frame.specs.Directions.{data_kind, report_kind, kind_octet, way_of, octet_of}
use Rattle.frame.specs.Headers.{header_of, more_of, bsn_of}
use Rattle.frame.specs.declared.header.BduHeader.{BduHeader}
use Rattle.frame.specs.declared.kind.Way.{Way}
use Rattle.frame.specs.declared.reader.Frame.{Frame}
use Rattle.frame.specs.declared.reader.Frame.TheVariants.{Data, Report}
use Rattle.frame.specs.declared.fault.FrameFault.{FrameFault}
use Rattle.frame.specs.declared.fault.FrameFault.TheVariants.{Packet, Buffer, Unreadable, Aircraft}
use Rattle.frame.specs.Beginnings.{FirstWrong}
use Rattle.frame.specs.Writing.{data_octets, report_octets}

-- octet 0, the kind
abbrev pub kind_at : List ℕ → ℕ
kind_at bs = slice_index bs 0

-- octet 1, the aircraft
abbrev pub aircraft_at : List ℕ → ℕ
aircraft_at bs = slice_index bs 1

-- octets 2 to 5, the log-on number, most significant octet first
abbrev pub log_on_at : List ℕ → ℕ
log_on_at bs = ((slice_index bs 2 * 256 + slice_index bs 3) * 256 + slice_index bs 4) * 256 + slice_index bs 5

-- octet 6, the number of a data frame, or the oldest number not received in a report
abbrev pub number_at : List ℕ → ℕ
number_at bs = slice_index bs 6

-- octet 7, the BDU header of a data frame, or the flags of a report
abbrev pub header_at : List ℕ → ℕ
header_at bs = slice_index bs 7

-- the octets from octet 8 on, the BDU's
abbrev pub payload_at : List ℕ → List ℕ
payload_at bs = take (length bs - 8) (drop 8 bs)

-- Kinds 1 and 2 are data frames, 3 and 4 reports. A data frame has 9 to 61 octets, with M 1 exactly 61, and the eighth BDU
-- has M 0. A report has 8.
pub record Fits (kind aircraft header len : ℕ) : Type 0 where
  pub kind_low : 1 ≤ kind
  pub kind_high : kind ≤ 4
  pub aircraft_low : 1 ≤ aircraft
  pub aircraft_high : aircraft ≤ 254
  pub data_long : kind ≤ 2 → 9 ≤ len
  pub data_short : kind ≤ 2 → len ≤ 61
  pub data_full : kind ≤ 2 → more_of header ≡ true → len ≡ 61
  pub data_last : kind ≤ 2 → more_of header ≡ true → bsn_of header < 7
  pub report_length : 3 ≤ kind → len ≡ 8

-- a frame that can be read
abbrev pub Readable : List ℕ → Type 0
Readable bs = Fits (kind_at bs) (aircraft_at bs) (header_at bs) (length bs)

-- a readable data frame with these fields
pub record CarriesData (bs : List ℕ) (way : Way) (aircraft log_on number : ℕ) (header : BduHeader) (payload : List ℕ) : Type 0 where
  pub readable : Readable bs
  pub kind : kind_at bs ≡ kind_octet (data_kind way)
  pub same_aircraft : aircraft ≡ aircraft_at bs
  pub same_log_on : log_on ≡ log_on_at bs
  pub same_number : number ≡ number_at bs
  pub same_header : header ≡ header_of (header_at bs)
  pub same_payload : payload ≡ payload_at bs

-- a readable report with these fields
pub record CarriesReport (bs : List ℕ) (way : Way) (aircraft log_on oldest flags : ℕ) : Type 0 where
  pub readable : Readable bs
  pub kind : kind_at bs ≡ kind_octet (report_kind way)
  pub same_aircraft : aircraft ≡ aircraft_at bs
  pub same_log_on : log_on ≡ log_on_at bs
  pub same_oldest : oldest ≡ number_at bs
  pub same_flags : flags ≡ header_at bs

-- a frame says what its octets say
abbrev pub Shows : List ℕ → Frame → Type 0
Shows bs (Data on number bdu) = CarriesData bs (way_of number) on.aircraft on.number (octet_of number) bdu.header bdu.payload.now
Shows bs (Report on oldest flags) = CarriesReport bs (way_of oldest) on.aircraft on.number (octet_of oldest) flags.octet

-- the way that a frame's numbers go
abbrev pub way_of_frame : Frame → Way
way_of_frame (Data on number bdu) = way_of number
way_of_frame (Report on oldest flags) = way_of oldest

-- whatever these octets are read as goes this way
abbrev pub OnlyGoes : Way → List ℕ → Type 0
OnlyGoes way bs = (frame : Frame) → Shows bs frame → way_of_frame frame ≡ way

-- why a frame is not read: the place is that of the first octet that is wrong, missing or too many
abbrev pub NotRead : List ℕ → FrameFault → Type 0
NotRead bs Packet = ⊥
NotRead bs Buffer = ⊥
NotRead bs (Unreadable place) = FirstWrong Readable bs place
NotRead bs Aircraft = ⊥

-- the answer to a frame of these octets
abbrev pub Read : List ℕ → Result Frame FrameFault → Type 0
Read bs (Ok frame) = Shows bs frame
Read bs (Err fault) = NotRead bs fault

-- a frame that is read has the octets that are written from its fields
abbrev pub Rewritten : List ℕ → Result Frame FrameFault → Type 0
Rewritten bs (Ok (Data on number bdu)) = bs ≡ data_octets (way_of number) on.aircraft on.number (octet_of number) bdu.header bdu.payload.now
Rewritten bs (Ok (Report on oldest flags)) = bs ≡ report_octets (way_of oldest) on.aircraft on.number (octet_of oldest) flags.octet
Rewritten bs (Err fault) = Unit {0}
