-- Frames written from their fields.
use Rattle.std.specs.Prelude.{◌≡◌, ℕ, ◌/◌, ◌%◌, ◌<◌, ◌≤◌, List, [], ◌∷◌, ◌++◌, length, drop, Ok, Err, Result}
use Rattle.frame.specs.Directions.{data_kind, report_kind, kind_octet}
use Rattle.frame.specs.Headers.{header_octet}
use Rattle.frame.specs.declared.fault.FrameFault.{FrameFault}
use Rattle.frame.specs.declared.fault.FrameFault.TheVariants.{Packet, Buffer, Unreadable, Aircraft}
use Rattle.frame.specs.declared.header.BduHeader.{BduHeader}
use Rattle.frame.specs.declared.kind.Kind.{Kind}
use Rattle.frame.specs.declared.kind.Way.{Way}

-- the first eight octets of every frame
abbrev pub head_octets : Kind → ℕ → ℕ → ℕ → ℕ → List ℕ
head_octets kind aircraft log_on number last =
    kind_octet kind ∷ aircraft ∷ log_on / 16777216 % 256 ∷ log_on / 65536 % 256 ∷ log_on / 256 % 256 ∷ log_on % 256 ∷ number ∷ last ∷ []

-- a data frame's octets
abbrev pub data_octets : Way → ℕ → ℕ → ℕ → BduHeader → List ℕ → List ℕ
data_octets way aircraft log_on number header payload = head_octets (data_kind way) aircraft log_on number (header_octet header) ++ payload

-- a report's octets
abbrev pub report_octets : Way → ℕ → ℕ → ℕ → ℕ → List ℕ
report_octets way aircraft log_on oldest flags = head_octets (report_kind way) aircraft log_on oldest flags

-- why a frame is not written
abbrev pub NotWritten : ℕ → FrameFault → Type 0
NotWritten room Packet = ⊥
NotWritten room Buffer = room < 61
NotWritten room (Unreadable place) = ⊥
NotWritten room Aircraft = ⊥

-- a buffer after a frame's octets were written into it: they stand at its front, and the octets behind them are as they were
abbrev pub Wrote : List ℕ → List ℕ → Result ℕ FrameFault → List ℕ → Type 0
Wrote octets buffer (Ok len) after = (61 ≤ length buffer) × (len ≡ length octets) × (after ≡ octets ++ drop len buffer)
Wrote octets buffer (Err fault) after = NotWritten (length buffer) fault × (after ≡ buffer)
