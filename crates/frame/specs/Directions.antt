-- The two directions, and the kind octets of their data frames and reports.
use Rattle.std.specs.Prelude.{ℕ, ◌%◌}
use Rattle.frame.specs.declared.number.FrameNumber.{FrameNumber}
use Rattle.frame.specs.declared.number.FrameNumber.TheVariants.{Uplink, Downlink}
use Rattle.frame.specs.declared.kind.Way.{Way}
use Rattle.frame.specs.declared.kind.Way.TheVariants.{Up, Down}
use Rattle.frame.specs.declared.kind.Kind.{Kind}
use Rattle.frame.specs.declared.kind.Kind.TheVariants.{UplinkData, DownlinkData, UplinkReport, DownlinkReport}

-- the kind of the data frames that go this way
abbrev pub data_kind : Way → Kind
data_kind Up = UplinkData
data_kind Down = DownlinkData

-- the kind of the reports on numbers that go this way
abbrev pub report_kind : Way → Kind
report_kind Up = UplinkReport
report_kind Down = DownlinkReport

-- the octet that stands for a kind
abbrev pub kind_octet : Kind → ℕ
kind_octet UplinkData = 1
kind_octet DownlinkData = 2
kind_octet UplinkReport = 3
kind_octet DownlinkReport = 4

-- the way that a kind belongs to: a report's is that of the data frames that it reports on
abbrev pub way_of_kind : Kind → Way
way_of_kind UplinkData = Up
way_of_kind DownlinkData = Down
way_of_kind UplinkReport = Up
way_of_kind DownlinkReport = Down

-- the way that a number belongs to
abbrev pub way_of : FrameNumber → Way
way_of (Uplink n) = Up
way_of (Downlink n) = Down

-- the octet that stands for a number of either way
abbrev pub octet_of : FrameNumber → ℕ
octet_of (Uplink n) = n.0 % 256
octet_of (Downlink n) = n.0 % 256
