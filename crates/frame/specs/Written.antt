-- What a writer promises: the buffer after it, that the frame reads back as its fields, and that it never reads as one of the
-- other direction.
use Rattle.std.specs.Prelude.{ℕ, List, Result}
use Rattle.frame.specs.Frames.{CarriesData, CarriesReport, OnlyGoes}
use Rattle.frame.specs.Writing.{data_octets, report_octets, Wrote}
use Rattle.frame.specs.declared.fault.FrameFault.{FrameFault}
use Rattle.frame.specs.declared.header.BduHeader.{BduHeader}
use Rattle.frame.specs.declared.kind.Way.{Way}

pub record DataWritten (way : Way) (aircraft log_on number : ℕ) (header : BduHeader) (payload buffer : List ℕ) (answer : Result ℕ FrameFault)
    (after : List ℕ) : Type 0 where
  pub written : Wrote (data_octets way aircraft log_on number header payload) buffer answer after
  pub back : CarriesData (data_octets way aircraft log_on number header payload) way aircraft log_on number header payload
  pub apart : OnlyGoes way (data_octets way aircraft log_on number header payload)

pub record ReportWritten (way : Way) (aircraft log_on oldest flags : ℕ) (buffer : List ℕ) (answer : Result ℕ FrameFault) (after : List ℕ) : Type 0 where
  pub written : Wrote (report_octets way aircraft log_on oldest flags) buffer answer after
  pub back : CarriesReport (report_octets way aircraft log_on oldest flags) way aircraft log_on oldest flags
  pub apart : OnlyGoes way (report_octets way aircraft log_on oldest flags)
