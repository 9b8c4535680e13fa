use Rattle.std.proofs.Common.{sym, ap, ◌∙◌}
use Rattle.std.proofs.Output.{has_written_of_eq}
use Rattle.framedump.specs.Dumps.{frame_text}
use Rattle.framedump.proofs.Reports.{report_is}
use Rattle.framedump.proofs.text.FrameTextDisplay.fmt.Goals as goal

pub returns-in-Report-clause-writes : goal.returns-in-Report-clause-writes
returns-in-Report-clause-writes g c = λ p ok.
    let numbered = c.way_and_octet-octet-in-Report.ensures in
    let whole = report_is c.in-Report.log_on c.in-Report.oldest c.in-Report.flags _ _ numbered.way numbered.octet in
    has_written_of_eq _ _ _ _ _ (whole ∙ ap frame_text (sym c.in-Report.is)) (c.write-in-Report.ensures.writes p ok)
