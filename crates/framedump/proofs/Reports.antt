-- The text of a report, from what the code knows of its oldest number.
use Rattle.std.proofs.Common.{◌≡◌, ℕ, List, [], ◌∷◌, codes, decimal}
use Rattle.frame.specs.Directions.{way_of, octet_of}
use Rattle.frame.specs.declared.flags.Flags.{Flags}
use Rattle.frame.specs.declared.logon.LogOn.{LogOn}
use Rattle.frame.specs.declared.number.FrameNumber.{FrameNumber}
use Rattle.framedump.specs.Dumps.{text, way_word, flagged_text, report_text}

pub report_is : (log_on : LogOn) (oldest : FrameNumber) (flags : Flags) (way : List ℕ) (octet : ℕ) → way ≡ way_word (way_of oldest) → octet ≡ octet_of oldest
    → text (codes "report of " ∷ way ∷ codes " numbers: aircraft " ∷ decimal log_on.aircraft ∷ codes ", log-on " ∷ decimal log_on.number
    ∷ codes ", R " ∷ decimal octet ∷ codes ", flagged" ∷ flagged_text octet flags ∷ [])
    ≡ report_text log_on oldest flags
report_is log_on oldest flags way octet w o = λ i.
    text (codes "report of " ∷ w i ∷ codes " numbers: aircraft " ∷ decimal log_on.aircraft ∷ codes ", log-on " ∷ decimal log_on.number
    ∷ codes ", R " ∷ decimal (o i) ∷ codes ", flagged" ∷ flagged_text (o i) flags ∷ [])
