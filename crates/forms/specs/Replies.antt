-- What linkrun prints as its answer to a line.
use Rattle.std.specs.Prelude.{ℕ, List, ◌++◌, Some, None, codes, decimal, Option}
use Rattle.frame.specs.Reasons.{number_of}
use Rattle.forms.specs.declared.reply.Reply.{Reply}
use Rattle.forms.specs.declared.reply.Reply.TheVariants.{Slot, Refused}

-- the number of a refusal's reason, and its place where it has one
abbrev pub refusal_text : ℕ → Option ℕ → List ℕ
refusal_text number None = codes "(refused " ++ decimal number ++ codes ")"
refusal_text number (Some place) = codes "(refused " ++ (decimal number ++ (codes " " ++ (decimal place ++ codes ")")))

abbrev pub reply_text : Reply → List ℕ
reply_text Slot = codes "(slot)"
reply_text (Refused refusal) = refusal_text (number_of refusal.reason) refusal.place
