-- What a session answers to a line, and where its clock stands then.
use Rattle.std.specs.Prelude.{◌≡◌, ℕ, ◌≤◌, List, Ok, Err, Result}
use Rattle.forms.specs.declared.fault.FormFault.{FormFault}
use Rattle.forms.specs.declared.fault.SessionFault.{SessionFault}
use Rattle.forms.specs.declared.fault.SessionFault.TheVariants as faults
use Rattle.forms.specs.declared.form.Form.{Form}
use Rattle.forms.specs.declared.form.Form.TheVariants as forms
use Rattle.forms.specs.declared.reply.Reply.{Reply}
use Rattle.forms.specs.declared.reply.Reply.TheVariants as replies
use Rattle.forms.specs.Forms.{Reads}
use Rattle.forms.specs.Refusals.{refused}

-- what comes of a form: the clock moves to a slot that is not before it and is at most 4,000,000,000; to another it does not
abbrev pub Performs : ℕ → Form → Result Reply SessionFault → ℕ → Type 0
Performs clock (forms.Slot n) (Ok reply) clock' = (clock ≤ n) × (n ≤ 4000000000) × (reply ≡ replies.Slot) × (clock' ≡ n)
Performs clock (forms.Slot n) (Err fault) clock' = (clock ≤ n → n ≤ 4000000000 → ⊥) × (fault ≡ faults.Slot) × (clock' ≡ clock)

-- what comes of a line that was read so: a form is performed, and a line that is none is refused
abbrev pub Does : ℕ → Result Form FormFault → Result Reply SessionFault → ℕ → Type 0
Does clock (Ok form) done clock' = Performs clock form done clock'
Does clock (Err fault) done clock' = (done ≡ Err (faults.Form fault)) × (clock' ≡ clock)

-- a fault is said as a refusal
abbrev pub said : Result Reply SessionFault → Reply
said (Ok reply) = reply
said (Err fault) = replies.Refused (refused fault)

-- what comes of a line
abbrev pub Acts : ℕ → List ℕ → Result Reply SessionFault → ℕ → Type 0
Acts clock line done clock' = (read : Result Form FormFault) × Reads line read × Does clock read done clock'

-- the answer to a line
abbrev pub Answers : ℕ → List ℕ → Reply → ℕ → Type 0
Answers clock line reply clock' = (done : Result Reply SessionFault) × Acts clock line done clock' × (reply ≡ said done)
