-- After a refusal everything is as it was.
use Rattle.std.specs.Prelude.{◌≡◌, Ok, Err, Result}

abbrev pub Kept : {A E S : Type 0} → Result A E → S → S → Type 0
Kept (Ok answer) before after = Unit {0}
Kept (Err fault) before after = after ≡ before
