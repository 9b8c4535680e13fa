-- The marks of a window.
use Rattle.std.specs.Prelude.{ℕ, List, slice_index_or}
use Rattle.rules.specs.declared.window.Mark.{Mark}

-- the mark of the number at a place; behind the window there are only unused ones
abbrev pub mark_in : List Mark → ℕ → Mark
mark_in ms k = slice_index_or ms k Mark.Unused
