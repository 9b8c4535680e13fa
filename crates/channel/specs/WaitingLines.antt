-- A first in, first out line of entries in a room of places.
use Rattle.std.specs.Prelude.{ℕ, Bool, cond, leb, List, [], ◌∷◌, ◌++◌, length, take, drop, Option, slice_get}

-- the entries that wait, oldest first, and how many the room holds
pub record Line (A : Type 0) : Type 0 where
  pub waiting : List A
  pub room : ℕ

module _ {A : Type 0} where
  -- the line of the entries on `count` places: from the place `first` on, and from the room's front again behind its end
  abbrev pub line_in : ℕ → ℕ → List A → Line A
  line_in first count room = record { waiting = take count (drop first room ++ take first room); room = length room }

  -- every place is taken
  abbrev pub is_full : Line A → Bool
  is_full l = leb l.room (length l.waiting)

  abbrev pub oldest : Line A → Option A
  oldest l = slice_get l.waiting 0

  -- the line after an entry came: behind the others, where a place was free
  abbrev pub pushed : A → Line A → Line A
  pushed item l = cond (is_full l) l (record l { waiting = l.waiting ++ item ∷ [] })

  -- the line after its oldest entry left
  abbrev pub popped : Line A → Line A
  popped l = record l { waiting = drop 1 l.waiting }

-- a line in which nothing waits
abbrev pub empty : {A : Type 0} → ℕ → Line A
empty n = record { waiting = []; room = n }
