-- Octets written over a part of a memory.
use Rattle.std.specs.Prelude.{ℕ, ◌+◌, List, ◌++◌, length, take, drop}

-- a part written over a list at a place
abbrev pub over : List ℕ → ℕ → List ℕ → List ℕ
over xs at part = take at xs ++ (part ++ drop (at + length part) xs)
