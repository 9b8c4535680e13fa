-- The kind that octet 0 of a frame stands for.
use Rattle.std.specs.Prelude.{◌≡◌, ℕ, ◌≤◌, Ok, Err, Result}
use Rattle.frame.specs.Directions.{kind_octet}
use Rattle.frame.specs.declared.fault.FrameFault.{FrameFault}
use Rattle.frame.specs.declared.fault.FrameFault.TheVariants.{Unreadable}
use Rattle.frame.specs.declared.kind.Kind.{Kind}

-- the kind, or that octet 0 is wrong
abbrev pub KindRead : ℕ → Result Kind FrameFault → Type 0
KindRead octet (Ok kind) = kind_octet kind ≡ octet
KindRead octet (Err fault) = (fault ≡ Unreadable 0) × (1 ≤ octet → octet ≤ 4 → ⊥)
