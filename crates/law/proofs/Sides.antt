-- What holds of the ground and of the air holds of both ends.
use Rattle.law.specs.Log.{End, other}

pub both : (P : End → Type 0) → P End.Ground → P End.Air → (e : End) → P e
both P g a End.Ground = g
both P g a End.Air = a

-- one end and the other are all
pub each : (x : End) (P : End → Type 0) → P x → P (other x) → (e : End) → P e
each End.Ground P g a = both P g a
each End.Air P a g = both P g a
