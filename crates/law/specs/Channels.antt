-- What a channel means: its clock, and the frames underway on each lane. It may lose, keep, repeat and reorder them.
use Rattle.std.specs.Prelude.{◌≡◌, ℕ, ◌+◌, ◌≤◌, ◌⊎◌, List}
use Rattle.rules.specs.Members.{Among}
use Rattle.law.specs.Log.{End, other}

-- a frame underway: its octets, and the slot of its put
pub record Underway : Type 0 where
  pub octets : List ℕ
  pub slot : ℕ

-- lane e has the frames that the end e put
pub record Channel : Type 0 where
  pub clock : ℕ
  pub lane : End → List Underway

module _ (c c' : Channel) where
  -- every frame on the lane of e was there before
  abbrev pub NoneAdded : End → Type 0
  NoneAdded e = (f : Underway) → Among f (c'.lane e) → Among f (c.lane e)

  -- a slot sets the clock
  pub record Moves (slot : ℕ) : Type 0 where
    pub clock : c'.clock ≡ slot
    pub lanes : (e : End) → NoneAdded e

  -- a put of e adds at most this frame, marked with the clock's slot
  pub record Puts (e : End) (octets : List ℕ) : Type 0 where
    pub clock : c'.clock ≡ c.clock
    pub own : (f : Underway) → Among f (c'.lane e) → (f ≡ record { octets = octets; slot = c.clock }) ⊎ Among f (c.lane e)
    pub others : NoneAdded (other e)

  -- a take of e gives a frame that the other end put and that is no older than the lane's delay
  pub record Gives (delay : End → ℕ) (e : End) (f : Underway) : Type 0 where
    pub clock : c'.clock ≡ c.clock
    pub was : Among f (c.lane (other e))
    pub young : c.clock ≤ f.slot + delay (other e)
    pub lanes : (e : End) → NoneAdded e

  -- a take that gives none
  pub record GivesNone : Type 0 where
    pub clock : c'.clock ≡ c.clock
    pub lanes : (e : End) → NoneAdded e
