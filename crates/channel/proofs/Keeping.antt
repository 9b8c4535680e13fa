-- The steered line keeps to the meaning of a channel.
use Rattle.std.proofs.Common.{◌≡◌, ℕ, ◌-◌, ◌%◌, false, List, get_or, Some, None, Option, refl, sym, subst, arith}
use Rattle.channel.specs.Channels.{Underway, OnlyOf, Moved, Added, Gives, Took, bad_frame, bad_buffer}
use Rattle.channel.specs.Places.{answer, written}
use Rattle.channel.specs.Lines.{Line, clock_of, places, carried, delay, at_slot, after_put, turn, given, after_take}
use Rattle.channel.specs.declared.channel.Lane.{Lane}
use Rattle.channel.specs.declared.channel.Lane.TheVariants.{ToAircraft, ToGround}
use Rattle.channel.specs.declared.channel.Taken.{Taken}
use Rattle.channel.proofs.Held.{held_filled, held_spared, held_get, young_is}

pub moved : (line : Line) (slot : ℕ) → Moved clock_of carried line slot (at_slot slot line)
moved line slot = record { clock_is = refl; lanes = λ lane f h. h }

pub added : (line : Line) (lane : Lane) (octets : List ℕ) → Added clock_of carried line lane octets (after_put lane octets line)
added line ToAircraft octets = record { clock_is = refl; own = held_filled (octets, line.clock) line.to_aircraft; other = λ f h. h }
added line ToGround octets = record { clock_is = refl; own = held_filled (octets, line.clock) line.to_ground; other = λ f h. h }

-- a take reads an octet and may empty a place of its lane
same_clock : (line : Line) (lane : Lane) → clock_of (after_take lane line) ≡ clock_of line
same_clock line ToAircraft = refl
same_clock line ToGround = refl

none_added : (line : Line) (lane l : Lane) → OnlyOf (carried line l) (carried (after_take lane line) l)
none_added line ToAircraft ToAircraft = held_spared (turn line) line.to_aircraft
none_added line ToAircraft ToGround = λ f h. h
none_added line ToGround ToAircraft = λ f h. h
none_added line ToGround ToGround = held_spared (turn line) line.to_ground

gives : (line : Line) (lane : Lane) (buffer : List ℕ) (o : Option Underway) → given lane line ≡ o → Gives clock_of carried delay line lane buffer (answer o) (written o buffer)
gives line lane buffer None e = refl
gives line lane buffer (Some f) e =
    let y = young_is (line.clock - delay lane) (get_or (places line lane) (turn line % 16) None) f e in
    record { octets = f.0; was = held_get (places line lane) (turn line % 16) f y.0; young = omega (arith, y.1); len = refl; written = refl }

pub took : (line : Line) (lane : Lane) (buffer : List ℕ) → Took clock_of carried delay line lane buffer (answer (given lane line)) (after_take lane line) (written (given lane line) buffer)
took line lane buffer = record { clock_is = same_clock line lane; lanes = none_added line lane; gives = gives line lane buffer (given lane line) refl }

-- what a put and a take that are not refused come to
pub puts_is : (line after : Line) (lane : Lane) (octets : List ℕ) → bad_frame octets ≡ false → after ≡ after_put lane octets line
    → (bad_frame octets ≡ false) × Added clock_of carried line lane octets after
puts_is line after lane octets b e = (b, subst (Added clock_of carried line lane octets) (sym e) (added line lane octets))

pub takes_is : (line after : Line) (lane : Lane) (buffer rest : List ℕ) (taken : Option Taken) → bad_buffer buffer ≡ false
    → after ≡ after_take lane line → taken ≡ answer (given lane line) → rest ≡ written (given lane line) buffer
    → (bad_buffer buffer ≡ false) × Took clock_of carried delay line lane buffer taken after rest
takes_is line after lane buffer rest taken b e t w =
    (b, subst (λ x. Took clock_of carried delay line lane buffer taken x rest) (sym e) (subst (λ x. Took clock_of carried delay line lane buffer x (after_take lane line) rest) (sym t) (subst (Took clock_of carried delay line lane buffer (answer (given lane line)) (after_take lane line)) (sym w) (took line lane buffer))))
