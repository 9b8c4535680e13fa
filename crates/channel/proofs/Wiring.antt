-- How the frames of a wire lie on its lanes, and that it keeps to the meaning of a channel.
use Rattle.std.proofs.Common.{◌≡◌, ℕ, ◌≤◌, ◌⊎◌, false, nat_lt, List, [], ◌∷◌, ◌++◌, map, drop, Some, None, Option, MatchOption, refl, sym, ap, subst, inl, inr, ⊎_elim, arith, Bor}
use Rattle.std.specs.Option.{option_copied}
use Rattle.std.proofs.lemmas.Bool.{cond_both, ltb-false}
use Rattle.rules.specs.Members.{Among}
use Rattle.channel.specs.Channels.{Underway, OnlyOf, Moved, Added, bad_slot, bad_frame}
use Rattle.channel.specs.WaitingLines.{Line, oldest, is_full, pushed}
use Rattle.channel.specs.Wires.{WireState, clock_of, carried, since, underway_of, seen, without_older, cleared, at_slot, after_put, after_take, InOrder, InTime}
use Rattle.channel.specs.declared.channel.Lane.{Lane}
use Rattle.channel.specs.declared.channel.Lane.TheVariants.{ToAircraft, ToGround}
use Rattle.channel.specs.declared.wire.Entry.{Entry}

-- ## the lines in code

-- where the oldest frame is young enough, nothing is dropped
settled_frames : (s : ℕ) (xs : List Entry) (first : Option (Bor Entry)) (rest : ℕ) → option_copied first ≡ oldest (record { waiting = xs; room = rest })
    → MatchOption first (Unit {0}) (λ e. nat_lt e.now.slot s ≡ false) → map underway_of xs ≡ without_older s (map underway_of xs)
settled_frames s [] first rest e t = refl
settled_frames s (x ∷ xs) None rest e t = cc
settled_frames s (x ∷ xs) (Some b) rest e t =
    let same : b.now ≡ x = cc in
    let young : nat_lt x.slot s ≡ false = subst (λ y. nat_lt y.slot s ≡ false) same t in
    rw young refl

pub settled : (s : ℕ) (line : Line Entry) (first : Option (Bor Entry)) → option_copied first ≡ oldest line
    → MatchOption first (Unit {0}) (λ e. nat_lt e.now.slot s ≡ false) → seen line ≡ cleared s (seen line)
settled s line first e t = ap (λ fs. record { waiting = fs; room = line.room }) (settled_frames s line.waiting first line.room e t)

-- ## the slots of the frames

lower : (fs : List Underway) (low low' high : ℕ) → low ≤ low' → InOrder low' high fs → InOrder low high fs
lower [] low low' high l h = tt
lower (f ∷ fs) low low' high l h = (omega arith, h.1, h.2)

higher : (fs : List Underway) (low high high' : ℕ) → high ≤ high' → InOrder low high fs → InOrder low high' fs
higher [] low high high' l h = tt
higher (f ∷ fs) low high high' l h = (h.0, omega arith, higher fs f.1 high high' l h.2)

-- a frame that is put in the highest slot
order_behind : (fs : List Underway) (low high : ℕ) (octets : List ℕ) → low ≤ high → InOrder low high fs → InOrder low high (fs ++ (octets, high) ∷ [])
order_behind [] low high octets l h = (l, omega arith, tt)
order_behind (f ∷ fs) low high octets l h = (h.0, h.1, order_behind fs f.1 high octets h.1 h.2)

order_pushed : (line : Line Underway) (low high : ℕ) (octets : List ℕ) → low ≤ high → InOrder low high line.waiting → InOrder low high (pushed (octets, high) line).waiting
order_pushed line low high octets l h =
    cond_both (is_full line) line (record { waiting = line.waiting ++ (octets, high) ∷ []; room = line.room }) (λ x. InOrder low high x.waiting)
    (λ _. h) (λ _. order_behind line.waiting low high octets l h)

order_popped : (fs : List Underway) (low high : ℕ) → InOrder low high fs → InOrder low high (drop 1 fs)
order_popped [] low high h = tt
order_popped (f ∷ fs) low high h = lower fs low f.1 high h.0 h.2

order_cleared : (fs : List Underway) (s low high high' : ℕ) → high ≤ high' → InOrder low high fs → InOrder s high' (without_older s fs)
order_cleared [] s low high high' l h = tt
order_cleared (f ∷ fs) s low high high' l h =
    cond_both (nat_lt f.1 s) (without_older s fs) (f ∷ fs) (InOrder s high')
    (λ _. order_cleared fs s f.1 high high' l h.2)
    (λ t. (ltb-false f.1 s t, omega arith, higher fs f.1 high high' l h.2))

-- ## the frames that are there

only_cleared : (fs : List Underway) (s : ℕ) (x : Underway) → Among x (without_older s fs) → Among x fs
only_cleared [] s x = λ h. h
only_cleared (f ∷ fs) s x =
    cond_both (nat_lt f.1 s) (without_older s fs) (f ∷ fs) (λ gs. Among x gs → Among x (f ∷ fs))
    (λ _ h. inr (only_cleared fs s x h)) (λ _ h. h)

only_behind : (fs : List Underway) (f x : Underway) → Among x (fs ++ f ∷ []) → (x ≡ f) ⊎ Among x fs
only_behind [] f x h = h
only_behind (g ∷ fs) f x h = ⊎_elim (λ e. inr (inl e)) (λ m. ⊎_elim inl (λ n. inr (inr n)) (only_behind fs f x m)) h

only_pushed : (line : Line Underway) (f x : Underway) → Among x (pushed f line).waiting → (x ≡ f) ⊎ Among x line.waiting
only_pushed line f x =
    cond_both (is_full line) line (record { waiting = line.waiting ++ f ∷ []; room = line.room }) (λ l. Among x l.waiting → (x ≡ f) ⊎ Among x line.waiting)
    (λ _ h. inr h) (λ _. only_behind line.waiting f x)

-- ## the wire stays in time

in_time_slot : (wire : WireState) (slot : ℕ) → wire.clock ≤ slot → InTime wire → InTime (at_slot slot wire)
in_time_slot wire slot l h ToAircraft = order_cleared wire.to_aircraft.waiting (since slot ToAircraft) (since wire.clock ToAircraft) wire.clock slot l (h ToAircraft)
in_time_slot wire slot l h ToGround = order_cleared wire.to_ground.waiting (since slot ToGround) (since wire.clock ToGround) wire.clock slot l (h ToGround)

in_time_put : (wire : WireState) (lane : Lane) (octets : List ℕ) → InTime wire → InTime (after_put lane octets wire)
in_time_put wire ToAircraft octets h ToAircraft = order_pushed wire.to_aircraft (since wire.clock ToAircraft) wire.clock octets (omega arith) (h ToAircraft)
in_time_put wire ToAircraft octets h ToGround = h ToGround
in_time_put wire ToGround octets h ToAircraft = h ToAircraft
in_time_put wire ToGround octets h ToGround = order_pushed wire.to_ground (since wire.clock ToGround) wire.clock octets (omega arith) (h ToGround)

in_time_take : (wire : WireState) (lane : Lane) → InTime wire → InTime (after_take lane wire)
in_time_take wire ToAircraft h ToAircraft = order_popped wire.to_aircraft.waiting (since wire.clock ToAircraft) wire.clock (h ToAircraft)
in_time_take wire ToAircraft h ToGround = h ToGround
in_time_take wire ToGround h ToAircraft = h ToAircraft
in_time_take wire ToGround h ToGround = order_popped wire.to_ground.waiting (since wire.clock ToGround) wire.clock (h ToGround)

-- ## the meaning of a channel

none_new : (wire : WireState) (slot : ℕ) (lane : Lane) → OnlyOf (carried wire lane) (carried (at_slot slot wire) lane)
none_new wire slot ToAircraft = only_cleared wire.to_aircraft.waiting (since slot ToAircraft)
none_new wire slot ToGround = only_cleared wire.to_ground.waiting (since slot ToGround)

moved : (wire : WireState) (slot : ℕ) → Moved clock_of carried wire slot (at_slot slot wire)
moved wire slot = record { clock_is = refl; lanes = none_new wire slot }

added : (wire : WireState) (lane : Lane) (octets : List ℕ) → Added clock_of carried wire lane octets (after_put lane octets wire)
added wire ToAircraft octets = record { clock_is = refl; own = only_pushed wire.to_aircraft (octets, wire.clock); other = λ f h. h }
added wire ToGround octets = record { clock_is = refl; own = only_pushed wire.to_ground (octets, wire.clock); other = λ f h. h }

-- what a put and a slot that are not refused come to
pub puts_is : (wire after : WireState) (lane : Lane) (octets : List ℕ) → bad_frame octets ≡ false → after ≡ after_put lane octets wire
    → (bad_frame octets ≡ false) × Added clock_of carried wire lane octets after
puts_is wire after lane octets b e = (b, subst (Added clock_of carried wire lane octets) (sym e) (added wire lane octets))

pub slots_is : (wire after : WireState) (slot : ℕ) → bad_slot wire.clock slot ≡ false → after ≡ at_slot slot wire
    → (bad_slot wire.clock slot ≡ false) × Moved clock_of carried wire slot after
slots_is wire after slot b e = (b, subst (Moved clock_of carried wire slot) (sym e) (moved wire slot))

-- and the wire stays in time
pub in_time_slots : (wire after : WireState) (slot : ℕ) → wire.clock ≤ slot → InTime wire → after ≡ at_slot slot wire → InTime after
in_time_slots wire after slot l h e = subst InTime (sym e) (in_time_slot wire slot l h)

pub in_time_puts : (wire after : WireState) (lane : Lane) (octets : List ℕ) → InTime wire → after ≡ after_put lane octets wire → InTime after
in_time_puts wire after lane octets h e = subst InTime (sym e) (in_time_put wire lane octets h)

pub in_time_takes : (wire after : WireState) (lane : Lane) → InTime wire → after ≡ after_take lane wire → InTime after
in_time_takes wire after lane h e = subst InTime (sym e) (in_time_take wire lane h)
