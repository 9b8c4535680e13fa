-- The sending halves that the worked examples come by.
use Rattle.std.proofs.Common.{◌≡◌, ℕ, false, [], ◌∷◌, refl, arith}
use Rattle.rules.specs.Choice.{chosen}
use Rattle.rules.specs.Examples.{key, loaded, gone}
use Rattle.rules.specs.Sending.{Sending, Answer, Sends, accepted, sent, heard, slotted}
use Rattle.rules.proofs.Examples.{next, idle}
use Rattle.sender.specs.Senders.{flagged}

-- sent in slot 10, and returned in slot 12
abbrev pub returned : Sending
returned = heard 0 (flagged 0) 12 (gone 10)

abbrev pub again : Sending
again = sent (key 0) 0 12 returned

-- the one BDU goes in the slot of its accept
pub goes : (now : ℕ) → Sends now 0 (loaded now) (Answer.Sent 0 (key 0) false (65 ∷ [])) (gone now)
unfolding chosen
goes now = (next (loaded now) (key 0) refl, omega arith, omega arith, refl, refl, refl, refl)

-- one slot later none waits
pub waits : Sends 11 0 (gone 10) Answer.NoneIdle (gone 10)
unfolding chosen
waits = (idle (gone 10) refl, refl)

-- two slots later it goes again
pub goes_again : Sends 12 0 returned (Answer.Sent 0 (key 0) false (65 ∷ [])) again
unfolding chosen
goes_again = (next returned (key 0) refl, omega arith, omega arith, refl, refl, refl, refl)

-- a report that comes one slot later leaves it on its way
pub unmoved : heard 0 (flagged 0) 11 (gone 10) ≡ gone 10
unmoved = refl

-- expired in slot 174, and resting until slot 249
abbrev pub resting : Sending
resting = slotted 248 (slotted 174 (slotted 173 (gone 100)))

-- with packets of one octet under the reference numbers 1, 2 and 3
abbrev pub one_taken : Sending
one_taken = accepted 2 1 (65 ∷ []) 248 resting

abbrev pub two_taken : Sending
two_taken = accepted 2 2 (65 ∷ []) 248 one_taken

abbrev pub three_taken : Sending
three_taken = accepted 2 3 (65 ∷ []) 248 two_taken
