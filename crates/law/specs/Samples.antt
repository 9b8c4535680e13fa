-- Logs that are right, and logs that are wrong.
use Rattle.std.specs.Prelude.{ℕ, false, List, [], ◌∷◌, ◌++◌, replicate}
use Rattle.rules.specs.Members.{Among}
use Rattle.law.specs.Log.{End, other, LogOn, Frame, Answer, Event, Shown, Entry, Log}
use Rattle.law.specs.Laws.{Accepts, HandsUp, Laws}

abbrev pub off : LogOn
off = record { aircraft = 0; number = 0 }

abbrev pub on : LogOn
on = record { aircraft = 5; number = 1 }

-- an end under l with A and R, and nothing above them
abbrev pub end : LogOn → ℕ → ℕ → Shown
end l a r = record { log_on = l; oldest = a; acknowledged = replicate 8 false; awaits = r; flags = replicate 8 false }

abbrev pub entry : ℕ → Event → Shown → Shown → Entry
entry slot event at_ground at_air = record { slot = slot; event = event; at_ground = at_ground; at_air = at_air }

-- both ends log on, and in slot 10 the ground accepts a packet of one octet and sends it
abbrev pub sent : Log
sent =
    entry 10 (Event.Sent End.Ground (1 ∷ 5 ∷ 0 ∷ 0 ∷ 0 ∷ 1 ∷ 0 ∷ 32 ∷ 65 ∷ [])) (end on 0 0) (end on 0 0)
    ∷ entry 10 (Event.Accepted End.Ground 2 0 (65 ∷ [])) (end on 0 0) (end on 0 0)
    ∷ entry 10 Event.Ticked (end on 0 0) (end on 0 0)
    ∷ entry 0 (Event.LoggedOn End.Air) (end on 0 0) (end on 0 0)
    ∷ entry 0 (Event.LoggedOn End.Ground) (end on 0 0) (end off 0 0)
    ∷ []

abbrev pub handed_up : List ℕ → Entry
handed_up octets = entry 10 (Event.Brought End.Air (Frame.Data on) (Answer.Packet 2 0 octets)) (end on 0 0) (end on 0 1)

abbrev pub reported : Entry
reported = entry 10 (Event.Reported End.Air (3 ∷ 5 ∷ 0 ∷ 0 ∷ 0 ∷ 1 ∷ 1 ∷ 0 ∷ [])) (end on 0 0) (end on 0 1)

abbrev pub confirmed : Entry
confirmed = entry 10 (Event.Brought End.Ground (Frame.Report on) (Answer.Confirmed ((2, 0) ∷ []))) (end on 1 0) (end on 0 1)

-- the air hands it up and reports, the ground learns that it is confirmed
abbrev pub good : Log
good = confirmed ∷ reported ∷ handed_up (65 ∷ []) ∷ sent

abbrev pub tick : Entry
tick = entry 12 Event.Ticked (end on 1 0) (end on 0 1)

-- another report comes to the ground, which answers so, and has A then
abbrev pub again : Answer → ℕ → Entry
again answer a = entry 12 (Event.Brought End.Ground (Frame.Report on) answer) (end on a 0) (end on 0 1)

abbrev pub later : Answer → ℕ → Log
later answer a = again answer a ∷ tick ∷ good

abbrev pub Samples : Type 0
Samples = record {
  right : Laws good;
  agreed : Laws (later (Answer.Confirmed []) 1);
  refused : Laws (later (Answer.Refused 7) 1) → ⊥;
  stuck : Laws (later (Answer.Confirmed []) 0) → ⊥;
  garbled : Laws (handed_up (66 ∷ []) ∷ sent) → ⊥;
  twice : Laws (handed_up (65 ∷ []) ∷ handed_up (65 ∷ []) ∷ sent) → ⊥;
  credited : Laws (confirmed ∷ sent) → ⊥;
}

-- between two hand-ups of one Q and RN under one log-on lies an accept of it: so no two pair with one accept
abbrev pub Apart : Type 0
Apart =
    (e : End) (l : LogOn) (q rn : ℕ) (xs ys : List ℕ) (newer : Log) (x : Entry) (mid : Log) (y : Entry) (older : Log) →
    Laws (newer ++ x ∷ (mid ++ y ∷ older)) → HandsUp (other e) l q rn xs x → HandsUp (other e) l q rn ys y → (a : Entry) × Among a mid × Accepts e l q rn xs a
