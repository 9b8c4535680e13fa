-- What has to be shown of an entry that tells of a bring, by its answer, for the packets of the end e under l.
use Rattle.std.proofs.Common.{◌≡◌, ℕ, List, subst, arith}
use Rattle.rules.specs.Members.{Among}
use Rattle.law.proofs.Base.{never}
use Rattle.law.specs.Log.{End, other, LogOn, Frame, Answer, Event, Entry, Holds, Log}
use Rattle.law.specs.Laws.{HandsUp, Confirms, Hears, Paired, Arrived, QuietSince, Agree, Right}

pub not_itself : (e : End) → e ≡ other e → ⊥
not_itself End.Ground z = let y : ◌≡◌ {A = ℕ} 0 1 = cc in omega arith
not_itself End.Air z = let y : ◌≡◌ {A = ℕ} 0 1 = cc in omega arith

module _ (e : End) (l : LogOn) (x : Entry) (log : Log) where
  -- e is not brought anything that it takes, and the other end hands nothing up
  pub right_none : ((q rn : ℕ) (octets : List ℕ) → HandsUp (other e) l q rn octets x → ⊥) → ((answer : Answer) → Hears e l answer x → ⊥) → ((q rn : ℕ) → Confirms e l q rn x → ⊥) → Right e l x log
  right_none a b c = record { hand_ups = λ q rn octets h. absurd (a q rn octets h); confirms = λ q rn h. absurd (c q rn h); reports = λ answer h. absurd (b answer h) }

  pub right_packet : (f0 : Frame) → (q0 rn0 : ℕ) (o0 : List ℕ) → x.event ≡ Event.Brought (other e) f0 (Answer.Packet q0 rn0 o0) → (Holds (other e) l x → Paired e l q0 rn0 o0 log) → Right e l x log
  right_packet f0 q0 rn0 o0 z p = record {
    hand_ups = λ q rn octets h.
        let w = h.0.1 in
        let qq : q0 ≡ q = cc in
        let rr : rn0 ≡ rn = cc in
        let oo : o0 ≡ octets = cc in
        subst (λ v. Paired e l v rn octets log) qq (subst (λ v. Paired e l q0 v octets log) rr (subst (λ v. Paired e l q0 rn0 v log) oo (p h.1)));
    confirms = λ q rn h. never (let w = h.0.2 in cc);
    reports = λ answer h. absurd (not_itself e (let w = h.0 in cc));
  }

  pub right_confirmed : (f0 : Frame) → (ps : List (ℕ × ℕ)) → x.event ≡ Event.Brought e f0 (Answer.Confirmed ps)
      → (Holds e l x → (q rn : ℕ) → Among (q, rn) ps → Arrived e l q rn log)
      → (f0 ≡ Frame.Report l → Holds e l x → Holds (other e) l x → QuietSince e l log x.slot → Agree e (Answer.Confirmed ps) x)
      → Right e l x log
  right_confirmed f0 ps z all agree = record {
    hand_ups = λ q rn octets h. never (let w = h.0.1 in cc);
    confirms = λ q rn h.
        let w = h.0.2 in
        let pp : h.0.1 ≡ ps = cc in
        all h.1 q rn (subst (λ v. Among (q, rn) v) pp h.0.3);
    reports = λ answer h.
        let w = h.0 in
        let ff : f0 ≡ Frame.Report l = cc in
        let aa : Answer.Confirmed ps ≡ answer = cc in
        subst (λ v. Holds (other e) l x → QuietSince e l log x.slot → Agree e v x) aa (agree ff h.1);
  }

  pub right_refused : (f0 : Frame) → (n : ℕ) → x.event ≡ Event.Brought e f0 (Answer.Refused n) → (f0 ≡ Frame.Report l → Holds e l x → Holds (other e) l x → QuietSince e l log x.slot → ⊥) → Right e l x log
  right_refused f0 n z cannot = record {
    hand_ups = λ q rn octets h. never (let w = h.0.1 in cc);
    confirms = λ q rn h. never (let w = h.0.2 in cc);
    reports = λ answer h both quiet. absurd (cannot (let w = h.0 in cc) h.1 both quiet);
  }
