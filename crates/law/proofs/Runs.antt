-- Every run of the ledger keeps the invariant.
use Rattle.std.proofs.Common.{ℕ, ◌+◌, ◌≤◌, refl}
use Rattle.law.specs.Ledger.{Ledger}
use Rattle.law.specs.Steps.{landed, handed_up, Run}
use Rattle.law.proofs.Base.{never}
use Rattle.law.proofs.Inv.{Inv}
use Rattle.law.proofs.Numbers.{numbers_fresh, numbers_tick, numbers_accept, numbers_send, numbers_take, fair_report, numbers_mark}
use Rattle.law.proofs.Underway.{underway_fresh, underway_tick, underway_send, underway_take, underway_report}
use Rattle.law.proofs.Places.{places_fresh, places_tick, places_accept, places_send, places_mark}
use Rattle.law.proofs.Landing.{places_land, places_hand}

pub kept : (d1 d2 : ℕ) → d1 + d2 ≤ 1 → {L : Ledger} → Run d1 d2 L → Inv d1 d2 L
kept d1 d2 s (Run.start c) = record { numbers = numbers_fresh d1 d2 s c; underway = underway_fresh d1 d2 s c; places = places_fresh d1 d2 s c }
kept d1 d2 s (Run.slot {L} r c l st ages) =
    let h = kept d1 d2 s r in
    record { numbers = numbers_tick d1 d2 s L h c l st ages; underway = underway_tick d1 d2 s L h c l st; places = places_tick d1 d2 s L h c l st ages }
kept d1 d2 s (Run.accept {L} r p a) =
    let h = kept d1 d2 s r in
    record { numbers = numbers_accept d1 d2 s L h p a; underway = h.underway; places = places_accept d1 d2 s L h p a }
kept d1 d2 s (Run.send {L} r n i b a) =
    let h = kept d1 d2 s r in
    record { numbers = numbers_send d1 d2 s L h n i b a; underway = underway_send d1 d2 s L h n i b a; places = places_send d1 d2 s L h n i b a }
kept d1 d2 s (Run.land {L} r f c part o op) =
    let h = kept d1 d2 s r in
    record {
      numbers = numbers_take d1 d2 s L h f c.underway c.timely (landed f o L).rx refl;
      underway = underway_take d1 d2 s L h f c.underway c.timely (landed f o L).rx refl;
      places = places_land d1 d2 s L h f c part o op;
    }
kept d1 d2 s (Run.hand {L} r f c full) =
    let h = kept d1 d2 s r in
    record {
      numbers = numbers_take d1 d2 s L h f c.underway c.timely (handed_up f L).rx refl;
      underway = underway_take d1 d2 s L h f c.underway c.timely (handed_up f L).rx refl;
      places = places_hand d1 d2 s L h f c full;
    }
kept d1 d2 s (Run.report {L} r R lo) =
    let h = kept d1 d2 s r in
    record { numbers = h.numbers; underway = underway_report d1 d2 s L h R lo; places = h.places }
kept d1 d2 s (Run.hear {L} r p c A o st cs) =
    let h = kept d1 d2 s r in
    let fair = fair_report d1 d2 s L h p c.underway c.timely in
    record { numbers = numbers_mark d1 d2 s L h _ fair A o st cs; underway = h.underway; places = places_mark d1 d2 s L h c.live _ fair A st cs }
kept d1 d2 s (Run.lose {L} r fs rs u v) =
    let h = kept d1 d2 s r in
    record {
      numbers = h.numbers;
      underway = record { frames = λ f a. h.underway.frames f (u f a); reports = λ p a. h.underway.reports p (v p a) };
      places = h.places;
    }
kept d1 d2 s (Run.leave_sender {L} r) =
    let h = kept d1 d2 s r in
    let n = h.numbers in
    record {
      numbers = record {
        low = n.low;
        high = n.high;
        few = n.few;
        below = n.below;
        sure = n.sure;
        back = n.back;
        early = n.early;
        uses = n.uses;
        claims = n.claims;
        waits = λ l. never (cc);
        sizes = n.sizes;
        births = n.births;
      };
      underway = h.underway;
      places = h.places;
    }
kept d1 d2 s (Run.leave_receiver {L} r) =
    let h = kept d1 d2 s r in
    let o = h.places in
    record {
      numbers = h.numbers;
      underway = h.underway;
      places = record {
        held = λ p b i e.
            let v = o.held p b i e in
            record { mine = v.mine; known = v.known; kept = v.kept; came = v.came; born = v.born; young = v.young; lasts = λ l. never (cc); only = v.only; all = v.all };
        lacks = o.lacks;
        where_is = o.where_is;
        whole = o.whole;
        older = o.older;
        safe = o.safe;
      };
    }
