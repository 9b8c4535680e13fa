-- The sending half with its end's count does in a run what the ledger allows, so every log of every run is right.
use Rattle.std.proofs.Common.{◌≡◌, ℕ, ◌+◌, ◌*◌, ◌/◌, ◌%◌, ◌<◌, ◌≤◌, Bool, true, false, cond, ltb, List, [], ◌∷◌, map, length, get_or, sym, refl, ap, ◌∙◌, subst, inl, inr, ⊎_elim, add-one, arith}
use Rattle.std.proofs.lemmas.List.FromFn.{length-map-range_with_len, get_or-map-range_with_len}
use Rattle.std.proofs.lemmas.Bool.{cases_lt}
use Rattle.rules.specs.declared.window.BduKey.{BduKey}
use Rattle.rules.specs.Receiving.{Bdu}
use Rattle.rules.specs.Sending.{new, mark, pieces, turn, passed, accepted, is_acknowledged, confirmed}
use Rattle.rules.specs.Members.{Among}
use Rattle.law.specs.Ledger.{Status, Packet, Report, Ledger, put}
use Rattle.law.specs.Ledger as ledger
use Rattle.law.specs.Steps.{fresh, Ages, ticked, after, marked, Run}
use Rattle.law.specs.Steps as steps
use Rattle.law.specs.ReceivingTie.{Body, carried}
use Rattle.law.specs.ReceivingFollows.{Tells}
use Rattle.law.specs.SendingTie.{Entry, Tied, Reads}
use Rattle.law.specs.SendingFollows.{Follows}
use Rattle.law.specs.Log.{End, other, Answer, Entry as LogEntry, shown}
use Rattle.law.specs.Logged.{ShowsSender}
use Rattle.law.specs.WorldSteps.{SendingTie, HearsSo}
use Rattle.law.specs.LinkRuns.{Sender, Accepts, Sends, Hears, Ticks, flag, named, rules, RunsKeepLaws}
use Rattle.law.proofs.SendingNew.{new_tied}
use Rattle.law.proofs.SendingRules.{rules as follows}
use Rattle.law.proofs.WorldRuns.{link_law}
use Rattle.law.proofs.SendingMoves.{entry_acked, acked_entry}
use Rattle.law.proofs.Keeping.{lanes}

-- a ledger of which only the sending half and the clock count
abbrev at : ℕ → ledger.Sender → Ledger
at c T = record { clock = c; tx = T; rx = (fresh 0).rx; frames = []; reports = [] }

-- the sender is that of the ledger's sending half: its half is tied to it, and its count is no less
pub record SentBy (s : Sender) (c : ℕ) (T : ledger.Sender) (B : ℕ → List ℕ) : Type 0 where
  pub count : T.count ≤ s.count
  pub tied : Tied s.half (at c T) B

shows : (s : Sender) (L : Ledger) (B : ℕ → List ℕ) → SentBy s L.clock L.tx B → (e : End) (y : LogEntry) → (shown e y).oldest ≡ rules.oldest s → (shown e y).acknowledged ≡ rules.acknowledged s → ShowsSender L e y
shows s L B h e y a b =
    let f : ℕ → Bool = λ i. is_acknowledged (mark s.half (1 + i)) in
    let acks : (i : ℕ) → i < 8 → get_or (shown e y).acknowledged i false ≡ f i = λ i k. ap (λ v. get_or v i false) b ∙ get_or-map-range_with_len f 0 8 i i false k (omega arith) in
    let entry : (i : ℕ) → Entry L.tx (L.tx.oldest + 1 + i) (mark s.half (1 + i)) =
    λ i. subst (λ n. Entry L.tx n (mark s.half (1 + i))) {x = L.tx.oldest + (1 + i)} {y = L.tx.oldest + 1 + i} (omega arith) (h.tied.entries (1 + i)) in
    record {
      oldest = a ∙ h.tied.oldest;
      eight = ap length b ∙ length-map-range_with_len f 0 8;
      only = λ i k z. entry_acked L.tx (L.tx.oldest + 1 + i) (mark s.half (1 + i)) (sym (acks i k) ∙ z) (entry i);
      all = λ i k u m. acks i k ∙ ap is_acknowledged (acked_entry L.tx (L.tx.oldest + 1 + i) (mark s.half (1 + i)) (entry i) u m);
    }

-- a Q and RN that is listed is of a place that is listed
listed : (ps : List ℕ) (q rn : ℕ) → Among (q, rn) (map named ps) → (p : ℕ) × Among p ps × (p / 4 ≡ q) × (p % 4 ≡ rn)
listed [] q rn i = absurd i
listed (p ∷ ps) q rn i =
    ⊎_elim (λ e. (p, inl refl, ap (λ v. v.0) (sym e), ap (λ v. v.1) (sym e))) (λ j. let r = listed ps q rn j in (r.0, inr r.1, r.2, r.3)) i

module _ (delay : End → ℕ) (small : delay End.Ground + delay End.Air ≤ 1) where
  -- the calls of a half that is tied
  calls : (e : End) (s : Sender) (L : Ledger) (B : ℕ → List ℕ) → Run (delay e) (delay (other e)) L → SentBy s L.clock L.tx B → Follows (delay (other e)) s.half L B
  calls e s L B run h = follows (delay e) (delay (other e)) (lanes delay small e) s.half L B run h.tied

  accepts : (e : End) (s s' : Sender) (q rn : ℕ) (xs : List ℕ) (L : Ledger) (B : ℕ → List ℕ) → Accepts s L.clock q rn xs s' → SentBy s L.clock L.tx B → Run (delay e) (delay (other e)) L
      → (p : Packet) × steps.Accepts L p × Body p xs × (p.key / 4 ≡ q) × (p.key % 4 ≡ rn) × SentBy s' L.clock (steps.accepted p L).tx (put B L.tx.total xs)
  accepts e s s' q rn xs L B rule h run =
      let t = (calls e s L B run h).accepts q xs rule.priority rule.some rule.most rule.free in
      let k : ℕ = turn s.half q (passed s.half q) in
      let small : k < 4 = omega arith in
      let same = rule.turn in
      let p : Packet = record { key = 4 * q + k; size = pieces xs; born = L.clock } in (
        p,
        t.step,
        record { some = rule.some; most = rule.most; size = refl; key = let r = rule.priority in omega arith },
        omega arith,
        omega arith,
        record {
          count = let a = h.count in let b = rule.count in omega arith;
          tied = subst (λ x. Tied x (steps.accepted p L) (put B L.tx.total xs)) (sym (rule.half ∙ ap (λ x. accepted q x xs L.clock s.half) same)) t.tied;
        },
      )

  sends : (e : End) (s s' : Sender) (n : ℕ) (x : Bdu) (L : Ledger) (B : ℕ → List ℕ) → Sends s L.clock n x s' → SentBy s L.clock L.tx B → Run (delay e) (delay (other e)) L
      → (m i b : ℕ) × steps.Sends L m i b × (n ≡ m % 256) × (x ≡ carried L B (record { number = m; packet = i; part = b; slot = L.clock })) × SentBy s' L.clock (steps.sending m i b L).tx B
  sends e s s' n x L B rule h run =
      let b : BduKey = record { q = x.q; rn = x.rn; bsn = x.bsn } in
      let t = (calls e s L B run h).sends s.count h.count n b x.more x.octets s'.half rule.half in
      let here = rule.half.0.1.here in
      let key : ℕ = (L.tx.packet t.packet).key in
      let q : x.q ≡ key / 4 = let r = here.rn in let k = t.key in omega arith in
      let rn : x.rn ≡ key % 4 = let r = here.rn in let k = t.key in omega arith in
      let made : ℕ → ℕ → Bool → List ℕ → Bdu = λ q rn more octets. record { q = q; rn = rn; more = more; bsn = x.bsn; octets = octets } in (
        _,
        t.packet,
        x.bsn,
        t.step,
        t.number,
        ap (λ v. made v x.rn x.more x.octets) q ∙ ap (λ v. made (key / 4) v x.more x.octets) rn ∙ ap (λ v. made (key / 4) (key % 4) v x.octets) (t.more ∙ ap (λ v. ltb v (L.tx.packet t.packet).size) (add-one x.bsn)) ∙ ap (made (key / 4) (key % 4) _) t.octets,
        record { count = let a = h.count in let b = rule.count in omega arith; tied = t.tied },
      )

  hears : (e : End) (s s' : Sender) (R : ℕ) (fs : List Bool) (answer : Answer) (L : Ledger) (B : ℕ → List ℕ) → Hears s L.clock R fs answer s' → SentBy s L.clock L.tx B
      → Run (delay e) (delay (other e)) L → (r : Report) → Among r L.reports → L.clock ≤ r.slot + delay (other e) → Tells (R, fs) r → HearsSo SentBy s answer L B s' r
  hears e s s' R fs Answer.Held L B rule h run r u timely tells = absurd rule
  hears e s s' R fs (Answer.Packet q rn xs) L B rule h run r u timely tells = absurd rule
  hears e s s' R fs (Answer.Refused n) L B rule h run r u timely tells =
      let c = calls e s L B run h in
      let reads : Reads r R (flag fs) = record { low = tells.oldest; flags = tells.flags; only = tells.within } in
      ⊎_elim
      (λ late. inl (n, refl, late, rule.2))
      (λ current. absurd ((c.current r R (flag fs) reads u timely current).0 rule.1))
      (cases_lt r.low L.tx.oldest)
  hears e s s' R fs (Answer.Confirmed ps) L B rule h run r u timely tells =
      let c = calls e s L B run h in
      let reads : Reads r R (flag fs) = record { low = tells.oldest; flags = tells.flags; only = tells.within } in
      ⊎_elim
      (λ late. absurd (rule.taken (c.late r R (flag fs) reads u timely late)))
      (λ current.
      let t = (c.current r R (flag fs) reads u timely current).1 in
      inr (
        t.oldest,
        t.status,
        ps,
        refl,
        current,
        t.moves,
        t.confirms,
        λ q rn i.
            let x = listed (confirmed R (flag fs) L.clock s.half) q rn (subst (Among (q, rn)) rule.packets i) in
            let y = t.lists.only x.0 x.1 in
            (y.0, y.1, y.3, y.4, ap (λ v. v / 4) y.2 ∙ x.2, ap (λ v. v % 4) y.2 ∙ x.3),
        record {
          count = let a = h.count in let b = rule.count in omega arith;
          tied = subst (λ x. Tied x (marked (after L r) t.oldest t.status L) B) (sym rule.half) t.tied;
        },
      ))
      (cases_lt r.low L.tx.oldest)

  ticks : (e : End) (s s' : Sender) (c : ℕ) (L : Ledger) (B : ℕ → List ℕ) → L.clock ≤ c → Ticks s L.clock c s' → SentBy s L.clock L.tx B → Run (delay e) (delay (other e)) L
      → (st : ℕ → Status) × Ages L c st × SentBy s' c (ticked c st L).tx B
  ticks e s s' c L B later rule h run =
      let t = (calls e s L B run h).slot c later in (
        t.status,
        t.ages,
        record {
          count = subst (λ v. cond (ltb L.clock c) 0 L.tx.count ≤ v) (sym rule.count) (less (ltb L.clock c));
          tied = subst (λ x. Tied x (ticked c t.status L) B) (sym rule.half) t.tied;
        },
      )
    where
      less : (b : Bool) → cond b 0 L.tx.count ≤ cond b 0 s.count
      less true = omega arith
      less false = h.count

  fresh_ticks : (e : End) (c : ℕ) (L : Ledger) (B : ℕ → List ℕ) → L.clock ≤ c → Run (delay e) (delay (other e)) L → ((s : Sender) → s.half ≡ new → SentBy s L.clock L.tx B)
      → (st : ℕ → Status) × Ages L c st × ((s : Sender) → s.half ≡ new → SentBy s c (ticked c st L).tx B)
  fresh_ticks e c L B later run all =
      let s : Sender = record { half = new; count = 0 } in
      let x = ticks e s s c L B later (record { half = refl; count = none (ltb L.clock c) }) (all s refl) run in (
        x.0,
        x.1,
        λ v f. record {
          count = let a = x.2.count in omega arith;
          tied = subst (λ w. Tied w (ticked c x.0 L) B) (sym f) x.2.tied;
        },
      )
    where
      none : (b : Bool) → ◌≡◌ {A = ℕ} 0 (cond b 0 0)
      none true = refl
      none false = refl

  tie : SendingTie Sender rules delay
  tie = record {
    SentBy = SentBy;
    starts = λ c B s f. record { count = omega arith; tied = subst (λ v. Tied v (fresh c) B) (sym f) (new_tied c B) };
    shows = shows;
    accepts = λ e s s' q rn xs L B rule live h run. accepts e s s' q rn xs L B rule h run;
    sends = λ e s s' n x L B rule live h run. sends e s s' n x L B rule h run;
    hears = λ e s s' R fs answer L B rule live h run. hears e s s' R fs answer L B rule h run;
    ticks = λ e s s' c L B later rule live h run. ticks e s s' c L B later rule h run;
    fresh_ticks = λ e c L B later run live all. fresh_ticks e c L B later run all;
  }

pub runs_keep_laws : RunsKeepLaws
runs_keep_laws delay small W log r = link_law Sender rules delay small (tie delay small) W log r
