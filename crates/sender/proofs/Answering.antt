-- From what the code finds to what the calls of a sending half promise.
use Rattle.std.proofs.Common.{◌≡◌, ℕ, ◌+◌, ◌*◌, ◌<◌, ◌≤◌, Bool, true, false, ltb, ◌||◌, List, [], ◌∷◌, ◌++◌, map, length, drop, set, replicate, Some, None, Ok, Err, Result, sym, refl, ap, ◌∙◌, subst, arith, length-drop, length-take}
use Rattle.std.proofs.lemmas.Bool.{ltb-true, le-ltb, ne_eqb, or_from}
use Rattle.frame.specs.Numbers.{advanced}
use Rattle.rules.specs.Ends.{Rows, refused_by}
use Rattle.rules.specs.Sending.{Outgoing, Sending, packet, place, pieces, piece, Waits, Next, Answer, Sends, opening, sent, is_whole, closed, credit, judge, lead, heard, passed}
use Rattle.rules.specs.declared.fault.EndFault.{EndFault}
use Rattle.rules.specs.declared.fault.EndFault.TheVariants as fault
use Rattle.rules.specs.declared.window.BduKey.{BduKey}
use Rattle.rules.specs.declared.window.Mark.{Mark}
use Rattle.sender.specs.Hearings.{tells}
use Rattle.sender.specs.Senders.{key_of, flagged, hearing_of, payload_of, accept_rows, Fitting, Outcome, Foretells}
use Rattle.frame.specs.declared.header.BduHeader.{BduHeader}
use Rattle.sender.specs.Sets.{marked}
use Rattle.sender.specs.declared.hearing.Hearing.{Hearing}
use Rattle.sender.specs.declared.set.PacketSet.{PacketSet}
use Rattle.sender.proofs.Sets.{marked_map}

-- a row that refuses, and one that does not
pub refuses : (b : Bool) (f : EndFault) (rows : Rows) → b ≡ true → refused_by ((b, f) ∷ rows) ≡ Some f
refuses b f rows e = ap (λ x. refused_by ((x, f) ∷ rows)) e

pub passes : (b : Bool) (f : EndFault) (rows : Rows) → b ≡ false → refused_by ((b, f) ∷ rows) ≡ refused_by rows
passes b f rows e = ap (λ x. refused_by ((x, f) ∷ rows)) e

-- what accept takes, no row refuses
pub accept_open : (S : Sending) (q : ℕ) (octets : List ℕ) → 1 ≤ length octets → length octets ≤ 424 → q ≤ 3 → passed S q < 4 → refused_by (accept_rows S q octets) ≡ None
accept_open S q octets some most small free =
    let n : ℕ = length octets in
    passes _ fault.Packet _ (or_from (ltb n 1) (ltb 424 n || ltb 3 q) (le-ltb n 1 some) (or_from (ltb 424 n) (ltb 3 q) (le-ltb 424 n most) (le-ltb 3 q small)))
    ∙ passes _ fault.NoReference [] (ne_eqb (passed S q) 4 (λ e. omega arith))

-- the answer to a report
outcome_foretells : (R octet now : ℕ) (S : Sending) (r : Result PacketSet EndFault) → Outcome (hearing_of R octet now S) S.window S.packets r → Foretells R (flagged octet) now S r
outcome_foretells R octet now S (Ok set) o =
    (passes _ fault.Number [] o.0, ap (marked 0) o.1 ∙ marked_map is_whole 0 (credit (tells (hearing_of R octet now S)) now S.window S.packets))
outcome_foretells R octet now S (Err f) o = refuses _ fault.Number [] o.0 ∙ ap Some (sym o.1)

pub foretold : (h : Hearing) (R octet now : ℕ) (S : Sending) (r : Result PacketSet EndFault) → h ≡ hearing_of R octet now S → Outcome h S.window S.packets r → Foretells R (flagged octet) now S r
foretold h R octet now S r e o = outcome_foretells R octet now S r (subst (λ x. Outcome x S.window S.packets r) e o)

-- equal in its parts
pub same_sending : (o o' : ℕ) (w w' : List Mark) (p p' : List Outgoing) (l l' : List ℕ) → o ≡ o' → w ≡ w' → p ≡ p' → l ≡ l'
    → ◌≡◌ {A = Sending} (record { oldest = o; window = w; packets = p; last = l }) (record { oldest = o'; window = w'; packets = p'; last = l' })
same_sending o o' w w' p p' l l' x y z t = cc

-- the half after a report
module _ (S : Sending) (R octet now by oldest : ℕ) (judged moved : List Mark) (packets : List Outgoing) where
  heard_so : packets ≡ map closed (credit (tells (hearing_of R octet now S)) now S.window S.packets) → judged ≡ judge (tells (hearing_of R octet now S)) now S.window → by ≡ lead judged
      → moved ≡ drop by judged ++ replicate by Mark.Unused → oldest ≡ advanced S.oldest by → record { oldest = oldest; window = moved; packets = packets; last = S.last } ≡ heard R (flagged octet) now S
  heard_so p j b m o =
      let ms : List Mark = judge (tells (hearing_of R octet now S)) now S.window in
      let led : by ≡ lead ms = b ∙ ap lead j in
      let front : drop by judged ++ replicate by Mark.Unused ≡ drop (lead ms) judged ++ replicate (lead ms) Mark.Unused = ap (λ n. drop n judged ++ replicate n Mark.Unused) led in
      same_sending _ _ _ _ _ _ _ _ (o ∙ ap (advanced S.oldest) led) (m ∙ front ∙ ap (λ x. drop (lead ms) x ++ replicate (lead ms) Mark.Unused) j) p refl

  pub heard_is : (h : Hearing) → h ≡ hearing_of R octet now S → packets ≡ map closed (credit (tells h) h.slot S.window S.packets) → judged ≡ judge (tells h) h.slot S.window → by ≡ lead judged
      → moved ≡ drop by judged ++ replicate by Mark.Unused → oldest ≡ advanced S.oldest by → record { oldest = oldest; window = moved; packets = packets; last = S.last } ≡ heard R (flagged octet) now S
  heard_is h e p j b m o =
      heard_so (subst (λ x. packets ≡ map closed (credit (tells x) x.slot S.window S.packets)) e p) (subst (λ x. judged ≡ judge (tells x) x.slot S.window) e j) b m o

-- what is chosen makes a BDU
pub chosen_fits : (S : Sending) (b : BduKey) (since : ℕ) (h : BduHeader) → Waits S b since → length (packet S (place b)).octets ≤ 424
    → h ≡ record { rn = b.rn; q = b.q; more = ltb (b.bsn + 1) (pieces (packet S (place b)).octets); bsn = b.bsn } → Fitting h (payload_of S h)
chosen_fits S b since h w long e = subst (λ x. Fitting x (payload_of S x)) (sym e) fits
  where
    fits : Fitting (record { rn = b.rn; q = b.q; more = ltb (b.bsn + 1) (pieces (packet S (place b)).octets); bsn = b.bsn }) (piece (packet S (place b)).octets b.bsn)
    fits =
        let n = length-take 53 (drop (53 * b.bsn) (packet S (place b)).octets) in
        let d = length-drop (53 * b.bsn) (packet S (place b)).octets in
        let x = w.bsn in
        record {
          reference = w.rn;
          priority = w.q;
          eight = w.eight;
          last = λ t. let m = ltb-true (b.bsn + 1) (pieces (packet S (place b)).octets) t in omega arith;
          some = omega arith;
          most = omega arith;
          full = λ t. let m = ltb-true (b.bsn + 1) (pieces (packet S (place b)).octets) t in omega arith;
        }

-- what is chosen is what send's rule sends
module _ (S : Sending) (b : BduKey) (h : BduHeader) (count n entry : ℕ) (next : (since : ℕ) × Next S b since) (few : count < 8) (here : entry < 9) (first_open : entry ≡ opening S)
    (number : n ≡ advanced S.oldest entry) where
  sends_so : (now : ℕ) → Sends now count S (Answer.Sent n b (ltb (b.bsn + 1) (pieces (packet S (place b)).octets)) (piece (packet S (place b)).octets b.bsn)) (sent b entry now S)
  sends_so now =
      (next, few, subst (λ k. k < 9) first_open here, number ∙ ap (advanced S.oldest) first_open, refl, refl, ap (λ k. sent b k now S) first_open)

  pub chosen_sends : h ≡ record { rn = b.rn; q = b.q; more = ltb (b.bsn + 1) (pieces (packet S (place b)).octets); bsn = b.bsn }
      → (now : ℕ) → Sends now count S (Answer.Sent n (key_of h) h.more (payload_of S h)) (sent (key_of h) entry now S)
  chosen_sends e now = subst (λ x. Sends now count S (Answer.Sent n (key_of x) x.more (payload_of S x)) (sent (key_of x) entry now S)) (sym e) (sends_so now)
