-- A report keeps the states of BDUs and the numbers on their way together: first marks and BDUs are judged, then the window moves, then whole packets are closed.
use Rattle.std.proofs.Common.{◌≡◌, ℕ, ◌+◌, ◌-◌, ◌<◌, ◌≤◌, Bool, true, false, not, leb, ◌++◌, map, length, get_or, drop, replicate, Some, sym, refl, ap, ◌∙◌, subst, ⊎_elim, arith}
use Rattle.std.proofs.lemmas.Bool.{cases_lt, cases_Bool, cond_both, cond-false, and_parts, not-false, leb-true}
use Rattle.std.proofs.lemmas.List.{length-map}
use Rattle.rules.specs.Constants.{window_size}
use Rattle.rules.specs.Sending.{BduKey, Mark, Progress, Standing, Outgoing, Sending, blank, mark, packet, place, pieces, first, gap, told, is_old, judged, judge, credit, is_acknowledged, lead, is_acked, is_pending, is_whole, closed, heard}
use Rattle.rules.specs.SendingLaws.{OfPending, Has}
use Rattle.rules.proofs.Lists.{never, get_or_map, get_or_shift, first_least}
use Rattle.rules.proofs.Credit.{get_or_judge, credit_keeps, credit_length, credit_cases}
use Rattle.rules.proofs.States.{Carries, Of, Kept, same_place, in_packets, in_bdus}

-- ## marks and BDUs are judged

-- a mark that still has its BDU was neither told nor old
judged_carries : (m : Mark) (tell old : Bool) (b : BduKey) → Carries (judged m tell old) b → Carries m b × (tell ≡ false) × (old ≡ false)
judged_carries Mark.Unused tell old b x = never (let z = x.1 in cc)
judged_carries (Mark.OnItsWay s d) true old b x = never (let z = x.1 in cc)
judged_carries (Mark.OnItsWay s d) false true b x = never (let z = x.1 in cc)
judged_carries (Mark.OnItsWay s d) false false b x = (x, refl, refl)
judged_carries Mark.Acknowledged tell old b x = never (let z = x.1 in cc)
judged_carries Mark.Returned tell old b x = never (let z = x.1 in cc)

judged_still : (m : Mark) (tell old : Bool) (b : BduKey) → tell ≡ false → old ≡ false → Carries m b → Carries (judged m tell old) b
judged_still m tell old b t o x =
    let w : Mark = Mark.OnItsWay x.0 (Some b) in
    (x.0, ap (λ v. judged v tell old) x.1 ∙ ap (λ v. judged w v old) t ∙ ap (judged w false) o)

abbrev judged_half : (ℕ → Bool) → ℕ → Sending → Sending
judged_half tell now S = record { oldest = S.oldest; window = judge tell now S.window; packets = credit tell now S.window S.packets; last = S.last }

kept_judged : (tell : ℕ → Bool) (now : ℕ) (S : Sending) → Kept S → Kept (judged_half tell now S)
kept_judged tell now S h =
    let T : Sending = judged_half tell now S in
    let keep = credit_keeps tell now S.window S.packets in
    let to : (b : BduKey) → OfPending S b → OfPending T b = λ b x. subst (λ f. Of f.octets f.standing b) (sym (keep (place b))) x in
    let from : (b : BduKey) → OfPending T b → OfPending S b = λ b x. subst (λ f. Of f.octets f.standing b) (keep (place b)) x in
    let was : (k : ℕ) (b : BduKey) → Has T k b → Has S k b × (tell k ≡ false) × (is_old now (mark S k) ≡ false) =
    λ k b x. judged_carries (mark S k) (tell k) (is_old now (mark S k)) b (subst (λ m. Carries m b) (get_or_judge tell now S.window k) x) in
    record {
      sixteen = credit_length tell now S.window S.packets ∙ h.sixteen;
      room = λ p since e.
          let s : (packet S p).standing ≡ Standing.Pending since = ap (λ f. f.standing) (sym (keep p)) ∙ e in
          subst (λ f. pieces f.octets ≤ f.room) (sym (keep p)) (h.room p since s);
      carried = λ k b x.
          let y = was k b x in
          let z = h.carried k b y.0 in (
            to b z.0,
            ⊎_elim
                (λ c. c.0 ∙ z.1)
                (λ c.
                let j : ℕ = c.0 in
                let d : BduKey = c.1.0.1 in
                let theirs : Has S j d = (c.1.0.0, c.1.0.2) in
                let same : d ≡ b = same_place d b (h.carried j d theirs).0.rn z.0.rn c.1.0.3 c.1.0.4 in
                let one : j ≡ k = h.once j k b (subst (Has S j) same theirs) y.0 in
                ⊎_elim
                (λ t. never (let u = t.0 in let v = y.1 in let w = ap tell one in cc))
                (λ t. never (let u = t.1 in let v = y.2 in let w = ap (λ i. is_old now (mark S i)) one in cc))
                c.1.1)
                (credit_cases tell now S.window S.packets (place b) b.bsn (in_packets S h b z.0) (in_bdus S h b z.0)),
          );
      once = λ j k b x y. h.once j k b (was j b x).0 (was k b y).0;
      found = λ b x e.
          let y = from b x in
          ⊎_elim
          (λ c.
          let f = h.found b y (sym c.0 ∙ e) in
          let still = c.1 f.0 (f.1.0, b, f.1.1, refl, refl) in
          (f.0, subst (λ m. Carries m b) (sym (get_or_judge tell now S.window f.0)) (judged_still (mark S f.0) (tell f.0) (is_old now (mark S f.0)) b still.0 still.1 f.1)))
          (λ c. ⊎_elim (λ w. never (let u = w.1 in cc)) (λ w. never (let u = w.2 in cc)) c.1.1)
          (credit_cases tell now S.window S.packets (place b) b.bsn (in_packets S h b y) (in_bdus S h b y));
    }

-- ## the window moves

abbrev shifted : ℕ → Sending → Sending
shifted n S = record { oldest = S.oldest; window = drop n S.window ++ replicate n Mark.Unused; packets = S.packets; last = S.last }

kept_shifted : (n : ℕ) (S : Sending) → ((k : ℕ) → k < n → is_acknowledged (mark S k) ≡ true) → Kept S → Kept (shifted n S)
kept_shifted n S front h =
    let at = get_or_shift n S.window Mark.Unused in
    let was : (k : ℕ) (b : BduKey) → Has (shifted n S) k b → Has S (n + k) b = λ k b x. subst (λ m. Carries m b) (at k) x in
    record {
      sixteen = h.sixteen;
      room = h.room;
      carried = λ k b x. h.carried (n + k) b (was k b x);
      once = λ j k b x y. let e = h.once (n + j) (n + k) b (was j b x) (was k b y) in omega arith;
      found = λ b x e.
          let f = h.found b x e in
          let behind : n ≤ f.0 =
          ⊎_elim (λ l. never (let u = front f.0 l in let v = ap is_acknowledged f.1.1 in cc)) (λ g. g) (cases_lt f.0 n) in
          (f.0 - n, subst (λ m. Carries m b) (sym (at (f.0 - n))) (subst (λ k. Has S k b) {x = f.0} {y = n + (f.0 - n)} (omega arith) f.1));
    }

-- ## whole packets are closed

acked_is : (p : Progress) → is_acked p ≡ true → p ≡ Progress.Acknowledged
acked_is Progress.Waiting e = never (cc)
acked_is Progress.OnItsWay e = never (cc)
acked_is Progress.Acknowledged e = refl

whole_acked : (o : Outgoing) → is_whole o ≡ true → (d : ℕ) → d < pieces o.octets → get_or o.bdus d Progress.Waiting ≡ Progress.Acknowledged
whole_acked o w d l =
    let f : ℕ → Bool = λ b. not (is_acked (get_or o.bdus b Progress.Waiting)) in
    let x = and_parts (is_pending o.standing) (leb (pieces o.octets) (first (pieces o.octets) f)) w in
    let y = leb-true (pieces o.octets) (first (pieces o.octets) f) x.1 in
    acked_is _ (not-false _ (first_least (pieces o.octets) f d (omega arith)))

-- what is pending after it was so before
closed_pending : (o : Outgoing) (since : ℕ) → (closed o).standing ≡ Standing.Pending since → o.standing ≡ Standing.Pending since
closed_pending o since = cond_both (is_whole o) Standing.Free o.standing (λ s. s ≡ Standing.Pending since → o.standing ≡ Standing.Pending since) (λ _ e. never (cc)) (λ _ e. e)

abbrev settled : Sending → Sending
settled S = record { oldest = S.oldest; window = S.window; packets = map closed S.packets; last = S.last }

kept_settled : (S : Sending) → Kept S → Kept (settled S)
kept_settled S h =
    let at : (p : ℕ) → packet (settled S) p ≡ closed (packet S p) = get_or_map closed S.packets blank in
    record {
      sixteen = length-map S.packets closed ∙ h.sixteen;
      room = λ p since.
          subst (λ (o : Outgoing). o.standing ≡ Standing.Pending since → pieces o.octets ≤ length o.bdus) (sym (at p)) (λ e. h.room p since (closed_pending (packet S p) since e));
      carried = λ k b x.
          let o : Outgoing = packet S (place b) in
          let y = h.carried k b x in
          let open_still : is_whole o ≡ false =
          ⊎_elim (λ w. never (let z = whole_acked o w b.bsn y.0.bsn in let u = y.1 in cc)) (λ w. w) (cases_Bool (is_whole o)) in
          let stands : (closed o).standing ≡ Standing.Pending y.0.pending.0 = cond-false (is_whole o) Standing.Free o.standing open_still ∙ y.0.pending.1 in
          subst (λ (o : Outgoing). Of o.octets o.standing b × (get_or o.bdus b.bsn Progress.Waiting ≡ Progress.OnItsWay)) (sym (at (place b)))
          (record { q = y.0.q; rn = y.0.rn; bsn = y.0.bsn; pending = (y.0.pending.0, stands) }, y.1);
      once = h.once;
      found = λ b.
          subst (λ (o : Outgoing). Of o.octets o.standing b → get_or o.bdus b.bsn Progress.Waiting ≡ Progress.OnItsWay → (k : ℕ) × Has S k b) (sym (at (place b)))
          (λ x e. h.found b (record { q = x.q; rn = x.rn; bsn = x.bsn; pending = (x.pending.0, closed_pending (packet S (place b)) _ x.pending.1) }) e);
    }

pub kept_heard : (R : ℕ) (flag : ℕ → Bool) (now : ℕ) (S : Sending) → Kept S → Kept (heard R flag now S)
kept_heard R flag now S h =
    let J : Sending = judged_half (told (gap R S) flag) now S in
    let n : ℕ = lead J.window in
    kept_settled (shifted n J)
    (kept_shifted n J (λ k l. not-false _ (first_least window_size (λ i. not (is_acknowledged (mark J i))) k l))
    (kept_judged (told (gap R S) flag) now S h))
