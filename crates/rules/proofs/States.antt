-- The states of BDUs against the numbers on their way: the invariant, and that a new half, an accept and a send have it.
use Rattle.std.proofs.Common.{◌≡◌, ℕ, ◌+◌, ◌*◌, ◌<◌, ◌≤◌, true, ◌⊎◌, List, length, get_or, set, replicate, Some, sym, refl, ap, ◌∙◌, subst, inl, inr, ⊎_elim, arith, length-set}
use Rattle.std.proofs.lemmas.List.{get_or-set_same, get_or-set_other}
use Rattle.rules.specs.Constants.{window_size, packet_room}
use Rattle.rules.specs.Sending.{BduKey, Mark, Progress, Standing, Outgoing, Sending, blank, empty, new, mark, packet, place, pieces, turn, passed, accepted, Waits, is_open, opening, moved, sent}
use Rattle.rules.specs.SendingLaws.{OfPending, Has, progress_of}
use Rattle.rules.proofs.Order.{same_key}
use Rattle.rules.proofs.Lists.{never, set_elim, get_or_same, get_or_either, first_passes, inside}
use Rattle.rules.proofs.Credit.{moved_keeps, moved_progress}
use Rattle.rules.proofs.Leaving.{free_place}

-- the mark is on its way with b
abbrev pub Carries : Mark → BduKey → Type 0
Carries m b = (slot : ℕ) × (m ≡ Mark.OnItsWay slot (Some b))

-- b is one of the BDUs of a pending packet with these octets
abbrev pub Of : List ℕ → Standing → BduKey → Type 0
Of octets standing b = record {
  q : b.q < 4;
  rn : b.rn < 4;
  bsn : b.bsn < pieces octets;
  pending : (since : ℕ) × (standing ≡ Standing.Pending since);
}

-- room: a pending packet has an entry for each of its BDUs. carried: what a number on its way has is a BDU on its way, of a pending packet.
-- once: no two numbers have the same. found: a BDU on its way has a number
abbrev pub Kept : Sending → Type 0
Kept S = record {
  sixteen : length S.packets ≡ 16;
  room : (p since : ℕ) → (packet S p).standing ≡ Standing.Pending since → pieces (packet S p).octets ≤ length (packet S p).bdus;
  carried : (k : ℕ) (b : BduKey) → Has S k b → OfPending S b × (progress_of S b ≡ Progress.OnItsWay);
  once : (j k : ℕ) (b : BduKey) → Has S j b → Has S k b → j ≡ k;
  found : (b : BduKey) → OfPending S b → progress_of S b ≡ Progress.OnItsWay → (k : ℕ) × Has S k b;
}

-- a BDU is known by its place and its BSN
pub same_place : (b c : BduKey) → b.rn < 4 → c.rn < 4 → place b ≡ place c → b.bsn ≡ c.bsn → b ≡ c
same_place b c bl cl p r =
    same_key b c (omega arith) (omega arith) r

pub kept_new : Kept new
kept_new = record {
  sixteen = refl;
  room = λ p since. get_or_either 16 empty blank p (λ o. o.standing ≡ Standing.Pending since → pieces o.octets ≤ length o.bdus) (λ e. never (cc)) (λ e. never (cc));
  carried = λ k b x. never (let y = x.1 in let z = get_or_same window_size Mark.Unused k in cc);
  once = λ j k b x. never (let y = x.1 in let z = get_or_same window_size Mark.Unused j in cc);
  found = λ b x e. never (let z = get_or_either 16 empty blank (place b) (λ o. get_or o.bdus b.bsn Progress.Waiting ≡ Progress.Waiting) (get_or_same 8 Progress.Waiting b.bsn) refl in cc);
}

module _ (S : Sending) (h : Kept S) where
  -- where the entry of a BDU lies
  pub in_packets : (b : BduKey) → OfPending S b → place b < length S.packets
  in_packets b x = inside S.packets (place b) _ x.pending.1

  pub in_bdus : (b : BduKey) → OfPending S b → b.bsn < length (packet S (place b)).bdus
  in_bdus b x = let r = h.room (place b) _ x.pending.1 in omega (arith, x.bsn)

  pub kept_accept : (q : ℕ) (octets : List ℕ) (now : ℕ) → q < 4 → length octets ≤ packet_room → passed S q < 4 → Kept (accepted q (turn S q (passed S q)) octets now S)
  kept_accept q octets now ql most l =
      let at : ℕ = 4 * q + turn S q (passed S q) in
      let o : Outgoing = record { standing = Standing.Pending now; octets = octets; bdus = replicate 8 Progress.Waiting } in
      let free = free_place S q l in
      let within : at < length S.packets = let e = h.sixteen in omega arith in
      record {
        sixteen = length-set S.packets at o ∙ h.sixteen;
        room = λ p since.
            set_elim S.packets at o blank p (λ x. x.standing ≡ Standing.Pending since → pieces x.octets ≤ length x.bdus) within
            (λ _ _. omega arith) (λ _. h.room p since);
        carried = λ k b x.
            let y = h.carried k b x in
            let same : get_or (set S.packets at o) (place b) blank ≡ packet S (place b) = get_or-set_other S.packets at (place b) o blank (λ e. never (let z = ap (λ p. (packet S p).standing) e in let w = y.0.pending.1 in cc)) in
            subst (λ (x : Outgoing). Of x.octets x.standing b × (get_or x.bdus b.bsn Progress.Waiting ≡ Progress.OnItsWay)) (sym same) y;
        once = h.once;
        found = λ b.
            set_elim S.packets at o blank (place b) (λ x. Of x.octets x.standing b → get_or x.bdus b.bsn Progress.Waiting ≡ Progress.OnItsWay → (k : ℕ) × Has S k b) within
            (λ _ _ e. never (let z = get_or_same 8 Progress.Waiting b.bsn in cc)) (λ _. h.found b);
      }

  -- one BDU goes on: it, or another one
  pub moved_state : (b : BduKey) (v : Progress) (c : BduKey) → b.rn < 4 → OfPending S c
      → ((b ≡ c) × (get_or (get_or (moved b v S.packets) (place c) blank).bdus c.bsn Progress.Waiting ≡ v))
      ⊎ ((b ≡ c → ⊥) × (get_or (get_or (moved b v S.packets) (place c) blank).bdus c.bsn Progress.Waiting ≡ progress_of S c))
  moved_state b v c l x =
      ⊎_elim
      (λ y. inl (same_place b c l x.rn y.0 y.1, y.2))
      (λ y. inr ((λ e. y.0 (ap place e) (ap (λ z. z.bsn) e)), y.1))
      (moved_progress b v S.packets (place c) c.bsn (in_packets c x) (in_bdus c x))

  pub kept_send : (b : BduKey) (since now : ℕ) → Waits S b since → opening S < window_size → length S.window ≡ window_size → Kept (sent b (opening S) now S)
  kept_send b since now w l nine =
      let o : ℕ = opening S in
      let m : Mark = Mark.OnItsWay now (Some b) in
      let T : Sending = sent b o now S in
      let within : o < length S.window = omega arith in
      let opens : is_open (mark S o) ≡ true = first_passes window_size (λ j. is_open (mark S j)) l in
      let here : OfPending S b = record { q = w.q; rn = w.rn; bsn = w.bsn; pending = (since, w.pending) } in
      let none : (k : ℕ) → Has S k b → ⊥ = λ k x. never (let z = (h.carried k b x).1 in let u = w.waits in cc) in
      let keep = moved_keeps b Progress.OnItsWay S.packets in
      let to : (c : BduKey) → OfPending S c → OfPending T c = λ c x. subst (λ f. Of f.octets f.standing c) (sym (keep (place c))) x in
      let from : (c : BduKey) → OfPending T c → OfPending S c = λ c x. subst (λ f. Of f.octets f.standing c) (keep (place c)) x in
      record {
        sixteen = length-set S.packets (place b) _ ∙ h.sixteen;
        room = λ p since2 e.
            let s : (packet S p).standing ≡ Standing.Pending since2 = ap (λ f. f.standing) (sym (keep p)) ∙ e in
            subst (λ f. pieces f.octets ≤ f.room) (sym (keep p)) (h.room p since2 s);
        carried = λ k c.
            set_elim S.window o m Mark.Unused k (λ x. Carries x c → OfPending T c × (progress_of T c ≡ Progress.OnItsWay)) within
            (λ _ x.
            let e : b ≡ c = let z = x.1 in cc in
            let there : OfPending S c = subst (OfPending S) e here in
            (to c there, ⊎_elim (λ y. y.1) (λ y. absurd (y.0 e)) (moved_state b Progress.OnItsWay c w.rn there)))
            (λ _ x. let y = h.carried k c x in (to c y.0, ⊎_elim (λ z. z.1) (λ z. z.1 ∙ y.1) (moved_state b Progress.OnItsWay c w.rn y.0)));
        once = λ j k c.
            set_elim S.window o m Mark.Unused j (λ x. Carries x c → Has T k c → j ≡ k) within
            (λ ej x.
            set_elim S.window o m Mark.Unused k (λ y. Carries y c → j ≡ k) within
            (λ ek _. ej ∙ sym ek)
            (λ _ y. absurd (none k (subst (Has S k) (let z = x.1 in cc) y))))
            (λ _ x.
            set_elim S.window o m Mark.Unused k (λ y. Carries y c → j ≡ k) within
            (λ _ y. absurd (none j (subst (Has S j) (let z = y.1 in cc) x)))
            (λ _ y. h.once j k c x y));
        found = λ c x e.
            let y = from c x in
            ⊎_elim
            (λ z. (o, (now, get_or-set_same S.window o m Mark.Unused within ∙ ap (λ d. Mark.OnItsWay now (Some d)) z.0)))
            (λ z.
            let f = h.found c y (sym z.1 ∙ e) in
            let off : f.0 ≡ o → ⊥ = λ s. never (let u = f.1.1 in let v = ap (mark S) s in let r = ap is_open (sym v ∙ u) in cc) in
            (f.0, (f.1.0, get_or-set_other S.window o f.0 m Mark.Unused off ∙ f.1.1)))
            (moved_state b Progress.OnItsWay c w.rn y);
      }
