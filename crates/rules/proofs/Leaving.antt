-- A pending packet leaves only when it is confirmed or expires.
use Rattle.std.proofs.Common.{◌≡◌, ℕ, ◌+◌, ◌*◌, ◌<◌, Bool, true, leb, ◌⊎◌, List, get_or, sym, refl, ap, ◌∙◌, subst, inl, inr, ⊎_elim, arith}
use Rattle.std.proofs.lemmas.Bool.{cases_Bool, cond-false}
use Rattle.std.proofs.lemmas.List.{get_or-set_other}
use Rattle.rules.specs.Constants.{lifetime, rest}
use Rattle.rules.specs.Sending.{BduKey, Progress, Standing, Outgoing, Sending, Answer, blank, packet, is_free, turn, passed, accepted, Sends, moved, gap, told, is_whole, closed, places, heard, confirmed, is_late, rested, aged, older, slotted, expired, credits}
use Rattle.rules.specs.Members.{Among}
use Rattle.rules.specs.SendingLaws.{Stays, LeavesBy}
use Rattle.rules.proofs.Lists.{never, get_or_map, first_passes, places_have, inside}
use Rattle.rules.proofs.Credit.{moved_keeps, credit_keeps}

free_is : (s : Standing) → is_free s ≡ true → s ≡ Standing.Free
free_is Standing.Free e = refl
free_is (Standing.Pending since) e = never (cc)
free_is (Standing.Resting until) e = never (cc)

-- the place that an accept takes was free
pub free_place : (S : Sending) (q : ℕ) → passed S q < 4 → (packet S (4 * q + turn S q (passed S q))).standing ≡ Standing.Free
free_place S q l = free_is _ (first_passes 4 (λ k. is_free (packet S (4 * q + turn S q k)).standing) l)

module _ (S : Sending) (p since : ℕ) (pending : (packet S p).standing ≡ Standing.Pending since) where
  stays_accept : (q : ℕ) (octets : List ℕ) (now : ℕ) → passed S q < 4 → Stays p since S (accepted q (turn S q (passed S q)) octets now S)
  stays_accept q octets now l =
      let place : ℕ = 4 * q + turn S q (passed S q) in
      let free = free_place S q l in
      let other : p ≡ place → ⊥ = λ e. never (let z = ap (λ x. (packet S x).standing) e in cc) in
      let same = get_or-set_other S.packets place p (record { standing = Standing.Pending now; octets = octets; bdus = _ }) blank other in
      (ap (λ o. o.standing) same ∙ pending, ap (λ o. o.octets) same)

  -- one BDU went on
  stays_moved : (b : BduKey) (v : Progress) → ((get_or (moved b v S.packets) p blank).standing ≡ Standing.Pending since) × ((get_or (moved b v S.packets) p blank).octets ≡ (packet S p).octets)
  stays_moved b v = let same = moved_keeps b v S.packets p in (ap (λ f. f.standing) same ∙ pending, ap (λ f. f.octets) same)

  stays_send : (now count : ℕ) (answer : Answer) (S' : Sending) → Sends now count S answer S' → Stays p since S S'
  stays_send now count Answer.NoneIdle S' s = subst (Stays p since S) (sym s.1) (pending, refl)
  stays_send now count Answer.NoneFull S' s = subst (Stays p since S) (sym s.2) (pending, refl)
  stays_send now count Answer.NoneShut S' s = subst (Stays p since S) (sym s.3) (pending, refl)
  stays_send now count (Answer.Sent number b more octets) S' s = subst (Stays p since S) (sym s.6) (stays_moved b Progress.OnItsWay)

  leaves_hear : (R : ℕ) (flag : ℕ → Bool) (now : ℕ) → Stays p since S (heard R flag now S) ⊎ Among p (confirmed R flag now S)
  leaves_hear R flag now =
      let cs : List Outgoing = credits R flag now S in
      let keep = credit_keeps (told (gap R S) flag) now S.window S.packets p in
      let still : (get_or cs p blank).standing ≡ Standing.Pending since = ap (λ f. f.standing) keep ∙ pending in
      let at = get_or_map closed cs blank p in
      ⊎_elim
      (λ w. inr (subst (λ k. Among k (places is_whole 0 cs)) {x = 0 + p} {y = p} (omega arith) (places_have is_whole 0 cs p (inside cs p since still) w)))
      (λ w. inl (ap (λ o. o.standing) at ∙ cond-false (is_whole (get_or cs p blank)) Standing.Free (get_or cs p blank).standing w ∙ still, ap (λ o. o.octets) at ∙ ap (λ f. f.octets) keep))
      (cases_Bool (is_whole (get_or cs p blank)))

  leaves_slot : (now : ℕ) → Stays p since S (slotted now S) ⊎ Among p (expired now S)
  leaves_slot now =
      let at = get_or_map (older now) S.packets blank p in
      let aging = ap (λ o. o.standing) at in
      ⊎_elim
      (λ l. inr (subst (λ k. Among k (expired now S)) {x = 0 + p} {y = p} (omega arith) (places_have (λ o. is_late now o.standing) 0 S.packets p (inside S.packets p since pending) (ap (is_late now) pending ∙ l))))
      (λ l. inl (aging ∙ ap (aged now) pending ∙ cond-false (leb (since + lifetime) now) (rested now (since + rest)) (Standing.Pending since) l, ap (λ o. o.octets) at))
      (cases_Bool (leb (since + lifetime) now))

pub leaves_by : LeavesBy
leaves_by S p since pending = record {
  accept = stays_accept S p since pending;
  send = stays_send S p since pending;
  hear = leaves_hear S p since pending;
  slot = leaves_slot S p since pending;
}
