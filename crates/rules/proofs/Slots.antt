-- A slot keeps the states of BDUs and the numbers on their way together.
use Rattle.std.proofs.Common.{◌≡◌, ℕ, ◌+◌, ◌≤◌, false, leb, List, length, get_or, Some, None, sym, ap, ◌∙◌, subst}
use Rattle.std.proofs.lemmas.Bool.{cond_both, cond-false}
use Rattle.std.proofs.lemmas.List.{length-map}
use Rattle.rules.specs.Constants.{lifetime, rest}
use Rattle.rules.specs.Sending.{BduKey, Mark, Progress, Standing, Outgoing, Sending, blank, mark, packet, place, pieces, is_late, rested, aged, older, left, slotted}
use Rattle.rules.specs.SendingLaws.{Has}
use Rattle.rules.proofs.Lists.{never, get_or_map}
use Rattle.rules.proofs.States.{Carries, Of, Kept}

-- what is pending after a slot was so before, and is not late
rested_not : (now until since : ℕ) → rested now until ≡ Standing.Pending since → ⊥
rested_not now until since = cond_both (leb until now) Standing.Free (Standing.Resting until) (λ s. s ≡ Standing.Pending since → ⊥) (λ _ e. never (cc)) (λ _ e. never (cc))

aged_pending : (now : ℕ) (s : Standing) (since : ℕ) → aged now s ≡ Standing.Pending since → (s ≡ Standing.Pending since) × (is_late now s ≡ false)
aged_pending now Standing.Free since = λ e. never (cc)
aged_pending now (Standing.Pending t) since =
    cond_both (leb (t + lifetime) now) (rested now (t + rest)) (Standing.Pending t) (λ s. s ≡ Standing.Pending since → (Standing.Pending t ≡ Standing.Pending since) × (leb (t + lifetime) now ≡ false))
    (λ _ e. absurd (rested_not now (t + rest) since e))
    (λ f e. (e, f))
aged_pending now (Standing.Resting until) since = λ e. absurd (rested_not now until since e)

aged_still : (now : ℕ) (s : Standing) (since : ℕ) → s ≡ Standing.Pending since → is_late now s ≡ false → aged now s ≡ Standing.Pending since
aged_still now s since e f =
    ap (aged now) e ∙ cond-false (leb (since + lifetime) now) (rested now (since + rest)) (Standing.Pending since) (ap (is_late now) (sym e) ∙ f)

-- a mark that still has its BDU had it, and the packet of that is not late
left_carries : (now : ℕ) (ps : List Outgoing) (m : Mark) (b : BduKey) → Carries (left now ps m) b → Carries m b × (is_late now (get_or ps (place b) blank).standing ≡ false)
left_carries now ps Mark.Unused b x = never (let z = x.1 in cc)
left_carries now ps (Mark.OnItsWay s None) b x = never (let z = x.1 in cc)
left_carries now ps (Mark.OnItsWay s (Some c)) b x =
    cond_both (is_late now (get_or ps (place c) blank).standing) None (Some c)
    (λ d. Mark.OnItsWay s d ≡ Mark.OnItsWay x.0 (Some b) → Carries (Mark.OnItsWay s (Some c)) b × (is_late now (get_or ps (place b) blank).standing ≡ false))
    (λ _ e. never (cc))
    (λ f e. let same : c ≡ b = cc in ((s, ap (λ d. Mark.OnItsWay s (Some d)) same), ap (λ d. is_late now (get_or ps (place d) blank).standing) (sym same) ∙ f))
    x.1
left_carries now ps Mark.Acknowledged b x = never (let z = x.1 in cc)
left_carries now ps Mark.Returned b x = never (let z = x.1 in cc)

left_still : (now : ℕ) (ps : List Outgoing) (m : Mark) (b : BduKey) → is_late now (get_or ps (place b) blank).standing ≡ false → Carries m b → Carries (left now ps m) b
left_still now ps m b f x =
    (x.0, ap (left now ps) x.1 ∙ ap (Mark.OnItsWay x.0) (cond-false (is_late now (get_or ps (place b) blank).standing) None (Some b) f))

pub kept_slotted : (now : ℕ) (S : Sending) → Kept S → Kept (slotted now S)
kept_slotted now S h =
    let T : Sending = slotted now S in
    let at : (p : ℕ) → packet T p ≡ older now (packet S p) = get_or_map (older now) S.packets blank in
    let marks : (k : ℕ) → mark T k ≡ left now S.packets (mark S k) = get_or_map (left now S.packets) S.window Mark.Unused in
    let was : (k : ℕ) (b : BduKey) → Has T k b → Has S k b × (is_late now (packet S (place b)).standing ≡ false) =
    λ k b x. left_carries now S.packets (mark S k) b (subst (λ m. Carries m b) (marks k) x) in
    record {
      sixteen = length-map S.packets (older now) ∙ h.sixteen;
      room = λ p since.
          subst (λ (o : Outgoing). o.standing ≡ Standing.Pending since → pieces o.octets ≤ length o.bdus) (sym (at p)) (λ e. h.room p since (aged_pending now (packet S p).standing since e).0);
      carried = λ k b x.
          let y = was k b x in
          let z = h.carried k b y.0 in
          let stands = aged_still now (packet S (place b)).standing _ z.0.pending.1 y.1 in
          subst (λ (o : Outgoing). Of o.octets o.standing b × (get_or o.bdus b.bsn Progress.Waiting ≡ Progress.OnItsWay)) (sym (at (place b)))
          (record { q = z.0.q; rn = z.0.rn; bsn = z.0.bsn; pending = (z.0.pending.0, stands) }, z.1);
      once = λ j k b x y. h.once j k b (was j b x).0 (was k b y).0;
      found = λ b.
          subst (λ (o : Outgoing). Of o.octets o.standing b → get_or o.bdus b.bsn Progress.Waiting ≡ Progress.OnItsWay → (k : ℕ) × Has T k b) (sym (at (place b)))
          (λ x e.
          let y = aged_pending now (packet S (place b)).standing _ x.pending.1 in
          let f = h.found b (record { q = x.q; rn = x.rn; bsn = x.bsn; pending = (x.pending.0, y.0) }) e in
          (f.0, subst (λ m. Carries m b) (sym (marks f.0)) (left_still now S.packets (mark S f.0) b y.1 f.1)));
    }
