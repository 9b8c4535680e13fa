-- What the clauses of the tie say by themselves, and when they go over to another sender.
use Rattle.std.proofs.Common.{◌≡◌, ℕ, ◌<◌, ◌≤◌, true, false, ◌⊎◌, List, length, get_or, set, Option, refl, ◌∙◌, inl, inr, ⊎_elim, arith}
use Rattle.law.specs.Ledger.{Status, Mark as Word, Use, Sender}
use Rattle.rules.specs.declared.window.BduKey.{BduKey}
use Rattle.rules.specs.declared.window.Mark.{Mark}
use Rattle.rules.specs.declared.window.Progress.{Progress}
use Rattle.rules.specs.declared.window.Standing.{Standing}
use Rattle.rules.specs.Sending.{Outgoing, blank, place, moved, is_open, is_acknowledged}
use Rattle.law.specs.SendingTie.{Carries, Entry, Far, Gone, Holds, Under}
use Rattle.law.proofs.Base.{never}
use Rattle.rules.proofs.Lists.{set_elim}

pub moved_elim : (b : BduKey) (v : Progress) (ps : List Outgoing) (p : ℕ) (P : Outgoing → Type 0) → place b < length ps
    → (p ≡ place b → P (record { standing = (get_or ps (place b) blank).standing; octets = (get_or ps (place b) blank).octets; bdus = set (get_or ps (place b) blank).bdus b.bsn v }))
    → ((p ≡ place b → ⊥) → P (get_or ps p blank)) → P (get_or (moved b v ps) p blank)
moved_elim b v ps p P l same other = set_elim ps (place b) _ blank p P l same other

module _ (T : Sender) where
  pub entry_open : (n : ℕ) (m : Mark) → is_open m ≡ true → Entry T n m → (T.used ≤ n) ⊎ ((n < T.used) × ((T.sent n).mark ≡ Word.Returned))
  entry_open n Mark.Unused o h = inl h
  entry_open n (Mark.OnItsWay slot bdu) o h = never (cc)
  entry_open n Mark.Acknowledged o h = never (cc)
  entry_open n Mark.Returned o h = inr h

  pub entry_shut : (n : ℕ) (m : Mark) → is_open m ≡ false → Entry T n m → n < T.used
  entry_shut n Mark.Unused o h = never (cc)
  entry_shut n (Mark.OnItsWay slot bdu) o h = h.0
  entry_shut n Mark.Acknowledged o h = h.0
  entry_shut n Mark.Returned o h = h.0

  pub gone_not : (c j : ℕ) → Gone T c j → T.status j ≡ Status.Pending → ⊥
  gone_not c j g e = ⊎_elim (λ x. never (cc)) (λ x. never (let z = x.0 in cc)) g

  -- one packet of a key is pending
  pub one_pending : (c p i j : ℕ) → Holds T c p i → j < T.total → (T.packet j).key ≡ p → T.status j ≡ Status.Pending → j ≡ i
  one_pending c p i j h l k e = ⊎_elim (λ x. x) (λ x. absurd (gone_not c j x.1 e)) (h.others j l k)

  -- the same entry for a sender with other numbers
  pub entry_over : (T2 : Sender) (n : ℕ) (m : Mark) → (n < T.used → n < T2.used) → (T.used ≤ n → T2.used ≤ n)
      → (n < T.used → ((T2.sent n).mark ≡ (T.sent n).mark) × ((T2.sent n).slot ≡ (T.sent n).slot))
      → ((b : Option BduKey) → n < T.used → (T.sent n).mark ≡ Word.InFlight → Carries T (T.sent n) b → Carries T2 (T2.sent n) b)
      → Entry T n m → Entry T2 n m
  entry_over T2 n Mark.Unused up down same carry h = down h
  entry_over T2 n (Mark.OnItsWay slot bdu) up down same carry h = let s = same h.0 in (up h.0, s.0 ∙ h.1, s.1 ∙ h.2, carry bdu h.0 h.1 h.3)
  entry_over T2 n Mark.Acknowledged up down same carry h = (up h.0, (same h.0).0 ∙ h.1)
  entry_over T2 n Mark.Returned up down same carry h = (up h.0, (same h.0).0 ∙ h.1)

  -- the packets stay, and the numbers change
  abbrev pub renumbered : ℕ → ℕ → (ℕ → Use) → ℕ → Sender
  renumbered oldest used sent count = record { live = T.live; total = T.total; packet = T.packet; status = T.status; oldest = oldest; used = used; sent = sent; count = count }

  pub under_over : (oldest used : ℕ) (sent : ℕ → Use) (count c : ℕ) (bodies : ℕ → List ℕ) (p : ℕ) (octets : List ℕ) (bdus : List Progress) (st : Standing)
      → ((i : ℕ) → Holds T c p i → (b : ℕ) (v : Progress) → Far T.used T.sent i b v → Far used sent i b v)
      → Under T c bodies p octets bdus st → Under (renumbered oldest used sent count) c bodies p octets bdus st
  under_over oldest used sent count c bodies p octets bdus Standing.Free far h = h
  under_over oldest used sent count c bodies p octets bdus (Standing.Pending since) far h =
      let w = h.2 in
      (h.0, h.1, record { status = w.status; born = w.born; body = w.body; size = w.size; room = w.room; parts = λ b l. far h.0 h.1 b _ (w.parts b l) })
  under_over oldest used sent count c bodies p octets bdus (Standing.Resting until) far h = h

-- the mark says acknowledged exactly if the ledger does
pub entry_acked : (T : Sender) (n : ℕ) (m : Mark) → is_acknowledged m ≡ true → Entry T n m → (n < T.used) × ((T.sent n).mark ≡ Word.Acked)
entry_acked T n Mark.Unused a h = never (cc)
entry_acked T n (Mark.OnItsWay s b) a h = never (cc)
entry_acked T n Mark.Acknowledged a h = h
entry_acked T n Mark.Returned a h = never (cc)

pub acked_entry : (T : Sender) (n : ℕ) (m : Mark) → Entry T n m → n < T.used → (T.sent n).mark ≡ Word.Acked → m ≡ Mark.Acknowledged
acked_entry T n Mark.Unused h l e = absurd (omega arith)
acked_entry T n (Mark.OnItsWay s b) h l e = never (let z = h.1 in cc)
acked_entry T n Mark.Acknowledged h l e = refl
acked_entry T n Mark.Returned h l e = never (let z = h.1 in cc)
