-- What a report makes of the packets, place by place: the BDUs of one packet after the numbers are judged one by one.
use Rattle.std.proofs.Common.{◌≡◌, ℕ, zero, suc, ◌+◌, ◌<◌, Bool, true, false, eqb, List, [], ◌∷◌, map, length, get_or, set, take, Some, None, sym, refl, ap, ◌∙◌, subst, suc-add, ⊎_elim, arith}
use Rattle.std.specs.Prelude.{fold}
use Rattle.std.specs.List.{enumerate_from}
use Rattle.std.proofs.lemmas.List.{length-map, get_or-set_same, get_or-set_other, set_past, get_or_past}
use Rattle.std.proofs.lemmas.Bool.{cases_lt, cases_eq, eq-eqb, ne_eqb, cond-true, cond-false}
use Rattle.sender.specs.Hearings.{moved_by, moved_on, step, credit_step, credit_of}
use Rattle.sender.specs.Packets.{packet_of, with_bdus}
use Rattle.sender.specs.declared.packet.Packet.{Packet}
use Rattle.sender.proofs.PacketRow.{nothing, packet_at}
use Rattle.rules.proofs.Credit.{credit_length}
use Rattle.rules.specs.Sending.{Outgoing, blank, place, moved, is_old, credited, credit}
use Rattle.rules.specs.declared.window.BduKey.{BduKey}
use Rattle.rules.specs.declared.window.Mark.{Mark}
use Rattle.rules.specs.declared.window.Progress.{Progress}

-- the packet at a place after a BDU went on
abbrev gone_on : BduKey → Progress → Outgoing → Outgoing
gone_on b v o = with_bdus (set o.bdus b.bsn v) o

hit : (b : BduKey) (v : Progress) (ps : List Outgoing) → get_or (moved b v ps) (place b) blank ≡ gone_on b v (get_or ps (place b) blank)
hit b v ps =
    ⊎_elim
    (λ l. get_or-set_same ps (place b) (gone_on b v (get_or ps (place b) blank)) blank l)
    (λ g.
    let e = get_or_past ps (place b) blank g in
    ap (λ x. get_or x (place b) blank) (set_past ps (place b) (gone_on b v (get_or ps (place b) blank)) g) ∙ e ∙ ap (gone_on b v) (sym e))
    (cases_lt (place b) (length ps))

moved_at : (b : BduKey) (v : Progress) (ps : List Outgoing) (p : ℕ) → get_or (moved b v ps) p blank ≡ with_bdus (step p (Some (b, v)) (get_or ps p blank).bdus) (get_or ps p blank)
moved_at b v ps p =
    let here : List Progress = set (get_or ps p blank).bdus b.bsn v in
    let same : List Progress = (get_or ps p blank).bdus in
    ⊎_elim
    (λ e.
    subst (λ x. get_or (moved b v ps) x blank ≡ gone_on b v (get_or ps x blank)) e (hit b v ps)
    ∙ ap (λ x. with_bdus x (get_or ps p blank)) (sym (cond-true (eqb (place b) p) here same (eq-eqb (place b) p e))))
    (λ n.
    get_or-set_other ps (place b) p _ blank (λ z. n (sym z))
    ∙ ap (λ x. with_bdus x (get_or ps p blank)) (sym (cond-false (eqb (place b) p) here same (ne_eqb (place b) p n))))
    (cases_eq (place b) p)

credited_at : (m : Mark) (t o : Bool) (ps : List Outgoing) (p : ℕ) → get_or (credited m t o ps) p blank ≡ with_bdus (step p (moved_by m t o) (get_or ps p blank).bdus) (get_or ps p blank)
credited_at Mark.Unused t o ps p = refl
credited_at (Mark.OnItsWay s None) t o ps p = refl
credited_at (Mark.OnItsWay s (Some b)) true o ps p = moved_at b Progress.Acknowledged ps p
credited_at (Mark.OnItsWay s (Some b)) false true ps p = moved_at b Progress.Waiting ps p
credited_at (Mark.OnItsWay s (Some b)) false false ps p = refl
credited_at Mark.Acknowledged t o ps p = refl
credited_at Mark.Returned t o ps p = refl

credit_from : (f tell : ℕ → Bool) (i now : ℕ) (ms : List Mark) (ps : List Outgoing) (p : ℕ) → ((k : ℕ) → f k ≡ tell (i + k))
    → get_or (credit f now ms ps) p blank
    ≡ with_bdus (fold (credit_step p tell now) (get_or ps p blank).bdus (enumerate_from i ms)) (get_or ps p blank)
credit_from f tell i now [] ps p same = refl
credit_from f tell i now (m ∷ ms) ps p same =
    let o : Outgoing = get_or ps p blank in
    let here : f 0 ≡ tell i = same 0 ∙ ap tell (omega arith) in
    credit_from (λ k. f (suc k)) tell (i + 1) now ms (credited m (f 0) (is_old now m) ps) p (λ k. same (suc k) ∙ ap tell (omega arith))
    ∙ ap (λ (x : Outgoing). with_bdus (fold (credit_step p tell now) x.bdus (enumerate_from (i + 1) ms)) x)
    (credited_at m (f 0) (is_old now m) ps p ∙ ap (λ t. with_bdus (step p (moved_by m t (is_old now m)) o.bdus) o) here)

-- all numbers judged
pub credit_at : (tell : ℕ → Bool) (now : ℕ) (ms : List Mark) (ps : List Outgoing) (p : ℕ)
    → get_or (credit tell now ms ps) p blank ≡ with_bdus (credit_of p tell now ms (get_or ps p blank).bdus) (get_or ps p blank)
credit_at tell now ms ps p = credit_from tell tell 0 now ms ps p (λ k. ap tell (omega arith))

-- the same of the packets in code
pub packet_credited : (tell : ℕ → Bool) (now : ℕ) (ms : List Mark) (ps : List Packet) (p : ℕ)
    → get_or (credit tell now ms (map packet_of ps)) p blank ≡ with_bdus (credit_of p tell now ms (get_or ps p nothing).bdus) (packet_of (get_or ps p nothing))
packet_credited tell now ms ps p =
    credit_at tell now ms (map packet_of ps) p ∙ ap (λ (o : Outgoing). with_bdus (credit_of p tell now ms o.bdus) o) (packet_at ps p)

pub length_credited : (tell : ℕ → Bool) (now : ℕ) (ms : List Mark) (ps : List Packet) → length (credit tell now ms (map packet_of ps)) ≡ length ps
length_credited tell now ms ps = credit_length tell now ms (map packet_of ps) ∙ length-map ps packet_of

-- the numbers are judged one by one
pub credit_more : (tell : ℕ → Bool) (now : ℕ) (ms : List Mark) (ps : List Outgoing) (i : ℕ) → i < length ms
    → credit tell now (take (i + 1) ms) ps ≡ credited (get_or ms i Mark.Unused) (tell i) (is_old now (get_or ms i Mark.Unused)) (credit tell now (take i ms) ps)
credit_more tell now [] ps i l = absurd (omega arith)
credit_more tell now (m ∷ ms) ps zero l = refl
credit_more tell now (m ∷ ms) ps (suc i) l = rw (suc-add i 1) (credit_more (λ k. tell (suc k)) now ms (credited m (tell 0) (is_old now m) ps) i (omega arith))

-- a number moves its BDU on
pub credited_moves : (m : Mark) (tell old : Bool) (ps : List Outgoing) → credited m tell old ps ≡ moved_on (moved_by m tell old) ps
credited_moves Mark.Unused t o ps = refl
credited_moves (Mark.OnItsWay s None) t o ps = refl
credited_moves (Mark.OnItsWay s (Some b)) true o ps = refl
credited_moves (Mark.OnItsWay s (Some b)) false true ps = refl
credited_moves (Mark.OnItsWay s (Some b)) false false ps = refl
credited_moves Mark.Acknowledged t o ps = refl
credited_moves Mark.Returned t o ps = refl
