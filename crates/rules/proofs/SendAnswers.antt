-- The rules of send always leave exactly one answer.
use Rattle.std.proofs.Common.{◌≡◌, ℕ, ◌+◌, ◌≤◌, ltb, ◌⊎◌, Some, None, Option, sym, refl, ap, ◌∙◌, subst, inl, inr, ⊎_elim, arith}
use Rattle.std.proofs.lemmas.Bool.{cases_lt}
use Rattle.frame.specs.Numbers.{advanced}
use Rattle.rules.specs.Constants.{a_slot, window_size}
use Rattle.rules.specs.Sending.{BduKey, Sending, Answer, packet, place, piece, pieces, Next, Idle, Sends, sent, opening, mark, is_open}
use Rattle.rules.specs.Choice.{chosen, Chosen}
use Rattle.rules.specs.SendAnswers.{OneAnswer, SomeAnswer}
use Rattle.rules.proofs.Lists.{first_most}
use Rattle.rules.proofs.Order.{next_one}
use Rattle.rules.proofs.Choice.{finds_next}

pub one_answer : OneAnswer
one_answer now count S Answer.NoneIdle Answer.NoneIdle S1 S2 x y = (refl, x.1 ∙ sym y.1)
one_answer now count S Answer.NoneIdle Answer.NoneFull S1 S2 x y = absurd (y.0 x.0)
one_answer now count S Answer.NoneIdle Answer.NoneShut S1 S2 x y = absurd (y.0 x.0)
one_answer now count S Answer.NoneIdle (Answer.Sent n b m o) S1 S2 x y = absurd (x.0 b _ y.0.1.here)
one_answer now count S Answer.NoneFull Answer.NoneIdle S1 S2 x y = absurd (x.0 y.0)
one_answer now count S Answer.NoneFull Answer.NoneFull S1 S2 x y = (refl, x.2 ∙ sym y.2)
one_answer now count S Answer.NoneFull Answer.NoneShut S1 S2 x y = absurd (let e = x.1 in let f = y.1 in omega arith)
one_answer now count S Answer.NoneFull (Answer.Sent n b m o) S1 S2 x y = absurd (let e = x.1 in let f = y.1 in omega arith)
one_answer now count S Answer.NoneShut Answer.NoneIdle S1 S2 x y = absurd (x.0 y.0)
one_answer now count S Answer.NoneShut Answer.NoneFull S1 S2 x y = absurd (let e = x.1 in let f = y.1 in omega arith)
one_answer now count S Answer.NoneShut Answer.NoneShut S1 S2 x y = (refl, x.3 ∙ sym y.3)
one_answer now count S Answer.NoneShut (Answer.Sent n b m o) S1 S2 x y = absurd (let e = x.2 in let f = y.2 in omega arith)
one_answer now count S (Answer.Sent n b m o) Answer.NoneIdle S1 S2 x y = absurd (y.0 b _ x.0.1.here)
one_answer now count S (Answer.Sent n b m o) Answer.NoneFull S1 S2 x y = absurd (let e = x.1 in let f = y.1 in omega arith)
one_answer now count S (Answer.Sent n b m o) Answer.NoneShut S1 S2 x y = absurd (let e = x.2 in let f = y.2 in omega arith)
one_answer now count S (Answer.Sent n b m o) (Answer.Sent k c l p) S1 S2 x y =
    let e = next_one S b c _ _ x.0.1 y.0.1 in
    let y2 = subst (λ z. Sends now count S (Answer.Sent k z l p) S2) (sym e) y in
    let n1 = x.3 in let n2 = y2.3 in let m1 = x.4 in let m2 = y2.4 in let o1 = x.5 in let o2 = y2.5 in
    ((cc), x.6 ∙ sym y2.6)

chosen_or : (S : Sending) (r : Option BduKey) → Chosen S r → Idle S ⊎ ((b : BduKey) × (t : ℕ) × Next S b t)
chosen_or S None h = inl h
chosen_or S (Some b) h = inr (b, h.0, h.1)

-- there is one choice
one_choice : (S : Sending) (r s : Option BduKey) → Chosen S r → Chosen S s → r ≡ s
one_choice S None None x y = refl
one_choice S None (Some c) x y = absurd (x c y.0 y.1.here)
one_choice S (Some b) None x y = absurd (y b x.0 x.1.here)
one_choice S (Some b) (Some c) x y = ap Some (next_one S b c x.0 y.0 x.1 y.1)

-- so what is chosen is what the search in the row finds
pub chosen_is : (S : Sending) (r : Option BduKey) → Chosen S r → r ≡ chosen S.packets 128
chosen_is S r h = one_choice S r (chosen S.packets 128) h (finds_next S)

pub some_answer : SomeAnswer
some_answer now count S =
    ⊎_elim
    (λ idle. (Answer.NoneIdle, S, (idle, refl)))
    (λ b.
    let busy : Idle S → ⊥ = λ idle. idle b.0 b.1 b.2.here in
    ⊎_elim
    (λ room. ⊎_elim
    (λ wide. (Answer.Sent (advanced S.oldest (opening S)) b.0 (ltb (b.0.bsn + 1) (pieces (packet S (place b.0)).octets)) (piece (packet S (place b.0)).octets b.0.bsn), sent b.0 (opening S) now S, ((b.1, b.2), room, wide, refl, refl, refl, refl)))
    (λ shut. (Answer.NoneShut, S, (busy, room, (let m : opening S ≤ window_size = first_most window_size (λ k. is_open (mark S k)) in omega arith), refl)))
    (cases_lt (opening S) window_size))
    (λ full. (Answer.NoneFull, S, (busy, full, refl)))
    (cases_lt count a_slot))
    (chosen_or S (chosen S.packets 128) (finds_next S))
