-- What a call of a half answers and leaves where the half before it is known.
use Rattle.std.proofs.Common.{◌≡◌, ℕ, Bool, true, false, List, [], ◌∷◌, length, Some, None, Ok, Err, Option, Result, sym, refl, ap, ◌∙◌, subst, arith}
use Rattle.frame.specs.Headers.{header_octet, HeaderWritten}
use Rattle.frame.specs.declared.header.BduHeader.{BduHeader}
use Rattle.frame.specs.declared.number.Number.{Ghosts}
use Rattle.std.specs.Result.{result_ok}
use Rattle.rules.specs.Ends.{refused_by, named}
use Rattle.rules.specs.Kept.{Kept}
use Rattle.rules.specs.Members.{Among}
use Rattle.rules.specs.Sending.{Sending, Answer, Sends, turn, passed, accepted, heard, slotted, expired}
use Rattle.rules.specs.declared.fault.EndFault.{EndFault}
use Rattle.rules.proofs.SendAnswers.{one_answer}
use Rattle.sender.specs.Senders.{answer_of, payload_of, sent_by, Chooses, Fitting, accept_rows, Accepts, report_rows, flagged, Foretells, Hears}
use Rattle.sender.specs.declared.choice.Pause.{Pause}
use Rattle.sender.specs.declared.choice.Pause.TheVariants.{Idle, Full, Shut}
use Rattle.sender.specs.declared.choice.ToSend.{ToSend}
use Rattle.sender.specs.Sets.{Contains}
use Rattle.sender.specs.declared.set.PacketSet.{PacketSet}
use Rattle.half.specs.Examples.{frame_of, Goes, one_expiry}
use Rattle.half.specs.declared.examples.Expiry.{Expiry}
use Rattle.half.specs.declared.examples.Sent.{Sent}

never : {A : Type 0} → ◌≡◌ {A = ℕ} 0 1 → A
never e = absurd (omega arith)

-- ## send

-- none goes
pub none_goes : {N : Type 0} (g : Ghosts N) (count slot : ℕ) (S : Sending) (choice : Result (ToSend N) Pause) → ((x : ToSend N) → choice ≡ Ok x → ⊥) → Chooses g count S choice → Goes count slot S None S
none_goes g count slot S (Err Idle) n ch = (Answer.NoneIdle, ch slot, refl)
none_goes g count slot S (Err Full) n ch = (Answer.NoneFull, ch slot, refl)
none_goes g count slot S (Err Shut) n ch = (Answer.NoneShut, ch slot, refl)
none_goes g count slot S (Ok x) n ch = absurd (n x refl)

-- the octet of a header that fits
pub octet_is : (h : BduHeader) (payload : List ℕ) (r : Option ℕ) → HeaderWritten h r → Fitting h payload → r ≡ Some (header_octet h)
octet_is h payload None w f = absurd (w (record { rn_small = f.reference; q_small = f.priority; bsn_small = f.eight }))
octet_is h payload (Some octet) w f = ap Some w.1

-- one goes
pub one_goes : {N : Type 0} (g : Ghosts N) (count slot : ℕ) (S S' : Sending) (x : ToSend N) (number : ℕ) (header : Option ℕ) (payload : List ℕ) → Chooses g count S (Ok x) → S' ≡ sent_by x slot S
    → number ≡ g.value x.number → header ≡ Some (header_octet x.header) → payload ≡ payload_of S x.header → Goes count slot S (Some (record { number = number; header = header; len = length payload })) S'
one_goes g count slot S S' x number header payload ch after n h p =
    let frame : ℕ → Option ℕ → List ℕ → Option Sent = λ a b c. Some (record { number = a; header = b; len = length c }) in
    let same : frame number header payload ≡ frame_of (answer_of g S (Ok x)) = ap (λ a. frame a header payload) n ∙ ap (λ b. frame (g.value x.number) b payload) h ∙ ap (frame (g.value x.number) (Some (header_octet x.header))) p in
    (answer_of g S (Ok x), subst (Sends slot count S (answer_of g S (Ok x))) (sym after) (ch slot), same)

-- a send at a half that is known
pub went : (count slot : ℕ) (S S0 S' S1 : Sending) (r : Option Sent) (a : Answer) → S ≡ S0 → Goes count slot S r S' → Sends slot count S0 a S1 → (r ≡ frame_of a) × (S' ≡ S1)
went count slot S S0 S' S1 r a e go known =
    let same = one_answer slot count S0 go.0 a S' S1 (subst (λ x. Sends slot count x go.0 S') e go.1) known in
    (go.2 ∙ ap frame_of same.0, same.1)

-- ## accept

pub accepts : (q now : ℕ) (octets : List ℕ) (S S0 S' : Sending) (r : Result ℕ EndFault) → S ≡ S0 → Accepts q octets now S r S' → refused_by (accept_rows S0 q octets) ≡ None
    → (r ≡ Ok (turn S0 q (passed S0 q))) × (S' ≡ accepted q (turn S0 q (passed S0 q)) octets now S0)
accepts q now octets S S0 S' r e a clear = go r (subst (λ x. Accepts q octets now x r S') e a)
  where
    go : (r : Result ℕ EndFault) → Accepts q octets now S0 r S' → (r ≡ Ok (turn S0 q (passed S0 q))) × (S' ≡ accepted q (turn S0 q (passed S0 q)) octets now S0)
    go (Ok rn) a = (ap Ok a.1, a.2 ∙ ap (λ x. accepted q x octets now S0) a.1)
    go (Err f) a = never (let z = sym clear ∙ a in cc)

pub accept_refused : {H : Type 0} (q now : ℕ) (octets : List ℕ) (S S0 S' : Sending) (h h' : H) (r : Result ℕ EndFault) (f : EndFault) → S ≡ S0 → Accepts q octets now S r S' → Kept r h h' → refused_by (accept_rows S0 q octets) ≡ Some f
    → (r ≡ Err f) × (h' ≡ h)
accept_refused q now octets S S0 S' h h' r f e a k shut = go r (subst (λ x. Accepts q octets now x r S') e a) k
  where
    go : (r : Result ℕ EndFault) → Accepts q octets now S0 r S' → Kept r h h' → (r ≡ Err f) × (h' ≡ h)
    go (Ok rn) a k = never (let z = sym shut ∙ a.0 in cc)
    go (Err x) a k = (ap Err (let z = sym shut ∙ a in cc), k)

-- ## report

pub hears : (R now octet R0 : ℕ) (S S0 S' : Sending) (r : Result PacketSet EndFault) → S ≡ S0 → R ≡ R0 → Foretells R (flagged octet) now S r → Hears R (flagged octet) now S r S' → refused_by (report_rows S0 R0 (flagged octet)) ≡ None
    → S' ≡ heard R0 (flagged octet) now S0
hears R now octet R0 S S0 S' r e z f h clear =
    go r (subst (λ x. Foretells R0 (flagged octet) now x r) e (subst (λ x. Foretells x (flagged octet) now S r) z f))
    (subst (λ x. Hears R0 (flagged octet) now x r S') e (subst (λ x. Hears x (flagged octet) now S r S') z h))
  where
    go : (r : Result PacketSet EndFault) → Foretells R0 (flagged octet) now S0 r → Hears R0 (flagged octet) now S0 r S' → S' ≡ heard R0 (flagged octet) now S0
    go (Ok set) f h = h
    go (Err x) f h = never (let w = sym clear ∙ f in cc)

-- ## a set that is known

pub holds : (xs ys : List (ℕ × ℕ)) (x : ℕ × ℕ) (b : Bool) → xs ≡ ys → Contains xs x b → Among x ys → b ≡ true
holds xs ys x true e c a = refl
holds xs ys x false e c a = absurd (c (subst (Among x) (sym e) a))

pub lacks : (xs ys : List (ℕ × ℕ)) (x : ℕ × ℕ) (b : Bool) → xs ≡ ys → Contains xs x b → (Among x ys → ⊥) → b ≡ false
lacks xs ys x true e c n = absurd (n (subst (Among x) e c))
lacks xs ys x false e c n = refl

-- ## slot, and what is answered

pub slots : (now : ℕ) (S S0 S' : Sending) → S ≡ S0 → S' ≡ slotted now S → S' ≡ slotted now S0
slots now S S0 S' e s = s ∙ ap (slotted now) e

pub expires : (now : ℕ) (S S0 : Sending) (ps : List ℕ) → S ≡ S0 → ps ≡ expired now S → named ps ≡ named (expired now S0)
expires now S S0 ps e p = ap named (p ∙ ap (expired now) e)

pub given : (o : Option ℕ) (r : Result ℕ EndFault) (rn : ℕ) → o ≡ result_ok r → r ≡ Ok rn → o ≡ Some rn
given o r rn e a = e ∙ ap result_ok a

pub not_given : (o : Option ℕ) (r : Result ℕ EndFault) (f : EndFault) → o ≡ result_ok r → r ≡ Err f → o ≡ None
not_given o r f e a = e ∙ ap result_ok a

pub expiry_is : (early late : Bool) (a b c d e : Option ℕ) → early ≡ false → late ≡ true → a ≡ Some 1 → b ≡ Some 2 → c ≡ Some 3 → d ≡ None → e ≡ Some 0
    → ◌≡◌ {A = Expiry} (record { expires = early ∷ late ∷ []; given = a ∷ b ∷ c ∷ d ∷ e ∷ [] }) one_expiry
expiry_is early late a b c d e x y p q r s t = cc
