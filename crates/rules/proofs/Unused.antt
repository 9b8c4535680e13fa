-- Unused numbers are the last of the window.
use Rattle.std.proofs.Common.{◌≡◌, ℕ, ◌+◌, ◌<◌, ◌≤◌, Bool, true, false, not, List, map, length, get_or, set, Some, None, sym, refl, ap, ◌∙◌, subst, arith, length-set}
use Rattle.std.proofs.lemmas.Bool.{both_ways}
use Rattle.std.proofs.lemmas.List.{length-map}
use Rattle.rules.specs.Constants.{window_size}
use Rattle.rules.specs.Sending.{Mark, Outgoing, Sending, first, is_open, opening, gap, told, is_old, judged, judge, is_acknowledged, lead, left}
use Rattle.rules.specs.SendingLaws.{Called, UnusedLast}
use Rattle.rules.proofs.Lists.{never, set_elim, get_or_map, get_or_same, get_or_shift, length_shift, first_most, first_least}
use Rattle.rules.proofs.Credit.{get_or_judge, length_judge}

-- behind an unused entry there are only unused ones
abbrev Last : List Mark → Type 0
Last ms = (j k : ℕ) → j ≤ k → get_or ms j Mark.Unused ≡ Mark.Unused → get_or ms k Mark.Unused ≡ Mark.Unused

-- a call that leaves unused exactly what was
last_over : (ms ns : List Mark) → ((k : ℕ) → get_or ns k Mark.Unused ≡ Mark.Unused → get_or ms k Mark.Unused ≡ Mark.Unused)
    → ((k : ℕ) → get_or ms k Mark.Unused ≡ Mark.Unused → get_or ns k Mark.Unused ≡ Mark.Unused) → Last ms → Last ns
last_over ms ns from to h j k l e = to k (h j k l (from j e))

judged_unused : (m : Mark) (tell old : Bool) → judged m tell old ≡ Mark.Unused → m ≡ Mark.Unused
judged_unused Mark.Unused tell old e = refl
judged_unused (Mark.OnItsWay s b) true old e = never (cc)
judged_unused (Mark.OnItsWay s b) false true e = never (cc)
judged_unused (Mark.OnItsWay s b) false false e = never (cc)
judged_unused Mark.Acknowledged tell old e = never (cc)
judged_unused Mark.Returned tell old e = never (cc)

left_unused : (now : ℕ) (ps : List Outgoing) (m : Mark) → left now ps m ≡ Mark.Unused → m ≡ Mark.Unused
left_unused now ps Mark.Unused e = refl
left_unused now ps (Mark.OnItsWay s None) e = never (cc)
left_unused now ps (Mark.OnItsWay s (Some b)) e = never (cc)
left_unused now ps Mark.Acknowledged e = never (cc)
left_unused now ps Mark.Returned e = never (cc)

last_judge : (tell : ℕ → Bool) (now : ℕ) (ms : List Mark) → Last ms → Last (judge tell now ms)
last_judge tell now ms =
    last_over ms (judge tell now ms)
    (λ k e. judged_unused (get_or ms k Mark.Unused) (tell k) (is_old now (get_or ms k Mark.Unused)) (sym (get_or_judge tell now ms k) ∙ e))
    (λ k e. get_or_judge tell now ms k ∙ ap (λ m. judged m (tell k) (is_old now m)) e)

last_left : (now : ℕ) (ps : List Outgoing) (ms : List Mark) → Last ms → Last (map (left now ps) ms)
last_left now ps ms =
    last_over ms (map (left now ps) ms)
    (λ k e. left_unused now ps (get_or ms k Mark.Unused) (sym (get_or_map (left now ps) ms Mark.Unused k) ∙ e))
    (λ k e. get_or_map (left now ps) ms Mark.Unused k ∙ ap (left now ps) e)

-- the first open entry is used
last_sent : (ms : List Mark) (m : Mark) → (m ≡ Mark.Unused → ⊥) → let o : ℕ = first window_size (λ k. is_open (get_or ms k Mark.Unused)) in o < length ms → Last ms → Last (set ms o m)
last_sent ms m ne l h j k le =
    let o : ℕ = first window_size (λ i. is_open (get_or ms i Mark.Unused)) in
    set_elim ms o m Mark.Unused j (λ x. x ≡ Mark.Unused → get_or (set ms o m) k Mark.Unused ≡ Mark.Unused) l
    (λ _ e. absurd (ne e))
    (λ off e.
    set_elim ms o m Mark.Unused k (λ x. x ≡ Mark.Unused) l
    (λ at. absurd (both_ways _ (first_least window_size (λ i. is_open (get_or ms i Mark.Unused)) j (omega arith)) (ap is_open e)))
    (λ _. h j k le e))

-- the lead of a list is no longer than the window
lead_most : (ms : List Mark) → lead ms ≤ window_size
lead_most ms = first_most window_size (λ k. not (is_acknowledged (get_or ms k Mark.Unused)))

last_in : {c : ℕ} {S : Sending} → Called c S → (length S.window ≡ window_size) × Last S.window
last_in (Called.begun c) = (refl, λ j k l e. get_or_same window_size Mark.Unused k)
last_in (Called.accept h q octets ql some most room) = last_in h
last_in (Called.send {c} {S} h count number b more octets S' s) =
    let w = last_in h in
    let nine = w.0 in
    let P : Sending → Type 0 = λ x. (length x.window ≡ window_size) × Last x.window in
    subst P (sym s.6) (length-set S.window (opening S) _ ∙ w.0, last_sent S.window (Mark.OnItsWay c (Some b)) (λ e. never (cc)) (let l = s.2 in omega arith) w.1)
last_in (Called.hear {c} {S} h R flag taken) =
    let w = last_in h in
    let ms : List Mark = judge (told (gap R S) flag) c S.window in
    let nine : length ms ≡ window_size = length_judge (told (gap R S) flag) c S.window ∙ w.0 in
    let l = last_judge (told (gap R S) flag) c S.window w.1 in (
      length_shift (lead ms) ms Mark.Unused (let m = lead_most ms in omega arith) ∙ nine,
      λ j k le e. get_or_shift (lead ms) ms Mark.Unused k ∙ l (lead ms + j) (lead ms + k) (omega arith) (sym (get_or_shift (lead ms) ms Mark.Unused j) ∙ e),
    )
last_in (Called.slot {c} {S} h d later) =
    let w = last_in h in
    (length-map S.window (left d S.packets) ∙ w.0, last_left d S.packets S.window w.1)

pub unused_last : UnusedLast
unused_last c S h = last_in h
