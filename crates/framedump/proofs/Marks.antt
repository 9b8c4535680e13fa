-- The numbers flagged, one flag at a time.
use Rattle.std.proofs.Common.{◌≡◌, ℕ, zero, suc, ◌+◌, ◌%◌, ◌<◌, Bool, false, List, [], ◌∷◌, ◌++◌, length, get_or, take, sym, ap, ◌∙◌, append_assoc, append-nil, arith}
use Rattle.framedump.specs.Dumps.{flagged, mark_text}

pub flagged_more : (marks : List Bool) (i first : ℕ) → first < 256 → i < length marks
    → flagged first (take i marks) ++ mark_text ((first + i) % 256) (get_or marks i false) ≡ flagged first (take (i + 1) marks)
flagged_more [] i first small inside = absurd (omega arith)
flagged_more (mark ∷ marks) zero first small inside =
    let same : (first + 0) % 256 ≡ first = omega arith in
    ap (λ n. mark_text n mark) same ∙ sym (append-nil (mark_text first mark))
flagged_more (mark ∷ marks) (suc i) first small inside =
    let rest = flagged_more marks i ((first + 1) % 256) (omega arith) (omega arith) in
    let same : (first + suc i) % 256 ≡ ((first + 1) % 256 + i) % 256 = omega arith in
    let more : suc i + 1 ≡ suc (i + 1) = omega arith in
    ap (λ n. flagged first (take (suc i) (mark ∷ marks)) ++ mark_text n (get_or marks i false)) same
    ∙ append_assoc (mark_text first mark) (flagged ((first + 1) % 256) (take i marks)) _
    ∙ ap (λ l. mark_text first mark ++ l) rest ∙ ap (λ n. flagged first (take n (mark ∷ marks))) (sym more)
