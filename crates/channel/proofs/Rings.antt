-- How the entries of a line lie in its room, from a first place on and round the end.
use Rattle.std.proofs.Common.{◌≡◌, ℕ, ◌+◌, ◌-◌, ◌%◌, ◌<◌, ◌≤◌, ◌⊎◌, false, List, [], ◌∷◌, ◌++◌, length, get_or, take, drop, set, sym, ap, ◌∙◌, ap₂, inl, inr, mod-eq_of_lt, arith, length-append, length-drop, length-take, length-set, length-take-le, get_or-drop, get_or-take}
use native.Mathlib.Nat.{mod-eq-sub-mod, mod-add-mod}
use Rattle.std.proofs.lemmas.List.{same_lists, drop_more, get_or_append_left, get_or-append_right}
use Rattle.std.proofs.lemmas.Bool.{cases_lt, lt-leb}
use Rattle.std.proofs.lemmas.Grind.{common_steps}
use Rattle.channel.specs.WaitingLines.{line_in, is_full, pushed, popped}

-- a place counted from the front wraps once at most
wraps_once : (n i : ℕ) → i < n + n → ((i < n) × (i % n ≡ i)) ⊎ ((n ≤ i) × (i % n ≡ i - n))
wraps_once n i below = elim (cases_lt i n) [
  | inl low ↦ inl (low, mod-eq_of_lt low)
  | inr high ↦ inr (high, mod-eq-sub-mod high ∙ mod-eq_of_lt (omega arith))
]

abbrev waiting_in : {A : Type 0} → ℕ → ℕ → List A → List A
waiting_in first count room = take count (drop first room ++ take first room)

pub length_waiting : {A : Type 0} (room : List A) (first count : ℕ) → count ≤ length room → length (waiting_in first count room) ≡ count
length_waiting room first count fits = length-take-le count _ (simp (length-append, length-drop, length-take) (omega arith))

module _ {A : Type 0} (room : List A) (first count : ℕ) (inside : first < length room) (fits : count ≤ length room) where
  -- the k-th of them lies k places behind the first
  waiting_at : (k : ℕ) (d : A) → k < count → get_or (waiting_in first count room) k d ≡ get_or room ((first + k) % length room) d
  waiting_at k d below =
      let tail = length-drop first room in
      get_or-take count _ k d below ∙ elim (wraps_once (length room) (first + k) (omega arith)) [
        | inl straight ↦ get_or_append_left _ _ d k (omega arith) ∙ get_or-drop first room k d ∙ ap (λ j. get_or room j d) (omega arith)
        | inr round ↦ get_or-append_right _ _ (length room - first) k d (omega arith) (omega arith) ∙ get_or-take first room _ d (omega arith) ∙ ap (λ j. get_or room j d) (omega arith)
      ]

-- A second block, since these use the lemma above at other rooms and places.
module _ {A : Type 0} (room : List A) (first count : ℕ) (inside : first < length room) where
  -- an entry written behind the last one waits behind the others; the two lists are compared entry by entry
  waiting_after_push : (x : A) → count < length room → waiting_in first (count + 1) (set room ((first + count) % length room) x) ≡ waiting_in first count room ++ x ∷ []
  waiting_after_push x free =
      let ys = set room ((first + count) % length room) x in
      let same : length ys ≡ length room = length-set room ((first + count) % length room) x in
      let long_old = length_waiting room first count (omega arith) in
      let long_new = length_waiting ys first (count + 1) (omega arith) in
      let written = wraps_once (length room) (first + count) (omega arith) in
      same_lists _ _ (grind (arith, common_steps)) (λ k d below. grind (
        arith,
        common_steps,
        wraps_once (length room) (first + k) (omega arith),
        waiting_at room first count inside (omega arith) k d,
        waiting_at ys first (count + 1) (omega arith) (omega arith) k d,
      ))

  -- the first of them, then those from the next place on; the tails are compared entry by entry
  pub waiting_before_pop : (d : A) → 0 < count → count ≤ length room → waiting_in first count room ≡ get_or room first d ∷ waiting_in ((first + 1) % length room) (count - 1) room
  waiting_before_pop d some fits =
      let next : (first + 1) % length room < length room = grind (arith, wraps_once (length room) (first + 1) (omega arith)) in
      let long_old = length_waiting room first count fits in
      let long_new = length_waiting room ((first + 1) % length room) (count - 1) (omega arith) in
      let old_entry = waiting_at room first count inside fits in
      drop_more _ 0 d (omega arith) ∙ ap₂ ◌∷◌ (grind (arith, old_entry 0 d, wraps_once (length room) first)) (same_lists _ _ (simp length-drop (omega arith)) (λ k e below. grind (
        arith,
        length-drop 1 (waiting_in first count room),
        get_or-drop 1 (waiting_in first count room) k e,
        mod-add-mod (first + 1) (length room) k,
        old_entry (1 + k) e,
        waiting_at room ((first + 1) % length room) (count - 1) next (omega arith) k e,
      )))

  pub line_after_push : (x : A) → count < length room → line_in first (count + 1) (set room ((first + count) % length room) x) ≡ pushed x (line_in first count room)
  line_after_push x free =
      let long = length_waiting room first count (omega arith) in
      let there : is_full (line_in first count room) ≡ false = lt-leb _ _ (omega arith) in
      rw there (ap₂ (λ w n. record { waiting = w; room = n }) (waiting_after_push x free) (length-set room _ x))

  pub line_after_pop : (d : A) → 0 < count → count ≤ length room → line_in ((first + 1) % length room) (count - 1) room ≡ popped (line_in first count room)
  line_after_pop d some fits = ap (λ w. record { waiting = drop 1 w; room = length room }) (sym (waiting_before_pop d some fits))
