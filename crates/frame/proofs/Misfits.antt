-- Where a frame first departs from every readable frame.
use Rattle.std.proofs.Common.{◌≡◌, ℕ, zero, suc, ◌+◌, ◌-◌, ◌<◌, ◌≤◌, true, ◌⊎◌, List, [], ◌∷◌, ◌++◌, length, get_or, take, replicate, sym, refl, ◌∙◌, subst, inl, inr, ⊎_elim, arith, length-append, length-take, rules}
use lib.ListN.{length-replicate}
use Rattle.std.proofs.lemmas.List.{get_or-replicate, get_or_append_left, get_or-take, get_or_past, take_all, length-take-le}
use Rattle.std.proofs.lemmas.Bool.{cases_lt}
use Rattle.frame.specs.Beginnings.{Begins, FirstWrong}
use Rattle.frame.specs.Headers.{more_of, bsn_of}
use Rattle.frame.specs.Frames.{kind_at, aircraft_at, header_at, Fits, Readable}

-- zeros behind a list change none of its places
zeros_behind : (xs : List ℕ) (m i : ℕ) → get_or (xs ++ replicate m 0) i 0 ≡ get_or xs i 0
zeros_behind [] m i = ⊎_elim (λ h. get_or-replicate m i 0 0 h) (λ h. get_or_past (replicate m 0) i 0 (simp length-replicate h)) (cases_lt i m)
zeros_behind (x ∷ xs) m zero = refl
zeros_behind (x ∷ xs) m (suc i) = zeros_behind xs m i

-- a list that zeros make a readable frame begins one
padded : (xs : List ℕ) (m : ℕ) → Fits (kind_at xs) (aircraft_at xs) (header_at xs) (length xs + m) → Begins Readable xs
padded xs m f = (replicate m 0, simp (zeros_behind, length-append, length-replicate) f)

-- the front of a list stands at its places, whatever follows
same_front : (xs rest : List ℕ) (k i : ℕ) → i < k → k ≤ length xs → get_or (take k xs ++ rest) i 0 ≡ get_or xs i 0
same_front xs rest k i h l = get_or_append_left (take k xs) rest 0 i (simp length-take (omega arith)) ∙ get_or-take k xs i 0 h

-- what is not 0 stands within the list
stands : (xs : List ℕ) (i : ℕ) → 1 ≤ get_or xs i 0 → i < length xs
stands xs i h = ⊎_elim (λ l. l) (λ l. let e = get_or_past xs i 0 l in omega arith) (cases_lt i (length xs))

-- the whole of a list is its longest front
whole : (xs : List ℕ) → Begins Readable xs → Begins Readable (take (length xs) xs)
whole xs b = subst (Begins Readable) (sym (take_all (length xs) xs (omega arith))) b

-- a front of eight octets or more shows all that a readable frame turns on, but the length
front_begins : (bs : List ℕ) (k m : ℕ) → 8 ≤ k → k ≤ length bs → Fits (kind_at bs) (aircraft_at bs) (header_at bs) (k + m) → Begins Readable (take k bs)
front_begins bs k m low high f =
    let k0 = get_or-take k bs 0 0 (omega arith) in
    let k1 = get_or-take k bs 1 0 (omega arith) in
    let k7 = get_or-take k bs 7 0 (omega arith) in
    padded (take k bs) m (simp (k0, k1, k7, length-take-le k bs high) f)

begun_fits : (bs : List ℕ) (k : ℕ) → 8 ≤ k → k ≤ length bs → Begins Readable (take k bs)
    → (m : ℕ) × (k ≤ m) × Fits (kind_at bs) (aircraft_at bs) (header_at bs) m
begun_fits bs k low high (rest, f) =
    let e0 = same_front bs rest k 0 (omega arith) high in
    let e1 = same_front bs rest k 1 (omega arith) high in
    let e7 = same_front bs rest k 7 (omega arith) high in
    (length (take k bs ++ rest), simp (length-append, length-take-le k bs high) (omega arith), simp (e0, e1, e7) at f)

-- the kind is wrong or missing
pub kind_wrong : (bs : List ℕ) → (1 ≤ kind_at bs → kind_at bs ≤ 4 → ⊥) → FirstWrong Readable bs 0
kind_wrong bs bad = record {
  within = omega arith;
  before = (3 ∷ 1 ∷ replicate 6 0, search rules);
  here = λ l b. let e = same_front bs b.0 1 0 (omega arith) (omega arith) in bad (rw e at b.1.kind_low) (rw e at b.1.kind_high);
  missing = λ e f. bad f.kind_low f.kind_high;
}

-- where no header stands, zeros make it that of a last BDU
headless : (kind aircraft m : ℕ) → 1 ≤ kind → kind ≤ 4 → 1 ≤ aircraft → aircraft ≤ 254 → (kind < 3 → m ≡ 9) → (3 ≤ kind → m ≡ 8) → Fits kind aircraft 0 m
headless kind aircraft m kl kh al ah nine eight = record {
  kind_low = kl;
  kind_high = kh;
  aircraft_low = al;
  aircraft_high = ah;
  data_long = λ k. let n = nine (omega arith) in omega arith;
  data_short = λ k. let n = nine (omega arith) in omega arith;
  data_full = λ k e. let z : ◌≡◌ {A = ℕ} 0 1 = cc in absurd (omega arith);
  data_last = λ k e. let z : ◌≡◌ {A = ℕ} 0 1 = cc in absurd (omega arith);
  report_length = eight;
}

kind_begins : (kind : ℕ) → 1 ≤ kind → kind ≤ 4 → (kind < 3) ⊎ (3 ≤ kind) → Begins Readable (kind ∷ [])
kind_begins kind kl kh (inl l) = (1 ∷ replicate 7 0, headless kind 1 9 kl kh (omega arith) (omega arith) (λ _. refl) (λ k. omega arith))
kind_begins kind kl kh (inr l) = (1 ∷ replicate 6 0, headless kind 1 8 kl kh (omega arith) (omega arith) (λ k. omega arith) (λ _. refl))

-- the aircraft is wrong or missing
pub aircraft_wrong : (bs : List ℕ) → 1 ≤ kind_at bs → kind_at bs ≤ 4 → (1 ≤ aircraft_at bs → aircraft_at bs ≤ 254 → ⊥) → FirstWrong Readable bs 1
aircraft_wrong [] kl kh bad = absurd (omega arith)
aircraft_wrong (b ∷ bs) kl kh bad = record {
  within = omega arith;
  before = kind_begins b kl kh (cases_lt b 3);
  here = λ l r. let e = same_front (b ∷ bs) r.0 2 1 (omega arith) (omega arith) in bad (rw e at r.1.aircraft_low) (rw e at r.1.aircraft_high);
  missing = λ e f. bad f.aircraft_low f.aircraft_high;
}

head_begins : (bs : List ℕ) → 1 ≤ kind_at bs → kind_at bs ≤ 4 → 1 ≤ aircraft_at bs → aircraft_at bs ≤ 254 → length bs < 8
    → (kind_at bs < 3) ⊎ (3 ≤ kind_at bs) → Begins Readable bs
head_begins bs kl kh al ah short (inl l) =
    padded bs (9 - length bs) (rw (get_or_past bs 7 0 (omega arith)) (headless _ _ _ kl kh al ah (λ _. omega arith) (λ k. omega arith)))
head_begins bs kl kh al ah short (inr l) =
    padded bs (8 - length bs) (rw (get_or_past bs 7 0 (omega arith)) (headless _ _ _ kl kh al ah (λ k. omega arith) (λ _. omega arith)))

-- the frame ends before its header octet
pub torn_head : (bs : List ℕ) → 1 ≤ kind_at bs → kind_at bs ≤ 4 → 1 ≤ aircraft_at bs → aircraft_at bs ≤ 254 → length bs < 8
    → FirstWrong Readable bs (length bs)
torn_head bs kl kh al ah short = record {
  within = omega arith;
  before = whole bs (head_begins bs kl kh al ah short (cases_lt (kind_at bs) 3));
  here = λ l b. omega arith;
  missing = λ e f. ⊎_elim (λ l. let g = f.data_long (omega arith) in omega arith) (λ l. let g = f.report_length l in omega arith) (cases_lt (kind_at bs) 3);
}

-- a report goes on
pub report_long : (bs : List ℕ) → 3 ≤ kind_at bs → kind_at bs ≤ 4 → 1 ≤ aircraft_at bs → aircraft_at bs ≤ 254 → 8 < length bs
    → FirstWrong Readable bs 8
report_long bs kl kh al ah long = record {
  within = omega arith;
  before = front_begins bs 8 0 (omega arith) (omega arith) (search rules);
  here = λ l b. let f = begun_fits bs 9 (omega arith) (omega arith) b in let e = f.2.report_length kl in omega arith;
  missing = λ e f. omega arith;
}

-- more should follow the eighth BDU
pub eighth_not_last : (bs : List ℕ) → 1 ≤ kind_at bs → kind_at bs ≤ 2 → 1 ≤ aircraft_at bs → aircraft_at bs ≤ 254 → 8 ≤ length bs
    → more_of (header_at bs) ≡ true → bsn_of (header_at bs) ≡ 7 → FirstWrong Readable bs 7
eighth_not_last bs kl kh al ah long more seven =
    let k0 = get_or-take 7 bs 0 0 (omega arith) in
    let k1 = get_or-take 7 bs 1 0 (omega arith) in
    let k7 = get_or_past (take 7 bs) 7 0 (simp (length-take-le 7 bs (omega arith)) (omega arith)) in
    record {
      within = omega arith;
      before = padded (take 7 bs) 2 (simp (k0, k1, k7, length-take-le 7 bs (omega arith)) (search rules));
      here = λ l b. let f = begun_fits bs 8 (omega arith) (omega arith) b in let e = f.2.data_last kh more in omega arith;
      missing = λ e f. omega arith;
    }

-- the frame ends before its BDU does
pub torn_data : (bs : List ℕ) → 1 ≤ kind_at bs → kind_at bs ≤ 2 → 1 ≤ aircraft_at bs → aircraft_at bs ≤ 254 → 8 ≤ length bs → length bs < 61
    → (more_of (header_at bs) ≡ true → bsn_of (header_at bs) < 7) → ((9 ≤ length bs) → more_of (header_at bs) ≡ true) → FirstWrong Readable bs (length bs)
torn_data bs kl kh al ah long short last torn = record {
  within = omega arith;
  before = whole bs (padded bs (61 - length bs) (search rules));
  here = λ l b. omega arith;
  missing = λ e f. let nine = f.data_long kh in let full = f.data_full kh (torn nine) in omega arith;
}

-- a data frame goes on
pub data_long : (bs : List ℕ) → 1 ≤ kind_at bs → kind_at bs ≤ 2 → 1 ≤ aircraft_at bs → aircraft_at bs ≤ 254 → 61 < length bs
    → (more_of (header_at bs) ≡ true → bsn_of (header_at bs) < 7) → FirstWrong Readable bs 61
data_long bs kl kh al ah long last = record {
  within = omega arith;
  before = front_begins bs 61 0 (omega arith) (omega arith) (search rules);
  here = λ l b. let f = begun_fits bs 62 (omega arith) (omega arith) b in let e = f.2.data_short kh in omega arith;
  missing = λ e f. omega arith;
}

-- why each frame that cannot be read is not one
pub ruleset misfits = (aircraft_wrong, torn_head, report_long, eighth_not_last, torn_data, data_long)
