-- The BDU that ranks first of those that wait is the one to send.
use Rattle.std.proofs.Common.{◌≡◌, ℕ, zero, suc, ◌<◌, Bool, true, false, List, [], ◌∷◌, map, length, get_or, Some, None, Option, MatchOption, sym, refl, ap, ◌∙◌, subst, inl, inr, arith}
use Rattle.std.specs.List.{filter, range_with_len}
use Rattle.std.specs.Option.{option_map}
use Rattle.std.specs.Prelude.{IsSomeAnd, IfSome}
use Rattle.std.specs.declared.cmp.Ordering.{Ordering}
use Rattle.std.specs.declared.cmp.Ordering.TheVariants.{Less, Equal, Greater}
use Rattle.std.specs.Ordering.{is_lt, nat_cmp, ordering_then}
use Rattle.std.specs.declared.cmp.Reverse.{Reverse}
use Rattle.std.specs.Iterator.Runs.{Run, YieldsRun, AnyItem, AllItems}
use Rattle.std.proofs.lemmas.Bool.{cond_both}
use Rattle.std.proofs.lemmas.Cmp.{ranked}
use Rattle.std.proofs.lemmas.Iterator.{YieldsList, items_from_drains}
use Rattle.std.proofs.lemmas.List.FromFn.{get_or-map-range_with_len, length-map-range_with_len}
use Rattle.rules.specs.Sending.{Outgoing, Before}
use Rattle.rules.specs.declared.window.BduKey.{BduKey}
use Rattle.rules.specs.Choice.{nth, waiting, since}
use Rattle.rules.proofs.Choice.{Leads}
use Rattle.rules.proofs.Lists.{never}

-- ranks part by part: c is not below b
ranks : (b c : BduKey) (s t : ℕ) (o1 o2 o3 o4 : Ordering) → o1 ≡ nat_cmp b.q c.q → o2 ≡ nat_cmp t s → o3 ≡ nat_cmp c.rn b.rn → o4 ≡ nat_cmp c.bsn b.bsn
    → is_lt (ordering_then (ordering_then (ordering_then o1 o2) o3) o4) ≡ false → Before b s c t
ranks b c s t Less o2 o3 o4 e1 e2 e3 e4 n = never (cc)
ranks b c s t Greater o2 o3 o4 e1 e2 e3 e4 n = inl (ranked b.q c.q Greater e1)
ranks b c s t Equal Less o3 o4 e1 e2 e3 e4 n = never (cc)
ranks b c s t Equal Greater o3 o4 e1 e2 e3 e4 n = inr (sym (ranked b.q c.q Equal e1), inl (ranked t s Greater e2))
ranks b c s t Equal Equal Less o4 e1 e2 e3 e4 n = never (cc)
ranks b c s t Equal Equal Greater o4 e1 e2 e3 e4 n = inr (sym (ranked b.q c.q Equal e1), inr (sym (ranked t s Equal e2), inl (ranked c.rn b.rn Greater e3)))
ranks b c s t Equal Equal Equal Less e1 e2 e3 e4 n = never (cc)
ranks b c s t Equal Equal Equal Equal e1 e2 e3 e4 n =
    inr (sym (ranked b.q c.q Equal e1), inr (sym (ranked t s Equal e2), inr (sym (ranked c.rn b.rn Equal e3), (let e = ranked c.bsn b.bsn Equal e4 in omega arith))))
ranks b c s t Equal Equal Equal Greater e1 e2 e3 e4 n =
    inr (sym (ranked b.q c.q Equal e1), inr (sym (ranked t s Equal e2), inr (sym (ranked c.rn b.rn Equal e3), (let e = ranked c.bsn b.bsn Greater e4 in omega arith))))

-- what ranks a BDU of a packet accepted in a slot
abbrev pub Rank : Type 0
Rank = Reverse ℕ × ℕ × ℕ × ℕ

abbrev pub rank_of : BduKey → ℕ → Rank
rank_of b s = (record { 0 = b.q }, s, b.rn, b.bsn)

abbrev pub NotBelow : Rank → Rank → Type 0
NotBelow j k = is_lt (ordering_then (ordering_then (ordering_then (nat_cmp k.0.0 j.0.0) (nat_cmp j.1 k.1)) (nat_cmp j.2 k.2)) (nat_cmp j.3 k.3)) ≡ false

pub goes_first : (b c : BduKey) (s t : ℕ) (k j : Rank) → k ≡ rank_of b s → j ≡ rank_of c t → NotBelow j k → Before b s c t
goes_first b c s t k j ek ej n =
    ranks b c s t (nat_cmp b.q c.q) (nat_cmp t s) (nat_cmp c.rn b.rn) (nat_cmp c.bsn b.bsn) refl refl refl refl (subst (λ x. NotBelow (rank_of c t) x) ek (subst (λ x. NotBelow x k) ej n))

-- what passes a test is kept, and only that
module _ {A : Type 0} (f : A → Bool) (d : A) where
  kept : (xs : List A) (k : ℕ) → k < length xs → f (get_or xs k d) ≡ true → (j : ℕ) × (j < length (filter f xs)) × (get_or (filter f xs) j d ≡ get_or xs k d)
  kept [] k l e = absurd (omega arith)
  kept (x ∷ xs) zero l e = rw e (0, (omega arith), refl)
  kept (x ∷ xs) (suc k) l e =
      let r = kept xs k (omega arith) e in
      cond_both (f x) (x ∷ filter f xs) (filter f xs) (λ ys. (j : ℕ) × (j < length ys) × (get_or ys j d ≡ get_or xs k d)) (λ _. (suc r.0, (let m = r.1 in omega arith), r.2)) (λ _. r)

  -- each of ys comes from xs, and passes
  abbrev Comes : List A → List A → Type 0
  Comes xs ys = (j : ℕ) → j < length ys → (k : ℕ) × (k < length xs) × (get_or xs k d ≡ get_or ys j d) × (f (get_or xs k d) ≡ true)

  comes_later : (x : A) (xs ys : List A) → Comes xs ys → Comes (x ∷ xs) ys
  comes_later x xs ys h j l = let r = h j l in (suc r.0, (let m = r.1 in omega arith), r.2, r.3)

  comes_first : (x : A) (xs ys : List A) → f x ≡ true → Comes xs ys → Comes (x ∷ xs) (x ∷ ys)
  comes_first x xs ys e h zero l = (0, (omega arith), refl, e)
  comes_first x xs ys e h (suc j) l = comes_later x xs ys h j (omega arith)

  passed : (xs : List A) → Comes xs (filter f xs)
  passed [] = λ j l. absurd (omega arith)
  passed (x ∷ xs) =
      cond_both (f x) (x ∷ filter f xs) (filter f xs) (λ ys. Comes (x ∷ xs) ys) (λ e. comes_first x xs (filter f xs) e (passed xs)) (λ _. comes_later x xs (filter f xs) (passed xs))

-- all BDUs that wait, in their row
abbrev pub waiting_row : List Outgoing → List BduKey
waiting_row ps = filter (waiting ps) (map nth (range_with_len 0 128))

row_has : (ps : List Outgoing) (y : ℕ) (d : BduKey) → y < 128 → waiting ps (nth y) ≡ true → (j : ℕ) × (j < length (waiting_row ps)) × (get_or (waiting_row ps) j d ≡ nth y)
row_has ps y d l w =
    let e : get_or (map nth (range_with_len 0 128)) y d ≡ nth y = get_or-map-range_with_len nth 0 128 y y d l (omega arith) in
    let r = kept (waiting ps) d (map nth (range_with_len 0 128)) y (let n = length-map-range_with_len nth 0 128 in omega arith) (ap (waiting ps) e ∙ w) in
    (r.0, r.1, r.2 ∙ e)

row_only : (ps : List Outgoing) (j : ℕ) (d : BduKey) → j < length (waiting_row ps) → (x : ℕ) × (x < 128) × (get_or (waiting_row ps) j d ≡ nth x) × (waiting ps (get_or (waiting_row ps) j d) ≡ true)
row_only ps j d l =
    let r = passed (waiting ps) d (map nth (range_with_len 0 128)) j l in
    let n = length-map-range_with_len nth 0 128 in
    let s : r.0 < 128 = let m = r.1 in omega arith in
    (r.0, s, sym r.2 ∙ get_or-map-range_with_len nth 0 128 r.0 r.0 d s (omega arith), ap (waiting ps) (sym r.2) ∙ r.3)

-- an item of a run, by its place
some_item : {A : Type 0} (o : Option A) (x : A) (P : A → Type 0) → option_map (λ y. y) o ≡ Some x → IsSomeAnd o P → P x
some_item None x P e h = absurd h
some_item (Some y) x P e h = let same : y ≡ x = cc in subst P same h

each_item : {A : Type 0} (o : Option A) (x : A) (P : A → Type 0) → option_map (λ y. y) o ≡ Some x → IfSome o P → P x
each_item None x P e h = never (cc)
each_item (Some y) x P e h = let same : y ≡ x = cc in subst P same h

pub each_so : {A : Type 0} (o : Option A) (P Q : A → Type 0) → ((x : A) → P x → Q x) → IfSome o P → IfSome o Q
each_so None P Q f h = h
each_so (Some x) P Q f h = f x h

pub match_so : {A : Type 0} (N : Type 0) (o : Option A) (P Q : A → Type 0) → ((x : A) → P x → Q x) → MatchOption o N P → MatchOption o N Q
match_so N None P Q f h = h
match_so N (Some x) P Q f h = f x h

map_same : {A : Type 0} (xs : List A) → map (λ x. x) xs ≡ xs
map_same [] = refl
map_same (x ∷ xs) = ap (λ r. x ∷ r) (map_same xs)

module _ {S : Type 0} {steps : S → Option BduKey → S → Type 0} (p : Run steps) where
  pub run_items : (s : S) (all : List BduKey) → p.from ≡ s → p.whole ≡ true → YieldsList steps (λ b. b) s all → p.items ≡ all
  unfolding YieldsRun
  run_items s all f w y =
      let g = p.gave.0 in
      let from : YieldsList steps (λ b. b) p.from all = subst (λ x. YieldsList steps (λ b. b) x all) (sym f) y in
      sym (map_same p.items) ∙ items_from_drains p.items (g.0, g.1, λ _. g.2 w) from

  pub first_leads : (ps : List Outgoing) (r : Option BduKey) → p.items ≡ waiting_row ps → MatchOption r (p.len ≡ 0) (λ m. AnyItem p (λ x. x ≡ m) × AllItems p (λ x. Before m (since ps m) x (since ps x))) → Leads ps 128 r
  first_leads ps None e h = λ y l. go y l (waiting ps (nth y)) refl
    where
      go : (y : ℕ) → y < 128 → (w : Bool) → waiting ps (nth y) ≡ w → w ≡ false
      go y l false s = refl
      go y l true s = let r = row_has ps y (nth 0) l s in let n = p.long in let m = ap length e in let k = r.1 in absurd (omega arith)
  first_leads ps (Some m) e h =
      let k = h.0.0 in
      let n = p.long in
      let q = ap length e in
      let at : get_or p.items k m ≡ m = some_item (p.at k) (get_or p.items k m) (λ x. x ≡ m) (p.reads k m h.0.1) h.0.2 in
      let here : get_or (waiting_row ps) k m ≡ m = ap (λ xs. get_or xs k m) (sym e) ∙ at in
      let o = row_only ps k m (let l = h.0.1 in omega arith) in (
        o.0,
        o.1,
        sym here ∙ o.2,
        ap (waiting ps) (sym here) ∙ o.3,
        λ y l w.
            let r = row_has ps y m l w in
            let i : r.0 < p.len = let j = r.1 in omega arith in
            let there : get_or p.items r.0 m ≡ nth y = ap (λ xs. get_or xs r.0 m) e ∙ r.2 in
            subst (λ x. Before m (since ps m) x (since ps x)) there (each_item (p.at r.0) (get_or p.items r.0 m) (λ x. Before m (since ps m) x (since ps x)) (p.reads r.0 m i) (h.1 r.0)),
      )
