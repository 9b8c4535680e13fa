-- A data frame that comes in time under an awaited number: its packet is the last with its Q and RN, and all that its place holds is of that packet.
use Rattle.std.proofs.Common.{◌≡◌, ℕ, ◌+◌, ◌<◌, ◌≤◌, true, false, ◌⊎◌, sym, refl, ap, ◌∙◌, subst, inl, inr, ⊎_elim, arith}
use Rattle.std.proofs.lemmas.Bool.{cases_Bool, cases_lt, cases_order, both_ways}
use Rattle.rules.specs.Members.{Among}
use Rattle.law.specs.Ledger.{Mark, Cell, Frame, Ledger, Received, cell}
use Rattle.law.specs.Steps.{Opens, with_frame}
use Rattle.law.specs.Sound.{Last, Taken}
use Rattle.law.proofs.Base.{put_elim}
use Rattle.law.proofs.Inv.{UseOk, Inv}
use Rattle.law.proofs.Numbers.{claimed}

pub cell_cases : (c : Cell) → (c ≡ Cell.Empty) ⊎ ((j : ℕ) × (c ≡ Cell.From j))
cell_cases Cell.Empty = inl refl
cell_cases (Cell.From j) = inr (j, refl)

module _ (d1 d2 : ℕ) (small : d1 + d2 ≤ 1) (L : Ledger) (h : Inv d1 d2 L) (f : Frame) (u : Among f L.frames) (t : L.clock ≤ f.slot + d1) where
  -- the frame says what the last use of its number says
  pub as_sent : UseOk L.clock L.tx.total L.tx.packet (record { packet = f.packet; part = f.part; slot = f.slot; mark = Mark.InFlight })
  as_sent =
      let w = h.underway.frames f u t in
      let y = h.numbers.uses f.number w.number in
      record {
        known = rw w.packet at y.known;
        piece = rw (w.packet, w.part) at y.piece;
        born = rw (w.packet, w.slot) at y.born;
        young = rw (w.packet, w.slot) at y.young;
        past = rw w.slot at y.past;
      }

  -- its piece comes for the first time
  pub first_time : L.rx.got f.number ≡ false → Received L.tx L.rx f.packet f.part → ⊥
  first_time a r =
      let w = h.underway.frames f u t in
      let same : r.0 ≡ f.number = h.numbers.claims r.0 f.number r.1 w.number
      (record { one = λ e. both_ways _ (h.numbers.back r.0 r.1 e).0 r.2; two = claimed d1 d2 small L h f u t; packet = r.3 ∙ sym w.packet; part = r.4 ∙ sym w.part }) in
      both_ways _ a (subst (λ x. L.rx.got x ≡ true) same r.2)

  module _ (live : L.rx.live ≡ true) (a : L.rx.got f.number ≡ false) where
    pub is_last : Last L f.packet
    is_last =
        let y = as_sent in
        let w = h.underway.frames f u t in (
          y.known,
          λ j k e.
              ⊎_elim
              (λ less. ⊎_elim (λ all. absurd (first_time a (all f.part y.piece))) (⊎_elim (λ old. absurd (omega (arith, y.young))) (λ un. absurd (un.1 f.number w.number w.packet))) (h.places.older f.packet j less k (sym e)))
              (λ more. more)
              (cases_lt f.packet j),
        )

    -- what its place holds is of its packet
    pub pure : (b j : ℕ) → cell L f.packet b ≡ Cell.From j → j ≡ f.packet
    pure b j e =
        let v = h.places.held (L.tx.packet f.packet).key b j e in
        let lasts = v.lasts live in
        ⊎_elim
        (λ same. same)
        (⊎_elim
        (λ less.
        ⊎_elim
        (λ all. absurd (h.places.lacks j v.known (λ d k. ap (λ q. (L.rx.place q).holds d) v.mine ∙ v.all d (all d k))))
        (⊎_elim (λ old. absurd (omega (arith, v.young))) (λ un. absurd (un.1 v.came.0 v.came.1 v.came.3)))
        (h.places.older j f.packet less as_sent.known v.mine))
        (λ more. absurd (let k = is_last.1 j v.known v.mine in omega arith)))
        (cases_order j f.packet)

    pub not_handed : L.rx.handed f.packet ≡ false
    not_handed = ⊎_elim (λ e. absurd (first_time a (h.places.whole f.packet as_sent.known e f.part as_sent.piece))) (λ e. e) (cases_Bool (L.rx.handed f.packet))

    pub is_apart : cell L f.packet f.part ≡ Cell.Empty
    is_apart =
        ⊎_elim
        (λ e. e)
        (λ x.
        let v = h.places.held (L.tx.packet f.packet).key f.part x.0 x.1 in
        absurd (first_time a (subst (λ j. Received L.tx L.rx j f.part) (pure f.part x.0 x.1) v.came)))
        (cell_cases (cell L f.packet f.part))

    pub is_taken : Taken L f
    is_taken = record {
      last = is_last;
      once = not_handed;
      piece = as_sent.piece;
      inside = λ b e.
          let r = (h.places.held (L.tx.packet f.packet).key b f.packet e).came in
          rw (r.3, r.4) at (h.numbers.uses r.0 r.1).piece;
      pure = λ b. ⊎_elim inl (λ x. inr (x.1 ∙ ap Cell.From (pure b x.0 x.1))) (cell_cases (cell L f.packet b));
      apart = is_apart;
    }

    -- with the frame its place holds only pieces of its packet
    pub from_it : (b j : ℕ) → with_frame L f b ≡ Cell.From j → j ≡ f.packet
    from_it b j =
        put_elim (L.rx.place (L.tx.packet f.packet).key).holds f.part (Cell.From f.packet) b (λ x. x ≡ Cell.From j → j ≡ f.packet) (λ _ e. cc) (λ _ e. pure b j e)

    -- what came of its packet is there
    pub is_there : (b : ℕ) → Received L.tx L.rx f.packet b → cell L f.packet b ≡ Cell.From f.packet
    is_there b r =
        ⊎_elim (λ e. absurd (both_ways _ not_handed e)) (⊎_elim (λ e. e) (λ old. absurd (let y = as_sent.young in omega arith))) (h.places.where_is f.packet b r)

    -- the slot of the opening fits the packet
    pub opening : (o : ℕ) → Opens L f o → ((L.tx.packet f.packet).born ≤ o) × (o ≤ (L.tx.packet f.packet).born + 74) × (L.clock < o + 75)
    opening o =
        ⊎_elim
        (λ x. let y = as_sent in let e = x.1 in (omega (arith, y.born, y.past), omega (arith, y.young), omega arith))
        (λ x.
        let v = h.places.held (L.tx.packet f.packet).key x.0.0 x.0.1 x.0.2 in
        let e = x.1 in
        let z = ap (λ j. (L.tx.packet j).born) (pure x.0.0 x.0.1 x.0.2) in
        (omega (arith, v.born), omega (arith, v.young), omega (arith, v.lasts live)))
