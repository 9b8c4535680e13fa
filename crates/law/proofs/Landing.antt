-- A data frame that is taken keeps `Places`, whether it is held or its packet is handed up.
use Rattle.std.proofs.Common.{◌≡◌, ℕ, ◌+◌, ◌<◌, ◌≤◌, true, ◌⊎◌, sym, refl, ap, ◌∙◌, subst, inl, inr, ⊎_elim}
use Rattle.std.proofs.lemmas.Bool.{cases_eq}
use Rattle.law.specs.Ledger.{Mark, Cell, Place, Frame, Receiver, Ledger, put, Received, cell}
use Rattle.law.specs.Steps.{Comes, Opens, Full, with_frame, landed, handed_up}
use Rattle.law.proofs.Base.{never, put_elim, put_at, put_off}
use Rattle.law.proofs.Inv.{UseOk, Held, Places, Inv}
use Rattle.law.proofs.Numbers.{received_more}
use Rattle.law.proofs.Taking.{cell_cases, as_sent, pure, not_handed, from_it, is_there, opening}

module _ (d1 d2 : ℕ) (small : d1 + d2 ≤ 1) (L : Ledger) (h : Inv d1 d2 L) (f : Frame) (c : Comes d1 L f) where
  -- the packet and its place
  abbrev i : ℕ
  i = f.packet

  abbrev p : ℕ
  p = (L.tx.packet f.packet).key

  of_it : (b j : ℕ) → cell L i b ≡ Cell.From j → j ≡ i
  of_it = pure d1 d2 small L h f c.underway c.timely c.live c.awaited

  of_it_now : (b j : ℕ) → with_frame L f b ≡ Cell.From j → j ≡ i
  of_it_now = from_it d1 d2 small L h f c.underway c.timely c.live c.awaited

  there : (b : ℕ) → Received L.tx L.rx i b → cell L i b ≡ Cell.From i
  there = is_there d1 d2 small L h f c.underway c.timely c.live c.awaited

  sent : UseOk L.clock L.tx.total L.tx.packet (record { packet = f.packet; part = f.part; slot = f.slot; mark = Mark.InFlight })
  sent = as_sent d1 d2 small L h f c.underway c.timely

  with_more : (b : ℕ) → cell L i b ≡ Cell.From i → with_frame L f b ≡ Cell.From i
  with_more b e = put_elim (L.rx.place p).holds f.part (Cell.From i) b (λ x. x ≡ Cell.From i) (λ _. refl) (λ _. e)

  module _ (X : Receiver) (g : X.got ≡ put L.rx.got f.number true) where
    more : (j d : ℕ) → Received L.tx L.rx j d → Received L.tx X j d
    more = received_more d1 d2 small L h f X g

    came : (d : ℕ) → d ≡ f.part → Received L.tx X i d
    came d e =
        let w = h.underway.frames f c.underway c.timely in
        (f.number, w.number, ap (λ x. x f.number) g ∙ put_at L.rx.got f.number true f.number refl, w.packet, w.part ∙ sym e)

    -- what came is what had come, and the frame's piece
    split : (j d : ℕ) → Received L.tx X j d → Received L.tx L.rx j d ⊎ ((j ≡ i) × (d ≡ f.part))
    split j d r =
        let w = h.underway.frames f c.underway c.timely in
        put_elim L.rx.got f.number true r.0 (λ x. x ≡ true → Received L.tx L.rx j d ⊎ ((j ≡ i) × (d ≡ f.part)))
        (λ e _. inr (sym r.3 ∙ ap (λ n. (L.tx.sent n).packet) e ∙ w.packet, sym r.4 ∙ ap (λ n. (L.tx.sent n).part) e ∙ w.part))
        (λ _ e. inl (r.0, r.1, e, r.3, r.4))
        (ap (λ x. x r.0) (sym g) ∙ r.2)

    -- a piece that the place holds with the frame has come
    with_came : (b : ℕ) → with_frame L f b ≡ Cell.From i → Received L.tx X i b
    with_came b =
        put_elim (L.rx.place p).holds f.part (Cell.From i) b (λ x. x ≡ Cell.From i → Received L.tx X i b) (λ e _. came b e) (λ _ e. more i b (h.places.held p b i e).came)

    -- the other places
    elsewhere : X.live ≡ L.rx.live → (q d j : ℕ) → (q ≡ p → ⊥) → X.handed j ≡ L.rx.handed j → (L.rx.place q).holds d ≡ Cell.From j
        → Held (record { clock = L.clock; tx = L.tx; rx = X; frames = L.frames; reports = L.reports }) (L.rx.place q) q d j
    elsewhere live q d j other hand e =
        let v = h.places.held q d j e in
        record {
          mine = v.mine;
          known = v.known;
          kept = hand ∙ v.kept;
          came = more j d v.came;
          born = v.born;
          young = v.young;
          lasts = λ l. v.lasts (sym live ∙ l);
          only = v.only;
          all = λ x r. ⊎_elim (v.all x) (λ y. absurd (other (sym v.mine ∙ ap (λ k. (L.tx.packet k).key) y.0))) (split j x r);
        }

  pub places_land : (Full L f → ⊥) → (o : ℕ) → Opens L f o → Places (landed f o L)
  places_land part o op =
      let X : Receiver = (landed f o L).rx in
      let new : Place = record { since = o; holds = with_frame L f } in
      let span = opening d1 d2 small L h f c.underway c.timely c.live c.awaited o op in
      let here : (d : ℕ) → with_frame L f d ≡ Cell.From i → Held (landed f o L) new p d i = λ d e. record {
        mine = refl;
        known = sent.known;
        kept = not_handed d1 d2 small L h f c.underway c.timely c.live c.awaited;
        came = with_came X refl d e;
        born = span.0;
        young = span.1;
        lasts = λ _. span.2;
        only = of_it_now;
        all = λ x r. ⊎_elim (λ y. with_more x (there x y)) (λ y. put_at (L.rx.place p).holds f.part (Cell.From i) x y.1) (split X refl i x r);
      } in
      record {
        held = λ q d j.
            put_elim L.rx.place p new q (λ at. at.holds d ≡ Cell.From j → Held (landed f o L) at q d j)
            (λ e y.
            let z = of_it_now d j y in
            subst (λ x. Held (landed f o L) new x d j) (sym e) (subst (λ x. Held (landed f o L) new p d x) (sym z) (here d (y ∙ ap Cell.From z))))
            (λ other y. elsewhere X refl refl q d j other refl y);
        lacks = λ j k.
            put_elim L.rx.place p new (L.tx.packet j).key (λ at. ((b : ℕ) → b < (L.tx.packet j).size → at.holds b ≡ Cell.From j) → ⊥)
            (λ e all.
            let z = of_it_now 0 j (all 0 (h.numbers.sizes j k)) in
            part (λ b t y. never (let w = all b (rw z t) in cc)))
            (λ other. h.places.lacks j k);
        where_is = λ j d r.
            ⊎_elim
            (λ old.
            ⊎_elim inl
            (⊎_elim
            (λ e. inr (inl
            (put_elim L.rx.place p new (L.tx.packet j).key (λ at. at.holds d ≡ Cell.From j)
            (λ same.
            let y : cell L i d ≡ Cell.From j = ap (λ q. (L.rx.place q).holds d) (sym same) ∙ e in
            let z = of_it d j y in
            with_more d (y ∙ ap Cell.From z) ∙ ap Cell.From (sym z))
            (λ _. e))))
            (λ y. inr (inr y)))
            (h.places.where_is j d old))
            (λ y. inr (inl
            (put_elim L.rx.place p new (L.tx.packet j).key (λ at. at.holds d ≡ Cell.From j)
            (λ same. put_at (L.rx.place p).holds f.part (Cell.From i) d y.1 ∙ ap Cell.From (sym y.0))
            (λ other. absurd (other (ap (λ x. (L.tx.packet x).key) y.0))))))
            (split X refl j d r);
        whole = λ j k e d t. more X refl j d (h.places.whole j k e d t);
        older = λ j k l m e. ⊎_elim (λ all. inl (λ d t. more X refl j d (all d t))) inr (h.places.older j k l m e);
        safe = h.places.safe;
      }

  pub places_hand : Full L f → Places (handed_up f L)
  places_hand full =
      let X : Receiver = (handed_up f L).rx in
      let new : Place = record { since = 0; holds = λ b. Cell.Empty } in
      let hand : (j : ℕ) → (j ≡ i → ⊥) → put L.rx.handed i true j ≡ L.rx.handed j = put_off L.rx.handed i true in
      let done : (j : ℕ) → L.rx.handed j ≡ true → put L.rx.handed i true j ≡ true = λ j e. put_elim L.rx.handed i true j (λ x. x ≡ true) (λ _. refl) (λ _. e) in
      record {
        held = λ q d j.
            put_elim L.rx.place p new q (λ at. at.holds d ≡ Cell.From j → Held (handed_up f L) at q d j)
            (λ _ y. never (cc))
            (λ other y.
            let v = h.places.held q d j y in
            elsewhere X refl refl q d j other (hand j (λ e. other (sym v.mine ∙ ap (λ x. (L.tx.packet x).key) e))) y);
        lacks = λ j k.
            put_elim L.rx.place p new (L.tx.packet j).key (λ at. ((b : ℕ) → b < (L.tx.packet j).size → at.holds b ≡ Cell.From j) → ⊥)
            (λ _ all. never (let z = all 0 (h.numbers.sizes j k) in cc))
            (λ _. h.places.lacks j k);
        where_is = λ j d r.
            ⊎_elim
            (λ same. inl (put_at L.rx.handed i true j same))
            (λ other.
            ⊎_elim
            (λ old.
            ⊎_elim
            (λ e. inl (done j e))
            (⊎_elim
            (λ e. inr (inl
            (put_elim L.rx.place p new (L.tx.packet j).key (λ at. at.holds d ≡ Cell.From j)
            (λ same. absurd (other (of_it d j (ap (λ q. (L.rx.place q).holds d) (sym same) ∙ e))))
            (λ _. e))))
            (λ y. inr (inr y)))
            (h.places.where_is j d old))
            (λ y. absurd (other y.0))
            (split X refl j d r))
            (cases_eq j i);
        whole = λ j k.
            put_elim L.rx.handed i true j (λ x. x ≡ true → (b : ℕ) → b < (L.tx.packet j).size → Received L.tx X j b)
            (λ e _.
            rw e (λ b t.
            ⊎_elim
            (λ y. absurd (full b t y))
            (λ y. with_came X refl b (y.1 ∙ ap Cell.From (of_it_now b y.0 y.1)))
            (cell_cases (with_frame L f b))))
            (λ _ e b t. more X refl j b (h.places.whole j k e b t));
        older = λ j k l m e. ⊎_elim (λ all. inl (λ d t. more X refl j d (all d t))) inr (h.places.older j k l m e);
        safe = λ j k e. done j (h.places.safe j k e);
      }
